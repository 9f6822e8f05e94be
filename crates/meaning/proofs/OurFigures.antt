-- Our table, document 01's "Matching, totals, marks": totals, the day's figures and marks, as each account sees them.
use mathlib.Core.Bool.{Bool, true, false, not, ◌&&◌}
use mathlib.Core.List.{List, [], ◌∷◌}
use Prim.Native.Nat.{ℕ}
use lib.IntN.{ℤ, pos, neg_ℤ}
use lib.Ieee.{Float, binary64, to_bits}
use Rattle.words.specs.Tests.{◌=?◌, sameℤ}
use Rattle.meaning.specs.Ledgers.{contracts}
use Rattle.meaning.specs.Books.{Book, opened_book}
use Rattle.meaning.specs.History.{after}
use Rattle.meaning.specs.Totals.{total_rules, total, mwh, DayFigures, figures_rules, figures}
use Rattle.meaning.specs.Bars.{Bar, Blank, OneSide, Agreed, Disagreed, mark_rules, seen_bar, mark}
use Rattle.meaning.proofs.Stories.{◌/₁◌, entry, send, tell, has, disagreed, one_sided}
use Rattle.meaning.proofs.OurBook.{our_setup, told100, told_by_nine, gives, meets}

-- Day 100 alone, of 46 periods, and two slots. Of 0/1, between accounts 0 and 1, agent 7 tells 5000 and 700 kWh in periods 1 and 2, and agent 9 5000
-- and 701; of 1/1, between accounts 1 and 2, agent 7 tells 2000 in period 1 for both sides.
abbrev sales : Book contracts
sales =
    after (opened_book contracts (record { first = 100; codes = 0 ∷ []; accounts = 3; rows = our_setup.rows }) 2)
    (send 0 7 500 (0 /₁ 1) 100 100 (entry 1 (pos 5000) ∷ entry 2 (pos 700) ∷ [])
    ∷ send 0 9 500 (0 /₁ 1) 100 100 (entry 1 (pos 5000) ∷ entry 2 (pos 701) ∷ [])
    ∷ tell 1 7 (1 /₁ 1) 100 100 1 (pos 2000)
    ∷ [])

-- "Totals count matched volumes only, plus for account 1, minus for account 2."
abbrev the_totals : Bool
the_totals =
    has sales 0 100 1 (pos 5000)
    && has sales 1 100 1 (neg_ℤ (pos 3000))
    && has sales 2 100 1 (neg_ℤ (pos 2000))
    && has sales 0 100 2 (pos 0)
    && has sales 1 100 2 (pos 0)

-- "15: account not in the book .. 16: no such day number, period or side"; "its other results are zero". Day 99 and period 0 read the places of
-- period 1, where 5000 stand.
abbrev the_refused_totals : Bool
the_refused_totals =
    let refused : ℕ → ℕ → ℕ → ℕ → Bool = λ account D period number. gives (total_rules sales account D period) number && sameℤ (total sales account D period) (pos 0) in
    refused 3 100 1 15
    && refused 0 99 1 16
    && refused 0 101 1 16
    && refused 0 100 0 16
    && refused 0 100 47 16
    && gives (total_rules sales 0 100 46) 0

-- "26: an account total beyond 99,999,999,999 either way": 256 volumes in range do not come so far, so its condition is asked alone, of one volume
-- of that size
abbrev the_largest_total : Bool
the_largest_total =
    let of : ℤ → Book contracts =
    λ v. record { setting = sales.setting; ledger = record { held = 2 ∷ []; side1 = v ∷ []; side2 = v ∷ [] } } in
    not (meets (total_rules (of (pos 99999999999)) 0 100 1) 26)
    && not (meets (total_rules (of (pos 99999999999)) 1 100 1) 26)
    && meets (total_rules (of (pos 100000000000)) 0 100 1) 26
    && meets (total_rules (of (pos 100000000000)) 1 100 1) 26

-- ---- MWh. A 64-bit float is compared by its bits, so that zero is positive zero

abbrev float : ℕ → Float → Bool
float bits f = to_bits binary64 f =? bits

-- the bits of 0, 2, 5, -2, -3, -5 and 0.001
abbrev float0 : ℕ
float0 = 0x0000000000000000

abbrev float2 : ℕ
float2 = 0x4000000000000000

abbrev float5 : ℕ
float5 = 0x4014000000000000

abbrev float-2 : ℕ
float-2 = 0xC000000000000000

abbrev float-3 : ℕ
float-3 = 0xC008000000000000

abbrev float-5 : ℕ
float-5 = 0xC014000000000000

abbrev float-thousandth : ℕ
float-thousandth = 0x3F50624DD2F1A9FC

-- "made a 64-bit float and divided by 1000 once. Zero is positive zero."
abbrev the_mwh : Bool
the_mwh =
    float float5 (mwh (pos 5000)) && float float-5 (mwh (neg_ℤ (pos 5000))) && float float-thousandth (mwh (pos 1)) && float float0 (mwh (neg_ℤ (pos 0)))

abbrev figures_are : DayFigures → ℕ → ℕ → ℕ → Bool
figures_are f sold bought net = float sold f.sold && float bought f.bought && float net f.net

-- "taking each identifier's matched volume by itself ..: the whole kWh sums over the day of those above zero, of those below zero negated, and their
-- difference": account 1 bought 5 MWh by one identifier and sold 2 by the other in the same period
abbrev the_figures : Bool
the_figures =
    gives (figures_rules sales 1 100) 0
    && figures_are (figures sales 0 100) float5 float0 float5
    && figures_are (figures sales 1 100) float2 float5 float-3
    && figures_are (figures sales 2 100) float0 float2 float-2

-- Day 99 reads the places of day 100, so a figure that leaks is not zero.
abbrev the_refused_figures : Bool
the_refused_figures =
    gives (figures_rules sales 3 100) 15
    && gives (figures_rules sales 1 101) 16
    && gives (figures_rules sales 1 99) 16
    && figures_are (figures sales 1 99) float0 float0 float0

-- ---- marks

abbrev blank : Bar Float → Bool
blank Blank = true
blank (OneSide v) = false
blank (Agreed v) = false
blank (Disagreed v w) = false

abbrev agrees : Bar Float → ℕ → Bool
agrees Blank v = false
agrees (OneSide x) v = false
agrees (Agreed x) v = float v x
agrees (Disagreed x y) v = false

-- "Each figure on a bar is Blank, OneSide, Agreed or Disagreed with its MWh (two figures for Disagreed, side 1 first) .. kWh as they stand for account
-- 1, negated as a whole number for account 2 .. Zero is positive zero."
abbrev the_marks : Bool
the_marks =
    agrees (mark sales (0 /₁ 1) 0 100 1) float5
    && agrees (mark sales (0 /₁ 1) 1 100 1) float-5
    && agrees (mark sales (0 /₁ 1) 1 100 3) float0
    && disagreed (seen_bar sales (0 /₁ 1) 0 100 2) (pos 700) (pos 701)
    && disagreed (seen_bar sales (0 /₁ 1) 1 100 2) (neg_ℤ (pos 700)) (neg_ℤ (pos 701))
    && one_sided (seen_bar told100 (0 /₁ 1) 1 100 1) (neg_ℤ (pos 5))
    && one_sided (seen_bar told_by_nine (0 /₁ 1) 0 100 1) (pos 5)
    && gives (mark_rules told100 (0 /₁ 1) 1 101 46) 0
    && blank (mark told100 (0 /₁ 1) 1 101 46)

-- "25: identifier not held", "15: account .. not in the pair", 16; a refusal gives "the blank mark"
abbrev the_refused_marks : Bool
the_refused_marks =
    let refused : ℕ → ℕ → ℕ → ℕ → ℕ → Bool = λ i account D period number. gives (mark_rules sales i account D period) number && blank (mark sales i account D period) in
    refused (0 /₁ 2) 0 100 1 25
    && refused (0 /₁ 1) 2 100 1 15
    && refused (0 /₁ 1) 3 100 1 15
    && refused (0 /₁ 1) 0 99 1 16
    && refused (0 /₁ 1) 0 100 0 16
    && refused (0 /₁ 1) 0 100 47 16

abbrev pub questions : List Bool
questions =
    the_totals ∷ the_refused_totals ∷ the_largest_total ∷ the_mwh ∷ the_figures ∷ the_refused_figures ∷ the_marks ∷ the_refused_marks ∷ []
