-- Once the setup rules have passed, every value of a setup fits its field, so none is refused for that.
use mathlib.Core.Bool.{Bool, true, false, ◌&&◌, ◌||◌}
use mathlib.Core.List.{List, [], ◌∷◌, ◌++◌}
use mathlib.Core.Path.{◌≡◌, refl}
use Prim.Native.Nat.{ℕ, zero, suc, ◌≤◌, ◌<◌}
use native.Mathlib.Omega.{arith}
use lib.ListN.{length, get_or}
use denote.Laws.{Is}
use denote.Struct.Declared.{row}
use denote.Struct.Laws.{vals}
use borrow.Author.Tests.{lt-ltb, ltb-false, leb-true, leb-false, not-false}
use Rattle.words.specs.Tests.{◌<?◌, ◌≤?◌, ◌=?◌, between}
use Rattle.words.specs.Lists.{any, build}
use Rattle.words.specs.Fields.{times, fit}
use Rattle.laws.proofs.Cases.{and_left, and_right, or_left, or_right}
use Rattle.laws.proofs.Builds.{length-build}
use Rattle.laws.proofs.Layouts.{fit_append, fit-more}
use Rattle.meaning.specs.Authorisations as Meaning
use Rattle.meaning.specs.Authorisations.{row_wrong}
use Rattle.meaning.specs.Books.{counts_wrong, code_wrong, some_row_wrong}
use Rattle.meaning.specs.PackedSetups.{head_layout, row_layout, setup_layout_for, setup_layout, setup_values, row_values}
use Rattle.setups.specs.Structs.{no_authorisation, row_of, rows_of, codes_of, setup_of}
use Rattle.setups.specs.declared.Authorisation.{Authorisation}
use Rattle.setups.specs.declared.Setup.{Setup}
use Rattle.setups.proofs.SetupHeld.{Small, codes-own, first_fits, rows-own, rows-small}
use Rattle.setups.specs.contracts.Setup.{the_type}
use Rattle.setups.proofs.Setup.TheLaws.{the_laws}

-- ---- the counts

pub record Counted (s : Setup) : Type 0 where
  pub days : s.days ≤ 8
  pub accounts : s.accounts ≤ 64
  pub rows : s.authorisations ≤ 64

pub counted : (s : Setup) → counts_wrong (setup_of s) ≡ false → Counted s
unfolding counts_wrong setup_of
counted s e =
    let d : Bool = between 1 8 s.days in
    let a : Bool = between 2 64 s.accounts in
    let r : Bool = between 1 64 s.authorisations in
    let t : d && a && r ≡ true = not-false (d && a && r) (rw (codes-own, rows-own) at e) in
    let da : d && a ≡ true = and_left (d && a) r t in
    record {
      days = leb-true s.days 8 (and_right (1 ≤? s.days) (s.days ≤? 8) (and_left d a da));
      accounts = leb-true s.accounts 64 (and_right (2 ≤? s.accounts) (s.accounts ≤? 64) (and_right d a da));
      rows = leb-true s.authorisations 64 (and_right (1 ≤? s.authorisations) (s.authorisations ≤? 64) (and_right (d && a) r t));
    }

-- ---- the codes, and the rows

fit-codes : (codes : List ℕ) → any (λ (code : ℕ). 2 <? code) codes ≡ false → fit (times (length codes) (2 ∷ [])) codes ≡ true
unfolding any
fit-codes [] e = refl
fit-codes (c ∷ codes) e =
    let later : Bool = any (λ (code : ℕ). 2 <? code) codes in
    let h : c ≤ 2 = ltb-false 2 c (or_left (2 <? c) later e) in
    fit-more 2 c (times (length codes) (2 ∷ [])) codes (omega arith) (fit-codes codes (or_right (2 <? c) later e))

-- a row as the values of its fields
abbrev pub cells : Meaning.Authorisation → List ℕ
cells a = a.agent1 ∷ a.agent2 ∷ a.account1 ∷ a.account2 ∷ a.key ∷ a.first ∷ a.last ∷ a.type ∷ []

fit_row : (accounts : ℕ) (a : Authorisation) → accounts ≤ 64 → row_wrong accounts (row_of a) ≡ false → Small a → fit row_layout (cells (row_of a)) ≡ true
unfolding row_wrong
fit_row accounts a h e small =
    let t1 : Bool = accounts ≤? a.account1 in
    let t2 : Bool = accounts ≤? a.account2 in
    let t3 : Bool = a.account1 =? a.account2 in
    let t4 : Bool = a.first =? 65535 in
    let t5 : Bool = a.last <? a.first in
    let t6 : Bool = 2 <? a.amendment in
    let e5 : t1 || t2 || t3 || t4 || t5 ≡ false = or_left (t1 || t2 || t3 || t4 || t5) t6 e in
    let e2 : t1 || t2 ≡ false = or_left (t1 || t2) t3 (or_left (t1 || t2 || t3) t4 (or_left (t1 || t2 || t3 || t4) t5 e5)) in
    let h1 : a.account1 < accounts = leb-false accounts a.account1 (or_left t1 t2 e2) in
    let h2 : a.account2 < accounts = leb-false accounts a.account2 (or_right t1 t2 e2) in
    let h6 : a.amendment ≤ 2 = ltb-false 2 a.amendment (or_right (t1 || t2 || t3 || t4 || t5) t6 e) in
    rw (
      lt-ltb a.agent1 256 small.0,
      lt-ltb a.agent2 256 small.1,
      lt-ltb a.account1 64 (omega arith),
      lt-ltb a.account2 64 (omega arith),
      lt-ltb a.key 65536 small.2,
      lt-ltb a.first 65536 small.3,
      lt-ltb a.last 65536 small.4,
      lt-ltb a.amendment 4 (omega arith),
    )

fit-rows : (accounts : ℕ) → accounts ≤ 64 → (n : ℕ) (f : ℕ → Authorisation) → any (row_wrong accounts) (build n (λ (k : ℕ). row_of (f k))) ≡ false
    → ((k : ℕ) → Small (f k)) → fit (times n row_layout) (row_values (build n (λ (k : ℕ). row_of (f k)))) ≡ true
unfolding any build row_values
fit-rows accounts h zero f e small = refl
fit-rows accounts h (suc n) f e small =
    let w : Bool = row_wrong accounts (row_of (f 0)) in
    let rest : List Meaning.Authorisation = build n (λ (k : ℕ). row_of (f (suc k))) in
    let later : Bool = any (row_wrong accounts) rest in
    fit_append row_layout (cells (row_of (f 0))) (times n row_layout) (row_values rest)
    (fit_row accounts (f 0) h (or_left w later e) (small 0))
    (fit-rows accounts h n (λ (k : ℕ). f (suc k)) (or_right w later e) (λ k. small (suc k)))

fit-own-rows : (s : Setup) → s.accounts ≤ 64 → any (row_wrong s.accounts) (rows_of s.authorisations s.rows) ≡ false
    → ((k : ℕ) → Small (get_or s.rows k no_authorisation))
    → fit (times (length (rows_of s.authorisations s.rows)) row_layout) (row_values (rows_of s.authorisations s.rows)) ≡ true
unfolding rows_of
fit-own-rows s h e small =
    rw (length-build s.authorisations (λ (k : ℕ). row_of (get_or s.rows k no_authorisation)))
    (fit-rows s.accounts h s.authorisations (λ (k : ℕ). get_or s.rows k no_authorisation) e small)

-- ---- the setup

pub layout-own : (s : Setup) → setup_layout (setup_of s) ≡ setup_layout_for s.days s.authorisations
unfolding setup_layout setup_of
layout-own s = rw (codes-own, rows-own)

pub setup-fits : (s : Setup) → Is (row the_type) s (vals the_type the_laws s) → counts_wrong (setup_of s) ≡ false → code_wrong (setup_of s) ≡ false
    → some_row_wrong (setup_of s) ≡ false → fit (setup_layout (setup_of s)) (setup_values (setup_of s)) ≡ true
unfolding setup_layout setup_layout_for setup_values setup_of code_wrong some_row_wrong
setup-fits s g cw dw sw =
    let n : Counted s = counted s cw in
    let cs : List ℕ = codes_of s.days s.codes in
    let rs : List Meaning.Authorisation = rows_of s.authorisations s.rows in
    let lc : length cs ≡ s.days = codes-own s.days s.codes in
    let lr : length rs ≡ s.authorisations = rows-own s.authorisations s.rows in
    fit_append head_layout (s.first ∷ length cs ∷ s.accounts ∷ length rs ∷ [])
    (times (length cs) (2 ∷ []) ++ times (length rs) row_layout) (cs ++ row_values rs)
    (fit-more 16 s.first (4 ∷ 7 ∷ 7 ∷ []) (length cs ∷ s.accounts ∷ length rs ∷ []) (first_fits s g)
    (fit-more 4 (length cs) (7 ∷ 7 ∷ []) (s.accounts ∷ length rs ∷ []) (omega arith)
    (fit-more 7 s.accounts (7 ∷ []) (length rs ∷ []) (omega arith)
    (fit-more 7 (length rs) [] [] (omega arith) refl))))
    (fit_append (times (length cs) (2 ∷ [])) cs (times (length rs) row_layout) (row_values rs)
    (fit-codes cs dw)
    (fit-own-rows s n.accounts sw (rows-small s g)))
