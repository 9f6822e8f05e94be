-- How long it is: a line of a writable entry has at most 14 bytes, and the file of at most 50 of them 711.
use mathlib.Core.Bool.{true}
use mathlib.Core.List.{List, [], ◌∷◌, ◌++◌, map}
use mathlib.Core.Path.{◌≡◌}
use Prim.Native.Nat.{◌+◌, ◌*◌, ◌/◌, ◌≤◌}
use native.Mathlib.Omega.{arith}
use lib.IntN.{ℤ, pos, negsuc, nat_abs}
use lib.ListN.{length, length-append}
use borrow.Author.Tests.{leb-true}
use Rattle.words.specs.Lists.{every, join}
use Rattle.words.specs.Tests.{◌≤?◌}
use Rattle.laws.proofs.Cases.{and_left, and_right}
use Rattle.meaning.specs.Ascii.{ascii}
use Rattle.meaning.specs.Decimals.{decimal}
use Rattle.meaning.specs.Ledgers.{contracts}
use Rattle.meaning.specs.Messages.{Entry}
use Rattle.meaning.proofs.Decimals.{count_most}
use Rattle.spreadsheets.specs.Writing.{three_digits, sign, size_text, mwh_text, entry_text, entry_line, written, writable}

-- ---- what is said of a writable entry

module _ (e : Entry contracts) (w : writable e ≡ true) where
  pub writable-period : e.period ≤ 99
  unfolding writable
  writable-period = leb-true e.period 99 (and_left (e.period ≤? 99) (contracts.in_range e.volume) w)

  pub writable-volume : nat_abs e.volume ≤ 99999999
  unfolding writable
  writable-volume = leb-true (nat_abs e.volume) 99999999 (and_right (e.period ≤? 99) (contracts.in_range e.volume) w)

-- ---- the parts of a line

pub line-length : (e : Entry contracts) → length (entry_line e) ≡ length (decimal e.period) + (1 + (length (mwh_text e.volume) + 1))
unfolding entry_text
line-length e =
    simp length-append (omega arith)

sign-length : (z : ℤ) → length (sign z) ≤ 1
sign-length (pos n) = omega arith
sign-length (negsuc n) = omega arith

-- ---- the most

line-most : (e : Entry contracts) → writable e ≡ true → length (entry_line e) ≤ 14
unfolding mwh_text
line-most e w =
    let n = nat_abs e.volume in
    omega (
      arith,
      line-length e,
      count_most 1 e.period (omega (arith, writable-period e w)),
      length-append (sign e.volume) (size_text n),
      sign-length e.volume,
      length-append (decimal (n / 1000)) (ascii "." ++ three_digits n),
      count_most 4 (n / 1000) (omega (arith, writable-volume e w)),
    )

lines-most : (es : List (Entry contracts)) → every writable es ≡ true → length (join (map entry_line es)) ≤ 14 * length es
unfolding every join
lines-most [] w = omega arith
lines-most (e ∷ es) w =
    omega (
      arith,
      length-append (entry_line e) (join (map entry_line es)),
      line-most e (and_left (writable e) (every writable es) w),
      lines-most es (and_right (writable e) (every writable es) w),
    )

pub written-length : (es : List (Entry contracts)) → every writable es ≡ true → length es ≤ 50 → length (written es) ≤ 711
unfolding written
written-length es w h = omega (arith, length-append (ascii "period,mwh\n") (join (map entry_line es)), lines-most es w)
