-- What a setup struct holds: the lengths of its arrays, the ranges of its numbers, and how many codes and rows are its own.
use mathlib.Core.List.{List, [], ◌∷◌}
use mathlib.Core.Path.{◌≡◌, sym, ◌∙◌}
use Prim.Native.Nat.{ℕ, zero, suc, ◌<◌}
use native.Mathlib.Omega.{arith}
use lib.ListN.{length, get_or}
use mir.Val.{Val}
use denote.Array.{each}
use denote.Shadow.{shadow}
use denote.Laws.{Is}
use denote.Struct.Declared.{row}
use denote.Struct.Laws.{owed, vals}
use borrow.Author.Tests.{lt-ltb, le-ltb}
use Rattle.std.specs.Prelude.{if◌then◌else◌, Result, Ok, Err}
use Rattle.std.specs.Result.{is_err}
use Rattle.limits.specs.declared.refusals.Refusal.{Refusal}
use Rattle.limits.specs.Refusals.{number_of, answer_of}
use Rattle.limits.proofs.AnswerNumbers.{never-done}
use Rattle.words.specs.Tests.{◌<?◌}
use Rattle.laws.proofs.Cases.{by-lt}
use Rattle.laws.proofs.Builds.{length-build}
use Rattle.setups.specs.Structs.{no_authorisation, rows_of, codes_of}
use Rattle.setups.specs.declared.Authorisation.{Authorisation}
use Rattle.setups.specs.declared.Setup.{Setup}
use Rattle.setups.specs.contracts.Authorisation as Row
use Rattle.setups.proofs.Authorisation.TheLaws as RowLaws
use Rattle.setups.specs.contracts.Setup.{the_type}
use Rattle.setups.proofs.Setup.TheLaws.{the_laws}

pub codes-own : (n : ℕ) (codes : List ℕ) → length (codes_of n codes) ≡ n
unfolding codes_of
codes-own n codes = length-build n _

pub rows-own : (n : ℕ) (rows : List Authorisation) → length (rows_of n rows) ≡ n
unfolding rows_of
rows-own n rows = length-build n _

-- what passes three of four refuses the fourth
pub fourth-refused : (n : ℕ) (refusal : Refusal) (r : Result Unit Refusal) → answer_of r ≡ (if n <? 3 then 0 else number_of refusal) → is_err r ≡ 2 <? n
fourth-refused n refusal (Ok _) e =
    by-lt n 3
    (λ h. sym (le-ltb 2 n (omega arith)))
    (λ h. never-done refusal (sym (e ∙ rw (le-ltb n 3 h))))
fourth-refused n refusal (Err r) e =
    by-lt n 3
    (λ h. never-done r (e ∙ rw (lt-ltb n 3 h)))
    (λ h. sym (lt-ltb 2 n (omega arith)))

-- what the widths of a row's fields say of them
abbrev pub Small : Authorisation → Type 0
Small a = (a.agent1 < 256) × (a.agent2 < 256) × (a.key < 65536) × (a.first < 65536) × (a.last < 65536)

one-small : (a : Authorisation) (vs : List Val) → Is (row Row.the_type) a vs → Small a
one-small a vs g =
    let o = owed Row.the_type RowLaws.the_laws a vs g in
    (o.0.1, o.1.0.1, o.1.1.1.1.0.1, o.1.1.1.1.1.0.1, o.1.1.1.1.1.1.0.1)

each-small : (rows : List Authorisation) (us : List Val)
    → shadow (each (Row.the_row).Denot (Row.the_row).own_val rows us)
    → (k : ℕ) → Small (get_or rows k no_authorisation)
each-small [] us p k = (omega arith, omega arith, omega arith, omega arith, omega arith)
each-small (a ∷ rows) [] p k = absurd p
each-small (a ∷ rows) (u ∷ us) p zero = one-small a (u ∷ []) p.0
each-small (a ∷ rows) (u ∷ us) p (suc k) = each-small rows us p.1 k

module _ (s : Setup) (g : Is (row the_type) s (vals the_type the_laws s)) where
  pub codes-length : length s.codes ≡ 8
  codes-length = (owed the_type the_laws s (vals the_type the_laws s) g).1.1.1.1.0.1.0.1

  pub rows-length : length s.rows ≡ 64
  rows-length = (owed the_type the_laws s (vals the_type the_laws s) g).1.1.1.1.1.0.1.0.1

  pub first_fits : s.first < 65536
  first_fits = (owed the_type the_laws s (vals the_type the_laws s) g).0.1

  pub rows-small : (k : ℕ) → Small (get_or s.rows k no_authorisation)
  rows-small k = each-small s.rows _ (owed the_type the_laws s (vals the_type the_laws s) g).1.1.1.1.1.0.1.1 k
