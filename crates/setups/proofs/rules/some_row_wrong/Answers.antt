-- The rows are asked. Where the count is above 64, the 65th row is all zero, and that is wrong.
use mathlib.Core.Bool.{Bool, true}
use mathlib.Core.Path.{◌≡◌, sym, ◌∙◌}
use Prim.Native.Nat.{ℕ}
use native.Mathlib.Omega.{arith}
use lib.ListN.{length, get_or, take, get_or-eq_default}
use Rattle.std.proofs.Common.{rules, tests}
use Rattle.std.specs.List.{list_any}
use Rattle.std.proofs.lemmas.Iterator.{YieldsList-from_slice, YieldsList-from_take}
use Rattle.std.proofs.lemmas.Iterator.Search.{any_from_yields_List}
use Rattle.words.specs.Below.{some_below}
use Rattle.laws.proofs.AnyTaken.{any-taken}
use Rattle.laws.proofs.Below.{some-hit}
use Rattle.laws.proofs.Builds.{any-build}
use Rattle.laws.proofs.Cases.{or-true}
use Rattle.meaning.specs.Authorisations.{row_wrong}
use Rattle.meaning.specs.Books.{some_row_wrong}
use Rattle.setups.specs.Structs.{no_authorisation, row_of, setup_of, rows_of}
use Rattle.setups.specs.declared.Authorisation.{Authorisation}
use Rattle.setups.specs.declared.Setup.{Setup}
use Rattle.setups.proofs.SetupHeld.{rows-length}
use Rattle.setups.proofs.rules.some_row_wrong.Goals as goal

abbrev wrong : Setup → Authorisation → Bool
wrong s row = row_wrong s.accounts (row_of row)

abbrev wrong_at : Setup → ℕ → Bool
wrong_at s k = wrong s (get_or s.rows k no_authorisation)

some-row : (s : Setup) → some_row_wrong (setup_of s) ≡ some_below s.authorisations (wrong_at s)
unfolding some_row_wrong setup_of rows_of
some-row s = any-build s.authorisations (row_wrong s.accounts) (λ (k : ℕ). row_of (get_or s.rows k no_authorisation))

-- past the struct's 64 rows
past-wrong : (s : Setup) → length s.rows ≡ 64 → wrong_at s 64 ≡ true
unfolding row_wrong
past-wrong s l = rw (get_or-eq_default s.rows no_authorisation {n = 64} (omega arith), or-true)

pub returns-then-s-gt-MOST_AUTHORISATIONS : goal.returns-then-s-gt-MOST_AUTHORISATIONS
returns-then-s-gt-MOST_AUTHORISATIONS c =
    let s = c.args.s in
    sym (some-row s ∙ some-hit s.authorisations (wrong_at s) 64 (omega arith) (past-wrong s (rows-length s c.well_formed.0)))

pub returns : goal.returns
returns c =
    let s = c.args.s in
    let asked : c.any.result ≡ list_any (wrong s) (take s.authorisations s.rows) =
    any_from_yields_List (wrong s) _ _ c.any.result c.any.ensures.ran (YieldsList-from_take s.authorisations (YieldsList-from_slice s.rows cc) cc) (λ x b q k. search (rules, tests)) in
    let own = rows-length s c.well_formed.0 in
    asked
    ∙ any-taken (wrong s) no_authorisation s.authorisations s.rows (λ k l h. absurd (omega arith))
    ∙ sym (some-row s)
