-- The codes of the days are asked. A day past the eighth has the code 0, which passes, and is not asked.
use mathlib.Core.Path.{◌≡◌, refl, sym, ◌∙◌}
use Prim.Native.Nat.{ℕ}
use lib.ListN.{get_or, take}
use Rattle.std.proofs.Common.{rules, tests}
use Rattle.std.specs.List.{list_any}
use Rattle.std.proofs.lemmas.Iterator.{YieldsList-from_slice, YieldsList-from_take}
use Rattle.std.proofs.lemmas.Iterator.Search.{any_from_yields_List}
use Rattle.std.specs.Prelude.{if◌then◌else◌, Result}
use Rattle.std.specs.Result.{is_err}
use Rattle.limits.specs.declared.refusals.Refusal.{Refusal}
use Rattle.limits.specs.declared.refusals.Refusal.TheVariants.{SetupWrong}
use Rattle.limits.specs.Refusals.{answer_of}
use Rattle.words.specs.Tests.{◌<?◌}
use Rattle.laws.proofs.AnyTaken.{any-taken}
use Rattle.laws.proofs.Builds.{any-build}
use Rattle.meaning.specs.Books.{code_wrong}
use Rattle.setups.specs.Structs.{setup_of, codes_of}
use Rattle.setups.proofs.SetupHeld.{fourth-refused}
use Rattle.setups.proofs.rules.code_wrong.Goals as goal

fourth-code : (n : ℕ) (r : Result Unit Refusal) → answer_of r ≡ (if n <? 3 then 0 else 17) → is_err r ≡ 2 <? n
fourth-code n r e = fourth-refused n SetupWrong r e

pub returns : goal.returns
unfolding code_wrong setup_of codes_of
returns c =
    let s = c.args.s in
    let asked : c.any.result ≡ list_any (λ (code : ℕ). 2 <? code) (take s.days s.codes) =
    any_from_yields_List (λ (code : ℕ). 2 <? code) _ _ c.any.result c.any.ensures.ran (YieldsList-from_take s.days (YieldsList-from_slice s.codes cc) cc) (λ x b q k. search (rules, tests, fourth-code)) in
    asked
    ∙ any-taken (λ (code : ℕ). 2 <? code) 0 s.days s.codes (λ k l h. refl)
    ∙ sym (any-build s.days (λ (code : ℕ). 2 <? code) (λ (k : ℕ). get_or s.codes k 0))
