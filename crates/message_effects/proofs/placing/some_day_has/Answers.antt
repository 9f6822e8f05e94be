-- The days of the book are asked in turn.
use mathlib.Core.Bool.{Bool, ◌||◌}
use mathlib.Core.Path.{◌≡◌, sym, ap, ap₂, ◌∙◌}
use Prim.Native.Nat.{ℕ, zero, suc, ◌+◌}
use native.Mathlib.Omega.{arith}
use lib.Dec.{eqb}
use Rattle.std.proofs.Common.{rules, tests}
use Rattle.std.specs.List.{list_any, range_with_len}
use Rattle.std.proofs.lemmas.Iterator.{YieldsList-from_range}
use Rattle.std.proofs.lemmas.Iterator.Search.{any_from_yields_List}
use Rattle.words.specs.Below.{some_below}
use Rattle.laws.proofs.Below.{some-none, some-front, some-ext}
use Rattle.laws.proofs.Builds.{length-build}
use Rattle.meaning.specs.Time.{periods_at}
use Rattle.clock.specs.Structs.{time_of}
use Rattle.message_effects.specs.Placing.{some_day_has}
use Rattle.message_effects.proofs.placing.some_day_has.Goals as goal

any-range : (f : ℕ → Bool) (a n : ℕ) → list_any f (range_with_len a n) ≡ some_below n (λ (k : ℕ). f (a + k))
any-range f a zero = sym (some-none (λ (k : ℕ). f (a + k)))
any-range f a (suc n) =
    ap₂ ◌||◌ (ap f (let e : a ≡ a + 0 = omega arith in e))
    (any-range f (a + 1) n ∙ some-ext n (λ (k : ℕ). f (a + 1 + k)) (λ (k : ℕ). f (a + suc k)) (λ k l. ap f (let e : a + 1 + k ≡ a + suc k = omega arith in e)))
    ∙ sym (some-front n (λ (k : ℕ). f (a + k)))

pub returns : goal.returns
unfolding some_day_has
returns c =
    let a = c.args in
    let has = λ (d : ℕ). eqb (periods_at (time_of a.c).codes d) a.periods in
    let asked : c.any.result ≡ list_any has (range_with_len 0 a.c.days) =
    any_from_yields_List has _ _ c.any.result c.any.ensures.ran (YieldsList-from_range 0 a.c.days a.c.days (cc) (omega arith)) (λ x b q k. search (rules, tests)) in
    rw (length-build a.c.days _)
    (asked ∙ any-range has 0 a.c.days ∙ some-ext a.c.days (λ (k : ℕ). has (0 + k)) has (λ k l. ap has (let e : 0 + k ≡ k = omega arith in e)))
