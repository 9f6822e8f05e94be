-- What is said of a function's promise. The promise is the function's own: the checker writes its `ensures` as `FUNCTION.Reads.Post`, a type of its
-- lifetimes, its arguments, its result and its parameters at exit. A theorem that names it cannot drift from the source.
use mathlib.Core.Path.{◌≡◌}

module _ {L : Type 0} {A R S : L → Type 0} (Post : (κs : L) → A κs → R κs → S κs → Type 0) where
  -- two outcomes that keep it are one: in what is read off the result and the parameters at exit
  abbrev pub OneOutcome : {X : L → Type 0} → ((κs : L) → R κs → S κs → X κs) → Type 0
  OneOutcome outcome = (κs : L) (a : A κs) (r r' : R κs) (s s' : S κs) → Post κs a r s → Post κs a r' s' → outcome κs r s ≡ outcome κs r' s'

  -- in the result itself
  abbrev pub OneResult : Type 0
  OneResult = OneOutcome (λ κs r s. r)
