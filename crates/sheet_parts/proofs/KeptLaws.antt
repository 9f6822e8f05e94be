-- What is left of the bytes at hand, as the part of their buffer that is brought to its front.
use Rattle.std.proofs.Common.{◌≡◌, ℕ, ◌-◌, ◌≤◌, min, List, length, take, drop, refl, sym, ap, ◌∙◌, zero-add, arith, length-drop, length-take-le, take_all, drop_of_length-le}
use Rattle.std.proofs.lemmas.Slice.{between_is}
use lib.Seq.{sets, paste}
use Rattle.laws.proofs.Cases.{by-lt}
use Rattle.laws.proofs.PartStores.{front-sets}
use Rattle.sheet_parts.specs.Parts.{kept_of}

-- the part ends where the bytes at hand do, and begins where those that are used end
module _ (used have : ℕ) (input : List ℕ) (end from : ℕ) (e : end ≡ min have (length input)) (f : from ≡ min used end) where
  abbrev kept : List ℕ
  kept = kept_of used have input

  at-hand : take end input ≡ take have input
  at-hand =
      by-lt have (length input)
      (λ h. let z : end ≡ have = omega arith in rw z)
      (λ h. take_all end input (omega arith) ∙ sym (take_all have input h))

  pub kept-count : length kept ≡ end - from
  unfolding kept_of
  kept-count = omega (arith, length-drop used (take have input), ap length at-hand, length-take-le end input (omega arith))

  part : take (end - from) (drop from input) ≡ kept
  unfolding kept_of
  part =
      between_is input from end
      ∙ by-lt used end
      (λ h. let z : from ≡ used = omega arith in rw (z, at-hand))
      (λ h.
      drop_of_length-le (take end input) {i = from} (omega (arith, length-take-le end input (omega arith)))
      ∙ sym (drop_of_length-le (take have input) {i = used} (omega (arith, ap length at-hand, length-take-le end input (omega arith)))))

  pub brought : paste input 0 (drop from input) (end - from) ≡ sets input 0 kept
  brought =
      rw (part, zero-add (end - from)) (front-sets input (end - from) kept kept-count (omega arith))

-- no more than there are bytes at all
pub kept-fits : (used have : ℕ) (input : List ℕ) → length (kept_of used have input) ≤ length input
kept-fits used have input = omega (arith, kept-count used have input (min have (length input)) (min used (min have (length input))) refl refl)
