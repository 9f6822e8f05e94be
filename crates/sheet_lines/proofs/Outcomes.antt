-- The outcomes in two buffers, by their places; and a list of outcomes kept in two buffers is in them.
use Rattle.std.proofs.Common.{◌≡◌, ℕ, zero, suc, ◌<◌, min, List, [], ◌∷◌, length, get_or, refl, ap, le_of_suc-le-suc, not-suc-le-zero, arith}
use Rattle.words.specs.Rules.{Outcome, placeless}
use Rattle.meaning.specs.PackedCalls.{answers_in, places_in}
use Rattle.sheet_lines.specs.Outcomes.{outcomes_of}

pub outcomes-count : (answers places : List ℕ) → length (outcomes_of answers places) ≡ min (length answers) (length places)
unfolding outcomes_of
outcomes-count [] places = omega arith
outcomes-count (answer ∷ answers) [] = omega arith
outcomes-count (answer ∷ answers) (place ∷ places) = omega (arith, outcomes-count answers places)

pub outcome-at : (answers places : List ℕ) (k : ℕ) → k < length answers → k < length places
    → get_or (outcomes_of answers places) k (placeless 0) ≡ record { answer = get_or answers k 0; place = get_or places k 0 }
unfolding outcomes_of
outcome-at [] places k a p = absurd (not-suc-le-zero a)
outcome-at (answer ∷ answers) [] k a p = absurd (not-suc-le-zero p)
outcome-at (answer ∷ answers) (place ∷ places) zero a p = refl
outcome-at (answer ∷ answers) (place ∷ places) (suc k) a p = outcome-at answers places k (le_of_suc-le-suc a) (le_of_suc-le-suc p)

-- THE BUFFERS LOSE NOTHING: answers and places taken apart are the outcomes again
pub outcomes-whole : (outcomes : List Outcome) → outcomes_of (answers_in outcomes) (places_in outcomes) ≡ outcomes
unfolding outcomes_of
outcomes-whole [] = refl
outcomes-whole (told ∷ later) = ap (λ (rest : List Outcome). told ∷ rest) (outcomes-whole later)
