-- The outcomes that two lent buffers hold, answers in one and places beside them in the other, as long as both last.
use Rattle.std.specs.Prelude.{ℕ, List, [], ◌∷◌}
use Rattle.words.specs.Rules.{Outcome}

unfoldable pub outcomes_of : List ℕ → List ℕ → List Outcome
outcomes_of [] places = []
outcomes_of (answer ∷ answers) [] = []
outcomes_of (answer ∷ answers) (place ∷ places) = record { answer = answer; place = place } ∷ outcomes_of answers places
