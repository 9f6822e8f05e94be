-- Room for a line: 64 bytes are free, or one fewer. And two buffers of different lengths: what stands in one of them alone is no outcome.
use Rattle.std.proofs.Common.{◌≡◌, true, false, [], ◌∷◌, refl}
use Rattle.words.specs.Rules.{placeless}
use Rattle.sheet_lines.specs.Outcomes.{outcomes_of}
use Rattle.sheet_lines.specs.Places.{has_room}

pub just_enough : has_room 100 36 ≡ true
unfolding has_room
just_enough = refl

pub one_too_few : has_room 100 37 ≡ false
unfolding has_room
one_too_few = refl

pub a_place_for_each_answer : outcomes_of (10 ∷ 0 ∷ []) (7 ∷ 0 ∷ []) ≡ record { answer = 10; place = 7 } ∷ placeless 0 ∷ []
unfolding outcomes_of
a_place_for_each_answer = refl

pub one_place_too_few : outcomes_of (10 ∷ 0 ∷ []) (7 ∷ []) ≡ record { answer = 10; place = 7 } ∷ []
unfolding outcomes_of
one_place_too_few = refl
