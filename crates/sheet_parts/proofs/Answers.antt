-- The outcomes of a run in the two buffers that were lent for them, answers in one and places in the other.
use Rattle.std.proofs.Common.{◌≡◌, ℕ, zero, suc, ◌-◌, ◌≤◌, List, [], ◌∷◌, ◌++◌, map, length, take, drop, sym, refl, ap, ◌∙◌, ap₂, zero-add, arith}
use lib.ListN.{length-map, get_or-append}
use lib.Seq.{sets, sets-eq, take-append-le, length-sets}
use Rattle.std.specs.Prelude.{if◌then◌else◌}
use Rattle.words.specs.Tests.{◌=?◌}
use Rattle.words.specs.Rules.{Outcome}
use Rattle.laws.proofs.Cases.{on, by-eq}
use Rattle.meaning.specs.Ledgers.{contracts}
use Rattle.meaning.specs.Books.{Book}
use Rattle.meaning.specs.Soundness.{sound}
use Rattle.meaning.specs.PackedCalls.{answers_in, places_in, run_on}
use Rattle.meaning.proofs.PackedCalls.{few-outcomes}
use Rattle.sheet_lines.specs.Outcomes.{outcomes_of}
use Rattle.sheet_lines.proofs.Outcomes.{outcomes-whole}
use Rattle.sheet_turns.specs.Turns.{last_in}

-- ---- no more than there is room for

pub run-few : (room : ℕ) (b : Book contracts) (bytes : List ℕ) → length (run_on room b bytes).outcomes ≤ room
unfolding run_on
run-few room b bytes = on (sound b) (λ e. rw e (few-outcomes room b bytes)) (λ e. rw e (omega arith))

-- ---- what the front of a buffer holds

module _ (lent stored : List ℕ) (fits : length stored ≤ length lent) where
  front : sets lent 0 stored ≡ stored ++ drop (length stored) lent
  front = sets-eq stored lent 0 (omega arith) ∙ ap (λ (k : ℕ). stored ++ drop k lent) (zero-add (length stored))

  pub front-take : (n : ℕ) → n ≤ length stored → take n (sets lent 0 stored) ≡ take n stored
  front-take n h = rw front (take-append-le n stored (drop (length stored) lent) h)

  front-last : last_in (sets lent 0 stored) (length stored) ≡ last_in stored (length stored)
  unfolding last_in
  front-last =
      by-eq (length stored) 0
      (λ e. rw e refl)
      (λ n. rw front (ap (λ (x : ℕ). if length stored =? 0 then 0 else x) (get_or-append stored (drop (length stored) lent) 0 (length stored - 1) (omega arith))))

-- ---- what both hold

take-map : {A B : Type 0} (f : A → B) (n : ℕ) (l : List A) → take n (map f l) ≡ map f (take n l)
take-map f zero l = refl
take-map f (suc n) [] = refl
take-map f (suc n) (x ∷ xs) = ap (λ (rest : List _). f x ∷ rest) (take-map f n xs)

-- the buffers as they were lent and as they are left
pub record Stored (outcomes : List Outcome) (answers places answers-left places-left : List ℕ) : Type 0 where
  pub answers-fit : length outcomes ≤ length answers
  pub places-fit : length outcomes ≤ length places
  pub answers-stored : answers-left ≡ sets answers 0 (answers_in outcomes)
  pub places-stored : places-left ≡ sets places 0 (places_in outcomes)

module _ {outcomes : List Outcome} {answers places answers-left places-left : List ℕ} (s : Stored outcomes answers places answers-left places-left) where
  count-answers : length (answers_in outcomes) ≡ length outcomes
  count-answers = length-map outcomes (λ (o : Outcome). o.answer)

  count-places : length (places_in outcomes) ≡ length outcomes
  count-places = length-map outcomes (λ (o : Outcome). o.place)

  pub last_stored : last_in answers-left (length outcomes) ≡ last_in (answers_in outcomes) (length outcomes)
  last_stored =
      ap₂ last_in s.answers-stored (sym count-answers) ∙ front-last answers (answers_in outcomes) (omega (arith, count-answers, s.answers-fit)) ∙ ap (last_in (answers_in outcomes)) count-answers

  pub answers-inside : (n : ℕ) → n ≤ length outcomes → n ≤ length answers-left
  answers-inside n h = omega (arith, s.answers-fit, ap length s.answers-stored ∙ length-sets answers 0 (answers_in outcomes))

  pub places-inside : (n : ℕ) → n ≤ length outcomes → n ≤ length places-left
  places-inside n h = omega (arith, s.places-fit, ap length s.places-stored ∙ length-sets places 0 (places_in outcomes))

  -- the fronts of both are the first outcomes
  pub told-stored : (n : ℕ) → n ≤ length outcomes → outcomes_of (take n answers-left) (take n places-left) ≡ take n outcomes
  told-stored n h =
      ap₂ outcomes_of
      (ap (take n) s.answers-stored ∙ front-take answers (answers_in outcomes) (omega (arith, count-answers, s.answers-fit)) n (omega (arith, count-answers)) ∙ take-map (λ (o : Outcome). o.answer) n outcomes)
      (ap (take n) s.places-stored ∙ front-take places (places_in outcomes) (omega (arith, count-places, s.places-fit)) n (omega (arith, count-places)) ∙ take-map (λ (o : Outcome). o.place) n outcomes)
      ∙ outcomes-whole (take n outcomes)
