-- A turn from what its calls ensure: the run, the last answer, whether that is waited for, how many are told, and their lines.
use Rattle.std.proofs.Common.{◌≡◌, ℕ, ◌+◌, ◌%◌, ◌^◌, ◌≤◌, Bool, true, false, not, ◌&&◌, ◌||◌, List, length, take, refl, ap, ◌∙◌, arith}
use Rattle.std.specs.Prelude.{Result, Ok, Err}
use Rattle.std.specs.Result.{result_unwrap_or}
use Rattle.limits.specs.declared.refusals.Refusal.{Refusal}
use Rattle.words.specs.Tests.{◌≤?◌}
use Rattle.meaning.specs.PackedCalls.{Run, answers_in}
use Rattle.book.specs.declared.Book.{Book}
use Rattle.calls.specs.Answers.{ran_of, ran_seen}
use Rattle.calls.specs.declared.Run as Ran
use Rattle.calls.specs.declared.AppliedAll.{AppliedAll}
use Rattle.meaning.specs.SheetLines.{message_lines}
use Rattle.sheet_lines.specs.Outcomes.{outcomes_of}
use Rattle.sheet_lines.specs.Places.{all_placed, PutsAll}
use Rattle.sheet_turns.specs.Turns.{last_in, waits_for, waits, count_told, told_count, told, goes, told_lines, seen_after}
use Rattle.sheet_parts.specs.Parts.{turned_of}
use Rattle.sheet_parts.proofs.Answers.{Stored, last_stored, told-stored}

-- A run that is refused has done nothing, and that is what the code goes on with.
pub goes-on : (b : Book) (r : Result Ran.Run Refusal) (ran : Ran.Run) → ran ≡ result_unwrap_or r (record { done = 0; used = 0; book = b })
    → record { answer = (ran_seen b r).answer; done = ran.done; used = ran.used; book = ran.book } ≡ ran_seen b r
goes-on b (Ok run) ran e = rw e
goes-on b (Err refusal) ran e = rw e

-- never more than there are
pub few-told : (waiting : Bool) (count : ℕ) → count_told waiting count ≤ count
unfolding count_told
few-told true count = omega arith
few-told false count = omega arith

module _ (b : Book) (ended : Bool) (size answer : ℕ) (run : Run) (ran : AppliedAll) {answers places answers-left places-left : List ℕ}
    (s : Stored run.outcomes answers places answers-left places-left) (e : ran ≡ ran_of b answer run) where
  last-told : last_in answers-left ran.done ≡ last_in (answers_in run.outcomes) (length run.outcomes)
  last-told = rw e (last_stored s)

  waits-told : (last : ℕ) (waiting : Bool) → last ≡ last_in answers-left ran.done → waiting ≡ waits_for ended size ran.used last → waiting ≡ waits ended size run
  unfolding waits
  waits-told last waiting l w = w ∙ ap (waits_for ended size ran.used) (l ∙ last-told) ∙ ap (λ (r : AppliedAll). waits_for ended size r.used (last_in (answers_in run.outcomes) (length run.outcomes))) e

  module _ (last count : ℕ) (waiting : Bool) (l : last ≡ last_in answers-left ran.done) (w : waiting ≡ waits_for ended size ran.used last) (n : count ≡ count_told waiting ran.done) where
    count-told : count ≡ told_count ended size run
    unfolding told_count
    count-told = n ∙ ap (λ (t : Bool). count_told t ran.done) (waits-told last waiting l w) ∙ ap (λ (r : AppliedAll). count_told (waits ended size run) r.done) e

    pub told-inside : count ≤ length run.outcomes
    unfolding told_count
    told-inside = omega (arith, count-told, few-told (waits ended size run) (length run.outcomes))

    outcomes-told : outcomes_of (take count answers-left) (take count places-left) ≡ told ended size run
    unfolding told
    outcomes-told = told-stored s count told-inside ∙ ap (λ (k : ℕ). take k run.outcomes) count-told

    pub turn-told : (seen : ℕ) (out : List ℕ) (first written after : ℕ) (text : List ℕ) → first ≡ (seen + 1) % 2 ^ 64
        → PutsAll (message_lines first (outcomes_of (take count answers-left) (take count places-left))) out 0 text written
        → after ≡ (seen + count) % 2 ^ 64
        → (record { going = not ended && (size ≤? ran.used || waiting); seen = after; used = ran.used; written = written; book = ran.book } ≡ turned_of b seen ended size (length out) run)
        × (text ≡ all_placed out 0 (told_lines seen (told ended size run)))
    unfolding turned_of goes told_lines seen_after
    turn-told seen out first written after text f p a =
        let lines : message_lines first (outcomes_of (take count answers-left) (take count places-left)) ≡ message_lines ((seen + 1) % 2 ^ 64) (told ended size run) = rw (f, outcomes-told) refl in (
          rw (e, waits-told last waiting l w, p.1, lines, a, count-told) refl,
          p.0 ∙ ap (all_placed out 0) lines,
        )
