-- The walk through the table gives what the definition says, for every byte string. So each has an answer, and an example's is computed.
use mathlib.Core.Bool.{true, ◌&&◌, true≢false}
use mathlib.Core.List.{List, [], ◌∷◌}
use mathlib.Core.Path.{◌≡◌, refl, sym, ◌∙◌, subst}
use Prim.Native.Nat.{ℕ, zero, suc, ◌+◌, ◌≤◌, ◌<◌}
use native.Mathlib.Numerals.{add-one}
use native.Mathlib.Omega.{arith}
use lib.ListN.{length, take, drop, get_or, drop_of_length-le}
use lib.Seq.{take_all, drop-cons}
use borrow.Author.Tests.{eqb-true, eqb-false, eq-eqb, leb-true, leb-false}
use Rattle.words.specs.Lists.{every}
use Rattle.words.specs.Rules.{Outcome}
use Rattle.std.specs.Prelude.{if◌then◌else◌}
use Rattle.words.specs.Tests.{◌=?◌}
use Rattle.laws.proofs.Bits.{Bytes}
use Rattle.laws.proofs.Cases.{on, and_left, and_right, both}
use Rattle.spreadsheets.specs.Entries.{entries}
use Rattle.spreadsheets.specs.Refusals.{valid, File, Judged, accepted}
use Rattle.spreadsheets.specs.Writing.{writable}
use Rattle.spreadsheets.proofs.Unique.{unique}
use Rattle.spreadsheet_reading.specs.Machine.{column_of, turn_at, is_state, state_in, refusal_in, walk, told_of}
use Rattle.spreadsheet_reading.proofs.Judging.{refused-here, refused-most, refused_end, judged-file, refusal-some}
use Rattle.spreadsheet_reading.proofs.Known.{Known, known_start, known_next, entries-fine}

module _ (s : List ℕ) where
  -- the answer is the definition's, and the entries of a file that is accepted can be written
  record Told (told : Outcome) : Type 0 where
    judged : Judged s told.answer told.place
    fine : told.answer ≡ 0 → every writable (entries s) ≡ true

  refusing : (turn place : ℕ) → Judged s (refusal_in turn) place → Told (record { answer = refusal_in turn; place = place })
  refusing turn place j = record { judged = j; fine = λ e. absurd (true≢false (sym (eq-eqb (refusal_in turn) 0 e) ∙ refusal-some turn)) }

  at-end : (state begun : ℕ) → Known s state begun → Told (walk state begun (length s) [])
  unfolding walk
  at-end state begun k =
      let turn = turn_at state 18 in
      on (turn =? 46)
      (λ e.
      let f = eqb-true turn 46 e in
      rw e (record { judged = judged-file s state begun k.reached k.few f; fine = λ z. entries-fine s state begun k f }))
      (λ e. rw e (refusing turn (length s) (refused_end s state begun k.reached k.few turn (length s) refl refl (eqb-false turn 46 e))))

  module _ (bytes : Bytes s) where
    one-turn : (i state begun : ℕ) (later : List ℕ) → i < length s → Known (take i s) state begun
        → (Known (take (i + 1) s) (state_in (turn_at state (column_of (get_or s i 0)))) (if state =? 25 then begun + 1 else begun)
        → Told (walk (state_in (turn_at state (column_of (get_or s i 0)))) (if state =? 25 then begun + 1 else begun) (i + 1) later))
        → Told (walk state begun i (get_or s i 0 ∷ later))
    unfolding walk
    one-turn i state begun later h k next =
        let turn = turn_at state (column_of (get_or s i 0)) in
        on (is_state turn)
        (λ e. on (state =? 25 && begun =? 50)
        (λ f. rw (e, f) (record {
          judged =
              refused-most s i state begun h (bytes i h) k.reached k.few (leb-true 65 turn e)
              (eqb-true state 25 (and_left (state =? 25) (begun =? 50) f)) (eqb-true begun 50 (and_right (state =? 25) (begun =? 50) f));
          fine = λ z. absurd (omega arith);
        }))
        (λ f. rw (e, f) (next (known_next s i state begun turn h (bytes i h) k refl (leb-true 65 turn e)
        (λ p q. true≢false (sym (both (eq-eqb state 25 p) (eq-eqb begun 50 q)) ∙ f))))))
        (λ e. rw e (refusing turn i (refused-here s i state begun h (bytes i h) k.reached k.few turn refl (omega (arith, leb-false 65 turn e)))))

    walked : (n i state begun : ℕ) → i + n ≡ length s → Known (take i s) state begun → Told (walk state begun i (drop i s))
    walked zero i state begun e k =
        let all : i ≡ length s = omega arith in
        let past : length s ≤ i = omega arith in
        rw (drop_of_length-le s past, all) (at-end state begun (subst (λ (u : List ℕ). Known u state begun) (take_all i s (omega arith)) k))
    walked (suc n) i state begun e k =
        let later = drop (suc i) s in
        rw (drop-cons s i 0 (omega arith))
        (one-turn i state begun later (omega arith) k
        (λ k'. subst (λ (m : ℕ). Told (walk (state_in (turn_at state (column_of (get_or s i 0)))) (if state =? 25 then begun + 1 else begun) (i + 1) (drop m s))) (add-one i)
        (walked n (i + 1) (state_in (turn_at state (column_of (get_or s i 0)))) (if state =? 25 then begun + 1 else begun) (omega arith) k')))

    told : Told (told_of s)
    told = walked (length s) 0 0 0 (omega arith) known_start

    pub walk-judged : Judged s (told_of s).answer (told_of s).place
    walk-judged = told.judged

    -- every entry of a valid file can be written: its period is at most 99 and its volume in range
    pub read-writable : File valid s → every writable (entries s) ≡ true
    read-writable f = told.fine (unique s (told_of s).answer 0 (told_of s).place (length s) walk-judged (accepted f)).0
