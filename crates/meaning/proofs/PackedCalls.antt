-- A run of packed messages, opened step by step; it is the calls that its bytes hold; and soundness is kept throughout.
use mathlib.Core.Bool.{true, false}
use mathlib.Core.List.{List, [], ◌∷◌, ◌++◌, append-nil}
use mathlib.Core.Logic.{◌≢◌}
use mathlib.Core.Path.{◌≡◌, refl, sym, ap, ◌∙◌}
use Prim.Native.Nat.{ℕ, zero, suc, ◌+◌, ◌≤◌, ◌<◌}
use native.Mathlib.Omega.{arith}
use lib.ListN.{length, drop}
use borrow.Author.Tests.{eq-eqb, ne_eqb}
use Rattle.words.specs.Rules.{outcome, placeless}
use Rattle.words.specs.Runs.{run}
use Rattle.laws.proofs.Cases.{by-eq}
use Rattle.laws.proofs.Runs.{run-append, run-keeps}
use Rattle.meaning.specs.Ledgers.{contracts}
use Rattle.meaning.specs.Books.{Book}
use Rattle.meaning.specs.Soundness.{sound}
use Rattle.meaning.specs.Calls.{Call, accepted, act}
use Rattle.meaning.specs.History.{event, after}
use Rattle.meaning.specs.PackedMessages.{read_message}
use Rattle.meaning.specs.PackedCalls.{calls_of, message_rules, Step, stepped, Run, nothing_run, applied_all, run_answer, run_on, calls_in}
use Rattle.meaning.proofs.Contracts.{contracts-lawful}
use Rattle.meaning.proofs.Keeps.{keeps-sound}
use Rattle.meaning.proofs.PackedMessageRules.{reading-answer, reading-done, readable, layout-begins}

-- ---- calls after calls

pub after-append : (b : Book contracts) (cs ds : List (Call contracts)) → after b (cs ++ ds) ≡ after (after b cs) ds
unfolding after
after-append b cs ds = run-append accepted act event cs ds b

-- soundness is kept by every call, so by any calls
pub calls-keep-sound : (b : Book contracts) (cs : List (Call contracts)) → sound b ≡ true → sound (after b cs) ≡ true
unfolding after
calls-keep-sound b cs s =
    run-keeps accepted act event (λ (x : Book contracts). sound x ≡ true) (λ x c a e. keeps-sound contracts-lawful x c a e) cs b s

-- ---- a step of a run

module _ (bytes : List ℕ) where
  -- a message that is read takes a byte or more, and no more than there are
  pub read-takes : (read_message bytes).answer ≡ 0 → (0 < (read_message bytes).length) × ((read_message bytes).length ≤ length bytes)
  read-takes e =
      let a = sym (reading-answer bytes) ∙ e in
      rw (reading-done bytes a) (omega (arith, layout-begins bytes), (readable bytes a).whole)

  module _ (b : Book contracts) where
    pub stepped-read : (read_message bytes).answer ≡ 0
        → stepped b bytes ≡ record { outcome = outcome (message_rules b (read_message bytes).read); length = (read_message bytes).length; book = after b (calls_of (read_message bytes).read) }
    unfolding stepped
    stepped-read e = rw (eq-eqb (read_message bytes).answer 0 e)

    pub stepped-unread : (read_message bytes).answer ≢ 0 → stepped b bytes ≡ record { outcome = placeless (read_message bytes).answer; length = 0; book = b }
    unfolding stepped
    stepped-unread n = rw (ne_eqb (read_message bytes).answer 0 n)

    -- it takes no byte exactly where it is unreadable, and then leaves the book
    pub unread-stays : (stepped b bytes).length ≡ 0 → (read_message bytes).answer ≢ 0
    unread-stays e a = omega (arith, (read-takes a).0, sym (ap (λ (x : Step). x.length) (stepped-read a)) ∙ e)

    pub takes-read : (stepped b bytes).length ≢ 0 → (read_message bytes).answer ≡ 0
    takes-read n =
        by-eq (read_message bytes).answer 0 (λ e. e) (λ u. absurd (n (ap (λ (x : Step). x.length) (stepped-unread u))))

    pub stepped-sound : sound b ≡ true → sound (stepped b bytes).book ≡ true
    stepped-sound s =
        by-eq (read_message bytes).answer 0
        (λ e. ap (λ (x : Step). sound x.book) (stepped-read e) ∙ calls-keep-sound b (calls_of (read_message bytes).read) s)
        (λ u. ap (λ (x : Step). sound x.book) (stepped-unread u) ∙ s)

-- ---- a run of packed messages

module _ (b : Book contracts) (bytes : List ℕ) where
  pub no_room : (room : ℕ) → room ≡ 0 → applied_all room b bytes ≡ nothing_run b
  unfolding applied_all
  no_room room e = rw e

  pub bytes-ended : (room : ℕ) → length bytes ≡ 0 → applied_all room b bytes ≡ nothing_run b
  unfolding applied_all
  bytes-ended zero e = refl
  bytes-ended (suc room) e = rw (eq-eqb (length bytes) 0 e)

  pub unreadable : (room : ℕ) → length bytes ≢ 0 → (stepped b bytes).length ≡ 0
      → applied_all (suc room) b bytes ≡ record { outcomes = (stepped b bytes).outcome ∷ []; used = 0; book = b }
  unfolding applied_all
  unreadable room n e = rw (ne_eqb (length bytes) 0 n, eq-eqb (stepped b bytes).length 0 e)

  pub one_more : (room : ℕ) → length bytes ≢ 0 → (stepped b bytes).length ≢ 0 → let rest = applied_all room (stepped b bytes).book (drop (stepped b bytes).length bytes) in
      applied_all (suc room) b bytes
      ≡ record { outcomes = (stepped b bytes).outcome ∷ rest.outcomes; used = (stepped b bytes).length + rest.used; book = rest.book }
  unfolding applied_all
  one_more room n m = rw (ne_eqb (length bytes) 0 n, ne_eqb (stepped b bytes).length 0 m)

-- no more than there is room for
pub few-outcomes : (room : ℕ) (b : Book contracts) (bytes : List ℕ) → length (applied_all room b bytes).outcomes ≤ room
few-outcomes zero b bytes = rw (no_room b bytes 0 refl) (omega arith)
few-outcomes (suc room) b bytes =
    by-eq (length bytes) 0
    (λ e. rw (bytes-ended b bytes (suc room) e) (omega arith))
    (λ s.
    by-eq (stepped b bytes).length 0
    (λ e. rw (unreadable b bytes room s e) (omega arith))
    (λ t. rw (one_more b bytes room s t) (omega (arith, few-outcomes room (stepped b bytes).book (drop (stepped b bytes).length bytes)))))

-- the calls of a run, opened in the same way
module _ (bytes : List ℕ) (room : ℕ) where
  pub calls-unread : (read_message bytes).answer ≢ 0 → calls_in (suc room) bytes ≡ []
  unfolding calls_in
  calls-unread n = rw (ne_eqb (read_message bytes).answer 0 n)

  calls-more : (read_message bytes).answer ≡ 0 → calls_in (suc room) bytes ≡ calls_of (read_message bytes).read ++ calls_in room (drop (read_message bytes).length bytes)
  unfolding calls_in
  calls-more e = rw (eq-eqb (read_message bytes).answer 0 e)

calls-none : (bytes : List ℕ) → calls_in 0 bytes ≡ []
unfolding calls_in
calls-none bytes = refl

-- with room for one outcome, those of the first message
pub calls-one : (bytes : List ℕ) → (read_message bytes).answer ≡ 0 → calls_in 1 bytes ≡ calls_of (read_message bytes).read
calls-one bytes e =
    let m = (read_message bytes).read in
    calls-more bytes 0 e ∙ ap (λ (cs : List (Call contracts)). calls_of m ++ cs) (calls-none (drop (read_message bytes).length bytes)) ∙ append-nil (calls_of m)

pub after_none : (b : Book contracts) → after b [] ≡ b
unfolding after run
after_none b = refl

-- THE RUN IS ITS CALLS: the book after a run of packed messages is the book after the calls that the bytes hold
module _ (room : ℕ) (b : Book contracts) (bytes : List ℕ) where
  run-unread : (read_message bytes).answer ≢ 0 → (applied_all (suc room) b bytes).book ≡ after b (calls_in (suc room) bytes)
  run-unread u =
      let stays : (applied_all (suc room) b bytes).book ≡ b =
      by-eq (length bytes) 0
      (λ e. ap (λ (x : Run). x.book) (bytes-ended b bytes (suc room) e))
      (λ n. ap (λ (x : Run). x.book) (unreadable b bytes room n (ap (λ (x : Step). x.length) (stepped-unread bytes b u)))) in
      stays ∙ sym (ap (after b) (calls-unread bytes room u) ∙ after_none b)

  run-read : (read_message bytes).answer ≡ 0
      → ((b' : Book contracts) (later : List ℕ) → (applied_all room b' later).book ≡ after b' (calls_in room later))
      → (applied_all (suc room) b bytes).book ≡ after b (calls_in (suc room) bytes)
  run-read e rest =
      let r = read_message bytes in
      let one = stepped-read bytes b e in
      let taken : (stepped b bytes).length ≡ r.length = ap (λ (x : Step). x.length) one in
      let takes = read-takes bytes e in
      ap (λ (x : Run). x.book) (one_more b bytes room (λ z. omega arith) (λ z. omega arith))
      ∙ rest (stepped b bytes).book (drop (stepped b bytes).length bytes)
      ∙ ap (λ (x : Step). after x.book (calls_in room (drop x.length bytes))) one
      ∙ sym (ap (after b) (calls-more bytes room e) ∙ after-append b (calls_of r.read) (calls_in room (drop r.length bytes)))

pub run-is-calls : (room : ℕ) (b : Book contracts) (bytes : List ℕ) → (applied_all room b bytes).book ≡ after b (calls_in room bytes)
unfolding calls_in
run-is-calls zero b bytes = ap (λ (x : Run). x.book) (no_room b bytes 0 refl) ∙ sym (after_none b)
run-is-calls (suc room) b bytes =
    by-eq (read_message bytes).answer 0
    (λ e. run-read room b bytes e (λ b' later. run-is-calls room b' later))
    (λ u. run-unread room b bytes u)

-- ---- a run on tables that may be no book

module _ (b : Book contracts) where
  pub run-unsound : (room : ℕ) (bytes : List ℕ) → sound b ≡ false → (run_answer b ≡ 1) × (run_on room b bytes ≡ nothing_run b)
  unfolding run_answer run_on
  run-unsound room bytes e = rw e (refl, refl)

  pub run_sound : (room : ℕ) (bytes : List ℕ) → sound b ≡ true → (run_answer b ≡ 0) × (run_on room b bytes ≡ applied_all room b bytes)
  unfolding run_answer run_on
  run_sound room bytes e = rw e (refl, refl)
