-- A run of packed messages, turn by turn: what is done so far and what the rest of the bytes will do make up the whole.
use mathlib.Core.Bool.{true}
use mathlib.Core.List.{List, ◌∷◌, map}
use mathlib.Core.Logic.{◌≢◌}
use mathlib.Core.Path.{◌≡◌, refl, sym, ap, ◌∙◌}
use Prim.Native.Nat.{ℕ, suc, ◌+◌, ◌-◌, ◌≤◌, ◌<◌, min}
use native.Mathlib.Omega.{arith}
use lib.IntN.{ℤ}
use lib.ListN.{length, take, drop, set, length-set, length-drop}
use lib.Seq.{sets, take-length, drop-drop}
use Rattle.words.specs.Rules.{Outcome}
use Rattle.laws.proofs.Cases.{by-eq}
use Rattle.meaning.specs.Settings.{Setting}
use Rattle.meaning.specs.Ledgers.{contracts}
use Rattle.meaning.specs.Books as Meaning
use Rattle.meaning.specs.Soundness.{sound}
use Rattle.meaning.specs.PackedMessages.{read_message}
use Rattle.meaning.specs.PackedCalls.{Step, stepped, Run, nothing_run, answers_in, places_in, applied_all}
use Rattle.meaning.proofs.OnlyClock.{OnlyClock, clock-alone, packed-moves-clock}
use Rattle.meaning.proofs.PackedCalls.{read-takes, stepped-read, stepped-unread, unread-stays, takes-read, stepped-sound, no_room, bytes-ended, unreadable, one_more}
use Rattle.setups.specs.declared.Setup.{Setup}
use Rattle.book.specs.declared.Book.{Book}
use Rattle.book.specs.Structs.{setting_in, book_of}
use Rattle.calls.specs.Answers.{book_at, ran_of, StepDone}
use Rattle.calls.specs.declared.AppliedAll.{AppliedAll}
use Rattle.calls.proofs.Promises.{Steps}

-- ---- what is done and what is ahead

-- what is written of each outcome, its answer or its place, in a lent buffer: so many are, and the rest follow
abbrev Stored : (Outcome → ℕ) → Run → Run → List ℕ → List ℕ → ℕ → Type 0
Stored f total rest buffer₀ buffer done = sets buffer₀ 0 (map f total.outcomes) ≡ sets buffer done (map f rest.outcomes)

stored_one : (f : Outcome → ℕ) (total rest : Run) (buffer₀ buffer : List ℕ) (done : ℕ) (more : Run) (told : Outcome) (taken : ℕ) → Stored f total rest buffer₀ buffer done
    → rest ≡ record { outcomes = told ∷ more.outcomes; used = taken + more.used; book = more.book }
    → Stored f total more buffer₀ (set buffer done (f told)) (done + 1)
stored_one f total rest buffer₀ buffer done more told taken a e =
    let next : suc done ≡ done + 1 = omega arith in
    a
    ∙ ap (λ (r : Run). sets buffer done (map f r.outcomes)) e
    ∙ ap (λ (k : ℕ). sets (set buffer done (f told)) k (map f more.outcomes)) next

abbrev answer_of : Outcome → ℕ
answer_of told = told.answer

abbrev place_of : Outcome → ℕ
place_of told = told.place

pub record Ahead (total rest : Run) (answers₀ answers places₀ places : List ℕ) (bytes done : ℕ) : Type 0 where
  pub book : total.book ≡ rest.book
  pub used : total.used ≡ bytes + rest.used
  pub count : length total.outcomes ≡ done + length rest.outcomes
  pub stored : Stored answer_of total rest answers₀ answers done
  pub beside : Stored place_of total rest places₀ places done

pub ahead-start : (total : Run) (answers places : List ℕ) → Ahead total total answers answers places places 0 0
ahead-start total answers places = record { book = refl; used = omega arith; count = omega arith; stored = refl; beside = refl }

-- one message more
pub ahead-one : {total rest : Run} {answers₀ answers places₀ places : List ℕ} {used done : ℕ} (more : Run) (told : Outcome) (taken : ℕ)
    → Ahead total rest answers₀ answers places₀ places used done
    → rest ≡ record { outcomes = told ∷ more.outcomes; used = taken + more.used; book = more.book }
    → Ahead total more answers₀ (set answers done told.answer) places₀ (set places done told.place) (used + taken) (done + 1)
ahead-one {total} {rest} {answers₀} {answers} {places₀} {places} {used} {done} more told taken a e =
    record {
      book = a.book ∙ ap (λ (r : Run). r.book) e;
      used = omega (arith, a.used, ap (λ (r : Run). r.used) e);
      count = omega (arith, a.count, ap (λ (r : Run). length r.outcomes) e);
      stored = stored_one answer_of total rest answers₀ answers done more told taken a.stored e;
      beside = stored_one place_of total rest places₀ places done more told taken a.beside e;
    }

-- what a run gives where nothing is left to do
pub ahead_none : {total rest : Run} {answers₀ answers places₀ places : List ℕ} {used done : ℕ} (b after : Book) (w : Meaning.Book contracts)
    → Ahead total rest answers₀ answers places₀ places used done
    → rest ≡ nothing_run w → after ≡ book_at b w
    → (record { answer = 0; done = done; used = used; book = after } ≡ ran_of b 0 total)
    × (w.ledger.held ≡ total.book.ledger.held) × (w.ledger.side1 ≡ total.book.ledger.side1) × (w.ledger.side2 ≡ total.book.ledger.side2)
    × (answers ≡ sets answers₀ 0 (answers_in total.outcomes)) × (places ≡ sets places₀ 0 (places_in total.outcomes))
ahead_none {total} {rest} {answers₀} {answers} {places₀} {places} {used} {done} b after w a e p =
    let w' : total.book ≡ w = a.book ∙ ap (λ (r : Run). r.book) e in
    let d : length total.outcomes ≡ done = omega (arith, a.count, ap (λ (r : Run). length r.outcomes) e) in
    let u : total.used ≡ used = omega (arith, a.used, ap (λ (r : Run). r.used) e) in (
      rw (d, u, w') (ap (λ (z : Book). record { answer = 0; done = done; used = used; book = z }) p),
      rw w' refl,
      rw w' refl,
      rw w' refl,
      sym (a.stored ∙ ap (λ (r : Run). sets answers done (answers_in r.outcomes)) e),
      sym (a.beside ∙ ap (λ (r : Run). sets places done (places_in r.outcomes)) e),
    )

-- the part of the bytes from a place on is what is left of them
pub rest_part : (bytes : List ℕ) (k : ℕ) → take (length bytes - k) (drop k bytes) ≡ drop k bytes
rest_part bytes k = ap (λ (n : ℕ). take n (drop k bytes)) (sym (length-drop k bytes)) ∙ take-length (drop k bytes)

-- ---- the book by value beside the tables holds what a step leaves

pub step-moves-clock : (w : Meaning.Book contracts) (bytes : List ℕ) → OnlyClock w.setting (stepped w bytes).book.setting
step-moves-clock w bytes =
    by-eq (read_message bytes).answer 0
    (λ e. rw (stepped-read bytes w e) (packed-moves-clock w (read_message bytes).read))
    (λ n. rw (stepped-unread bytes w n) (clock-alone w.setting))

-- it has the setting that it came with, but for the clock
pub holds-book : (b : Book) (w : Meaning.Book contracts) → OnlyClock (setting_in b) w.setting
    → book_of (book_at b w) w.ledger.held w.ledger.side1 w.ledger.side2 ≡ w
holds-book b w e = ap (λ (s : Setting). record { setting = s; ledger = w.ledger }) (sym e)

-- ---- between two turns

pub record Running (bytes : List ℕ) (b : Book) (held₀ : List ℕ) (side1₀ side2₀ : List ℤ) (answers₀ places₀ : List ℕ)
    (held : List ℕ) (side1 side2 : List ℤ) (answers places : List ℕ) (now : Book) (used done : ℕ) : Type 0 where
  pub is-sound : sound (book_of now held side1 side2) ≡ true
  pub same-setup : now.setup ≡ b.setup
  pub used-few : used ≤ length bytes
  pub done-few : done ≤ min (length answers₀) (length places₀)
  pub answers-length : length answers ≡ length answers₀
  pub places-length : length places ≡ length places₀
  pub held-length : length held ≡ length held₀
  pub side1-length : length side1 ≡ length side1₀
  pub side2-length : length side2 ≡ length side2₀
  pub ahead : Ahead
      (applied_all (min (length answers₀) (length places₀)) (book_of b held₀ side1₀ side2₀) bytes)
      (applied_all (min (length answers₀) (length places₀) - done) (book_of now held side1 side2) (drop used bytes))
      answers₀ answers places₀ places used done

module _ (bytes : List ℕ) (b : Book) (held₀ : List ℕ) (side1₀ side2₀ : List ℤ) (answers₀ places₀ : List ℕ) where
  -- as many as both buffers have room for
  abbrev room : ℕ
  room = min (length answers₀) (length places₀)

  abbrev total : Run
  total = applied_all room (book_of b held₀ side1₀ side2₀) bytes

  pub running-start : sound (book_of b held₀ side1₀ side2₀) ≡ true
      → Running bytes b held₀ side1₀ side2₀ answers₀ places₀ held₀ side1₀ side2₀ answers₀ places₀ b 0 0
  running-start s =
      let all : room - 0 ≡ room = omega arith in
      record {
        is-sound = s;
        same-setup = refl;
        used-few = omega arith;
        done-few = omega arith;
        answers-length = refl;
        places-length = refl;
        held-length = refl;
        side1-length = refl;
        side2-length = refl;
        ahead = rw all (ahead-start total answers₀ places₀);
      }

  -- what the run gives
  abbrev pub Ran : AppliedAll → List ℕ → List ℤ → List ℤ → List ℕ → List ℕ → Type 0
  Ran r h l1 l2 left beside =
      (r ≡ ran_of b 0 total) × (h ≡ total.book.ledger.held) × (l1 ≡ total.book.ledger.side1) × (l2 ≡ total.book.ledger.side2) × (left ≡ sets answers₀ 0 (answers_in total.outcomes)) × (beside ≡ sets places₀ 0 (places_in total.outcomes))

  module _ {held : List ℕ} {side1 side2 : List ℤ} {answers places : List ℕ} {now : Book} {used done : ℕ}
      (r : Running bytes b held₀ side1₀ side2₀ answers₀ places₀ held side1 side2 answers places now used done) where
    abbrev current : Meaning.Book contracts
    current = book_of now held side1 side2

    abbrev one : Step
    one = stepped current (drop used bytes)

    -- the book that the run came with, and the gates that are closed now
    now-book : (w : Meaning.Book contracts) → book_at now w ≡ book_at b w
    now-book w = ap (λ (s : Setup). record { setup = s; closed = w.setting.time.closed }) r.same-setup

    module _ (left : done < room) (more : used < length bytes) where
      not-empty : length (drop used bytes) ≢ 0
      not-empty z = omega (arith, length-drop used bytes, z)

      next-room : room - done ≡ suc (room - (done + 1))
      next-room = omega arith

      -- an unreadable message ends it
      pub running-last : (a : StepDone) (h : List ℕ) (l1 l2 : List ℤ) → Steps now held side1 side2 (drop used bytes) a h l1 l2 → a.length ≡ 0
          → Ran (record { answer = 0; done = done + 1; used = used; book = a.book }) h l1 l2 (set answers done a.answer) (set places done a.place)
      running-last a h l1 l2 p e =
          let none : one.length ≡ 0 = sym (ap (λ (x : StepDone). x.length) p.0) ∙ e in
          let stays : one.book ≡ current = ap (λ (x : Step). x.book) (stepped-unread (drop used bytes) current (unread-stays (drop used bytes) current none)) in
          let rest = ap (λ (k : ℕ). applied_all k current (drop used bytes)) next-room ∙ unreadable current (drop used bytes) (room - (done + 1)) not-empty none in
          let ended = ahead_none b a.book current (ahead-one (nothing_run current) one.outcome 0 r.ahead rest) refl (ap (λ (x : StepDone). x.book) p.0 ∙ ap (book_at now) stays ∙ now-book current) in
          let at_last : used + 0 ≡ used = omega arith in (
            sym (ap (λ (k : ℕ). record { answer = 0; done = done + 1; used = k; book = a.book }) at_last) ∙ ended.0,
            p.1 ∙ ap (λ (w : Meaning.Book contracts). w.ledger.held) stays ∙ ended.1,
            p.2 ∙ ap (λ (w : Meaning.Book contracts). w.ledger.side1) stays ∙ ended.2,
            p.3 ∙ ap (λ (w : Meaning.Book contracts). w.ledger.side2) stays ∙ ended.3,
            ap (λ (x : StepDone). set answers done x.answer) p.0 ∙ ended.4,
            ap (λ (x : StepDone). set places done x.place) p.0 ∙ ended.5,
          )

      -- a message that is read takes some of the bytes
      pub takes-some : (a : StepDone) (h : List ℕ) (l1 l2 : List ℤ) → Steps now held side1 side2 (drop used bytes) a h l1 l2 → used + a.length ≤ length bytes
      takes-some a h l1 l2 p =
          let taken : a.length ≡ one.length = ap (λ (x : StepDone). x.length) p.0 in
          by-eq one.length 0
          (λ z. omega (arith, taken, z))
          (λ n.
          let e = takes-read (drop used bytes) current n in
          omega (arith, taken, ap (λ (x : Step). x.length) (stepped-read (drop used bytes) current e), (read-takes (drop used bytes) e).1, length-drop used bytes))

      pub running-one : (a : StepDone) (h : List ℕ) (l1 l2 : List ℤ) → Steps now held side1 side2 (drop used bytes) a h l1 l2 → a.length ≢ 0
          → length h ≡ length held → length l1 ≡ length side1 → length l2 ≡ length side2
          → Running bytes b held₀ side1₀ side2₀ answers₀ places₀ h l1 l2 (set answers done a.answer) (set places done a.place) a.book (used + a.length) (done + 1)
      running-one a h l1 l2 p n k0 k1 k2 =
          let taken : a.length ≡ one.length = ap (λ (x : StepDone). x.length) p.0 in
          let answered : a.answer ≡ one.outcome.answer = ap (λ (x : StepDone). x.answer) p.0 in
          let placed : a.place ≡ one.outcome.place = ap (λ (x : StepDone). x.place) p.0 in
          let book : a.book ≡ book_at now one.book = ap (λ (x : StepDone). x.book) p.0 in
          let after : book_of a.book h l1 l2 ≡ one.book =
          rw (book, p.1, p.2, p.3) (holds-book now one.book (step-moves-clock current (drop used bytes))) in
          let rest =
          ap (λ (k : ℕ). applied_all k current (drop used bytes)) next-room
          ∙ one_more current (drop used bytes) (room - (done + 1)) not-empty (λ z. n (taken ∙ z)) in
          let later : drop one.length (drop used bytes) ≡ drop (used + a.length) bytes = drop-drop one.length used bytes ∙ ap (λ (k : ℕ). drop (used + k) bytes) (sym taken) in
          let next : Run = applied_all (room - (done + 1)) one.book (drop one.length (drop used bytes)) in
          record {
            is-sound = rw after (stepped-sound (drop used bytes) current r.is-sound);
            same-setup = ap (λ (x : Book). x.setup) book ∙ r.same-setup;
            used-few = takes-some a h l1 l2 p;
            done-few = omega arith;
            answers-length = length-set answers done a.answer ∙ r.answers-length;
            places-length = length-set places done a.place ∙ r.places-length;
            held-length = k0 ∙ r.held-length;
            side1-length = k1 ∙ r.side1-length;
            side2-length = k2 ∙ r.side2-length;
            ahead = rw (after, ← later, answered, placed, taken) (ahead-one next one.outcome one.length r.ahead rest);
          }

    -- with no room or no bytes left nothing is ahead
    ended : applied_all (room - done) current (drop used bytes) ≡ nothing_run current → Ran (record { answer = 0; done = done; used = used; book = now }) held side1 side2 answers places
    ended e = ahead_none b now current r.ahead e (now-book current)

    pub running-full : room ≤ done → Ran (record { answer = 0; done = done; used = used; book = now }) held side1 side2 answers places
    running-full l = ended (no_room current (drop used bytes) (room - done) (omega arith))

    pub running-out : length bytes ≤ used → Ran (record { answer = 0; done = done; used = used; book = now }) held side1 side2 answers places
    running-out l = ended (bytes-ended current (drop used bytes) (room - done) (omega (arith, length-drop used bytes)))
