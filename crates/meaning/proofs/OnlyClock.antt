-- Gates and messages, and so packed messages, move nothing of the setting but its clock: what a book by value beside its tables needs of them.
use mathlib.Core.List.{List}
use mathlib.Core.Path.{◌≡◌, refl, ap, ◌∙◌}
use Prim.Native.Nat.{ℕ, zero, suc}
use lib.Dec.{eqb}
use lib.ListN.{drop}
use Rattle.words.specs.Runs.{step, run}
use Rattle.laws.proofs.Cases.{on}
use Rattle.meaning.specs.Time.{with_gate_closed}
use Rattle.meaning.specs.Settings.{Setting}
use Rattle.meaning.specs.Ledgers.{Sort, contracts}
use Rattle.meaning.specs.Messages.{Message}
use Rattle.meaning.specs.Books.{Book}
use Rattle.meaning.specs.Calls.{Call, gate, message, accepted, act}
use Rattle.meaning.specs.History.{event, after}
use Rattle.meaning.specs.PackedMessages.{Packed, read_message}
use Rattle.meaning.specs.PackedCalls.{calls_of, calls_in}
use Rattle.meaning.proofs.PackedCalls.{after-append}

-- the setting with so many gates closed
abbrev pub at_clock : Setting → ℕ → Setting
at_clock s closed =
    record { time = record { first = s.time.first; codes = s.time.codes; closed = closed }; accounts = s.accounts; rows = s.rows }

-- the second is the first with another clock
abbrev pub OnlyClock : Setting → Setting → Type 0
OnlyClock s s' = s' ≡ at_clock s s'.time.closed

pub clock-alone : (s : Setting) → OnlyClock s s
clock-alone s = refl

clock-then : (s s' s'' : Setting) → OnlyClock s s' → OnlyClock s' s'' → OnlyClock s s''
clock-then s s' s'' p q = q ∙ ap (λ (x : Setting). at_clock x s''.time.closed) p

module _ {K : Sort} (b : Book K) where
  gate-acts : OnlyClock b.setting (act b gate).setting
  unfolding act with_gate_closed
  gate-acts = refl

  message-acts : (m : Message K) → OnlyClock b.setting (act b (message m)).setting
  unfolding act
  message-acts m = refl

  refused-or : (c : Call K) → OnlyClock b.setting (act b c).setting → OnlyClock b.setting (step accepted act event b c).setting
  refused-or c h = on (accepted b c) (λ a. rw a h) (λ a. rw a refl)

  pub message-moves-clock : (m : Message K) → OnlyClock b.setting (step accepted act event b (message m)).setting
  message-moves-clock m = refused-or (message m) (message-acts m)

pub packed-moves-clock : (b : Book contracts) (p : Packed) → OnlyClock b.setting (after b (calls_of p)).setting
unfolding after run calls_of
packed-moves-clock b Packed.gate = refused-or b gate (gate-acts b)
packed-moves-clock b (Packed.message m) = message-moves-clock b m
packed-moves-clock b (Packed.other_kind k) = refl

pub run-moves-clock : (room : ℕ) (b : Book contracts) (bytes : List ℕ) → OnlyClock b.setting (after b (calls_in room bytes)).setting
unfolding calls_in after run
run-moves-clock zero b bytes = refl
run-moves-clock (suc room) b bytes =
    let r = read_message bytes in
    let later : List (Call contracts) = calls_in room (drop r.length bytes) in
    let next : Book contracts = after b (calls_of r.read) in
    on (eqb r.answer 0)
    (λ e. rw (e, after-append b (calls_of r.read) later)
    (clock-then b.setting next.setting (after next later).setting (packed-moves-clock b r.read) (run-moves-clock room next (drop r.length bytes))))
    (λ e. rw e refl)
