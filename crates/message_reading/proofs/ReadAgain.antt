-- The struct that reading gives holds the message that the bytes hold.
use mathlib.Core.List.{List}
use mathlib.Core.Path.{◌≡◌, sym, ◌∙◌}
use Prim.Native.Nat.{ℕ, ◌≤◌}
use lib.ListN.{length}
use Rattle.meaning.specs.PackedMessages.{entries_of, read_message}
use Rattle.meaning.proofs.MessageValues as Values
use Rattle.meaning.proofs.PackedMessageRules.{reading-answer, reading-done, readable}
use Rattle.messages.specs.Structs.{message_of}
use Rattle.messages.proofs.Settled.{message-again}
use Rattle.message_reading.specs.Structs.{message_read}

-- bytes that are read hold at most 50 entries
few-entries : (bytes : List ℕ) → (read_message bytes).answer ≡ 0 → length (entries_of (read_message bytes).read) ≤ 50
few-entries bytes e =
    let a = sym (reading-answer bytes) ∙ e in
    let r = readable bytes a in
    let g = Values.message-again bytes r.kind in
    rw (reading-done bytes a, g.count) r.count

-- the struct that `read_message` gives holds the message that the bytes hold
pub read-message-again : (bytes : List ℕ) → (read_message bytes).answer ≡ 0 → message_of (message_read (read_message bytes)).message ≡ (read_message bytes).read
unfolding message_read
read-message-again bytes e = message-again (read_message bytes).read (few-entries bytes e)
