-- Document 01, "Packed messages": the bytes that a writer says of a gate, of a nullification, and of notifications of 0, 1, 48 and 50 entries.
use mathlib.Core.Path.{◌≡◌, refl}
use mathlib.Core.Bool.{Bool, true}
use mathlib.Core.List.{List, [], ◌∷◌}
use Prim.Native.Nat.{ℕ}
use lib.IntN.{pos}
use lib.ListN.{replicate}
use Rattle.words.specs.Tests.{◌=?◌}
use Rattle.words.specs.Lists.{every}
use Rattle.meaning.specs.Messages.{notification, nullification}
use Rattle.meaning.specs.PackedMessages.{Packed, gate, message, write_message}
use Rattle.meaning.proofs.Opened as Opened

abbrev size : Packed → ℕ
size m = (write_message m (replicate 224 0)).length

abbrev of_entries : ℕ → Packed
of_entries n =
    message (notification (record {
      authorisation = 0;
      agent = 7;
      key = 500;
      identifier = 1;
      first = 100;
      last = 100;
      entries = replicate n (record { period = 1; volume = pos 5000 });
    }))

abbrev sizes : List Bool
sizes =
    (size gate =? 1)
    ∷ (size (message (nullification (record { account = 0; other = 1; first = 100 }))) =? 4)
    ∷ (size (of_entries 0) =? 12)
    ∷ (size (of_entries 1) =? 16)
    ∷ (size (of_entries 48) =? 216)
    ∷ (size (of_entries 50) =? 224)
    ∷ []

pub the_sizes : every (λ p. p) sizes ≡ true
unfolding Opened.opened
the_sizes = refl
