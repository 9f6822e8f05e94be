-- Our table, document 01's "Packed messages": a notification byte by byte, with another value in every
-- field, and the messages that are refused.
use mathlib.Core.Bool.{Bool, ◌&&◌}
use mathlib.Core.List.{List, [], ◌∷◌, ◌++◌}
use Prim.Native.Nat.{ℕ}
use lib.IntN.{ℤ, pos, neg_ℤ}
use lib.ListN.{replicate}
use Rattle.words.specs.Tests.{◌=?◌}
use Rattle.meaning.specs.Messages.{notification, nullification}
use Rattle.meaning.specs.PackedMessages.{Packed, Reading, Written, values_of, read_message, write_message}
use Rattle.meaning.proofs.Stories.{◌/₁◌, entry, letter, alike}

-- what is read, by its answer, its length and the values of its fields; and what is written
abbrev pub reads : {A : Type 0} → (A → List ℕ) → Reading A → ℕ → ℕ → List ℕ → Bool
reads values r number len vs = r.answer =? number && r.length =? len && alike ◌=?◌ (values r.read) vs

abbrev pub writes : Written → ℕ → ℕ → List ℕ → Bool
writes w number len out = w.answer =? number && w.length =? len && alike ◌=?◌ w.out out

-- under 2 by agent 9 with key 700: 1/3, days 100 to 102, period 4: 5000 and period 6: -20
abbrev some_letter : Packed
some_letter = Packed.message (notification (letter 2 9 700 (1 /₁ 3) 100 102 (entry 4 (pos 5000) ∷ entry 6 (neg_ℤ (pos 20)) ∷ [])))

abbrev its_values : List ℕ
its_values = 1 ∷ 2 ∷ 9 ∷ 700 ∷ 1 ∷ 3 ∷ 100 ∷ 102 ∷ 2 ∷ 4 ∷ 5000 ∷ 6 ∷ 268435436 ∷ []

abbrev its_bytes : List ℕ
its_bytes = 0x42 ∷ 0x09 ∷ 0x02 ∷ 0xBC ∷ 0x04 ∷ 0x00 ∷ 0x0C ∷ 0x01 ∷ 0x90 ∷ 0x01 ∷ 0x98 ∷ 0x21 ∷ 0x00 ∷ 0x00 ∷ 0x4E ∷ 0x20 ∷ 0x6F ∷ 0xFF ∷ 0xFF ∷ 0xEC ∷ []

-- "kind 1 (2), authorisation 6, agent 8, key 16, originator 6, reference 16, first day 16, last day 16, count 6; then per entry period 6, volume 28 in
-- two's complement"; "bytes past what is written stay"; "Bytes after a message belong to the next."
abbrev the_notification : Bool
the_notification =
    writes (write_message some_letter (replicate 21 0xFF)) 0 20 (its_bytes ++ (0xFF ∷ []))
    && reads values_of (read_message (its_bytes ++ (0xFF ∷ []))) 0 20 its_values

-- "Gate: kind 0 (2 bits). One byte."; "Nullification: kind 2 (2), account 6, account 6, first day 16. Four bytes." (written in P13)
abbrev the_short_ones : Bool
the_short_ones =
    writes (write_message Packed.gate (0xFF ∷ 0xFF ∷ [])) 0 1 (0x00 ∷ 0xFF ∷ [])
    && reads values_of (read_message (0x00 ∷ [])) 0 1 (0 ∷ [])
    && reads values_of (read_message (0x80 ∷ 0x04 ∷ 0x01 ∷ 0x90 ∷ [])) 0 4 (2 ∷ 0 ∷ 1 ∷ 100 ∷ [])

-- "19: bytes end too soon. 20: message kind 3. 21: more than 50 entries. 22: a padding bit is 1": a kind 3 with a padding bit, 51 entries in twelve
-- bytes, 50 in as many; "its other results are zero"
abbrev the_unreadable : Bool
the_unreadable =
    let unreadable : ℕ → List ℕ → Bool = λ number bytes. reads values_of (read_message bytes) number 0 (0 ∷ []) in
    unreadable 19 []
    && unreadable 20 (0xC1 ∷ [])
    && unreadable 19 (0x80 ∷ 0x04 ∷ 0x01 ∷ [])
    && unreadable 19 (0x40 ∷ (replicate 9 0 ++ (0x03 ∷ [])))
    && unreadable 21 (0x40 ∷ (replicate 9 0 ++ (0x03 ∷ 0x30 ∷ [])))
    && unreadable 19 (0x40 ∷ (replicate 9 0 ++ (0x03 ∷ 0x20 ∷ [])))
    && unreadable 22 (0x80 ∷ 0x04 ∷ 0x01 ∷ 0x91 ∷ [])
    && unreadable 22 (0x01 ∷ [])

-- "a message of kind 3 gives 20 first .. after these 23, then 24"; "23: a value does not fit its field, or more than 50 entries to write"; "A refusal
-- leaves all .. output buffers .. unchanged"
abbrev the_unwritable : Bool
the_unwritable =
    let volume : ℤ → Packed = λ v. Packed.message (notification (letter 2 9 700 (1 /₁ 3) 100 102 (entry 4 v ∷ []))) in
    writes (write_message (Packed.other_kind 0) []) 20 0 []
    && writes (write_message (Packed.message (nullification (record { account = 63; other = 1; first = 100 }))) []) 24 0 []
    && writes (write_message (Packed.message (nullification (record { account = 64; other = 1; first = 100 }))) []) 23 0 []
    && writes (write_message (volume (pos 134217727)) []) 24 0 []
    && writes (write_message (volume (pos 134217728)) []) 23 0 []
    && writes (write_message (volume (neg_ℤ (pos 134217728))) []) 24 0 []
    && writes (write_message (Packed.message (notification (letter 2 9 700 (1 /₁ 3) 100 102 (replicate 50 (entry 4 (pos 5)))))) []) 24 0 []
    && writes (write_message (Packed.message (notification (letter 2 9 700 (1 /₁ 3) 100 102 (replicate 51 (entry 4 (pos 5)))))) []) 23 0 []
    && writes (write_message some_letter (replicate 19 0xFF)) 24 0 (replicate 19 0xFF)

abbrev pub packed_messages : List Bool
packed_messages = the_notification ∷ the_short_ones ∷ the_unreadable ∷ the_unwritable ∷ []
