-- Our table, packed messages done to a book: "Bytes after a message belong to the next", "The answer gives kind and slot", "its other results are zero".
use mathlib.Core.Bool.{Bool, ◌&&◌}
use mathlib.Core.List.{List, [], ◌∷◌, ◌++◌}
use Prim.Native.Nat.{ℕ}
use Rattle.words.specs.Tests.{◌=?◌}
use Rattle.meaning.specs.Ledgers.{contracts}
use Rattle.meaning.specs.Books.{Book}
use Rattle.meaning.specs.PackedCalls.{apply_rules, applied, answers_in, places_in, run_answer, run_on}
use Rattle.meaning.proofs.Stories.{alike}
use Rattle.meaning.proofs.OurBook.{start, clock, in_order}

-- agent 7 tells 5000 kWh in period 1 of day 100 under authorisation 0, with its key and with another; a gate; a message of kind 3
abbrev told : List ℕ
told = 0x40 ∷ 0x07 ∷ 0x01 ∷ 0xF4 ∷ 0x00 ∷ 0x00 ∷ 0x04 ∷ 0x01 ∷ 0x90 ∷ 0x01 ∷ 0x90 ∷ 0x10 ∷ 0x40 ∷ 0x00 ∷ 0x4E ∷ 0x20 ∷ []

abbrev wrong_key : List ℕ
wrong_key = 0x40 ∷ 0x07 ∷ 0x01 ∷ 0xF5 ∷ 0x00 ∷ 0x00 ∷ 0x04 ∷ 0x01 ∷ 0x90 ∷ 0x01 ∷ 0x90 ∷ 0x10 ∷ 0x40 ∷ 0x00 ∷ 0x4E ∷ 0x20 ∷ []

-- the same in periods 1 and 1
abbrev twice : List ℕ
twice = 0x40 ∷ 0x07 ∷ 0x01 ∷ 0xF4 ∷ 0x00 ∷ 0x00 ∷ 0x04 ∷ 0x01 ∷ 0x90 ∷ 0x01 ∷ 0x90 ∷ 0x20 ∷ 0x40 ∷ 0x00 ∷ 0x4E ∷ 0x20 ∷ 0x10 ∷ 0x00 ∷ 0x13 ∷ 0x88 ∷ []

abbrev closes : List ℕ
closes = 0x00 ∷ []

abbrev unknown : List ℕ
unknown = 0xC1 ∷ []

-- a book that is not sound: 145 gates of 144 are closed
abbrev unsound : Book contracts
unsound = clock 145 start

-- answer, place, kind, slot, length, and the gates closed after it
abbrev applies : Book contracts → List ℕ → ℕ → ℕ → ℕ → ℕ → ℕ → ℕ → Bool
applies b bytes number place kind slot length closed =
    let a = applied b bytes in
    a.answer =? number && a.place =? place && a.kind =? kind && a.slot =? slot && a.length =? length && a.book.setting.time.closed =? closed

-- 1 before reading's numbers, and those before the message's own; kind and slot of an accepted notification alone; with a refusal all is zero but the place of
-- the entry at fault (02, A3)
abbrev the_one_message : Bool
the_one_message =
    in_order (apply_rules start []) (1 ∷ 19 ∷ 20 ∷ 19 ∷ 21 ∷ 19 ∷ 22 ∷ 1 ∷ 2 ∷ [])
    && applies start told 0 0 1 0 16 0
    && applies start (closes ++ told) 0 0 0 0 1 1
    && applies start wrong_key 4 0 0 0 0 0
    && applies start twice 10 1 0 0 0 0
    && applies start unknown 20 0 0 0 0 0
    && applies start [] 19 0 0 0 0 0
    && applies (clock 144 start) closes 2 0 0 0 0 144
    && applies unsound unknown 1 0 0 0 0 145
    && applies unsound told 1 0 0 0 0 145

-- A run goes on behind a refused message, and ends at an unreadable one, which has its answer; 1 refuses a run as a whole.
abbrev the_run : Bool
the_run =
    let bytes : List ℕ = told ++ (wrong_key ++ (twice ++ (closes ++ (unknown ++ told)))) in
    let run = run_on 9 start bytes in
    alike ◌=?◌ (answers_in run.outcomes) (0 ∷ 4 ∷ 10 ∷ 0 ∷ 20 ∷ [])
    && alike ◌=?◌ (places_in run.outcomes) (0 ∷ 0 ∷ 1 ∷ 0 ∷ 0 ∷ [])
    && run.used =? 53
    && run.book.setting.time.closed =? 1
    && run_answer start =? 0
    && run_answer unsound =? 1
    && (run_on 9 unsound bytes).used =? 0
    && alike ◌=?◌ (answers_in (run_on 2 start bytes).outcomes) (0 ∷ 4 ∷ [])

abbrev pub packed_calls : List Bool
packed_calls = the_one_message ∷ the_run ∷ []
