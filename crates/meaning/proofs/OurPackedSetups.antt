-- Our table, document 01's "Packed messages": a setup byte by byte, with another value in every field, and the setups that are refused.
use mathlib.Core.Bool.{Bool, ◌&&◌}
use mathlib.Core.List.{List, [], ◌∷◌, ◌++◌}
use Prim.Native.Nat.{ℕ}
use lib.ListN.{replicate, set, take}
use Rattle.meaning.specs.Authorisations.{Authorisation}
use Rattle.meaning.specs.Books.{Setup}
use Rattle.meaning.specs.PackedSetups.{setup_values, read_setup, write_setup}
use Rattle.meaning.proofs.OurBook.{grant}
use Rattle.meaning.proofs.OurPackedMessages.{reads, writes}

-- days 100 and 101, the first of 50 periods or of another code, and five accounts
abbrev two_days : ℕ → Authorisation → Setup
two_days code a = record { first = 100; codes = code ∷ 0 ∷ []; accounts = 5; rows = a ∷ [] }

-- agents 7 and 9, accounts 3 and 1, key 500, days 4 to 200, additional
abbrev some_setup : Setup
some_setup = two_days 2 (grant 7 9 3 1 500 4 200 2)

abbrev its_values : List ℕ
its_values = 100 ∷ 2 ∷ 5 ∷ 1 ∷ 2 ∷ 0 ∷ 7 ∷ 9 ∷ 3 ∷ 1 ∷ 500 ∷ 4 ∷ 200 ∷ 2 ∷ []

abbrev its_bytes : List ℕ
its_bytes = 0x00 ∷ 0x64 ∷ 0x20 ∷ 0xA0 ∷ 0x60 ∷ 0x1C ∷ 0x24 ∷ 0x30 ∷ 0x40 ∷ 0x7D ∷ 0x00 ∷ 0x01 ∷ 0x00 ∷ 0x32 ∷ 0x20 ∷ []

-- "first day 16, days 4, accounts 7, authorisations 7; per day a code of 2 bits ..; per authorisation agents 8 and 8, accounts 6 and 6, key 16, first
-- day 16, last day 16, type 2"; "bytes past what is written stay"
abbrev the_setup : Bool
the_setup =
    writes (write_setup some_setup (replicate 16 0xFF)) 0 15 (its_bytes ++ (0xFF ∷ []))
    && reads setup_values (read_setup (its_bytes ++ (0xFF ∷ [])) 1 100 100) 0 15 its_values

-- "Setup order: under 5 bytes 19, wrong counts, last day above 65,534 or lent lengths 17, short 19, code 3 17, rows 18, 22": each with the next; "its
-- other results are zero". Byte 2 gives nine days, 0 and 1 a last day 65,535, byte 4 code 3, byte 7 equal accounts, and byte 14 ends in a padding bit.
abbrev the_unreadable : Bool
the_unreadable =
    let unreadable : ℕ → List ℕ → ℕ → Bool = λ number bytes lent2. reads setup_values (read_setup bytes 1 100 lent2) number 0 (0 ∷ 0 ∷ 0 ∷ 0 ∷ []) in
    let codeThree = set its_bytes 4 0x70 in
    let equalAccounts = set its_bytes 7 0x10 in
    unreadable 19 [] 100
    && unreadable 19 (take 4 its_bytes) 101
    && unreadable 17 (take 5 its_bytes) 101
    && unreadable 17 (take 5 (set its_bytes 2 0x90)) 100
    && unreadable 17 (take 5 (set (set its_bytes 0 0xFF) 1 0xFE)) 100
    && unreadable 19 (take 14 codeThree) 100
    && unreadable 17 (set codeThree 7 0x10) 100
    && unreadable 18 (set equalAccounts 14 0x21) 100
    && unreadable 22 (set its_bytes 14 0x21) 100

-- "a setup 17 (lent lengths aside) and then 18; after these 23, then 24": each with the next; "A refusal leaves all .. output buffers .. unchanged"
abbrev the_unwritable : Bool
the_unwritable =
    writes (write_setup (two_days 3 (grant 7 9 1 1 500 4 200 2)) []) 17 0 []
    && writes (write_setup (two_days 2 (grant 256 9 1 1 500 4 200 2)) []) 18 0 []
    && writes (write_setup (two_days 2 (grant 256 9 3 1 500 4 200 2)) []) 23 0 []
    && writes (write_setup some_setup (replicate 14 0xFF)) 24 0 (replicate 14 0xFF)

abbrev pub packed_setups : List Bool
packed_setups = the_setup ∷ the_unreadable ∷ the_unwritable ∷ []
