-- Either way round, in the code's terms: a setup that is written reads back settled, and bytes that are read are written again.
use mathlib.Core.Bool.{false}
use mathlib.Core.List.{List, ◌++◌}
use mathlib.Core.Path.{◌≡◌, sym, ap, ◌∙◌}
use Prim.Native.Nat.{ℕ, ◌≤◌}
use contract.Lifetimes.{Lfts}
use denote.MutBor.{MutBor}
use denote.Ref.{Bor}
use lib.ListN.{length, get_or, take, drop}
use borrow.Author.Tests.{lt-ltb, le-ltb}
use Rattle.std.specs.Prelude.{Result, Ok}
use Rattle.fields.specs.declared.AtFront.{AtFront}
use Rattle.limits.specs.declared.refusals.Refusal.{Refusal}
use Rattle.words.specs.Lists.{build}
use Rattle.laws.proofs.Bits.{Bytes}
use Rattle.laws.proofs.Builds.{length-build, get_or-build, get_or-build-past, build-same}
use Rattle.laws.proofs.Cases.{by-lt}
use Rattle.meaning.specs.Authorisations.{no_row}
use Rattle.meaning.specs.Books.{lent_wrong}
use Rattle.meaning.specs.PackedSetups.{setup_in, read_setup, write_setup}
use Rattle.meaning.proofs.EitherWaySetups.{setup-written-reads, setup-read-writes}
use Rattle.meaning.proofs.PackedSetupRules.{setup-reading-answer, setup-reading-done, setup-readable}
use Rattle.setups.specs.Structs.{no_authorisation, row_of, row_for, rows_of, codes_of, setup_of, setup_for}
use Rattle.setup_reading.specs.Structs.{setup_read}
use Rattle.setup_reading.specs.declared.SetupRead.{SetupRead}
use Rattle.setup_reading.proofs.Outcomes.{setup-read-tells}
use Rattle.setup_reading.proofs.read_setup.Reads as read-setup
use Rattle.setup_writing.specs.Structs.{setup_written, settled}
use Rattle.fields.specs.declared.WrittenBytes.{WrittenBytes}
use Rattle.fields.proofs.Fronts.{written-tells}
use Rattle.setup_writing.proofs.write_setup.Reads as write-setup
use Rattle.setups.specs.declared.Setup.{Setup}
use Rattle.setup_reading.proofs.ReadParts.{struct_holds, few-codes, few-rows}

-- ---- a struct, by way of what it means

codes-settled : (s : Setup) → build 8 (λ (k : ℕ). get_or (codes_of s.days s.codes) k 0) ≡ (settled s).codes
unfolding codes_of settled
codes-settled s =
    build-same 8 _ _
    (λ k h. by-lt k s.days
    (λ l. rw (get_or-build s.days (λ (j : ℕ). get_or s.codes j 0) 0 k l, lt-ltb k s.days l))
    (λ l. rw (get_or-build-past s.days (λ (j : ℕ). get_or s.codes j 0) 0 k l, le-ltb k s.days l)))

rows_settled : (s : Setup) → build 64 (λ (k : ℕ). row_for (get_or (rows_of s.authorisations s.rows) k no_row)) ≡ (settled s).rows
unfolding rows_of settled
rows_settled s =
    build-same 64 _ _
    (λ k h. by-lt k s.authorisations
    (λ l. rw (get_or-build s.authorisations (λ (j : ℕ). row_of (get_or s.rows j no_authorisation)) no_row k l, lt-ltb k s.authorisations l))
    (λ l. rw (get_or-build-past s.authorisations (λ (j : ℕ). row_of (get_or s.rows j no_authorisation)) no_row k l, le-ltb k s.authorisations l)))

length-codes : (s : Setup) → length (codes_of s.days s.codes) ≡ s.days
unfolding codes_of
length-codes s = length-build s.days _

length-rows : (s : Setup) → length (rows_of s.authorisations s.rows) ≡ s.authorisations
unfolding rows_of
length-rows s = length-build s.authorisations _

pub setup-settled : (s : Setup) → setup_for (setup_of s) ≡ settled s
unfolding setup_for setup_of settled
setup-settled s = rw (length-codes s, length-rows s, codes-settled s, rows_settled s)

-- THE ROUND TRIPS, of what `write_setup` leaves and `read_setup` gives

-- for every setup that can be written, reading what was written gives it back, settled
pub written-setup-reads : (s : Setup) (out : List ℕ) (slots lent1 lent2 : ℕ) → (setup_written (write_setup (setup_of s) out)).answer ≡ 0
    → lent_wrong (setup_of s) slots lent1 lent2 ≡ false
    → setup_read (read_setup (write_setup (setup_of s) out).out slots lent1 lent2) ≡ record { answer = 0; length = (setup_written (write_setup (setup_of s) out)).length; setup = settled s }
unfolding setup_written setup_read
written-setup-reads s out slots lent1 lent2 e h =
    rw (setup-written-reads (setup_of s) out slots lent1 lent2 e h)
    (ap (λ (x : Setup). record { answer = 0; length = (write_setup (setup_of s) out).length; setup = x }) (setup-settled s))

-- a setup that is read is what its struct holds
pub read-holds : (bytes : List ℕ) (slots lent1 lent2 : ℕ) → (read_setup bytes slots lent1 lent2).answer ≡ 0
    → setup_of (setup_for (read_setup bytes slots lent1 lent2).read) ≡ (read_setup bytes slots lent1 lent2).read
read-holds bytes slots lent1 lent2 e =
    let a = sym (setup-reading-answer bytes slots lent1 lent2) ∙ e in
    let r = setup-readable bytes slots lent1 lent2 a in
    rw (setup-reading-done bytes slots lent1 lent2 a) (struct_holds (setup_in bytes) (few-codes (setup_in bytes) r.counts) (few-rows (setup_in bytes) r.counts))

-- for every byte string that reads, writing the setup gives back exactly those bytes
pub read-setup-writes : (bytes out : List ℕ) (slots lent1 lent2 : ℕ) → Bytes bytes → Bytes out → (setup_read (read_setup bytes slots lent1 lent2)).answer ≡ 0
    → (setup_read (read_setup bytes slots lent1 lent2)).length ≤ length out
    → write_setup (setup_of (setup_read (read_setup bytes slots lent1 lent2)).setup) out
    ≡ record { answer = 0; length = (setup_read (read_setup bytes slots lent1 lent2)).length; out = take (setup_read (read_setup bytes slots lent1 lent2)).length bytes ++ drop (setup_read (read_setup bytes slots lent1 lent2)).length out }
unfolding setup_read
read-setup-writes bytes out slots lent1 lent2 b c e l =
    rw (read-holds bytes slots lent1 lent2 e) (setup-read-writes bytes out slots lent1 lent2 b c e l)

-- the same of the functions' own promises: what `write_setup` leaves, `read_setup` gives back
pub write-then-read-setup : (κs κs' : Lfts 1) (s : Setup) (out left : MutBor (List ℕ)) (bytes : Bor (List ℕ)) (slots lent1 lent2 n : ℕ) (r : Result (AtFront Setup) Refusal)
    → write-setup.Post κs (s, (out, tt)) (Ok n) (s, (left, tt)) → bytes.now ≡ left.now → read-setup.Post κs' (bytes, (slots, (lent1, (lent2, tt)))) r (bytes, (slots, (lent1, (lent2, tt))))
    → lent_wrong (setup_of s) slots lent1 lent2 ≡ false → r ≡ Ok (record { length = n; value = settled s })
write-then-read-setup κs κs' s out left bytes slots lent1 lent2 n r p same q h =
    setup-read-tells r (Ok (record { length = n; value = settled s }))
    (q
    ∙ ap (λ (bytes : List ℕ). setup_read (read_setup bytes slots lent1 lent2)) (same ∙ p.1)
    ∙ written-setup-reads s out.now slots lent1 lent2 (ap (λ (w : WrittenBytes). w.answer) (sym p.0)) h
    ∙ ap (λ (w : WrittenBytes). record { answer = 0; length = w.length; setup = settled s }) (sym p.0))

-- and what `read_setup` gives, `write_setup` writes again, over the front of its buffer
pub read-then-write-setup : (κs κs' : Lfts 1) (bytes : Bor (List ℕ)) (out left : MutBor (List ℕ)) (slots lent1 lent2 : ℕ) (front : AtFront Setup) (r : Result ℕ Refusal)
    → read-setup.Post κs (bytes, (slots, (lent1, (lent2, tt)))) (Ok front) (bytes, (slots, (lent1, (lent2, tt)))) → write-setup.Post κs' (front.value, (out, tt)) r (front.value, (left, tt))
    → Bytes bytes.now → Bytes out.now → front.length ≤ length out.now
    → (r ≡ Ok front.length) × (left.now ≡ take front.length bytes.now ++ drop front.length out.now)
unfolding setup_written
read-then-write-setup κs κs' bytes out left slots lent1 lent2 front r q p b c l =
    let length-read = ap (λ (x : SetupRead). x.length) q in
    let setup-read = ap (λ (x : SetupRead). x.setup) q in
    let again = read-setup-writes bytes.now out.now slots lent1 lent2 b c (ap (λ (x : SetupRead). x.answer) (sym q)) (rw length-read at l) in (
      written-tells r (Ok front.length) (p.0 ∙ rw (setup-read, length-read, again)),
      p.1 ∙ rw (setup-read, length-read, again),
    )
