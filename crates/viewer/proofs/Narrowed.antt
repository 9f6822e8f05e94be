-- A question that is answered alike from a limit on cannot tell a number from the narrowed one; the same of identifiers.
use mathlib.Core.Bool.{true, false}
use mathlib.Core.Path.{◌≡◌, sym, ap, ◌∙◌}
use Prim.Native.Nat.{ℕ, ◌*◌, ◌≤◌, ◌<◌, min}
use native.Mathlib.Omega.{arith}
use borrow.Author.Tests.{lt-ltb, le-ltb}
use Rattle.std.specs.Prelude.{if◌then◌else◌}
use Rattle.words.specs.Tests.{◌<?◌}
use Rattle.laws.proofs.Cases.{by-lt}
use Rattle.meaning.specs.Ledgers.{Sort, identifier_of, is_held}
use Rattle.meaning.specs.Books.{Book}
use Rattle.meaning.specs.Soundness.{sound}
use Rattle.viewer.specs.Asked.{named}
use Rattle.viewer.proofs.OutOfBook.{none-held}

module _ {A : Type 0} (question : ℕ → A) {out : A} where
  pub narrowed : {limit n cut : ℕ} → ((k : ℕ) → limit ≤ k → question k ≡ out) → cut ≡ min n limit → question cut ≡ question n
  narrowed {limit} {n} {cut} alike e =
      by-lt n limit
      (λ l. let same : cut ≡ n = omega arith in ap question same)
      (λ l. alike cut (omega arith) ∙ sym (alike n l))

  pub narrowed-identifier : (originator reference : ℕ) {o r : ℕ} → ((i : ℕ) → 64 * 65536 ≤ i → question i ≡ out)
      → o ≡ (if reference <? 65536 then min originator 255 else 255) → r ≡ min reference 65535
      → question (identifier_of o r) ≡ question (named originator reference)
  unfolding named
  narrowed-identifier originator reference {o} {r} alike eo er =
      by-lt reference 65536
      (λ l.
      let below = lt-ltb reference 65536 l in
      let eo' : o ≡ min originator 255 = rw below at eo in
      rw below
      (by-lt originator 255
      (λ k. let same : identifier_of o r ≡ identifier_of originator reference = omega arith in ap question same)
      (λ k. alike (identifier_of o r) (omega arith) ∙ sym (alike (identifier_of originator reference) (omega arith)))))
      (λ l.
      let above = le-ltb reference 65536 l in
      let eo' : o ≡ 255 = rw above at eo in
      rw above
      (alike (identifier_of o r) (omega arith) ∙ sym (alike (identifier_of 64 0) (omega arith))))

-- with a reference of 16 bits it is the identifier itself
pub named-is : (originator reference : ℕ) → reference < 65536 → named originator reference ≡ identifier_of originator reference
unfolding named
named-is originator reference l = rw (lt-ltb reference 65536 l)

-- and with a reference of more bits no sound book holds it
pub named_none : {K : Sort} (b : Book K) → sound b ≡ true → (originator reference : ℕ) → 65536 ≤ reference → is_held b.ledger.held (named originator reference) ≡ false
unfolding named
named_none b s originator reference l = rw (le-ltb reference 65536 l) (none-held b s (identifier_of 64 0) (omega arith))
