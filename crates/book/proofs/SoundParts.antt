-- Soundness as the code tests it: the setup rules, and once they have passed the clock, the held identifiers and each side with its length.
use mathlib.Core.Bool.{Bool, false, ◌&&◌}
use mathlib.Core.List.{List}
use mathlib.Core.Logic.{◌≢◌}
use mathlib.Core.Path.{◌≡◌, sym, ap, ap₂, ◌∙◌}
use Prim.Native.Nat.{ℕ, ◌≤◌}
use native.Mathlib.Omega.{arith}
use lib.Dec.{leb}
use lib.IntN.{ℤ}
use lib.ListN.{length}
use borrow.Author.Tests.{le-leb, eq-eqb, ne_eqb}
use Rattle.words.specs.Rules.{answer}
use Rattle.laws.proofs.Builds.{length-build}
use Rattle.meaning.specs.Time.{Time, gates_before}
use Rattle.meaning.specs.Ledgers.{contracts, places}
use Rattle.meaning.specs.Books.{opening_rules}
use Rattle.meaning.specs.Soundness.{held_right, table_right, sound}
use Rattle.meaning.proofs.SetupRules.{Opens, opens}
use Rattle.setups.specs.Structs.{codes_of, rows_of, setup_of}
use Rattle.clock.specs.declared.Clock.{Clock}
use Rattle.clock.specs.Structs.{time_of}
use Rattle.ledger_soundness.specs.Parts.{below, side_right}
use Rattle.book.specs.Structs.{time_in, book_of}
use Rattle.book.specs.declared.Book.{Book}

-- ---- the counts of a book

pub codes-count : (b : Book) → length (time_in b).codes ≡ b.setup.days
unfolding codes_of
codes-count b = length-build b.setup.days _

pub rows-count : (b : Book) → length (rows_of b.setup.authorisations b.setup.rows) ≡ b.setup.authorisations
unfolding rows_of
rows-count b = length-build b.setup.authorisations _

-- a clock that holds the book's time has as many days
pub clock-days : (b : Book) (c : Clock) → time_of c ≡ time_in b → c.days ≡ b.setup.days
clock-days b c e = sym (length-build c.days _) ∙ ap (λ (t : Time). length t.codes) e ∙ codes-count b

-- ---- the tests

-- a side of the right length, of few days and slots
side-table : (side : List ℤ) (held : List ℕ) (c : Clock) → c.days ≤ 8 → length held ≤ 256 → length side ≡ places (length held) c.days
    → side_right side held c ≡ table_right contracts (time_of c).codes held side
unfolding side_right
side-table side held c days slots lent =
    rw (le-leb c.days 8 days, le-leb (length held) 256 slots, eq-eqb (length side) (places (length held) c.days) lent)

together : {a b c d a' b' c' d' : Bool} → a ≡ a' → b ≡ b' → c ≡ c' → d ≡ d' → a && b && c && d ≡ a' && b' && c' && d'
together {a} {b} {c} {d} p q r s = rw (p, q, r, s)

module _ (b : Book) (held : List ℕ) (side1 side2 : List ℤ) where
  -- what refuses the book's setup with its tables
  abbrev pub setup_answer : ℕ
  setup_answer = answer (opening_rules (setup_of b.setup) (length held) (length side1) (length side2))

  pub sound-refused : setup_answer ≢ 0 → sound (book_of b held side1 side2) ≡ false
  unfolding sound setup_of
  sound-refused n = rw (ne_eqb setup_answer 0 n)

  pub sound-parts : (c : Clock) (gates : ℕ) (h s1 s2 : Bool)
      → setup_answer ≡ 0
      → time_of c ≡ time_in b
      → gates ≡ gates_before (time_of c).codes b.setup.days
      → h ≡ held_right (below b.setup.authorisations) held
      → s1 ≡ side_right side1 held c
      → s2 ≡ side_right side2 held c
      → leb b.closed gates && h && s1 && s2 ≡ sound (book_of b held side1 side2)
  unfolding sound setup_of
  sound-parts c gates h s1 s2 e time g p q r =
      let o : Opens (setup_of b.setup) (length held) (length side1) (length side2) = opens (setup_of b.setup) (length held) (length side1) (length side2) e in
      let codes = ap (λ (t : Time). t.codes) time in
      let days : c.days ≡ length (time_in b).codes = clock-days b c time ∙ sym (codes-count b) in
      let few : c.days ≤ 8 = omega (arith, o.few-days) in
      let lent : places (length held) (length (time_in b).codes) ≡ places (length held) c.days = ap (λ (n : ℕ). places (length held) n) (sym days) in
      rw (eq-eqb setup_answer 0 e)
      (together
      (ap (leb b.closed) (g ∙ ap₂ gates_before codes (sym (codes-count b))))
      (p ∙ ap (λ (n : ℕ). held_right (below n) held) (sym (rows-count b)))
      (q ∙ side-table side1 held c few o.few-slots (o.side1 ∙ lent) ∙ ap (λ (k : List ℕ). table_right contracts k held side1) codes)
      (r ∙ side-table side2 held c few o.few-slots (o.side2 ∙ lent) ∙ ap (λ (k : List ℕ). table_right contracts k held side2) codes))
