-- A sound book, part by part: one field a rule of document 01, as proofs use them; and back to the test.
use mathlib.Core.Bool.{Bool, true, ◌&&◌}
use mathlib.Core.List.{List}
use mathlib.Core.Path.{◌≡◌, refl}
use Prim.Native.Nat.{ℕ, zero, suc, ◌≤◌, ◌<◌}
use native.Mathlib.Omega.{arith}
use lib.Dec.{leb, eqb}
use lib.ListN.{length, get_or}
use borrow.Author.Tests.{eqb-true, eq-eqb, leb-true, le-leb}
use Rattle.words.specs.Lists.{find, every_at}
use Rattle.words.specs.Rules.{answer}
use Rattle.laws.proofs.Cases.{and_left, and_right}
use Rattle.laws.proofs.Lists.{every_at-at, at-every_at}
use Rattle.meaning.specs.Time.{all_gates}
use Rattle.meaning.specs.Ledgers.{Sort, originator_of, Side, one, two, side}
use Rattle.meaning.specs.Settings.{known}
use Rattle.meaning.specs.Books.{opening_rules, Book, setup_of}
use Rattle.meaning.specs.Soundness.{slot_right, held_right, place_right, table_right, sound}

-- what is asked of a sort: its test of equality is one, and what an omitted period gets may stand
pub record Lawful (K : Sort) : Type 0 where
  pub same_refl : (v : K.Val) → K.same v v ≡ true
  pub same-is : (v w : K.Val) → K.same v w ≡ true → v ≡ w
  pub omitted-right : K.in_range K.omitted ≡ true

-- "held identifiers differ and name known originators", of the slot k
pub record SlotHolds (known : ℕ → Bool) (held : List ℕ) (k i : ℕ) : Type 0 where
  pub originator : known (originator_of i) ≡ true
  pub own : find (suc i) held ≡ k

pub record Sound {K : Sort} (b : Book K) : Type 0 where
  pub setup : answer (opening_rules (setup_of b.setting) (length b.ledger.held) (length b.ledger.side1) (length b.ledger.side2)) ≡ 0
  pub clock : b.setting.time.closed ≤ all_gates b.setting.time.codes
  pub slots : (k i : ℕ) → k < length b.ledger.held → get_or b.ledger.held k 0 ≡ suc i → SlotHolds (known b.setting) b.ledger.held k i
  pub place : (σ : Side) (j : ℕ) → j < length (side b.ledger σ)
      → place_right K b.setting.time.codes b.ledger.held j (get_or (side b.ledger σ) j K.nothing) ≡ true

slot-holds : (known : ℕ → Bool) (held : List ℕ) (k e i : ℕ) → e ≡ suc i → slot_right known held k e ≡ true → SlotHolds known held k i
unfolding slot_right
slot-holds known held k zero i q h = absurd (omega arith)
slot-holds known held k (suc x) i q h =
    let same : x ≡ i = omega arith in
    record {
      originator = rw same at (and_left (known (originator_of x)) (eqb (find (suc x) held) k) h);
      own = rw same at (eqb-true (find (suc x) held) k (and_right (known (originator_of x)) (eqb (find (suc x) held) k) h));
    }

holds-slot : (known : ℕ → Bool) (held : List ℕ) (k e : ℕ) → ((i : ℕ) → e ≡ suc i → SlotHolds known held k i) → slot_right known held k e ≡ true
unfolding slot_right
holds-slot known held k zero h = refl
holds-slot known held k (suc i) h =
    let s = h i refl in
    rw (s.originator, eq-eqb (find (suc i) held) k s.own)

module _ {K : Sort} (b : Book K) where
  lent : ℕ
  lent = answer (opening_rules (setup_of b.setting) (length b.ledger.held) (length b.ledger.side1) (length b.ledger.side2))

  pub parts : sound b ≡ true → Sound b
  unfolding sound held_right table_right lent
  parts s =
      let held = b.ledger.held in
      let p1 = eqb lent 0 in
      let p2 = leb b.setting.time.closed (all_gates b.setting.time.codes) in
      let p3 = held_right (known b.setting) held in
      let p4 = table_right K b.setting.time.codes held b.ledger.side1 in
      let p5 = table_right K b.setting.time.codes held b.ledger.side2 in
      let s4 = and_left (p1 && p2 && p3 && p4) p5 s in
      let s3 = and_left (p1 && p2 && p3) p4 s4 in
      let s2 = and_left (p1 && p2) p3 s3 in
      record {
        setup = eqb-true lent 0 (and_left p1 p2 s2);
        clock = leb-true b.setting.time.closed (all_gates b.setting.time.codes) (and_right p1 p2 s2);
        slots = λ k i hk e. slot-holds (known b.setting) held k (get_or held k 0) i e (every_at-at (slot_right (known b.setting) held) held 0 (and_right (p1 && p2) p3 s3) k hk);
        place = λ σ. side_right σ (and_right (p1 && p2 && p3) p4 s4) (and_right (p1 && p2 && p3 && p4) p5 s);
      }
    where
      side_right : (σ : Side) → table_right K b.setting.time.codes b.ledger.held b.ledger.side1 ≡ true
          → table_right K b.setting.time.codes b.ledger.held b.ledger.side2 ≡ true
          → (j : ℕ) → j < length (side b.ledger σ) → place_right K b.setting.time.codes b.ledger.held j (get_or (side b.ledger σ) j K.nothing) ≡ true
      side_right one e q = every_at-at (place_right K b.setting.time.codes b.ledger.held) b.ledger.side1 K.nothing e
      side_right two e q = every_at-at (place_right K b.setting.time.codes b.ledger.held) b.ledger.side2 K.nothing q

  pub whole : Sound b → sound b ≡ true
  unfolding sound held_right table_right lent
  whole s =
      rw (eq-eqb lent 0 s.setup, le-leb b.setting.time.closed (all_gates b.setting.time.codes) s.clock, right, at-every_at (place_right K b.setting.time.codes b.ledger.held) b.ledger.side1 K.nothing (s.place one))
      (at-every_at (place_right K b.setting.time.codes b.ledger.held) b.ledger.side2 K.nothing (s.place two))
    where
      right : every_at (slot_right (known b.setting) b.ledger.held) b.ledger.held ≡ true
      right = at-every_at (slot_right (known b.setting) b.ledger.held) b.ledger.held 0 (λ k hk. holds-slot (known b.setting) b.ledger.held k (get_or b.ledger.held k 0) (λ i e. s.slots k i hk e))
