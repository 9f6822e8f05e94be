-- What stands in a sound book: it is in range, its slot is held, and a held identifier has a right row. Outside a table nothing stands.
use mathlib.Core.Bool.{true, false, ◌&&◌, false≢true}
use mathlib.Core.List.{List}
use mathlib.Core.Path.{◌≡◌, refl, sym, ◌∙◌}
use Prim.Native.Nat.{ℕ, zero, suc, ◌≤◌, ◌<◌}
use native.Mathlib.Omega.{arith}
use lib.Dec.{ltb}
use lib.ListN.{length, get_or, get_or-eq_default}
use borrow.Author.Tests.{ltb-true}
use Rattle.words.specs.Lists.{find}
use Rattle.laws.proofs.Cases.{by-lt, and_left, and_right}
use Rattle.laws.proofs.Lists.{find_at}
use Rattle.meaning.specs.Time.{days, is_period_at}
use Rattle.meaning.specs.Authorisations.{row_at}
use Rattle.meaning.specs.Ledgers.{Sort, stands, index, slot_at, day_at, period_at, at, places, originator_of, is_held, origin_in, Side, one, two, side}
use Rattle.meaning.specs.Settings.{known}
use Rattle.meaning.specs.Books.{Book, setup_of}
use Rattle.meaning.specs.Soundness.{place_right}
use Rattle.meaning.proofs.Places.{slot-index, index-lt}
use Rattle.meaning.proofs.SetupRules.{RowRight, Opens, opens}
use Rattle.meaning.proofs.Sound.{Lawful, Sound}

-- "the mark -2,147,483,648 means nothing stands": nothing stands past a table's end, whatever the table
pub nothing-outside : {K : Sort} → Lawful K → (days : ℕ) (table : List K.Val) (slot d period : ℕ) → length table ≤ index days slot d period
    → stands K (at K days table slot d period) ≡ false
unfolding at
nothing-outside {K} law days table slot d period l = rw (get_or-eq_default table K.nothing l, law.same_refl K.nothing)

module _ {K : Sort} (b : Book K) (s : Sound b) where
  pub sound-opens : Opens (setup_of b.setting) (length b.ledger.held) (length b.ledger.side1) (length b.ledger.side2)
  sound-opens = opens (setup_of b.setting) (length b.ledger.held) (length b.ledger.side1) (length b.ledger.side2) s.setup

  pub length-side : (σ : Side) → length (side b.ledger σ) ≡ places (length b.ledger.held) (days b.setting.time)
  length-side one = sound-opens.side1
  length-side two = sound-opens.side2

  -- a known authorisation has a row
  known-row : (k : ℕ) → known b.setting k ≡ true → k < length b.setting.rows
  known-row k e = ltb-true k (length b.setting.rows) e

  -- the row of the identifier that a slot holds
  pub row-held : (slot : ℕ) → slot < length b.ledger.held → 0 < get_or b.ledger.held slot 0
      → RowRight b.setting.accounts (origin_in b.setting.rows (get_or b.ledger.held slot 0))
  row-held slot l h = of (get_or b.ledger.held slot 0) refl h
    where
      of : (e : ℕ) → get_or b.ledger.held slot 0 ≡ e → 0 < e → RowRight b.setting.accounts (origin_in b.setting.rows e)
      of zero q h = absurd (omega arith)
      of (suc i) q h = sound-opens.rows (originator_of i) (known-row (originator_of i) (s.slots slot i l q).originator)

  -- and of an identifier that is held
  pub row-of : (i : ℕ) → is_held b.ledger.held i ≡ true → RowRight b.setting.accounts (row_at b.setting.rows (originator_of i))
  unfolding is_held
  row-of i h =
      let held = b.ledger.held in
      let l = ltb-true (find (suc i) held) (length held) h in
      sound-opens.rows (originator_of i) (known-row (originator_of i) (s.slots (find (suc i) held) i l (find_at (suc i) held l)).originator)

  module _ (σ : Side) where
    -- what stands at place j
    stands-place : (j : ℕ) → j < length (side b.ledger σ) → stands K (get_or (side b.ledger σ) j K.nothing) ≡ true
        → (K.in_range (get_or (side b.ledger σ) j K.nothing) ≡ true) × (0 < get_or b.ledger.held (slot_at (days b.setting.time) j) 0)
    unfolding place_right
    stands-place j l e =
        let v = get_or (side b.ledger σ) j K.nothing in
        let h = get_or b.ledger.held (slot_at (days b.setting.time) j) 0 in
        let p = is_period_at b.setting.time.codes (day_at (days b.setting.time) j) (period_at j) in
        let all : K.in_range v && ltb 0 h && p ≡ true = rw e at (s.place σ j l) in
        let first = and_left (K.in_range v && ltb 0 h) p all in
        (and_left (K.in_range v) (ltb 0 h) first, ltb-true 0 h (and_right (K.in_range v) (ltb 0 h) first))

    -- it is in range; past the table's end nothing stands
    pub stands-in-range : Lawful K → (slot d period : ℕ) → stands K (at K (days b.setting.time) (side b.ledger σ) slot d period) ≡ true
        → K.in_range (at K (days b.setting.time) (side b.ledger σ) slot d period) ≡ true
    unfolding at
    stands-in-range law slot d period e =
        let j = index (days b.setting.time) slot d period in
        by-lt j (length (side b.ledger σ))
        (λ l. (stands-place j l e).0)
        (λ l. absurd (false≢true (sym (nothing-outside law (days b.setting.time) (side b.ledger σ) slot d period l) ∙ e)))

    -- its slot is held
    pub standing-slot-held : (slot d period : ℕ) → slot < length b.ledger.held → d < days b.setting.time → 1 ≤ period → period ≤ 50
        → stands K (at K (days b.setting.time) (side b.ledger σ) slot d period) ≡ true → 0 < get_or b.ledger.held slot 0
    unfolding at
    standing-slot-held slot d period l hd h1 h50 e =
        let n = days b.setting.time in
        let inside = index-lt n slot hd h1 h50 l in
        rw (slot-index n slot hd h1 h50) at (stands-place (index n slot d period) (rw (length-side σ) inside) e).1
