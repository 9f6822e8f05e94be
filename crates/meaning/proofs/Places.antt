-- A place's slot, day and period, and back; what a rewritten table holds there.
use mathlib.Core.Bool.{cond, ◌&&◌}
use mathlib.Core.List.{List}
use mathlib.Core.Path.{◌≡◌, ap, ◌∙◌}
use Prim.Native.Nat.{ℕ, suc, ◌+◌, ◌-◌, ◌*◌, ◌/◌, ◌%◌, ◌≤◌, ◌<◌}
use native.Mathlib.Omega.{arith}
use lib.Arith.{digits_lt, digits_div, digits_mod}
use lib.ListN.{length, get_or}
use Rattle.laws.proofs.Lists.{length-map_at, get_or-map_at}
use Rattle.meaning.specs.Time.{Time, periods_at, days, day_number}
use Rattle.meaning.specs.Authorisations.{Authorisation}
use Rattle.meaning.specs.Ledgers.{Sort, index, slot_at, day_at, period_at, places, holds, Side}
use Rattle.meaning.specs.Messages.{Message, about, leaves, says, reaches, rewritten}

module _ (n k : ℕ) {d period : ℕ} (hd : d < n) (h1 : 1 ≤ period) (h50 : period ≤ 50) where
  low : period - 1 < 50
  low = omega arith

  pub slot-index : slot_at n (index n k d period) ≡ k
  unfolding slot_at index
  slot-index = ap (λ (x : ℕ). x / n) (digits_div (k * n + d) low) ∙ digits_div k hd

  pub day-index : day_at n (index n k d period) ≡ d
  unfolding day_at index
  day-index = ap (λ (x : ℕ). x % n) (digits_div (k * n + d) low) ∙ digits_mod k hd

  pub period-index : period_at (index n k d period) ≡ period
  unfolding period_at index
  period-index = ap suc (digits_mod (k * n + d) low) ∙ omega arith

  pub index-lt : {slots : ℕ} → k < slots → index n k d period < places slots n
  unfolding index
  index-lt hk = digits_lt (digits_lt hk hd) low

-- ---- a table after a message

module _ {K : Sort} (rows : List Authorisation) (t : Time) (m : Message K) (held : List ℕ) (σ : Side) (table : List K.Val) where
  pub length-rewritten : length (rewritten rows t m held σ table) ≡ length table
  unfolding rewritten
  length-rewritten = length-map_at _ table

  pub rewritten-at : (j : ℕ) → j < length table
      → get_or (rewritten rows t m held σ table) j K.nothing
      ≡ cond (holds (λ (i : ℕ). about rows m i σ) (get_or held (slot_at (days t) j) 0) && reaches t m (day_at (days t) j) (period_at j))
      (says (leaves m) (day_number t (day_at (days t) j)) (periods_at t.codes (day_at (days t) j)) (period_at j))
      (get_or table j K.nothing)
  unfolding rewritten
  rewritten-at j h = get_or-map_at _ table j K.nothing h
