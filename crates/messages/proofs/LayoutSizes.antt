-- The bits of a message of a kind and a number of entries.
use mathlib.Core.Path.{◌≡◌}
use mathlib.Core.Logic.{◌≢◌}
use Prim.Native.Nat.{ℕ, ◌+◌, ◌*◌, ◌≤◌}
use native.Mathlib.Omega.{arith}
use borrow.Author.Tests.{ne_eqb}
use Rattle.words.specs.Fields.{total, times}
use Rattle.laws.proofs.Cases.{by-eq}
use Rattle.laws.proofs.Layouts.{times-total, total-append}
use Rattle.meaning.specs.PackedMessages.{notification_layout, entry_layout, layout_for}

pub bits-notification : (kind count : ℕ) → kind ≡ 1 → total (layout_for kind count) ≡ 92 + 34 * count
unfolding layout_for
bits-notification kind count e = rw e (omega (arith, total-append notification_layout (times count entry_layout), times-total count entry_layout))

pub bits-nullification : (kind count : ℕ) → kind ≡ 2 → total (layout_for kind count) ≡ 30
unfolding layout_for
bits-nullification kind count e = rw e

pub bits-other : (kind count : ℕ) → kind ≢ 1 → kind ≢ 2 → total (layout_for kind count) ≡ 2
unfolding layout_for
bits-other kind count n m = rw (ne_eqb kind 1 n, ne_eqb kind 2 m)

pub bits-few : (kind count : ℕ) → total (layout_for kind count) ≤ 92 + 34 * count
bits-few kind count =
    by-eq kind 1
    (λ e. omega (arith, bits-notification kind count e))
    (λ n. by-eq kind 2 (λ e. omega (arith, bits-nullification kind count e)) (λ m. omega (arith, bits-other kind count n m)))
