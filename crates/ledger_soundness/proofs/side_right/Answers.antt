-- A table of another length is wrong; of a right one the flag says before each slot that those before it are right.
use mathlib.Core.Bool.{Bool, ◌&&◌}
use mathlib.Core.Path.{◌≡◌, sym, ap, ap₂, ◌∙◌}
use Prim.Native.Nat.{ℕ, ◌*◌}
use native.Mathlib.Nat.{mul-le-mul_right}
use native.Mathlib.Omega.{arith}
use lib.Dec.{ltb}
use lib.ListN.{length, get_or}
use borrow.Author.Tests.{le-leb, lt-leb, eq-eqb, ne_eqb}
use Rattle.words.specs.Below.{every_below}
use Rattle.laws.proofs.Below.{every-none, every_more}
use Rattle.meaning.specs.Ledgers.{places}
use Rattle.ledger_soundness.specs.Parts.{days_right, side_right}
use Rattle.ledger_soundness.proofs.Runs.{product-few}
use Rattle.ledger_soundness.proofs.Tables.{held_test, table-days}
use Rattle.ledger_soundness.proofs.side_right.Goals as goal

pub returns-then-days-gt-MOST_DAYS_WIDE : goal.returns-then-days-gt-MOST_DAYS_WIDE
unfolding side_right
returns-then-days-gt-MOST_DAYS_WIDE c =
    rw (lt-leb c.args.c.days 8 c.if-days-gt-MOST_DAYS_WIDE.true)

pub returns-then-held-gt-MOST_SLOTS : goal.returns-then-held-gt-MOST_SLOTS
unfolding side_right
returns-then-held-gt-MOST_SLOTS c =
    let a = c.args in
    rw (le-leb a.c.days 8 c.if-days-gt-MOST_DAYS_WIDE.false, lt-leb (length a.held.now) 256 c.if-held-gt-MOST_SLOTS.true)

pub overflow_mul-held : goal.overflow_mul-held
overflow_mul-held c =
    let a = c.args in
    omega (arith, product-few (length a.held.now) a.c.days c.if-held-gt-MOST_SLOTS.false c.if-days-gt-MOST_DAYS_WIDE.false)

pub overflow_mul-held-2 : goal.overflow_mul-held-2
overflow_mul-held-2 c =
    let a = c.args in
    omega (arith, product-few (length a.held.now) a.c.days c.if-held-gt-MOST_SLOTS.false c.if-days-gt-MOST_DAYS_WIDE.false)

pub returns-then-side-held : goal.returns-then-side-held
unfolding side_right
returns-then-side-held c =
    let a = c.args in
    rw (le-leb a.c.days 8 c.if-days-gt-MOST_DAYS_WIDE.false, le-leb (length a.held.now) 256 c.if-held-gt-MOST_SLOTS.false, ne_eqb (length a.side.now) (places (length a.held.now) a.c.days) c.if-side-held.true)

pub loop-slot-init : goal.loop-slot-init
loop-slot-init c = sym (every-none _)

pub overflow_cast-slot : goal.overflow_cast-slot
overflow_cast-slot c =
    omega (arith, c.if-held-gt-MOST_SLOTS.false)

pub days_right-ok-requires : goal.days_right-ok-requires
days_right-ok-requires c =
    let a = c.args in
    let s = c.loop-slot.slot in
    record {
      days-few = c.if-days-gt-MOST_DAYS_WIDE.false;
      inside = omega (arith, c.if-side-held.false, mul-le-mul_right (a.c.days * 50) c.loop-slot-test.true);
    }

pub loop-slot-preserved : goal.loop-slot-preserved
loop-slot-preserved c =
    let a = c.args in
    let l = c.loop-slot in
    let held = a.held.now in
    ap₂ ◌&&◌ l.invariant (c.days_right-ok.ensures ∙ ap (λ (b : Bool). days_right a.side.now l.slot b a.c) (sym (held_test (get_or held l.slot 0))))
    ∙ sym (every_more l.slot (λ (k : ℕ). days_right a.side.now k (ltb 0 (get_or held k 0)) a.c))

pub returns : goal.returns
unfolding side_right
returns c =
    let a = c.args in
    let l = c.loop-slot in
    let e : l.slot ≡ length a.held.now = omega arith in
    let w = c.if-side-held.false in
    rw (le-leb a.c.days 8 c.if-days-gt-MOST_DAYS_WIDE.false, le-leb (length a.held.now) 256 c.if-held-gt-MOST_SLOTS.false, eq-eqb (length a.side.now) (places (length a.held.now) a.c.days) w)
    (l.invariant ∙ ap (λ (n : ℕ). every_below n (λ (k : ℕ). days_right a.side.now k (ltb 0 (get_or a.held.now k 0)) a.c)) e ∙ sym (table-days a.side.now a.held.now a.c w))
