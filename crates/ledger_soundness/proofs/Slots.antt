-- A slot's entry: unheld, or an identifier with its originator.
use mathlib.Core.Bool.{Bool, true, not, ◌&&◌, false≢true}
use mathlib.Core.List.{List}
use mathlib.Core.Logic.{◌≢◌}
use mathlib.Core.Path.{◌≡◌, refl, sym, ap, ◌∙◌}
use Prim.Native.Nat.{ℕ, zero, suc, ◌+◌, ◌-◌, ◌<◌}
use native.Mathlib.Nat.{zero-add}
use native.Mathlib.Omega.{arith}
use lib.Dec.{ltb, eqb}
use lib.ListN.{length, get_or, take, drop}
use borrow.Author.Tests.{eqb-true, eq-eqb, ne_eqb}
use Rattle.words.specs.Below.{every_below}
use Rattle.words.specs.Lists.{find}
use Rattle.laws.proofs.Below.{every-ext, every-at, at_every}
use Rattle.laws.proofs.Cases.{same_test, by-eq}
use Rattle.laws.proofs.Lists.{every_at-below, find_first, find-is}
use Rattle.meaning.specs.Ledgers.{originator_of}
use Rattle.meaning.specs.Soundness.{slot_right, held_right}
use Rattle.ledger_soundness.specs.Parts.{below, other}
use Rattle.ledger_soundness.proofs.Runs.{part-every}

pub slot-unheld : (known : ℕ → Bool) (held : List ℕ) (k entry : ℕ) → entry ≡ 0 → slot_right known held k entry ≡ true
unfolding slot_right
slot-unheld known held k entry e = rw e

pub slot_held : (known : ℕ) (held : List ℕ) (k entry : ℕ) {originator : ℕ} → entry ≢ 0 → originator ≡ originator_of (entry - 1)
    → slot_right (below known) held k entry ≡ ltb originator known && eqb (find entry held) k
unfolding slot_right
slot_held known held k zero n q = absurd (n refl)
slot_held known held k (suc i) n q = let e : suc i - 1 ≡ i = omega arith in rw (q, e)

-- a slot's identifier is found first in this slot exactly where no slot before holds it
pub found_here : (held : List ℕ) (k entry : ℕ) → k < length held → get_or held k 0 ≡ entry
    → eqb (find entry held) k ≡ every_below k (λ (j : ℕ). other entry (get_or held j 0))
found_here held k entry h e =
    let f : ℕ → Bool = λ j. other entry (get_or held j 0) in
    same_test (eqb (find entry held) k) (every_below k f)
    (λ q.
    let first = eqb-true (find entry held) k q in
    at_every k f (λ j l.
    by-eq (get_or held j 0) entry
    (λ w. absurd (omega (arith, first, find_first entry held j (omega arith) w)))
    (λ w. ap not (ne_eqb (get_or held j 0) entry w))))
    (λ q.
    eq-eqb (find entry held) k
    (find-is entry held k (omega arith)
    (λ j l w. false≢true (sym (ap not (eq-eqb (get_or held j 0) entry w)) ∙ every-at k f q j l))
    (λ l. e)))

-- the part before the slot, as none_holds is asked about it
pub part-before : (held : List ℕ) (k entry : ℕ) → k < length held
    → every_below (length (take (k - 0) (drop 0 held))) (λ (j : ℕ). other entry (get_or (take (k - 0) (drop 0 held)) j 0))
    ≡ every_below k (λ (j : ℕ). other entry (get_or held j 0))
part-before held k entry h =
    part-every (other entry) held 0 0 k k (zero-add k) (omega arith)
    ∙ every-ext k (λ (j : ℕ). other entry (get_or held (0 + j) 0)) (λ (j : ℕ). other entry (get_or held j 0)) (λ j l. rw (zero-add j))

pub held_below : (known : ℕ → Bool) (held : List ℕ) → held_right known held ≡ every_below (length held) (λ (k : ℕ). slot_right known held k (get_or held k 0))
unfolding held_right
held_below known held = every_at-below (slot_right known held) held 0
