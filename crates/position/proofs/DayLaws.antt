-- The places of a day's periods lie in the tables of a sound book, and its sums are gathered slot by slot in the front of what is lent.
use mathlib.Core.Bool.{false}
use mathlib.Core.List.{List, ◌++◌}
use mathlib.Core.Path.{◌≡◌, refl, sym, ap, ◌∙◌}
use Prim.Native.Nat.{ℕ, suc, ◌+◌, ◌-◌, ◌≤◌, ◌<◌}
use native.Mathlib.Omega.{arith}
use lib.Dec.{eqb}
use lib.IntN.{ℤ, pos, nat_abs, ◌+ℤ◌, +ℤ_idr}
use lib.ListN.{length, get_or, replicate, drop, length-append, length-replicate, get_or-append, get_or-replicate}
use mir.Syntax.{w64}
use mir.Val.{SFits}
use Rattle.std.proofs.Common.{length-drop}
use Rattle.std.proofs.lemmas.List.{get_or-drop}
use Rattle.std.proofs.Math.Seq.{get_or-append_right}
use borrow.Author.Tests.{eqb-false}
use Rattle.words.specs.Below.{sum_belowℤ}
use Rattle.words.specs.Lists.{on_front}
use Rattle.laws.proofs.Cases.{on, or_left, or_right}
use Rattle.laws.proofs.Fronts.{front_at, front-is, front_kept, front_same, front-join}
use Rattle.laws.proofs.Machine.{abs-fits}
use Rattle.laws.proofs.Sums.{sum_more, sum_bound}
use Rattle.laws.proofs.Whole.{abs-add}
use Rattle.meaning.specs.Authorisations.{Authorisation, in_pair}
use Rattle.meaning.specs.Ledgers.{the_mark, index, origin_in}
use Rattle.meaning.specs.Totals.{matches, counted}
use Rattle.meaning.proofs.Counted.{seen_other, counted-small}
use Rattle.meaning.proofs.Sound.{parts}
use Rattle.meaning.proofs.Standing.{sound-opens}
use Rattle.ledger.proofs.PlaceLaws.{index-next, day-within}
use Rattle.book.specs.declared.Book.{Book}
use Rattle.book.specs.Structs.{rows_in, book_of}
use Rattle.book.proofs.SoundParts.{codes-count}
use Rattle.position.specs.Counting.{DayAsked, PartInside, counted_at}
use Rattle.position.proofs.TotalLaws.{counted-by-place}

-- ---- places

module _ (b : Book) (held : List ℕ) (side1 side2 : List ℤ) (d : ℕ) (a : DayAsked (book_of b held side1 side2) d) where
  pub slots-few : length held ≤ 256
  slots-few = (sound-opens (book_of b held side1 side2) (parts (book_of b held side1 side2) a.is-sound)).few-slots

  -- a slot's places of the day
  pub day-inside : (slot first count : ℕ) → slot < length held → first ≡ index b.setup.days slot d 1 → count ≤ 50 → PartInside first count side1 side2
  day-inside slot first count h e few =
      let o = sound-opens (book_of b held side1 side2) (parts (book_of b held side1 side2) a.is-sound) in
      let n = codes-count b in
      let last = day-within b.setup.days slot d (length held) h (rw n at a.inside) in
      record { in1 = omega (arith, last, e, rw n at o.side1); in2 = omega (arith, last, e, rw n at o.side2) }

  pub place_inside : (slot place p : ℕ) → slot < length held → place ≡ index b.setup.days slot d (suc p) → p < 50 → (place < length side1) × (place < length side2)
  place_inside slot place p h e few =
      let first = index b.setup.days slot d 1 in
      let i = day-inside slot first 50 h refl (omega arith) in
      let n = index-next b.setup.days slot d p in
      (omega (arith, i.in1, n, e), omega (arith, i.in2, n, e))

-- ---- what a slot counts, by its first place of the day

module _ (b : Book) (held : List ℕ) (side1 side2 : List ℤ) (account d slot : ℕ) (origin : Authorisation) (first : ℕ)
    (o : origin ≡ origin_in (rows_in b.setup) (get_or held slot 0)) (f : first ≡ index b.setup.days slot d 1) where
  pub counted-from : (p : ℕ) → counted_at origin account side1 side2 (first + p) ≡ counted (book_of b held side1 side2) account d (suc p) slot
  counted-from p =
      let place : first + p ≡ index b.setup.days slot d (suc p) = ap (λ (k : ℕ). k + p) f ∙ index-next b.setup.days slot d p in
      (λ i. counted_at (o i) account side1 side2 (place i)) ∙ sym (counted-by-place b held side1 side2 account d p slot)

-- an account that is not of the pair counts nothing
pub foreign-none : (origin : Authorisation) (account : ℕ) (side1 side2 : List ℤ) (place : ℕ) → in_pair origin account ≡ false → counted_at origin account side1 side2 place ≡ pos 0
unfolding counted_at
foreign-none origin account side1 side2 place e =
    let first = eqb account origin.account1 in
    let second = eqb account origin.account2 in
    let v : ℤ = get_or side1 place the_mark in
    on (matches v (get_or side2 place the_mark))
    (λ m. rw m (seen_other origin v account (eqb-false account origin.account1 (or_left first second e)) (eqb-false account origin.account2 (or_right first second e))))
    (λ m. rw m)

-- ---- what a slot adds

-- nothing, to the sums of an account that is not of the pair
pub foreign_kept : (origin : Authorisation) (account : ℕ) (side1 side2 : List ℤ) (first periods : ℕ) (l : List ℤ) → in_pair origin account ≡ false
    → l ≡ on_front periods (λ (p : ℕ) (old : ℤ). old +ℤ counted_at origin account side1 side2 (first + p)) l
foreign_kept origin account side1 side2 first periods l e =
    front_kept periods (λ (p : ℕ) (old : ℤ). old +ℤ counted_at origin account side1 side2 (first + p)) l (pos 0)
    (λ p h. ap (λ (z : ℤ). get_or l p (pos 0) +ℤ z) (foreign-none origin account side1 side2 (first + p) e) ∙ +ℤ_idr (get_or l p (pos 0)))

pub added-fits : (z k : ℤ) → nat_abs z ≤ 25600000000 → nat_abs k ≤ 2147483648 → SFits w64 (z +ℤ k)
added-fits z k h g = abs-fits {w = w64} {z = z +ℤ k} (omega (arith, abs-add z k))

-- ---- the sums of the first slots

module _ (b : Book) (held : List ℕ) (side1 side2 : List ℤ) (account d : ℕ) where
  abbrev pub sums_below : ℕ → ℕ → ℤ → ℤ
  sums_below slots p old = sum_belowℤ slots (counted (book_of b held side1 side2) account d (suc p))

  -- before the first slot, in what was cleared
  pub sums-begin : (periods : ℕ) (lent cleared : List ℤ) → periods ≤ length lent → cleared ≡ on_front periods (λ (p : ℕ) (old : ℤ). pos 0) lent → cleared ≡ on_front periods (sums_below 0) cleared
  unfolding sum_belowℤ
  sums-begin periods lent cleared h e =
      front_kept periods (sums_below 0) cleared (pos 0)
      (λ p k. sym (ap (λ (l : List ℤ). get_or l p (pos 0)) e ∙ front_at periods (λ (q : ℕ) (old : ℤ). pos 0) lent (pos 0) p k (omega arith)))

  pub sums-more : (slot periods first : ℕ) (origin : Authorisation) (lent : List ℤ)
      → origin ≡ origin_in (rows_in b.setup) (get_or held slot 0) → first ≡ index b.setup.days slot d 1
      → on_front periods (λ (p : ℕ) (old : ℤ). old +ℤ counted_at origin account side1 side2 (first + p)) (on_front periods (sums_below slot) lent) ≡ on_front periods (sums_below (slot + 1)) lent
  sums-more slot periods first origin lent o f =
      let adds : ℕ → ℤ → ℤ = λ (p : ℕ) (old : ℤ). old +ℤ counted_at origin account side1 side2 (first + p) in
      front-join periods (sums_below slot) adds lent (pos 0)
      ∙ front_same periods (λ (p : ℕ) (old : ℤ). adds p (sums_below slot p old)) (sums_below (slot + 1)) lent (pos 0)
      (λ p h.
      ap (λ (z : ℤ). sums_below slot p (pos 0) +ℤ z) (counted-from b held side1 side2 account d slot origin first o f p)
      ∙ sym (sum_more slot (counted (book_of b held side1 side2) account d (suc p))))

  -- after the last, in what was lent
  pub sums-end : (slots periods : ℕ) (lent cleared out : List ℤ) → cleared ≡ on_front periods (λ (p : ℕ) (old : ℤ). pos 0) lent → out ≡ on_front periods (sums_below slots) cleared
      → out ≡ on_front periods (sums_below slots) lent
  sums-end slots periods lent cleared out e q =
      q ∙ ap (on_front periods (sums_below slots)) e ∙ front-join periods (λ (p : ℕ) (old : ℤ). pos 0) (sums_below slots) lent (pos 0)

  -- in a sound book each is far from the edge
  pub sums-small : DayAsked (book_of b held side1 side2) d → (slot p : ℕ) → slot ≤ length held → nat_abs (sums_below slot p (pos 0)) ≤ 25600000000
  sums-small a slot p h =
      omega (
        arith,
        slots-few b held side1 side2 d a,
        sum_bound slot 99999999 (counted (book_of b held side1 side2) account d (suc p)) (λ k l. counted-small (book_of b held side1 side2) d (suc p) k (parts (book_of b held side1 side2) a.is-sound) account),
      )

  pub sums-bounded : DayAsked (book_of b held side1 side2) d → (slot periods : ℕ) (cleared out : List ℤ) → slot ≤ length held → periods ≤ length cleared
      → out ≡ on_front periods (sums_below slot) cleared → (p : ℕ) → p < periods → nat_abs (get_or out p (pos 0)) ≤ 25600000000
  sums-bounded a slot periods cleared out h k e p l =
      let q : get_or out p (pos 0) ≡ sums_below slot p (pos 0) = ap (λ (xs : List ℤ). get_or xs p (pos 0)) e ∙ front_at periods (sums_below slot) cleared (pos 0) p l (omega arith) in
      rw q (sums-small a slot p h)

-- what is filled from the front on is that front rewritten
pub front-filled : (n : ℕ) (z : ℤ) (l : List ℤ) → n ≤ length l → replicate n z ++ drop n l ≡ on_front n (λ (p : ℕ) (old : ℤ). z) l
front-filled n z l h =
    let long : length (replicate n z) ≡ n = length-replicate n z in
    front-is n (λ (p : ℕ) (old : ℤ). z) l (pos 0) (replicate n z ++ drop n l)
    (length-append (replicate n z) (drop n l) ∙ omega (arith, long, length-drop n l))
    (λ k i m. get_or-append (replicate n z) (drop n l) (pos 0) k (omega arith) ∙ get_or-replicate n k z (pos 0) m)
    (λ k i m. get_or-append_right (replicate n z) (drop n l) k (pos 0) (omega arith) ∙ get_or-drop n l (k - length (replicate n z)) (pos 0) ∙ ap (λ (j : ℕ). get_or l j (pos 0)) (omega arith))
