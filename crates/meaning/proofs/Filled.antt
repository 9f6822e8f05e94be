-- Slots filled from the front: the identifiers that were accepted, each once, in the order of their first acceptance, and then unheld slots. For no slot
-- is freed, and a new identifier takes the lowest unheld one.
use mathlib.Core.Bool.{true, false}
use mathlib.Core.List.{List, [], ◌∷◌, ◌++◌}
use mathlib.Core.Path.{◌≡◌, sym, ap, ◌∙◌}
use Prim.Native.Nat.{ℕ, suc, ◌≤◌, ◌<◌}
use native.Mathlib.Omega.{arith}
use lib.Dec.{eqb}
use lib.ListN.{length, get_or, set, length-set, get_or-append}
use lib.Seq.{get_or-set_same, get_or-set_other}
use Rattle.words.specs.Lists.{any, find, once}
use Rattle.laws.proofs.Cases.{on, by-eq}
use Rattle.laws.proofs.Lists.{find-is, any_snoc, length-snoc, get_or-snoc}
use Rattle.laws.proofs.Once.{once-snoc}
use Rattle.meaning.specs.Ledgers.{is_held}
use Rattle.meaning.proofs.Held.{Room, with, is-held, is-unheld, with-same, with-new, with-holds}

-- The identifiers of a list, each once, stand in the slots from the first on; the other slots are unheld.
pub record Filled (held identifiers : List ℕ) : Type 0 where
  pub fits : length (once identifiers) ≤ length held
  pub entry : (k : ℕ) → k < length (once identifiers) → get_or held k 0 ≡ suc (get_or (once identifiers) k 0)
  pub free : (k : ℕ) → length (once identifiers) ≤ k → get_or held k 0 ≡ 0
  pub seen : (i : ℕ) → is_held held i ≡ any (eqb i) identifiers

-- so the lowest unheld slot is the one after them
pub lowest-free : (held identifiers : List ℕ) → Filled held identifiers → find 0 held ≡ length (once identifiers)
lowest-free held identifiers f =
    find-is 0 held (length (once identifiers)) f.fits
    (λ j l e. omega (arith, sym (f.entry j l) ∙ e))
    (λ l. f.free (length (once identifiers)) (omega arith))

-- ---- one more is accepted: it is held already, or takes that slot

module _ (held identifiers : List ℕ) (i : ℕ) (room : Room held i) (f : Filled held identifiers) where
  seen_more : (x : ℕ) → is_held (with held i) x ≡ any (eqb x) (identifiers ++ (i ∷ []))
  seen_more x = with-holds i held room x ∙ rw (f.seen x) (sym (any_snoc (eqb x) identifiers i))

  held-before : any (eqb i) identifiers ≡ true → Filled (with held i) (identifiers ++ (i ∷ []))
  held-before e =
      let same : with held i ≡ held = with-same i held (is-held held i (f.seen i ∙ e)) in
      let list : once (identifiers ++ (i ∷ [])) ≡ once identifiers = once-snoc identifiers i ∙ rw e in
      record { fits = rw (same, list) f.fits; entry = rw (same, list) f.entry; free = rw (same, list) f.free; seen = seen_more }

  new : any (eqb i) identifiers ≡ false → Filled (with held i) (identifiers ++ (i ∷ []))
  new e =
      let h : length held ≤ find (suc i) held = is-unheld held i (f.seen i ∙ e) in
      let low : find 0 held ≡ length (once identifiers) = lowest-free held identifiers f in
      let l : length (once identifiers) < length held = rw low at (room h) in
      let now : with held i ≡ set held (length (once identifiers)) (suc i) = rw low at (with-new i held h) in
      let list : once (identifiers ++ (i ∷ [])) ≡ once identifiers ++ (i ∷ []) = once-snoc identifiers i ∙ rw e in
      record {
        fits = rw (now, list, length-snoc (once identifiers) i, length-set) l;
        entry = rw (now, list) (λ k q. entry_more k (rw length-snoc at q) l);
        free = rw (now, list) (λ k q. free_more k (rw length-snoc at q));
        seen = seen_more;
      }
    where
      entry_more : (k : ℕ) → k < suc (length (once identifiers)) → length (once identifiers) < length held
          → get_or (set held (length (once identifiers)) (suc i)) k 0 ≡ suc (get_or (once identifiers ++ (i ∷ [])) k 0)
      entry_more k q l =
          by-eq k (length (once identifiers))
          (λ w. rw w (get_or-set_same held (length (once identifiers)) (suc i) 0 l ∙ ap suc (sym (get_or-snoc (once identifiers) i 0))))
          (λ w.
          let u : k < length (once identifiers) = omega arith in
          get_or-set_other held (length (once identifiers)) k (suc i) 0 w ∙ f.entry k u ∙ ap suc (sym (get_or-append (once identifiers) (i ∷ []) 0 k u)))

      free_more : (k : ℕ) → suc (length (once identifiers)) ≤ k → get_or (set held (length (once identifiers)) (suc i)) k 0 ≡ 0
      free_more k q =
          get_or-set_other held (length (once identifiers)) k (suc i) 0 (λ w. omega arith) ∙ f.free k (omega arith)

  pub filled_more : Filled (with held i) (identifiers ++ (i ∷ []))
  filled_more = on (any (eqb i) identifiers) held-before new
