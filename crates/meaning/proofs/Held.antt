-- An identifier that is notified is held afterwards: in its own slot, or in the lowest unheld one. Over the identifier, for every sort.
use mathlib.Core.Bool.{true, false, ◌||◌}
use mathlib.Core.List.{List}
use mathlib.Core.Logic.{◌≢◌, ◌⊎◌, inl, inr}
use mathlib.Core.Path.{◌≡◌, refl, sym, ap, ◌∙◌, subst}
use Prim.Native.Nat.{ℕ, suc, ◌≤◌, ◌<◌}
use native.Mathlib.Omega.{arith}
use lib.Dec.{eqb}
use lib.ListN.{length, get_or, set, length-set, get_or-eq_default}
use lib.Seq.{set-get_or, get_or-set_same, get_or-set_other}
use borrow.Author.Tests.{lt-ltb, le-ltb, ltb-true, ltb-false, eq-eqb, ne_eqb}
use Rattle.words.specs.Lists.{find}
use Rattle.laws.proofs.Cases.{by-lt, by-eq, or-true, or-false}
use Rattle.laws.proofs.Lists.{find_at, find_first, find-set-other, find-set-new}
use Rattle.meaning.specs.Ledgers.{is_held, slot_for}

-- where the identifier is not held, a slot is unheld (refusal 14)
abbrev pub Room : List ℕ → ℕ → Type 0
Room held i = length held ≤ find (suc i) held → find 0 held < length held

-- each held identifier is found in its own slot
abbrev pub Apart : List ℕ → Type 0
Apart held = (k i : ℕ) → k < length held → get_or held k 0 ≡ suc i → find (suc i) held ≡ k

abbrev pub with : List ℕ → ℕ → List ℕ
with held i = set held (slot_for held i) (suc i)

pub held-is : (held : List ℕ) (i : ℕ) → find (suc i) held < length held → is_held held i ≡ true
unfolding is_held
held-is held i h = lt-ltb (find (suc i) held) (length held) h

pub unheld-is : (held : List ℕ) (i : ℕ) → length held ≤ find (suc i) held → is_held held i ≡ false
unfolding is_held
unheld-is held i h = le-ltb (find (suc i) held) (length held) h

pub is-held : (held : List ℕ) (i : ℕ) → is_held held i ≡ true → find (suc i) held < length held
unfolding is_held
is-held held i e = ltb-true (find (suc i) held) (length held) e

pub is-unheld : (held : List ℕ) (i : ℕ) → is_held held i ≡ false → length held ≤ find (suc i) held
unfolding is_held
is-unheld held i e = ltb-false (find (suc i) held) (length held) e

module _ (i : ℕ) (held : List ℕ) where
  -- an identifier that is held stays where it is: nothing is stored
  pub with-same : find (suc i) held < length held → with held i ≡ held
  unfolding slot_for
  with-same h =
      rw (held-is held i h) (subst (λ (x : ℕ). set held (find (suc i) held) x ≡ held) (find_at (suc i) held h) (set-get_or held (find (suc i) held) 0))

  -- a new one is stored in the lowest unheld slot
  pub with-new : length held ≤ find (suc i) held → with held i ≡ set held (find 0 held) (suc i)
  unfolding slot_for
  with-new h = rw (unheld-is held i h)

  pub with-now : Room held i → find (suc i) (with held i) < length held
  with-now r =
      by-lt (find (suc i) held) (length held)
      (λ h. rw (with-same h) h)
      (λ h. let f = r h in rw (with-new h, find-set-new) f)

  -- where an identifier is afterwards: where it was; or it is new, and its slot was unheld
  pub with-after : (x : ℕ) → Room held i
      → (find (suc x) (with held i) ≡ find (suc x) held)
      ⊎ ((length held ≤ find (suc x) held) × (find (suc x) (with held i) < length held) × (get_or held (find (suc x) (with held i)) 0 ≡ 0))
  with-after x r =
      by-lt (find (suc i) held) (length held)
      (λ h. inl (ap (find (suc x)) (with-same h)))
      (λ h.
      let f = r h in
      let z = find_at 0 held f in
      by-eq (suc i) (suc x)
      (λ q. inr (rw (← q) (h, rw (with-new h, find-set-new) f, rw (with-new h, find-set-new) z)))
      (λ q. inl (ap (find (suc x)) (with-new h) ∙ find-set-other (suc x) held (find 0 held) (suc i) q (λ w. omega (arith, sym w ∙ z)))))

  -- another identifier stays where it is
  pub with-other : (x : ℕ) → x ≢ i → Room held i → find (suc x) (with held i) ≡ find (suc x) held
  with-other x ne r =
      by-lt (find (suc i) held) (length held)
      (λ h. ap (find (suc x)) (with-same h))
      (λ h.
      ap (find (suc x)) (with-new h)
      ∙ find-set-other (suc x) held (find 0 held) (suc i) (λ q. ne (omega arith)) (λ w. omega (arith, sym w ∙ find_at 0 held (r h))))

  -- this one is held afterwards, and of the others those that were
  pub with-holds : Room held i → (x : ℕ) → is_held (with held i) x ≡ is_held held x || eqb x i
  unfolding is_held
  with-holds r x =
      let len = length-set held (slot_for held i) (suc i) in
      by-eq x i
      (λ q. rw (q, eq-eqb i i refl, or-true) (lt-ltb (find (suc i) (with held i)) (length (with held i)) (omega (arith, with-now r))))
      (λ q. rw (ne_eqb x i q, with-other x q r, len, or-false))

  -- what a slot's entry is afterwards: the identifier's, or what it was
  pub with-entry : (k : ℕ) → k < length held → (get_or (with held i) k 0 ≡ suc i) ⊎ (get_or (with held i) k 0 ≡ get_or held k 0)
  with-entry k h =
      by-eq k (slot_for held i)
      (λ q. inl (rw (← q) (get_or-set_same held k (suc i) 0 h)))
      (λ q. inr (get_or-set_other held (slot_for held i) k (suc i) 0 q))

  -- a slot that is unheld afterwards was unheld before
  pub with-free : (k : ℕ) → get_or (with held i) k 0 ≡ 0 → get_or held k 0 ≡ 0
  with-free k e =
      by-eq k (slot_for held i)
      (λ q. by-lt k (length held)
      (λ h. absurd (omega (arith, sym (get_or-set_same held k (suc i) 0 h) ∙ rw (← q) at e)))
      (λ h. get_or-eq_default held 0 h))
      (λ q. sym (get_or-set_other held (slot_for held i) k (suc i) 0 q) ∙ e)

  apart-new : length held ≤ find (suc i) held → find 0 held < length held → Apart held → Apart (set held (find 0 held) (suc i))
  apart-new l hf h k x hk e =
      let z = find_at 0 held hf in
      let hk' : k < length held = rw length-set at hk in
      by-eq k (find 0 held)
      (λ q.
      let s : suc i ≡ suc x = sym (get_or-set_same held (find 0 held) (suc i) 0 hf) ∙ rw q at e in
      rw (← s, q) (find-set-new (suc i) held (find 0 held) l hf))
      (λ q.
      let e' : get_or held k 0 ≡ suc x = sym (get_or-set_other held (find 0 held) k (suc i) 0 q) ∙ e in
      find-set-other (suc x) held (find 0 held) (suc i) (λ w. omega (arith, find_first (suc i) held k hk' (e' ∙ sym w))) (λ w. omega (arith, sym w ∙ z))
      ∙ h k x hk' e')

  pub with-apart : Room held i → Apart held → Apart (with held i)
  with-apart r h =
      by-lt (find (suc i) held) (length held)
      (λ l. subst Apart (sym (with-same l)) h)
      (λ l. subst Apart (sym (with-new l)) (apart-new l (r l) h))

-- by identifier is by slot: the code rewrites one slot's places, the definitions those of the slot that holds the identifier
pub by-slot : (held : List ℕ) → Apart held → (i : ℕ) → find (suc i) held < length held → (k : ℕ) → k < length held
    → (get_or held k 0 ≡ suc i → k ≡ find (suc i) held) × (k ≡ find (suc i) held → get_or held k 0 ≡ suc i)
by-slot held h i l k hk = (λ e. sym (h k i hk e), λ e. ap (λ (x : ℕ). get_or held x 0) e ∙ find_at (suc i) held l)
