-- The first places of a list rewritten: what each place then holds, a loop that goes over them, and one rewriting after another.
use mathlib.Core.Bool.{cond}
use mathlib.Core.List.{List}
use mathlib.Core.Path.{◌≡◌, refl, sym, ap, ◌∙◌}
use Prim.Native.Nat.{ℕ, ◌+◌, ◌≤◌, ◌<◌}
use native.Mathlib.Omega.{arith}
use lib.Dec.{ltb}
use lib.ListN.{length, get_or, set, length-set}
use lib.Seq.{get_or-set_same, get_or-set_other}
use borrow.Author.Tests.{lt-ltb, le-ltb}
use Rattle.words.specs.Lists.{map_at, on_front}
use Rattle.laws.proofs.Cases.{by-lt, by-eq}
use Rattle.laws.proofs.Lists.{length-map_at, get_or-map_at, map_at-is}

module _ {A : Type 0} (n : ℕ) (f : ℕ → A → A) (l : List A) where
  abbrev rewritten : ℕ → A → A
  rewritten k x = cond (ltb k n) (f k x) x

  pub front_length : length (on_front n f l) ≡ length l
  unfolding on_front
  front_length = length-map_at rewritten l

  module _ (d : A) where
    -- a place of the front, and one past it
    pub front_at : (k : ℕ) → k < n → k < length l → get_or (on_front n f l) k d ≡ f k (get_or l k d)
    unfolding on_front
    front_at k h i = get_or-map_at rewritten l k d i ∙ rw (lt-ltb k n h)

    pub front-past : (k : ℕ) → n ≤ k → k < length l → get_or (on_front n f l) k d ≡ get_or l k d
    unfolding on_front
    front-past k h i = get_or-map_at rewritten l k d i ∙ rw (le-ltb k n h)

    -- a list as long that holds at each place what the rewriting says is the rewritten list
    pub front-is : (l' : List A) → length l' ≡ length l → ((k : ℕ) → k < length l → k < n → get_or l' k d ≡ f k (get_or l k d))
        → ((k : ℕ) → k < length l → n ≤ k → get_or l' k d ≡ get_or l k d) → l' ≡ on_front n f l
    unfolding on_front
    front-is l' e here past =
        map_at-is rewritten l l' d e
        (λ k i. by-lt k n (λ h. rw (lt-ltb k n h) (here k i h)) (λ h. rw (le-ltb k n h) (past k i h)))

    -- a rewriting that changes nothing
    pub front_kept : ((k : ℕ) → k < n → f k (get_or l k d) ≡ get_or l k d) → l ≡ on_front n f l
    front_kept same = front-is l refl (λ k i h. sym (same k h)) (λ k i h. refl)

    -- all of the list
    pub front-all : length l ≤ n → on_front n f l ≡ map_at f l
    front-all h = map_at-is f l (on_front n f l) d front_length (λ k i. front_at k (omega arith) i)

-- ---- a loop's start, and its next turn

module _ {A : Type 0} (f : ℕ → A → A) (l : List A) (d : A) where
  pub front-none : l ≡ on_front 0 f l
  front-none = front_kept 0 f l d (λ k h. absurd (omega arith))

  pub front-more : (k : ℕ) (out : List A) (x : A) → k < length l → out ≡ on_front k f l → x ≡ f k (get_or l k d) → set out k x ≡ on_front (k + 1) f l
  front-more k out x i e q =
      let long : length out ≡ length l = ap length e ∙ front_length k f l in
      front-is (k + 1) f l d (set out k x) (length-set out k x ∙ long)
      (λ j m h.
      by-eq j k
      (λ w. rw w (get_or-set_same out k x d (omega arith) ∙ q))
      (λ w. get_or-set_other out k j x d w ∙ ap (λ (xs : List A). get_or xs j d) e ∙ front_at k f l d j (omega arith) m))
      (λ j m h. get_or-set_other out k j x d (λ w. omega arith) ∙ ap (λ (xs : List A). get_or xs j d) e ∙ front-past k f l d j (omega arith) m)

-- ---- two rewritings

module _ {A : Type 0} (n : ℕ) (f g : ℕ → A → A) (l : List A) (d : A) where
  -- that agree
  pub front_same : ((k : ℕ) → k < n → f k (get_or l k d) ≡ g k (get_or l k d)) → on_front n f l ≡ on_front n g l
  front_same same = front-is n g l d (on_front n f l) (front_length n f l) (λ k i h. front_at n f l d k h i ∙ same k h) (λ k i h. front-past n f l d k h i)

  -- one after the other
  pub front-join : on_front n g (on_front n f l) ≡ on_front n (λ (k : ℕ) (x : A). g k (f k x)) l
  front-join =
      let once = on_front n f l in
      let long : length once ≡ length l = front_length n f l in
      front-is n (λ (k : ℕ) (x : A). g k (f k x)) l d (on_front n g once) (front_length n g once ∙ long)
      (λ k i h. front_at n g once d k h (rw long i) ∙ ap (g k) (front_at n f l d k h i))
      (λ k i h. front-past n g once d k h (rw long i) ∙ front-past n f l d k h i)
