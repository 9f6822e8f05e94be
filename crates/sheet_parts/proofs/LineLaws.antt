-- Lines placed one after the other: more of them behind those that are there.
use Rattle.std.proofs.Common.{◌≡◌, ℕ, ◌+◌, List, [], ◌∷◌, ◌++◌, length, sym, refl, ap, ◌∙◌, append_assoc, append-nil}
use lib.Seq.{length-sets}
use Rattle.words.specs.Lists.{build, join}
use Rattle.laws.proofs.Cases.{on}
use Rattle.laws.proofs.Builds.{build-next}
use Rattle.sheet_lines.specs.Places.{has_room, placed, place_after, all_placed, place_after_all}

pub placed-length : (out : List ℕ) (at : ℕ) (line : List ℕ) → length (placed out at line) ≡ length out
unfolding placed
placed-length out at line = on (has_room (length out) at) (λ e. rw e (length-sets out at line)) (λ e. rw e refl)

pub all-placed-on : (out : List ℕ) (at : ℕ) (xs ys : List (List ℕ)) → all_placed out at (xs ++ ys) ≡ all_placed (all_placed out at xs) (place_after_all (length out) at xs) ys
unfolding all_placed place_after_all
all-placed-on out at [] ys = refl
all-placed-on out at (x ∷ xs) ys =
    all-placed-on (placed out at x) (place_after (length out) at x) xs ys
    ∙ ap (λ (n : ℕ). all_placed (all_placed (placed out at x) (place_after (length out) at x) xs) (place_after_all n (place_after (length out) at x) xs) ys) (placed-length out at x)

pub place-after-on : (size at : ℕ) (xs ys : List (List ℕ)) → place_after_all size at (xs ++ ys) ≡ place_after_all size (place_after_all size at xs) ys
unfolding place_after_all
place-after-on size at [] ys = refl
place-after-on size at (x ∷ xs) ys = place-after-on size (place_after size at x) xs ys

pub all-placed-length : (out : List ℕ) (at : ℕ) (xs : List (List ℕ)) → length (all_placed out at xs) ≡ length out
unfolding all_placed
all-placed-length out at [] = refl
all-placed-length out at (x ∷ xs) = all-placed-length (placed out at x) (place_after (length out) at x) xs ∙ placed-length out at x

-- ---- lines of one thing after the other

pub join-on : {A : Type 0} (xs : List (List A)) (y : List A) → join (xs ++ (y ∷ [])) ≡ join xs ++ y
unfolding join
join-on [] y = append-nil y
join-on (x ∷ xs) y = ap (λ (l : List _). x ++ l) (join-on xs y) ∙ sym (append_assoc x (join xs) y)

pub join-next : {A : Type 0} (n : ℕ) (f : ℕ → List A) → join (build (n + 1) f) ≡ join (build n f) ++ f n
join-next n f = ap join (build-next n f) ∙ join-on (build n f) (f n)

-- the lines of things 0 to p - 1 stand in the buffer, and where the next line goes
pub record Stands (out₀ : List ℕ) (f : ℕ → List (List ℕ)) (p : ℕ) (out : List ℕ) (place : ℕ) : Type 0 where
  pub buffer : out ≡ all_placed out₀ 0 (join (build p f))
  pub next : place ≡ place_after_all (length out₀) 0 (join (build p f))
  pub size : length out ≡ length out₀

pub stands-none : (out : List ℕ) (f : ℕ → List (List ℕ)) → Stands out f 0 out 0
unfolding build join all_placed place_after_all
stands-none out f = record { buffer = refl; next = refl; size = refl }

pub stands-more : {out₀ : List ℕ} {f : ℕ → List (List ℕ)} {p : ℕ} {out : List ℕ} {place : ℕ} (left : List ℕ) (after : ℕ) → Stands out₀ f p out place
    → left ≡ all_placed out place (f p) → after ≡ place_after_all (length out) place (f p) → Stands out₀ f (p + 1) left after
stands-more {out₀} {f} {p} {out} {place} left after s l a =
    record {
      buffer = l ∙ rw (s.buffer, s.next, join-next p f) (sym (all-placed-on out₀ 0 (join (build p f)) (f p)));
      next = a ∙ rw (s.size, s.next, join-next p f) (sym (place-after-on (length out₀) 0 (join (build p f)) (f p)));
      size = ap length l ∙ all-placed-length out place (f p) ∙ s.size;
    }
