-- What the forms that a derivative is made of match: `either` and `after` what they stand for, and the empty string what is nullable.
use mathlib.Core.Bool.{Bool, true, false, ◌||◌, true≢false}
use mathlib.Core.List.{List, [], ◌∷◌, ◌++◌, append_assoc}
use mathlib.Core.Logic.{◌⊎◌, inl, inr, ⊎_elim}
use mathlib.Core.Path.{◌≡◌, refl, sym, ap, ◌∙◌, subst}
use Prim.Native.Nat.{ℕ}
use Rattle.words.specs.Lists.{join}
use Rattle.laws.proofs.Cases.{on, and_left, and_right, both}
use Rattle.patterns.specs.Patterns.{Pattern, never, empty, one, ◌·◌, ◌∣◌, many, Matches}
use Rattle.patterns.proofs.Derivatives.{nullable, is_never, after, either}

-- ---- after and either match what they stand for

pub never-none : (p : Pattern) → is_never p ≡ true → (s : List ℕ) → Matches p s → ⊥
unfolding is_never
never-none never e s m = m
never-none empty e s m = true≢false (sym e)
never-none (one ranges) e s m = true≢false (sym e)
never-none (p · q) e s m = true≢false (sym e)
never-none (p ∣ q) e s m = true≢false (sym e)
never-none (many p) e s m = true≢false (sym e)

pub either-in : (p q : Pattern) (s : List ℕ) → Matches p s ⊎ Matches q s → Matches (either p q) s
unfolding either
either-in p q s m =
    on (is_never p)
    (λ e. rw e (⊎_elim (λ h. absurd (never-none p e s h)) (λ h. h) m))
    (λ e. rw e (on (is_never q)
    (λ f. rw f (⊎_elim (λ h. h) (λ h. absurd (never-none q f s h)) m))
    (λ f. rw f m)))

pub either-out : (p q : Pattern) (s : List ℕ) → Matches (either p q) s → Matches p s ⊎ Matches q s
unfolding either
either-out p q s =
    on (is_never p)
    (λ e. rw e (λ m. inr m))
    (λ e. rw e (on (is_never q) (λ f. rw f (λ m. inl m)) (λ f. rw f (λ m. m))))

pub after-in : (p q : Pattern) (u v : List ℕ) → Matches p u → Matches q v → Matches (after p q) (u ++ v)
unfolding after
after-in never q u v m n = m
after-in empty q u v m n = rw m n
after-in (one ranges) q u v m n = (u, (v, (refl, (m, n))))
after-in (a · b) q u v m n =
    let (x, (y, (e, (ma, mb)))) = m in
    rw (e, append_assoc x y v) (after-in a (after b q) x (y ++ v) ma (after-in b q y v mb n))
after-in (a ∣ b) q u v m n = (u, (v, (refl, (m, n))))
after-in (many a) q u v m n = (u, (v, (refl, (m, n))))

pub after-out : (p q : Pattern) (s : List ℕ) → Matches (after p q) s → Matches (p · q) s
unfolding after
after-out never q s m = absurd m
after-out empty q s m = ([], (s, (refl, (refl, m))))
after-out (one ranges) q s m = m
after-out (a · b) q s m =
    let (x, (t, (e, (ma, mt)))) = after-out a (after b q) s m in
    let (y, (v, (f, (mb, mq)))) = after-out b q t mt in
    (x ++ y, (v, (e ∙ ap (λ (w : List ℕ). x ++ w) f ∙ sym (append_assoc x y v), ((x, (y, (refl, (ma, mb)))), mq))))
after-out (a ∣ b) q s m = m
after-out (many a) q s m = m

-- ---- the empty string

pub nullable-in : (p : Pattern) → nullable p ≡ true → Matches p []
unfolding nullable join
nullable-in never e = absurd (true≢false (sym e))
nullable-in empty e = refl
nullable-in (one ranges) e = absurd (true≢false (sym e))
nullable-in (p · q) e = ([], ([], (refl, (nullable-in p (and_left (nullable p) (nullable q) e), nullable-in q (and_right (nullable p) (nullable q) e)))))
nullable-in (p ∣ q) e = on (nullable p) (λ f. inl (nullable-in p f)) (λ f. inr (nullable-in q (rw f at e)))
nullable-in (many p) e = ([], (refl, tt))

front-empty : (u v : List ℕ) → [] ≡ u ++ v → u ≡ []
front-empty [] v e = refl
front-empty (x ∷ u) v e = cc

back-empty : (u v : List ℕ) → [] ≡ u ++ v → v ≡ []
back-empty [] v e = sym e
back-empty (x ∷ u) v e = cc

pub nullable-out : (p : Pattern) → Matches p [] → nullable p ≡ true
unfolding nullable
nullable-out never m = absurd m
nullable-out empty m = refl
nullable-out (one ranges) m = let (b, (e, h)) = m in cc
nullable-out (p · q) m =
    let (u, (v, (e, (mp, mq)))) = m in
    both (nullable-out p (subst (λ (w : List ℕ). Matches p w) (front-empty u v e) mp)) (nullable-out q (subst (λ (w : List ℕ). Matches q w) (back-empty u v e) mq))
nullable-out (p ∣ q) m = go (nullable p) (nullable q) (⊎_elim (λ h. inl (nullable-out p h)) (λ h. inr (nullable-out q h)) m)
  where
    go : (a b : Bool) → (a ≡ true) ⊎ (b ≡ true) → a || b ≡ true
    go true b m = refl
    go false b (inl h) = absurd (true≢false (sym h))
    go false b (inr h) = h
nullable-out (many p) m = refl
