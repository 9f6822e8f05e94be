-- A run of places of a table: a part of it tested, and the whole table by slots, days and periods.
use mathlib.Core.Bool.{Bool, true, ◌&&◌, ◌||◌}
use mathlib.Core.List.{List}
use mathlib.Core.Path.{◌≡◌, sym, ap, ◌∙◌}
use Prim.Native.Nat.{ℕ, ◌+◌, ◌-◌, ◌*◌, ◌≤◌, ◌<◌}
use native.Mathlib.Nat.{mul-le-mul}
use native.Mathlib.Omega.{arith}
use lib.Dec.{ltb}
use lib.ListN.{length, get_or, take, drop, length-take, length-drop}
use lib.Seq.{get_or-take, get_or-drop}
use borrow.Author.Tests.{lt-ltb, le-ltb}
use Rattle.words.specs.Below.{every_below}
use Rattle.laws.proofs.Below.{every-ext, every-at, at_every}
use Rattle.laws.proofs.Cases.{same_test, by-lt, and_left, and_right}

-- the part from a up to e, of which every element is tested with its place, is the run of n places from a on
pub part-every-at : {A : Type 0} (f : ℕ → A → Bool) (side : List A) (d : A) (a e n : ℕ) → a + n ≡ e → e ≤ length side
    → every_below (length (take (e - a) (drop a side))) (λ (k : ℕ). f k (get_or (take (e - a) (drop a side)) k d))
    ≡ every_below n (λ (k : ℕ). f k (get_or side (a + k) d))
part-every-at f side d a e n h l =
    let q : e - a ≡ n = omega arith in
    let m : length (take (e - a) (drop a side)) ≡ n = simp (length-take, length-drop) (omega arith) in
    rw m
    (every-ext n (λ (k : ℕ). f k (get_or (take (e - a) (drop a side)) k d)) (λ (k : ℕ). f k (get_or side (a + k) d))
    (λ k w. ap (f k) (get_or-take (e - a) (drop a side) k d (omega arith) ∙ get_or-drop a side k d)))

pub part-every : {A : Type 0} (f : A → Bool) (side : List A) (d : A) (a e n : ℕ) → a + n ≡ e → e ≤ length side
    → every_below (length (take (e - a) (drop a side))) (λ (k : ℕ). f (get_or (take (e - a) (drop a side)) k d))
    ≡ every_below n (λ (k : ℕ). f (get_or side (a + k) d))
part-every f side d a e n h l = part-every-at (λ k. f) side d a e n h l

-- Of 50 places n pass f and the others g, which is stricter: all pass f, and the last four g where they are not among the n.
pub row_ends : (f g : ℕ → Bool) (n : ℕ) → 46 ≤ n → n ≤ 50 → ((k : ℕ) → g k ≡ true → f k ≡ true)
    → every_below 50 f && every_below 4 (λ (k : ℕ). ltb k (n - 46) || g (46 + k)) ≡ every_below n f && every_below (50 - n) (λ (k : ℕ). g (n + k))
row_ends f g n lo hi strict =
    let ends : ℕ → Bool = λ k. ltb k (n - 46) || g (46 + k) in
    let rest : ℕ → Bool = λ k. g (n + k) in
    same_test (every_below 50 f && every_below 4 ends) (every_below n f && every_below (50 - n) rest)
    (λ e.
    let all = and_left (every_below 50 f) (every_below 4 ends) e in
    let last = and_right (every_below 50 f) (every_below 4 ends) e in
    rw (at_every n f (λ k l. every-at 50 f all k (omega arith)))
    (at_every (50 - n) rest (λ k l.
    let q : 46 + (n - 46 + k) ≡ n + k = omega arith in
    let w : ltb (n - 46 + k) (n - 46) || g (46 + (n - 46 + k)) ≡ true = every-at 4 ends last (n - 46 + k) (omega arith) in
    rw (le-ltb (n - 46 + k) (n - 46) (omega arith), q) at w)))
    (λ e.
    let first = and_left (every_below n f) (every_below (50 - n) rest) e in
    let others = and_right (every_below n f) (every_below (50 - n) rest) e in
    let past : (k : ℕ) → n ≤ k → k < 50 → g k ≡ true = λ k h l.
    let q : n + (k - n) ≡ k = omega arith in
    ap g (sym q) ∙ every-at (50 - n) rest others (k - n) (omega arith) in
    rw (at_every 50 f (λ k l. by-lt k n (λ h. every-at n f first k h) (λ h. strict k (past k h l))))
    (at_every 4 ends (λ k l.
    by-lt k (n - 46)
    (λ h. rw (lt-ltb k (n - 46) h))
    (λ h. rw (le-ltb k (n - 46) h) (past (46 + k) (omega arith) (omega arith))))))

-- few slots of few days
pub product-few : (slot n : ℕ) → slot ≤ 256 → n ≤ 8 → slot * n ≤ 2048
product-few slot n h l = mul-le-mul h l
