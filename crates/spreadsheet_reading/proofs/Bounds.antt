-- The numbers of a line stay in range in every state: a number with n digits is below 10 ^ n.
use mathlib.Core.Bool.{Bool, true, false, ◌&&◌, ◌||◌, true≢false}
use mathlib.Core.List.{List, [], ◌∷◌, ◌++◌}
use mathlib.Core.Path.{◌≡◌, refl, sym, ap, ◌∙◌, subst}
use Prim.Native.Nat.{ℕ, zero, suc, ◌+◌, ◌-◌, ◌*◌, ◌^◌, ◌≤◌, ◌<◌}
use native.Mathlib.Nat.{pow-suc, pow-le-pow_right, add-suc, suc-add, mul-lt-mul_of_pos_right, lt_of_lt_of_le}
use native.Mathlib.Numerals.{add-one}
use native.Mathlib.Omega.{arith}
use lib.Pow.{pow-add}
use borrow.Author.Tests.{leb-true}
use Rattle.words.specs.Tests.{◌≤?◌, ◌=?◌}
use Rattle.laws.proofs.Cases.{on, and_left, and_right, or-second}
use Rattle.laws.proofs.Below.{every-at}
use Rattle.spreadsheet_reading.specs.declared.lines.Line.{Line}
use Rattle.spreadsheets.specs.Entries.{is_digit, with_digit}
use Rattle.spreadsheet_reading.specs.Machine.{column_of, turn_at, state_in}
use Rattle.spreadsheet_reading.specs.Feeding.{decimals_with, fed, line_of, Small, InRange}
use Rattle.spreadsheet_reading.proofs.RightTables.{column-small, column-line}
use Rattle.spreadsheet_reading.proofs.Digits.{digit-high}
use Rattle.spreadsheets.proofs.Lines.{current, current_from, current-snoc}
use Rattle.spreadsheet_reading.proofs.Feeds.{line-blank, fed-line}
use Rattle.spreadsheet_reading.proofs.Shapes.{Shape, shaped_by, shaped, blank_shape, shape_at, knows, onward_shape, fits, every-fit, digit-sample, shaped-sample, next-ones, next-wholes, next-tenths, next_known, next-second, next-pointed, digit-known}

pub record Bound (line : Line) (s : Shape) (known : Bool) : Type 0 where
  pub seconds : known ≡ true → line.second ≡ s.second
  pub points : known ≡ true → line.pointed ≡ s.pointed
  pub period-bound : line.period < 10 ^ s.ones
  pub size-bound : line.size < 10 ^ (s.wholes + line.decimals)
  pub places : line.decimals ≤ s.tenths

ten-pos : (n : ℕ) → 0 < 10 ^ n
ten-pos zero = omega arith
ten-pos (suc n) = omega (arith, pow-suc 10 n, ten-pos n)

ten-le : (m n : ℕ) → m ≤ n → 10 ^ m ≤ 10 ^ n
ten-le m n h = pow-le-pow_right (omega arith) h

digit-bound : (v n b : ℕ) → is_digit b ≡ true → v < 10 ^ n → with_digit v b < 10 ^ suc n
unfolding with_digit
digit-bound v n b e h = rw e (omega (arith, digit-high b e, pow-suc 10 n))

-- what the numbers of a line with one byte more stay below
record Below (line : Line) (s : Shape) : Type 0 where
  period-below : line.period < 10 ^ s.ones
  size_below : line.size < 10 ^ (s.wholes + line.decimals)
  decimals-below : line.decimals ≤ s.tenths

fed-same : (line : Line) (b : ℕ) → is_digit b ≡ false
    → ((fed line b).period ≡ line.period) × (((fed line b).size ≡ line.size) × ((fed line b).decimals ≡ line.decimals))
unfolding fed with_digit decimals_with
fed-same line b d = on line.second (λ e. rw (e, d) (refl, (refl, refl))) (λ e. rw (e, d) (refl, (refl, refl)))

shaped-same : (s : Shape) (b : ℕ) → is_digit b ≡ false
    → ((shaped s b).ones ≡ s.ones) × (((shaped s b).wholes ≡ s.wholes) × ((shaped s b).tenths ≡ s.tenths))
unfolding shaped shaped_by
shaped-same s b d = on s.second (λ e. rw (e, d) (refl, (refl, refl))) (λ e. rw (e, d) (refl, (refl, refl)))

module _ (line : Line) (s : Shape) (b : ℕ) (p : line.period < 10 ^ s.ones) (z : line.size < 10 ^ (s.wholes + line.decimals)) (t : line.decimals ≤ s.tenths) where
  other-below : is_digit b ≡ false → Below (fed line b) (shaped s b)
  other-below d =
      let (f, (g, k)) = fed-same line b d in
      let (x, (y, w)) = shaped-same s b d in
      record {
        period-below = rw (f, x) p;
        size_below = rw (g, k, y) z;
        decimals-below = rw (k, w) t;
      }

  digit-below : is_digit b ≡ true → line.second ≡ s.second → line.pointed ≡ s.pointed → Below (fed line b) (shaped s b)
  unfolding fed shaped shaped_by decimals_with
  digit-below d e f =
      on s.second
      (λ q.
      let e' : line.second ≡ true = e ∙ q in
      on s.pointed
      (λ r.
      let f' : line.pointed ≡ true = f ∙ r in
      rw (q, e', r, f', d) (record {
        period-below = p;
        size_below = rw (add-one line.decimals, add-suc s.wholes line.decimals) (digit-bound line.size (s.wholes + line.decimals) b d z);
        decimals-below = omega arith;
      }))
      (λ r.
      let f' : line.pointed ≡ false = f ∙ r in
      rw (q, e', r, f', d) (record {
        period-below = p;
        size_below = rw (suc-add s.wholes line.decimals) (digit-bound line.size (s.wholes + line.decimals) b d z);
        decimals-below = t;
      })))
      (λ q.
      let e' : line.second ≡ false = e ∙ q in
      rw (q, e', d) (record { period-below = digit-bound line.period s.ones b d p; size_below = z; decimals-below = t }))

fed-flags : (line : Line) (s : Shape) (b : ℕ) → line.second ≡ s.second → line.pointed ≡ s.pointed
    → ((fed line b).second ≡ (shaped s b).second) × ((fed line b).pointed ≡ (shaped s b).pointed)
unfolding fed shaped shaped_by
fed-flags line s b e f =
    on s.second
    (λ q. let e' : line.second ≡ true = e ∙ q in rw (q, e') (refl, ap (λ (x : Bool). x || (b =? 0x2E)) f))
    (λ q. let e' : line.second ≡ false = e ∙ q in rw (q, e') (refl, f))

-- ---- the line of the bytes read so far

blank-shape : (s : Shape) (known : Bool) → (known ≡ true → blank_shape.second ≡ s.second) → (known ≡ true → blank_shape.pointed ≡ s.pointed) → Bound (line_of []) s known
unfolding blank_shape
blank-shape s known p q =
    subst (λ (l : Line). Bound l s known) line-blank
    (record { seconds = p; points = q; period-bound = ten-pos s.ones; size-bound = ten-pos (s.wholes + 0); places = omega arith })

pub bound-start : Bound (line_of (current [])) (shape_at 0) (knows 0)
unfolding current_from
bound-start = blank-shape (shape_at 0) (knows 0) (λ e. absurd (true≢false (sym e))) (λ e. absurd (true≢false (sym e)))

pub bound-next : (u : List ℕ) (state b : ℕ) → state < 55 → b < 256 → 65 ≤ turn_at state (column_of b) → Bound (line_of (current u)) (shape_at state) (knows state)
    → Bound (line_of (current (u ++ (b ∷ [])))) (shape_at (state_in (turn_at state (column_of b)))) (knows (state_in (turn_at state (column_of b))))
bound-next u state b h k live a =
    let t = state_in (turn_at state (column_of b)) in
    let z = column-small b k in
    on (b =? 10)
    (λ e.
    let c : current (u ++ (b ∷ [])) ≡ [] = current-snoc u b ∙ rw e in
    let o : onward_shape state (column_of b) ≡ blank_shape = rw (sym (column-line b k) ∙ e) in
    rw c (blank-shape (shape_at t) (knows t)
    (λ q. ap (λ (s : Shape). s.second) (sym o) ∙ next-second state (column_of b) h z live q)
    (λ q. ap (λ (s : Shape). s.pointed) (sym o) ∙ next-pointed state (column_of b) h z live q)))
    (λ e.
    let line = line_of (current u) in
    let σ = shape_at state in
    let c : current (u ++ (b ∷ [])) ≡ current u ++ (b ∷ []) = current-snoc u b ∙ rw e in
    let o : onward_shape state (column_of b) ≡ shaped σ b = rw (sym (column-line b k) ∙ e) (sym (shaped-sample σ b k)) in
    let w : Below (fed line b) (shaped σ b) =
    on (is_digit b)
    (λ d.
    let known : knows state ≡ true = digit-known state (column_of b) h z live (sym (digit-sample b k) ∙ d) in
    digit-below line σ b a.period-bound a.size-bound a.places d (a.seconds known) (a.points known))
    (λ d. other-below line σ b a.period-bound a.size-bound a.places d) in
    let was : knows t ≡ true → knows state ≡ true = λ q. or-second (column_of b =? 15) (knows state) (sym (column-line b k) ∙ e) (next_known state (column_of b) h z live q) in
    let ones-enough : (shaped σ b).ones ≤ (shape_at t).ones = subst (λ (s : Shape). s.ones ≤ (shape_at t).ones) o (next-ones state (column_of b) h z live) in
    let wholes-enough : (shaped σ b).wholes ≤ (shape_at t).wholes = subst (λ (s : Shape). s.wholes ≤ (shape_at t).wholes) o (next-wholes state (column_of b) h z live) in
    let tenths-enough : (shaped σ b).tenths ≤ (shape_at t).tenths = subst (λ (s : Shape). s.tenths ≤ (shape_at t).tenths) o (next-tenths state (column_of b) h z live) in
    rw (c, ← fed-line (current u) b) (record {
      seconds = λ q. (fed-flags line σ b (a.seconds (was q)) (a.points (was q))).0 ∙ ap (λ (s : Shape). s.second) (sym o) ∙ next-second state (column_of b) h z live q;
      points = λ q. (fed-flags line σ b (a.seconds (was q)) (a.points (was q))).1 ∙ ap (λ (s : Shape). s.pointed) (sym o) ∙ next-pointed state (column_of b) h z live q;
      period-bound = lt_of_lt_of_le w.period-below (ten-le (shaped σ b).ones (shape_at t).ones ones-enough);
      size-bound =
          lt_of_lt_of_le w.size_below
          (ten-le ((shaped σ b).wholes + (fed line b).decimals) ((shape_at t).wholes + (fed line b).decimals) (omega arith));
      places = omega (arith, w.decimals-below);
    }))

module _ (state : ℕ) (h : state < 55) (line : Line) (b : Bound line (shape_at state) (knows state)) where
  abbrev σ : Shape
  σ = shape_at state

  fact : fits state ≡ true
  fact = every-at 55 fits every-fit state h

  ones-fit : 10 ^ σ.ones ≤ 100
  ones-fit = leb-true (10 ^ σ.ones) 100 (and_left (10 ^ σ.ones ≤? 100) (σ.wholes ≤? 5 && σ.tenths ≤? 3) fact)

  rest : σ.wholes ≤? 5 && σ.tenths ≤? 3 ≡ true
  rest = and_right (10 ^ σ.ones ≤? 100) (σ.wholes ≤? 5 && σ.tenths ≤? 3) fact

  wholes-fit : σ.wholes ≤ 5
  wholes-fit = leb-true σ.wholes 5 (and_left (σ.wholes ≤? 5) (σ.tenths ≤? 3) rest)

  places-fit : line.decimals ≤ 3
  places-fit = omega (arith, b.places, leb-true σ.tenths 3 (and_right (σ.wholes ≤? 5) (σ.tenths ≤? 3) rest))

  size-fit : line.size < 10 ^ (5 + line.decimals)
  size-fit = lt_of_lt_of_le b.size-bound (ten-le (σ.wholes + line.decimals) (5 + line.decimals) (omega (arith, wholes-fit)))

  pub small : Small line
  small =
      record {
        period-small = omega (arith, b.period-bound, ones-fit);
        size_small = lt_of_lt_of_le size-fit (ten-le (5 + line.decimals) 8 (omega (arith, places-fit)));
        decimals-small = omega (arith, places-fit);
      }

  pub in-range : InRange line
  in-range =
      let e : 5 + line.decimals + (3 - line.decimals) ≡ 8 = omega (arith, places-fit) in
      let f : 10 ^ (5 + line.decimals) * 10 ^ (3 - line.decimals) ≡ 100000000 = sym (pow-add 10 (5 + line.decimals) (3 - line.decimals)) ∙ ap (λ (n : ℕ). 10 ^ n) e in
      record {
        period-range = omega (arith, b.period-bound, ones-fit);
        places = places-fit;
        size-range = subst (λ (n : ℕ). line.size * 10 ^ (3 - line.decimals) < n) f (mul-lt-mul_of_pos_right size-fit (ten-pos (3 - line.decimals)));
      }
