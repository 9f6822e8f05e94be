-- Each language lies inside the one before.
use mathlib.Core.Bool.{Bool, true, ◌&&◌, true≢false}
use mathlib.Core.List.{List, [], ◌∷◌, append-nil}
use mathlib.Core.Logic.{inl, inr, ⊎_elim}
use mathlib.Core.Path.{◌≡◌, refl, sym, ap}
use Prim.Native.Nat.{ℕ}
use native.Mathlib.Omega.{arith}
use borrow.Author.Tests.{leb-true, le-leb}
use Rattle.words.specs.Lists.{any, every, join}
use Rattle.words.specs.Tests.{◌≤?◌}
use Rattle.laws.proofs.Lists.{every_append}
use Rattle.laws.proofs.Cases.{on, and_left, and_right, both, or-true}
use Rattle.patterns.specs.Patterns.{Range, ◌to◌, Pattern, never, empty, one, ◌·◌, ◌∣◌, many, in_range, is_one_of, Each, Matches, word}
use Rattle.spreadsheets.specs.Languages.{text_bytes, textdata, dquote, comma, cr, lf, newline, field, fields, last_line_end, file, spelled, header, csv_file, table_file, period, mwh, number_file}
use Rattle.spreadsheets.specs.Refusals.{csv, table, numbers, valid, File}

abbrev Inside : Pattern → Pattern → Type 0
Inside p q = (s : List ℕ) → Matches p s → Matches q s

seq-inside : (p q p' q' : Pattern) → Inside p p' → Inside q q' → Inside (p · q) (p' · q')
seq-inside p q p' q' f g s m = let (u, (v, (e, (a, b)))) = m in (u, (v, (e, (f u a, g v b))))

many-inside : (p q : Pattern) → Inside p q → Inside (many p) (many q)
many-inside p q f s m = let (parts, (e, a)) = m in (parts, (e, each parts a))
  where
    each : (parts : List (List ℕ)) → Each (λ u. Matches p u) parts → Each (λ u. Matches q u) parts
    each [] a = tt
    each (u ∷ parts) a = (f u a.0, each parts a.1)

same-inside : (p : Pattern) → Inside p p
same-inside p s m = m

file-inside : (a b c d : Pattern) → Inside a c → Inside b d → Inside (file a b) (file c d)
file-inside a b c d f g =
    seq-inside a (many (newline · b) · last_line_end) c (many (newline · d) · last_line_end) f
    (seq-inside (many (newline · b)) last_line_end (many (newline · d)) last_line_end
    (many-inside (newline · b) (newline · d) (seq-inside newline b newline d (same-inside newline) g))
    (same-inside last_line_end))

-- two fields are fields
two-inside : Inside (field · (comma · field)) fields
unfolding join
two-inside s m =
    let (u, (v, (e, (a, b)))) = m in
    (u, (v, (e, (a, (v ∷ [], (sym (append-nil v), (b, tt)))))))

abbrev in_quotes : Pattern
in_quotes = textdata ∣ comma ∣ cr ∣ lf ∣ dquote · dquote

-- ---- a pattern of text bytes alone is a field, quoted or not

abbrev is_text : ℕ → Bool
is_text b = is_one_of text_bytes b

-- the first range lies inside the second
abbrev covers : Range → Range → Bool
covers (l to h) (low to high) = low ≤? l && h ≤? high

unfoldable textual : Pattern → Bool
textual never = true
textual empty = true
textual (one ranges) = every (λ r. any (covers r) text_bytes) ranges
textual (p · q) = textual p && textual q
textual (p ∣ q) = textual p && textual q
textual (many p) = textual p

covered : (r t : Range) (b : ℕ) → covers r t ≡ true → in_range b r ≡ true → in_range b t ≡ true
covered (l to h) (low to high) b e f =
    let p = leb-true low l (and_left (low ≤? l) (h ≤? high) e) in
    let q = leb-true h high (and_right (low ≤? l) (h ≤? high) e) in
    let r = leb-true l b (and_left (l ≤? b) (b ≤? h) f) in
    let s = leb-true b h (and_right (l ≤? b) (b ≤? h) f) in
    both (le-leb low b (omega arith)) (le-leb b high (omega arith))

one_covers : (r : Range) (ts : List Range) (b : ℕ) → any (covers r) ts ≡ true → in_range b r ≡ true → any (in_range b) ts ≡ true
unfolding any
one_covers r [] b e f = absurd (true≢false (sym e))
one_covers r (t ∷ ts) b e f =
    on (covers r t)
    (λ q. rw (covered r t b q f))
    (λ q. rw (one_covers r ts b (rw q at e) f) (or-true (in_range b t)))

ranges-text : (rs : List Range) (b : ℕ) → every (λ r. any (covers r) text_bytes) rs ≡ true → any (in_range b) rs ≡ true → is_text b ≡ true
unfolding any every is_one_of
ranges-text [] b e f = absurd (true≢false (sym f))
ranges-text (r ∷ rs) b e f =
    on (in_range b r)
    (λ q. one_covers r text_bytes b (and_left (any (covers r) text_bytes) (every (λ r. any (covers r) text_bytes) rs) e) q)
    (λ q. ranges-text rs b (and_right (any (covers r) text_bytes) (every (λ r. any (covers r) text_bytes) rs) e) (rw q at f))

module _ (p : Pattern) (f : (s : List ℕ) → Matches p s → every is_text s ≡ true) where
  parts-text : (parts : List (List ℕ)) → Each (λ u. Matches p u) parts → every is_text (join parts) ≡ true
  unfolding every join
  parts-text [] m = refl
  parts-text (u ∷ parts) m = every_append is_text u (join parts) (f u m.0) (parts-text parts m.1)

text-only : (p : Pattern) → textual p ≡ true → (s : List ℕ) → Matches p s → every is_text s ≡ true
unfolding textual every is_one_of
text-only never e s m = absurd m
text-only empty e s m = rw m
text-only (one ranges) e s m = let (b, (q, h)) = m in rw q (both (ranges-text ranges b e h) refl)
text-only (p · q) e s m =
    let (u, (v, (k, (a, b)))) = m in
    rw k (every_append is_text u v (text-only p (and_left (textual p) (textual q) e) u a) (text-only q (and_right (textual p) (textual q) e) v b))
text-only (p ∣ q) e s m =
    ⊎_elim (λ a. text-only p (and_left (textual p) (textual q) e) s a) (λ a. text-only q (and_right (textual p) (textual q) e) s a) m
text-only (many p) e s m = let (parts, (k, a)) = m in rw k (parts-text p (λ u. text-only p e u) parts a)

-- a text in bytes of one each
singles : List ℕ → List (List ℕ)
singles [] = []
singles (b ∷ s) = (b ∷ []) ∷ singles s

singles-join : (s : List ℕ) → s ≡ join (singles s)
unfolding singles join
singles-join [] = refl
singles-join (b ∷ s) = ap (λ (w : List ℕ). b ∷ w) (singles-join s)

singles-match : (q : Pattern) → ((b : ℕ) → is_text b ≡ true → Matches q (b ∷ [])) → (s : List ℕ) → every is_text s ≡ true → Each (λ u. Matches q u) (singles s)
unfolding singles every
singles-match q f [] e = tt
singles-match q f (b ∷ s) e = (f b (and_left (is_text b) (every is_text s) e), singles-match q f s (and_right (is_text b) (every is_text s) e))

text-many : (q : Pattern) → ((b : ℕ) → is_text b ≡ true → Matches q (b ∷ [])) → (s : List ℕ) → every is_text s ≡ true → Matches (many q) s
text-many q f s e = (singles s, (singles-join s, singles-match q f s e))

spelled-inside : (p : Pattern) → textual p ≡ true → Inside (spelled p) field
spelled-inside p e s m =
    ⊎_elim
    (λ a. inr (text-many textdata (λ b h. (b, (refl, h))) s (text-only p e s a)))
    (λ a.
    let (u, (v, (k, (q, (w, (x, (j, (b, r)))))))) = a in
    inl (u, (v, (k, (q, (w, (x, (j, (text-many in_quotes (λ b h. inl (b, (refl, h))) w (text-only p e w b), r)))))))))
    m

numbers-table : Inside number_file table_file
unfolding number_file table_file textual every any
numbers-table =
    file-inside header (spelled period · (comma · spelled mwh)) header (field · (comma · field)) (same-inside header)
    (seq-inside (spelled period) (comma · spelled mwh) field (comma · field) (spelled-inside period refl)
    (seq-inside comma (spelled mwh) comma field (same-inside comma) (spelled-inside mwh refl)))

table-csv : Inside table_file csv_file
unfolding table_file csv_file textual every any
table-csv =
    file-inside header (field · (comma · field)) fields fields
    (λ s m. two-inside s (seq-inside (spelled (word "period")) (comma · spelled (word "mwh")) field (comma · field) (spelled-inside (word "period") refl)
    (seq-inside comma (spelled (word "mwh")) comma field (same-inside comma) (spelled-inside (word "mwh") refl)) s m))
    two-inside

pub valid-is-numbers : (s : List ℕ) → File valid s → File numbers s
valid-is-numbers s f = f.0

pub numbers-is-table : (s : List ℕ) → File numbers s → File table s
numbers-is-table s f = numbers-table s f

pub table-is-csv : (s : List ℕ) → File table s → File csv s
table-is-csv s f = table-csv s f
