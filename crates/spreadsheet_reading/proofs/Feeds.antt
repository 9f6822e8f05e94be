-- A line with one byte more: what is kept of it follows the definition.
use mathlib.Core.Bool.{Bool, true, false, ◌||◌, true≢false}
use mathlib.Core.List.{List, [], ◌∷◌, ◌++◌}
use mathlib.Core.Path.{◌≡◌, refl, sym, ap, ◌∙◌}
use Prim.Native.Nat.{ℕ}
use native.Mathlib.Nat.{add-zero}
use lib.ListN.{length, length-append}
use borrow.Author.Tests.{eqb-true}
use Rattle.words.specs.Lists.{any, keep}
use Rattle.std.specs.Prelude.{if◌then◌else◌}
use Rattle.words.specs.Tests.{◌=?◌}
use Rattle.laws.proofs.Cases.{on, and-true, and-false}
use Rattle.laws.proofs.Lists.{any_snoc, keep_snoc}
use Rattle.spreadsheets.specs.Entries.{before, behind, is_digit, with_digit, value_from, value, decimals, kwh_of, entry_of}
use Rattle.spreadsheet_reading.specs.declared.lines.Line.{Line}
use Rattle.spreadsheet_reading.specs.Feeding.{decimals_with, blank_line, fed, entry_from, line_of}

-- ---- one byte more at the end

behind-snoc : (c : ℕ) (w : List ℕ) (b : ℕ) → behind c (w ++ (b ∷ [])) ≡ (if any (◌=? c) w then behind c w ++ (b ∷ []) else [])
unfolding behind any
behind-snoc c [] b = on (b =? c) (λ e. rw e) (λ e. rw e)
behind-snoc c (x ∷ w) b = on (x =? c) (λ e. rw e) (λ e. rw e (behind-snoc c w b))

behind-none : (c : ℕ) (w : List ℕ) → any (◌=? c) w ≡ false → behind c w ≡ []
unfolding behind any
behind-none c [] e = refl
behind-none c (x ∷ w) e = on (x =? c) (λ f. absurd (true≢false (rw f at e))) (λ f. rw f (behind-none c w (rw f at e)))

before-snoc : (c : ℕ) (w : List ℕ) (b : ℕ)
    → before c (w ++ (b ∷ [])) ≡ (if any (◌=? c) w then before c w else (if b =? c then before c w else before c w ++ (b ∷ [])))
unfolding before any
before-snoc c [] b = on (b =? c) (λ e. rw e) (λ e. rw e)
before-snoc c (x ∷ w) b =
    on (x =? c)
    (λ e. rw e)
    (λ e. rw e (ap (λ (s : List ℕ). x ∷ s) (before-snoc c w b) ∙ push (any (◌=? c) w) (b =? c)))
  where
    push : (s t : Bool) → x ∷ (if s then before c w else (if t then before c w else before c w ++ (b ∷ [])))
        ≡ (if s then x ∷ before c w else (if t then x ∷ before c w else x ∷ (before c w ++ (b ∷ []))))
    push true t = refl
    push false true = refl
    push false false = refl

value-from : (v : ℕ) (w : List ℕ) (b : ℕ) → value_from v (w ++ (b ∷ [])) ≡ with_digit (value_from v w) b
value-from v [] b = refl
value-from v (x ∷ w) b = value-from (with_digit v x) w b

value-snoc : (w : List ℕ) (b : ℕ) → value (w ++ (b ∷ [])) ≡ with_digit (value w) b
unfolding value
value-snoc w b = value-from 0 w b

decimals-snoc : (w : List ℕ) (b : ℕ) → decimals (w ++ (b ∷ [])) ≡ decimals_with (any (◌=? 0x2E) w) (decimals w) b
unfolding decimals decimals_with keep
decimals-snoc w b =
    on (any (◌=? 0x2E) w)
    (λ e.
    let k : behind 0x2E (w ++ (b ∷ [])) ≡ behind 0x2E w ++ (b ∷ []) = behind-snoc 0x2E w b ∙ rw e in
    ap (λ (s : List ℕ). length (keep is_digit s)) k ∙ ap length (keep_snoc is_digit (behind 0x2E w) b)
    ∙ rw (e, and-true) (on (is_digit b)
    (λ d. rw (d, length-append))
    (λ d. rw (d, length-append) (add-zero (length (keep is_digit (behind 0x2E w)))))))
    (λ e.
    let k : behind 0x2E (w ++ (b ∷ [])) ≡ [] = behind-snoc 0x2E w b ∙ rw e in
    ap (λ (s : List ℕ). length (keep is_digit s)) k ∙ rw (e, and-false, behind-none 0x2E w e))

comma-digit : (v : ℕ) → with_digit v 0x2C ≡ v
unfolding with_digit
comma-digit v = refl

first-number : (w : List ℕ) (b : ℕ) → any (◌=? 0x2C) w ≡ false → with_digit (value (before 0x2C w)) b ≡ value (before 0x2C (w ++ (b ∷ [])))
first-number w b e =
    on (b =? 0x2C)
    (λ f.
    let k : before 0x2C (w ++ (b ∷ [])) ≡ before 0x2C w = before-snoc 0x2C w b ∙ rw (e, f) in
    ap (with_digit (value (before 0x2C w))) (eqb-true b 0x2C f) ∙ comma-digit (value (before 0x2C w)) ∙ sym (ap value k))
    (λ f.
    let k : before 0x2C (w ++ (b ∷ [])) ≡ before 0x2C w ++ (b ∷ []) = before-snoc 0x2C w b ∙ rw (e, f) in
    sym (ap value k ∙ value-snoc (before 0x2C w) b))

-- ---- the line

pub all-blank : (line : Line) → (line.second ≡ false) × ((line.pointed ≡ false) × ((line.minus ≡ false) × ((line.period ≡ 0) × ((line.size ≡ 0) × (line.decimals ≡ 0))))) → line ≡ blank_line
all-blank line e = λ i. record { second = e.0 i; pointed = e.1.0 i; minus = e.1.1.0 i; period = e.1.1.1.0 i; size = e.1.1.1.1.0 i; decimals = e.1.1.1.1.1 i }

pub line-blank : blank_line ≡ line_of []
unfolding line_of any before behind value decimals keep
line-blank = refl

pub fed-line : (w : List ℕ) (b : ℕ) → fed (line_of w) b ≡ line_of (w ++ (b ∷ []))
unfolding fed line_of
fed-line w b =
    let m : List ℕ = behind 0x2C w in
    on (any (◌=? 0x2C) w)
    (λ e.
    let k : behind 0x2C (w ++ (b ∷ [])) ≡ m ++ (b ∷ []) = behind-snoc 0x2C w b ∙ rw e in
    let commas : true ≡ any (◌=? 0x2C) (w ++ (b ∷ [])) = sym (any_snoc (◌=? 0x2C) w b ∙ rw e) in
    let points : any (◌=? 0x2E) m || (b =? 0x2E) ≡ any (◌=? 0x2E) (behind 0x2C (w ++ (b ∷ []))) = sym (ap (any (◌=? 0x2E)) k ∙ any_snoc (◌=? 0x2E) m b) in
    let minuses : any (◌=? 0x2D) m || (b =? 0x2D) ≡ any (◌=? 0x2D) (behind 0x2C (w ++ (b ∷ []))) = sym (ap (any (◌=? 0x2D)) k ∙ any_snoc (◌=? 0x2D) m b) in
    let periods : value (before 0x2C w) ≡ value (before 0x2C (w ++ (b ∷ []))) = ap value (sym (before-snoc 0x2C w b ∙ rw e)) in
    let sizes : with_digit (value m) b ≡ value (behind 0x2C (w ++ (b ∷ []))) = sym (ap value k ∙ value-snoc m b) in
    let places : decimals_with (any (◌=? 0x2E) m) (decimals m) b ≡ decimals (behind 0x2C (w ++ (b ∷ []))) = sym (ap decimals k ∙ decimals-snoc m b) in
    rw e (λ i. record { second = commas i; pointed = points i; minus = minuses i; period = periods i; size = sizes i; decimals = places i }))
    (λ e.
    let k : m ≡ behind 0x2C (w ++ (b ∷ [])) = behind-none 0x2C w e ∙ sym (behind-snoc 0x2C w b ∙ rw e) in
    let commas : (b =? 0x2C) ≡ any (◌=? 0x2C) (w ++ (b ∷ [])) = sym (any_snoc (◌=? 0x2C) w b ∙ rw e) in
    let periods : with_digit (value (before 0x2C w)) b ≡ value (before 0x2C (w ++ (b ∷ []))) = first-number w b e in
    rw e (λ i. record { second = commas i; pointed = any (◌=? 0x2E) (k i); minus = any (◌=? 0x2D) (k i); period = periods i; size = value (k i); decimals = decimals (k i) }))

pub entry-from : (w : List ℕ) → entry_from (line_of w) ≡ entry_of w
unfolding entry_from line_of entry_of kwh_of
entry-from w = refl
