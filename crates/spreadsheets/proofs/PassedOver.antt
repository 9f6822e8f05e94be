-- Quotes and CR say nothing of an entry: a line without them has the same.
use mathlib.Core.Bool.{false, not}
use mathlib.Core.List.{List, [], ◌∷◌}
use mathlib.Core.Path.{◌≡◌, refl, sym, ap, ◌∙◌}
use Prim.Native.Nat.{ℕ}
use lib.ListN.{length}
use borrow.Author.Tests.{eqb-true, eq-eqb}
use Rattle.words.specs.Lists.{any, keep}
use Rattle.words.specs.Tests.{◌=?◌}
use Rattle.laws.proofs.Cases.{on}
use Rattle.spreadsheets.specs.Entries.{before, behind, is_digit, with_digit, value_from, value, decimals, kwh, kwh_of, entry_of}

-- the bytes other than c
abbrev pub without : ℕ → List ℕ → List ℕ
without c s = keep (λ b. not (b =? c)) s

drops : (c : ℕ) (s : List ℕ) → without c (c ∷ s) ≡ without c s
unfolding keep
drops c s = rw (eq-eqb c c refl)

keeps : (c x : ℕ) (s : List ℕ) → (x =? c) ≡ false → without c (x ∷ s) ≡ x ∷ without c s
unfolding keep
keeps c x s e = rw e

module _ (c : ℕ) (digit : is_digit c ≡ false) where
  value-passed : (v : ℕ) (s : List ℕ) → value_from v (without c s) ≡ value_from v s
  unfolding keep with_digit
  value-passed v [] = refl
  value-passed v (x ∷ s) =
      on (x =? c)
      (λ e. rw (e, eqb-true x c e, digit) (value-passed v s))
      (λ e. rw e (value-passed (with_digit v x) s))

  digits-passed : (s : List ℕ) → keep is_digit (without c s) ≡ keep is_digit s
  unfolding keep
  digits-passed [] = refl
  digits-passed (x ∷ s) =
      on (x =? c)
      (λ e. rw (e, eqb-true x c e, digit) (digits-passed s))
      (λ e. rw e (on (is_digit x) (λ d. rw d (ap (λ (l : List ℕ). x ∷ l) (digits-passed s))) (λ d. rw d (digits-passed s))))

  -- of another byte d: whether it is there, what stands before it and what behind
  module _ (d : ℕ) (other : (c =? d) ≡ false) where
    any-passed : (s : List ℕ) → any (◌=? d) (without c s) ≡ any (◌=? d) s
    unfolding keep any
    any-passed [] = refl
    any-passed (x ∷ s) =
        on (x =? c)
        (λ e. rw (e, eqb-true x c e, other) (any-passed s))
        (λ e. rw e (on (x =? d) (λ f. rw f) (λ f. rw f (any-passed s))))

    before-passed : (s : List ℕ) → before d (without c s) ≡ without c (before d s)
    unfolding keep before
    before-passed [] = refl
    before-passed (x ∷ s) =
        on (x =? c)
        (λ e. rw (e, eqb-true x c e, other) (before-passed s ∙ sym (drops c (before d s))))
        (λ e. rw e (on (x =? d) (λ f. rw f) (λ f. rw f (ap (λ (l : List ℕ). x ∷ l) (before-passed s) ∙ sym (keeps c x (before d s) e)))))

    behind-passed : (s : List ℕ) → behind d (without c s) ≡ without c (behind d s)
    unfolding keep behind
    behind-passed [] = refl
    behind-passed (x ∷ s) =
        on (x =? c)
        (λ e. rw (e, eqb-true x c e, other) (behind-passed s))
        (λ e. rw e (on (x =? d) (λ f. rw f) (λ f. rw f (behind-passed s))))

-- a byte that is no digit, comma, point or minus
module _ (c : ℕ) (digit : is_digit c ≡ false) (comma : (c =? 0x2C) ≡ false) (point : (c =? 0x2E) ≡ false) (minus : (c =? 0x2D) ≡ false) where
  kwh-passed : (s : List ℕ) → kwh_of (without c s) ≡ kwh_of s
  unfolding kwh_of value decimals
  kwh-passed s =
      let places : length (keep is_digit (behind 0x2E (without c s))) ≡ length (keep is_digit (behind 0x2E s)) =
      ap (λ (l : List ℕ). length (keep is_digit l)) (behind-passed c digit 0x2E point s) ∙ ap length (digits-passed c digit (behind 0x2E s)) in
      λ i. kwh (any-passed c digit 0x2D minus s i) (value-passed c digit 0 s i) (places i)

  entry-passed : (line : List ℕ) → entry_of (without c line) ≡ entry_of line
  unfolding entry_of value
  entry-passed line =
      let period : value_from 0 (before 0x2C (without c line)) ≡ value_from 0 (before 0x2C line) =
      ap (value_from 0) (before-passed c digit 0x2C comma line) ∙ value-passed c digit 0 (before 0x2C line) in
      let volume : kwh_of (behind 0x2C (without c line)) ≡ kwh_of (behind 0x2C line) = ap kwh_of (behind-passed c digit 0x2C comma line) ∙ kwh-passed (behind 0x2C line) in
      λ i. record { period = period i; volume = volume i }

pub quotes-say-nothing : (line : List ℕ) → entry_of (without 0x22 line) ≡ entry_of line
quotes-say-nothing line = entry-passed 0x22 refl refl refl refl line

pub cr-says-nothing : (line : List ℕ) → entry_of (without 0x0D line) ≡ entry_of line
cr-says-nothing line = entry-passed 0x0D refl refl refl refl line
