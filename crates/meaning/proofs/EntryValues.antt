-- The entries of a message are the values of their fields, two each: either way, and one by one as a loop reads and writes them.
use mathlib.Core.Bool.{Bool, true}
use mathlib.Core.List.{List, [], ◌∷◌, ◌++◌}
use mathlib.Core.Path.{◌≡◌, refl, sym, ap, ap₂, ◌∙◌}
use Prim.Native.Nat.{ℕ, zero, suc, ◌+◌, ◌*◌, ◌<◌}
use native.Mathlib.Nat.{add-zero}
use native.Mathlib.Numerals.{add-one}
use native.Mathlib.Omega.{arith}
use lib.IntN.{ℤ}
use lib.ListN.{length, get_or}
use Rattle.words.specs.Lists.{every}
use Rattle.words.specs.Fields.{field_at, times, read_all, fits_signed, signed_of, bits_of}
use Rattle.laws.proofs.Cases.{and_left, and_right, both}
use Rattle.laws.proofs.Fields.{field_lt}
use Rattle.laws.proofs.Signed.{bits-signed, fits-mag, signed-bits, signed-fits}
use Rattle.meaning.specs.Ledgers.{contracts}
use Rattle.meaning.specs.Messages.{Entry}
use Rattle.meaning.specs.PackedMessages.{entry_layout, entries_from, entry_values}

abbrev pub signed_in28 : Entry contracts → Bool
signed_in28 e = fits_signed 27 e.volume

pub entries-back : (es : List (Entry contracts)) → every signed_in28 es ≡ true → entries_from (entry_values es) ≡ es
unfolding entries_from entry_values every
entries-back [] v = refl
entries-back (e ∷ es) v =
    ap₂ (λ (z : ℤ) (later : List (Entry contracts)). record { period = e.period; volume = z } ∷ later)
    (signed-bits 27 e.volume (fits-mag 27 e.volume (and_left (signed_in28 e) (every signed_in28 es) v)))
    (entries-back es (and_right (signed_in28 e) (every signed_in28 es) v))

module _ (s : List ℕ) where
  pub entries-again : (p n : ℕ) → entry_values (entries_from (read_all s p (times n entry_layout))) ≡ read_all s p (times n entry_layout)
  unfolding entries_from entry_values
  entries-again p zero = refl
  entries-again p (suc n) =
      ap₂ (λ (v : ℕ) (vs : List ℕ). field_at s p 6 ∷ v ∷ vs)
      (bits-signed 27 (field_at s (p + 6) 28) (field_lt s (p + 6) 28))
      (entries-again (p + 6 + 28) n)

  pub entries-count : (p n : ℕ) → length (entries_from (read_all s p (times n entry_layout))) ≡ n
  unfolding entries_from
  entries-count p zero = refl
  entries-count p (suc n) = ap suc (entries-count (p + 6 + 28) n)

  pub entries-signed : (p n : ℕ) → every signed_in28 (entries_from (read_all s p (times n entry_layout))) ≡ true
  unfolding entries_from every
  entries-signed p zero = refl
  entries-signed p (suc n) =
      both (signed-fits 27 (field_at s (p + 6) 28) (field_lt s (p + 6) 28)) (entries-signed (p + 6 + 28) n)

-- ---- one by one

-- the entry that stands from bit q on
abbrev pub entry_in : List ℕ → ℕ → Entry contracts
entry_in s q = record { period = field_at s q 6; volume = signed_of 27 (field_at s (q + 6) 28) }

pub entry_at : (s : List ℕ) (p n j : ℕ) (d : Entry contracts) → j < n
    → get_or (entries_from (read_all s p (times n entry_layout))) j d ≡ entry_in s (p + j * 34)
unfolding entries_from
entry_at s p zero j d h = absurd (omega arith)
entry_at s p (suc n) zero d h = ap (entry_in s) (sym (add-zero p))
entry_at s p (suc n) (suc j) d h =
    let e : p + 6 + 28 + j * 34 ≡ p + suc j * 34 = omega arith in
    entry_at s (p + 6 + 28) n j d (omega arith) ∙ ap (entry_in s) e

pub entries-more : (s : List ℕ) (p n : ℕ)
    → entries_from (read_all s p (times (n + 1) entry_layout)) ≡ entries_from (read_all s p (times n entry_layout)) ++ (entry_in s (p + n * 34) ∷ [])
unfolding entries_from
entries-more s p zero = ap (λ (q : ℕ). entry_in s q ∷ []) (sym (add-zero p))
entries-more s p (suc n) =
    let later : ℕ → List (Entry contracts) = λ k. entries_from (read_all s (p + 6 + 28) (times k entry_layout)) in
    let e : p + 6 + 28 + n * 34 ≡ p + suc n * 34 = omega arith in
    ap (λ (k : ℕ). entries_from (read_all s p (times k entry_layout))) (add-one (suc n))
    ∙ ap (λ (es : List (Entry contracts)). entry_in s p ∷ es)
    (ap later (sym (add-one n)) ∙ entries-more s (p + 6 + 28) n ∙ ap (λ (q : ℕ). later n ++ (entry_in s q ∷ [])) e)

pub values_length : (es : List (Entry contracts)) → length (entry_values es) ≡ length es * 2
unfolding entry_values
values_length [] = refl
values_length (e ∷ es) = omega (arith, values_length es)

pub values-append : (es more : List (Entry contracts)) → entry_values (es ++ more) ≡ entry_values es ++ entry_values more
unfolding entry_values
values-append [] more = refl
values-append (e ∷ es) more = ap (λ (vs : List ℕ). e.period ∷ bits_of 27 e.volume ∷ vs) (values-append es more)
