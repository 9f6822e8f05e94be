-- EVERY ACCOUNT'S DAY IS PRINTED ONCE, IN ITS ORDER: the lines of the accounts' days k = 0, 1, .., one after the other, are the lines of all totals.
use Rattle.std.proofs.Common.{◌≡◌, ℕ, zero, suc, ◌+◌, ◌*◌, ◌/◌, ◌%◌, ◌^◌, ◌<◌, ◌≤◌, false, List, [], ◌∷◌, ◌++◌, ℤ, sym, refl, ap, ◌∙◌, ap₂, append_assoc, mod-lt, suc-mul, div-lt_iff_lt-mul, mul-le-mul, suc-add, zero-add, zero-mul, arith, le-ltb, lt-ltb}
use lib.Arith.{digits_div, digits_mod}
use Rattle.words.specs.Lists.{build, join}
use Rattle.laws.proofs.Cases.{on, by-eq}
use Rattle.laws.proofs.Builds.{build-same, build-more}
use Rattle.meaning.specs.Time.{days, day_number}
use Rattle.meaning.specs.Ledgers.{contracts}
use Rattle.meaning.specs.Books.{Book, setup_of}
use Rattle.meaning.specs.Soundness.{sound}
use Rattle.meaning.specs.Totals.{total}
use Rattle.meaning.proofs.SetupRules.{opens}
use Rattle.meaning.proofs.Sound.{parts}
use Rattle.setups.proofs.SetupHeld.{codes-own}
use Rattle.book.specs.declared.Book as Structs
use Rattle.book.specs.Structs.{book_of}
use Rattle.meaning.specs.Sheet.{period_lines, day_lines, total_lines}
use Rattle.sheet_parts.specs.Parts.{account_days, account_day_lines}
use Rattle.sheet_parts.proofs.LineLaws.{join-on}
use Rattle.sheet_parts.proofs.DayLaws.{unsound-zero}

-- ---- k as an account and a day's place

pub few-account-days : (accounts days : ℕ) → accounts < 256 → days < 256 → accounts * days < 65536
few-account-days accounts days a d = omega (arith, mul-le-mul {n₁ = accounts} {m₁ = days} {n₂ = 255} {m₂ = 255} (omega arith) (omega arith))

module _ (accounts days k : ℕ) (h : k < accounts * days) where
  pub some-day : 0 < days
  some-day = by-eq days 0 (λ e. let none : k < accounts * 0 = rw e at h in absurd (omega (arith, none))) (λ n. omega arith)

  pub account-below : k / days < accounts
  account-below = (div-lt_iff_lt-mul some-day).1 h

-- ---- a sound book has no day at which the numbers wrap, and one that is not sound has no lines

unsound-lines : (b : Book contracts) (account D : ℕ) → sound b ≡ false → day_lines b account D ≡ []
unfolding day_lines period_lines build join
unsound-lines b account D s =
    ap join (build-same 50 (λ (p : ℕ). period_lines account D (suc p) (total b account D (suc p))) (λ p. []) (λ p h. rw (unsound-zero b account D (suc p) s) refl))

pub day-wraps : (b : Book contracts) (account d : ℕ) → d < days b.setting.time → day_lines b account ((b.setting.time.first + d) % 2 ^ 16) ≡ day_lines b account (day_number b.setting.time d)
day-wraps b account d h =
    on (sound b)
    (λ s. ap (day_lines b account) (omega (arith, (opens (setup_of b.setting) _ _ _ (parts b s).setup).last-day)))
    (λ s. unsound-lines b account ((b.setting.time.first + d) % 2 ^ 16) s ∙ sym (unsound-lines b account (day_number b.setting.time d) s))

-- ---- things one after the other
build-append : {A : Type 0} (m n : ℕ) (f : ℕ → A) → build (m + n) f ≡ build m f ++ build n (λ (k : ℕ). f (m + k))
unfolding build
build-append zero n f = ap (λ (l : ℕ). build l f) (zero-add n) ∙ build-same n f (λ (k : ℕ). f (0 + k)) (λ k h. ap f (sym (zero-add k)))
build-append {A} (suc m) n f =
    ap (λ (l : ℕ). build l f) (suc-add m n)
    ∙ ap (λ (l : List A). f 0 ∷ l)
    (build-append m n (λ (k : ℕ). f (suc k))
    ∙ ap (λ (l : List A). build m (λ (k : ℕ). f (suc k)) ++ l) (build-same n (λ (k : ℕ). f (suc (m + k))) (λ (k : ℕ). f (suc m + k)) (λ k h. ap f (sym (suc-add m k)))))

pub join-append : {A : Type 0} (xs ys : List (List A)) → join (xs ++ ys) ≡ join xs ++ join ys
unfolding join
join-append [] ys = refl
join-append {A} (x ∷ xs) ys = ap (λ (l : List A). x ++ l) (join-append xs ys) ∙ sym (append_assoc x (join xs) (join ys))

-- rows of m things, one after the other
row-by-row : {A : Type 0} (n m : ℕ) (f : ℕ → ℕ → List A) → join (build (n * m) (λ (k : ℕ). f (k / m) (k % m))) ≡ join (build n (λ (a : ℕ). join (build m (f a))))
unfolding build join
row-by-row zero m f = ap (λ (l : ℕ). join (build l (λ (k : ℕ). f (k / m) (k % m)))) (zero-mul m)
row-by-row {A} (suc n) m f =
    let g : ℕ → List A = λ k. f (k / m) (k % m) in
    let row : ℕ → List A = λ a. join (build m (f a)) in
    let last : build m (λ (k : ℕ). g (n * m + k)) ≡ build m (f n) =
    build-same m (λ (k : ℕ). g (n * m + k)) (f n) (λ k h. ap₂ f (digits_div n h) (digits_mod n h)) in
    ap (λ (l : ℕ). join (build l g)) (suc-mul n m)
    ∙ ap join (build-append (n * m) m g)
    ∙ join-append (build (n * m) g) (build m (λ (k : ℕ). g (n * m + k)))
    ∙ ap₂ (λ (xs ys : List A). xs ++ ys) (row-by-row n m f) (ap join last)
    ∙ sym (ap join (build-more n row) ∙ join-on (build n row) (row n))

pub every-account-day : (b : Book contracts) → join (build (account_days b) (account_day_lines b)) ≡ total_lines b
unfolding account_days account_day_lines total_lines
every-account-day b =
    let m = days b.setting.time in
    ap join (build-same (b.setting.accounts * m) (account_day_lines b) (λ (k : ℕ). day_lines b (k / m) (day_number b.setting.time (k % m))) (λ k h. rw (lt-ltb k (b.setting.accounts * m) h)))
    ∙ row-by-row b.setting.accounts m (λ account d. day_lines b account (day_number b.setting.time d))

-- ---- the lines of the k-th, for a book by value, whose days are as many as its struct says

module _ (b : Structs.Book) (held : List ℕ) (side1 side2 : List ℤ) (k : ℕ) where
  abbrev whole : Book contracts
  whole = book_of b held side1 side2

  pub own-days : days whole.setting.time ≡ b.setup.days
  own-days = codes-own b.setup.days b.setup.codes

  pub no-account-day : b.setup.accounts * b.setup.days ≤ k → account_day_lines whole k ≡ []
  unfolding account_day_lines account_days
  no-account-day h = rw (own-days, le-ltb k (b.setup.accounts * b.setup.days) h)

  pub account-day : k < b.setup.accounts * b.setup.days
      → day_lines whole (k / b.setup.days) ((b.setup.first + k % b.setup.days) % 2 ^ 16) ≡ account_day_lines whole k
  unfolding account_day_lines account_days
  account-day h =
      let place : k % b.setup.days < days whole.setting.time = rw own-days (mod-lt k (some-day b.setup.accounts b.setup.days k h)) in
      day-wraps whole (k / b.setup.days) (k % b.setup.days) place
      ∙ sym (rw (own-days, lt-ltb k (b.setup.accounts * b.setup.days) h) refl)
