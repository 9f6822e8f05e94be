-- A DAY OF TOTALS ALWAYS HAS ROOM: no more than 50 lines of at most 64 bytes, in the 65,536 that are lent.
use Rattle.std.proofs.Common.{◌≡◌, ℕ, zero, suc, ◌*◌, ◌/◌, ◌%◌, ◌^◌, ◌<◌, ◌≤◌, true, List, [], ◌∷◌, ◌++◌, length, ℤ, pos, negsuc, nat_abs, refl, mod-lt, arith, length-append, ltb-true, eqb-true}
use lib.Signed.{mag}
use borrow.Author.Tests.{not-false}
use Rattle.words.specs.Tests.{◌=?◌, ◌<?◌, sameℤ}
use Rattle.words.specs.Lists.{build, join}
use Rattle.words.specs.Rules.{answer}
use Rattle.laws.proofs.Cases.{on}
use Rattle.laws.proofs.Rules.{answer-none}
use Rattle.laws.proofs.Whole.{within-abs}
use Rattle.meaning.specs.Time.{days, day_of, day_number}
use Rattle.meaning.specs.Ledgers.{contracts}
use Rattle.meaning.specs.Books.{Book, setup_of}
use Rattle.meaning.specs.Soundness.{sound}
use Rattle.meaning.specs.Totals.{sum_of, total_rules, total}
use Rattle.meaning.proofs.SetupRules.{opens}
use Rattle.meaning.proofs.Sound.{parts}
use Rattle.sheet_lines.proofs.Lengths.{total-most}
use Rattle.meaning.specs.Sheet.{period_lines, day_lines}
use Rattle.sheet_parts.specs.Parts.{account_days, account_day_lines}
use Rattle.sheet_parts.proofs.AccountDays.{some-day, account-below}
use Rattle.sheet_parts.proofs.Room.{Short}

-- a total that is beyond 99,999,999,999 is refused, and then zero
total-small : (b : Book contracts) (account D period : ℕ) → nat_abs (total b account D period) ≤ 99999999999
unfolding total total_rules
total-small b account D period =
    on (answer (total_rules b account D period) =? 0)
    (λ e. rw e (within-abs 99999999999 (sum_of b account (day_of b.setting.time D) period) (not-false _ (answer-none (total_rules b account D period) refl (eqb-true (answer (total_rules b account D period)) 0 e) 3))))
    (λ e. rw e (omega arith))

small-mag : (z : ℤ) → nat_abs z ≤ 99999999999 → mag z < 2 ^ 63
small-mag (pos n) h = omega (arith, h)
small-mag (negsuc n) h = omega (arith, h)

-- few lines, each short
abbrev pub Few : ℕ → List (List ℕ) → Type 0
Few n lines = Short 64 lines × (length lines ≤ n)

short-append : (xs ys : List (List ℕ)) → Short 64 xs → Short 64 ys → Short 64 (xs ++ ys)
short-append [] ys s t = t
short-append (x ∷ xs) ys s t = (s.0, short-append xs ys s.1 t)

-- at most one of each
few-joined : (n : ℕ) (f : ℕ → List (List ℕ)) → ((k : ℕ) → k < n → Few 1 (f k)) → Few n (join (build n f))
unfolding build join
few-joined zero f h = (tt, omega arith)
few-joined (suc n) f h =
    let one = h 0 (omega arith) in
    let rest = few-joined n (λ (k : ℕ). f (suc k)) (λ k l. h (suc k) (omega (arith, l))) in
    (short-append (f 0) (join (build n (λ (k : ℕ). f (suc k)))) one.0 rest.0, omega (arith, one.1, rest.1, length-append (f 0) (join (build n (λ (k : ℕ). f (suc k))))))

few-of-period : (account D period : ℕ) (kwh : ℤ) → account < 256 → D < 65536 → period < 256 → mag kwh < 2 ^ 63 → Few 1 (period_lines account D period kwh)
unfolding period_lines
few-of-period account D period kwh a d p k =
    on (sameℤ kwh (pos 0)) (λ e. rw e (tt, omega arith)) (λ e. rw e ((total-most account D period kwh a d p k, tt), omega arith))

few-of-day : (b : Book contracts) (account D : ℕ) → account < 256 → D < 65536 → Few 50 (day_lines b account D)
unfolding day_lines
few-of-day b account D a d =
    few-joined 50 (λ (p : ℕ). period_lines account D (suc p) (total b account D (suc p)))
    (λ p h. few-of-period account D (suc p) (total b account D (suc p)) a d (omega (arith, h)) (small-mag (total b account D (suc p)) (total-small b account D (suc p))))

-- the lines of the k-th account's day of a sound book
pub few-of-account-day : (b : Book contracts) (k : ℕ) → sound b ≡ true → Few 50 (account_day_lines b k)
unfolding account_day_lines account_days
few-of-account-day b k s =
    let o = opens (setup_of b.setting) _ _ _ (parts b s).setup in
    let m = days b.setting.time in
    on (k <? b.setting.accounts * m)
    (λ e.
    let h : k < b.setting.accounts * m = ltb-true k (b.setting.accounts * m) e in
    rw e (few-of-day b (k / m) (day_number b.setting.time (k % m)) (omega (arith, account-below b.setting.accounts m k h, o.few-accounts)) (omega (arith, mod-lt k (some-day b.setting.accounts m k h), o.last-day))))
    (λ e. rw e (tt, omega arith))
