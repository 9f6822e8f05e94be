-- The setup rules, one field each: what an opening that answers 0 has shown.
use mathlib.Core.Bool.{true, false, ◌&&◌, ◌||◌}
use mathlib.Core.Logic.{◌≢◌}
use mathlib.Core.Path.{◌≡◌, refl}
use Prim.Native.Nat.{ℕ, ◌+◌, ◌≤◌, ◌<◌}
use lib.Dec.{leb, ltb, eqb}
use lib.ListN.{length, get_or}
use borrow.Author.Tests.{eqb-true, eqb-false, leb-true, leb-false, ltb-false, not-false}
use Rattle.words.specs.Tests.{between}
use Rattle.words.specs.Rules.{answer}
use Rattle.laws.proofs.Cases.{and_left, and_right, or_left, or_right}
use Rattle.laws.proofs.Lists.{any_none}
use Rattle.laws.proofs.Rules.{answer-none}
use Rattle.meaning.specs.Time.{evergreen}
use Rattle.meaning.specs.Authorisations.{Authorisation, no_row, row_at, row_wrong}
use Rattle.meaning.specs.Ledgers.{places}
use Rattle.meaning.specs.Books.{Setup, counts_wrong, last_day_wrong, code_wrong, lent_wrong, some_row_wrong, opening_rules}

-- "from low to high"
between-low : (l h n : ℕ) → between l h n ≡ true → l ≤ n
between-low l h n e = leb-true l n (and_left (leb l n) (leb n h) e)

between-high : (l h n : ℕ) → between l h n ≡ true → n ≤ h
between-high l h n e = leb-true n h (and_right (leb l n) (leb n h) e)

-- a row that is not wrong
pub record RowRight (accounts : ℕ) (a : Authorisation) : Type 0 where
  pub account1 : a.account1 < accounts
  pub account2 : a.account2 < accounts
  pub differ : a.account1 ≢ a.account2
  pub first : a.first ≢ evergreen
  pub order : a.first ≤ a.last
  pub type : a.type ≤ 2

pub row-right : (accounts : ℕ) (a : Authorisation) → row_wrong accounts a ≡ false → RowRight accounts a
unfolding row_wrong
row-right accounts a e =
    let p1 = leb accounts a.account1 in
    let p2 = leb accounts a.account2 in
    let p3 = eqb a.account1 a.account2 in
    let p4 = eqb a.first evergreen in
    let p5 = ltb a.last a.first in
    let p6 = ltb 2 a.type in
    let e5 = or_left (p1 || p2 || p3 || p4 || p5) p6 e in
    let e4 = or_left (p1 || p2 || p3 || p4) p5 e5 in
    let e3 = or_left (p1 || p2 || p3) p4 e4 in
    let e2 = or_left (p1 || p2) p3 e3 in
    record {
      account1 = leb-false accounts a.account1 (or_left p1 p2 e2);
      account2 = leb-false accounts a.account2 (or_right p1 p2 e2);
      differ = eqb-false a.account1 a.account2 (or_right (p1 || p2) p3 e3);
      first = eqb-false a.first evergreen (or_right (p1 || p2 || p3) p4 e4);
      order = ltb-false a.last a.first (or_right (p1 || p2 || p3 || p4) p5 e5);
      type = ltb-false 2 a.type (or_right (p1 || p2 || p3 || p4 || p5) p6 e);
    }

-- "1 to 8 consecutive settlement days .. 2 to 64 energy accounts, 1 to 64 authorisations and 1 to 256 identifiers"
pub record Opens (s : Setup) (slots lent1 lent2 : ℕ) : Type 0 where
  pub some-day : 1 ≤ length s.codes
  pub few-days : length s.codes ≤ 8
  pub some-accounts : 2 ≤ s.accounts
  pub few-accounts : s.accounts ≤ 64
  pub some-row : 1 ≤ length s.rows
  pub few-rows : length s.rows ≤ 64
  pub last-day : s.first + length s.codes ≤ evergreen
  pub some-slot : 1 ≤ slots
  pub few-slots : slots ≤ 256
  pub side1 : lent1 ≡ places slots (length s.codes)
  pub side2 : lent2 ≡ places slots (length s.codes)
  pub codes : (d : ℕ) → d < length s.codes → get_or s.codes d 0 ≤ 2
  pub rows : (k : ℕ) → k < length s.rows → RowRight s.accounts (row_at s.rows k)

pub opens : (s : Setup) (slots lent1 lent2 : ℕ) → answer (opening_rules s slots lent1 lent2) ≡ 0 → Opens s slots lent1 lent2
unfolding opening_rules counts_wrong last_day_wrong code_wrong lent_wrong some_row_wrong
opens s slots lent1 lent2 e =
    let n = length s.codes in
    let p1 = counts_wrong s in
    let p2 = last_day_wrong s in
    let p3 = lent_wrong s slots lent1 lent2 in
    let p4 = code_wrong s in
    let e4 = answer-none (opening_rules s slots lent1 lent2) refl e 0 in
    let e3 = or_left (p1 || p2 || p3) p4 e4 in
    let e2 = or_left (p1 || p2) p3 e3 in
    let days = between 1 8 n in
    let accounts = between 2 64 s.accounts in
    let rows = between 1 64 (length s.rows) in
    let c3 = not-false (days && accounts && rows) (or_left p1 p2 e2) in
    let c2 = and_left (days && accounts) rows c3 in
    let held = between 1 256 slots in
    let l1 = eqb lent1 (places slots n) in
    let l2 = eqb lent2 (places slots n) in
    let t3 = not-false (held && l1 && l2) (or_right (p1 || p2) p3 e3) in
    let t2 = and_left (held && l1) l2 t3 in
    record {
      some-day = between-low 1 8 n (and_left days accounts c2);
      few-days = between-high 1 8 n (and_left days accounts c2);
      some-accounts = between-low 2 64 s.accounts (and_right days accounts c2);
      few-accounts = between-high 2 64 s.accounts (and_right days accounts c2);
      some-row = between-low 1 64 (length s.rows) (and_right (days && accounts) rows c3);
      few-rows = between-high 1 64 (length s.rows) (and_right (days && accounts) rows c3);
      last-day = ltb-false evergreen (s.first + n) (or_right p1 p2 e2);
      some-slot = between-low 1 256 slots (and_left held l1 t2);
      few-slots = between-high 1 256 slots (and_left held l1 t2);
      side1 = eqb-true lent1 (places slots n) (and_right held l1 t2);
      side2 = eqb-true lent2 (places slots n) (and_right (held && l1) l2 t3);
      codes = λ d h. ltb-false 2 (get_or s.codes d 0) (any_none (λ (code : ℕ). ltb 2 code) s.codes 0 (or_right (p1 || p2 || p3) p4 e4) d h);
      rows = λ k h. row-right s.accounts (row_at s.rows k) (any_none (row_wrong s.accounts) s.rows no_row (answer-none (opening_rules s slots lent1 lent2) refl e 1) k h);
    }
