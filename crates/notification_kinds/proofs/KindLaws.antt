-- What a miss and a hit say at each level of the searches of `kinds`: a place, a period, a day, a slot.
use mathlib.Core.Bool.{Bool, true, false, not, ◌&&◌}
use mathlib.Core.List.{List, []}
use mathlib.Core.Logic.{◌≢◌}
use mathlib.Core.Path.{◌≡◌, refl, ap, ◌∙◌}
use Prim.Native.Nat.compare
use Prim.Native.Nat.{ℕ, zero, suc, ◌+◌, ◌-◌, ◌≤◌, ◌<◌}
use native.Mathlib.Nat.{mul-le-mul_right, suc-mul}
use native.Mathlib.Omega.{arith}
use lib.IntN.{ℤ}
use lib.ListN.{length, get_or}
use mir.Val.{Val}
use denote.Laws.{Is}
use denote.Struct.Declared.{row}
use denote.Struct.Laws.{owed}
use borrow.Author.Tests.{lt-ltb, le-ltb, le-leb, lt-leb, leb-true, eqb-true, eq-eqb}
use Rattle.words.specs.Tests.{◌≤?◌, ◌=?◌, between}
use Rattle.words.specs.Below.{some_below}
use Rattle.words.specs.Lists.{find}
use Rattle.laws.proofs.Cases.{on, and_left, and_right, and-false, and-true}
use Rattle.laws.proofs.Below.{some_more, some-hit, some-miss, some-all}
use Rattle.meaning.specs.Time.{Time, periods_at, gates_before, is_open_at, days, day_number}
use Rattle.meaning.specs.Authorisations.{Authorisation, row_at, same_accounts}
use Rattle.meaning.specs.Settings.{Setting}
use Rattle.meaning.specs.Ledgers.{contracts, one, two, index, at, origin_in, is_held, places}
use Rattle.meaning.specs.Messages.{Notification, writes}
use Rattle.meaning.specs.Books as Books
use Rattle.meaning.specs.Notifications.{under, states_at, states_on, states_open_on, is_replacement, is_other, overlaps, is_additional, kind_of, kind_number}
use Rattle.meaning.proofs.Clock.{periods-le}
use Rattle.messages.specs.declared.Notification as messages
use Rattle.messages.specs.Structs.{notification_of}
use Rattle.setups.specs.declared.Authorisation as setups
use Rattle.setups.specs.Structs.{row_of}
use Rattle.setups.proofs.SetupHeld.{codes-own}
use Rattle.book.specs.declared.Book.{Book}
use Rattle.book.specs.Structs.{time_in, rows_in, book_of}
use Rattle.book.specs.contracts.Book as Held
use Rattle.book.proofs.Book.TheLaws as HeldLaws
use Rattle.notification_kinds.specs.Kinds.{Fits, Inside, states_place, periods_from, periods_within, from_first, fits, kind_answer}

-- ---- a search that has found nothing yet

module _ (f : ℕ → Bool) where
  pub some-keep : (i : ℕ) → some_below i f ≡ false → f i ≡ false → some_below (i + 1) f ≡ false
  some-keep i none e = some_more i f ∙ rw (none, e)

  -- what is passed need not be all
  pub some-upto : (i n : ℕ) → some_below i f ≡ false → n ≤ i → some_below n f ≡ false
  some-upto i n none l = some-all n f (λ k h. some-miss i f none k (omega arith))

-- ---- the searches of meaning, level by level

-- an open period that the slot states
abbrev pub on_period : Books.Book contracts → Notification contracts → ℕ → ℕ → ℕ → Bool
on_period b n s d p = is_open_at b.setting.time.codes b.setting.time.closed d (suc p) && states_at b n s d (suc p)

-- on one of the notification's days
abbrev pub on_day : Books.Book contracts → Notification contracts → ℕ → ℕ → Bool
on_day b n s d = between n.first n.last (day_number b.setting.time d) && states_open_on b n s d

module _ (b : Books.Book contracts) (n : Notification contracts) (s : ℕ) where
  pub slot-skip : is_other b.setting n (get_or b.ledger.held s 0) ≡ false → overlaps b n s ≡ false
  unfolding overlaps
  slot-skip e = rw e

  pub slot-miss : (d : ℕ) → some_below d (on_day b n s) ≡ false → days b.setting.time ≤ d → overlaps b n s ≡ false
  unfolding overlaps
  slot-miss d none l = rw (some-upto (on_day b n s) d (days b.setting.time) none l, and-false)

  pub slot-hit : (d : ℕ) → is_other b.setting n (get_or b.ledger.held s 0) ≡ true → d < days b.setting.time → on_day b n s d ≡ true → overlaps b n s ≡ true
  unfolding overlaps
  slot-hit d o l h = rw (o, some-hit (days b.setting.time) (on_day b n s) d l h)

  pub day-miss : (d p : ℕ) → some_below p (on_period b n s d) ≡ false → periods_within b.setting.time n.first n.last d ≤ p → on_day b n s d ≡ false
  unfolding states_open_on periods_within
  day-miss d p none l =
      on (between n.first n.last (day_number b.setting.time d))
      (λ e. rw (e, some-upto (on_period b n s d) p (periods_at b.setting.time.codes d) none (rw e at l)))
      (λ e. rw e)

  pub day-hit : (d p : ℕ) → p < periods_within b.setting.time n.first n.last d → on_period b n s d p ≡ true → on_day b n s d ≡ true
  unfolding states_open_on periods_within
  day-hit d p l h =
      on (between n.first n.last (day_number b.setting.time d))
      (λ e. rw (e, some-hit (periods_at b.setting.time.codes d) (on_period b n s d) p (rw e at l) h))
      (λ e. absurd (omega (arith, rw e at l)))

  -- the periods before the first open one are no hit, and from there on all are open
  pub closed-miss : (d : ℕ) → some_below (b.setting.time.closed - gates_before b.setting.time.codes d) (on_period b n s d) ≡ false
  unfolding is_open_at
  closed-miss d =
      some-all (b.setting.time.closed - gates_before b.setting.time.codes d) (on_period b n s d)
      (λ k l. rw (le-ltb b.setting.time.closed (gates_before b.setting.time.codes d + suc k) (omega arith)))

  pub open-period : (d p : ℕ) → b.setting.time.closed - gates_before b.setting.time.codes d ≤ p → on_period b n s d p ≡ states_at b n s d (suc p)
  unfolding is_open_at
  open-period d p l = rw (lt-ltb b.setting.time.closed (gates_before b.setting.time.codes d + suc p) (omega arith))

  pub from-miss : (d p : ℕ) → some_below p (λ (q : ℕ). states_at b n s d (suc q)) ≡ false → periods_from b.setting.time n.first d ≤ p → from_first b n s d ≡ false
  unfolding states_on periods_from
  from-miss d p none l =
      on (n.first ≤? day_number b.setting.time d)
      (λ e. rw (e, some-upto (λ (q : ℕ). states_at b n s d (suc q)) p (periods_at b.setting.time.codes d) none (rw e at l)))
      (λ e. rw e)

  pub from-hit : (d p : ℕ) → p < periods_from b.setting.time n.first d → states_at b n s d (suc p) ≡ true → from_first b n s d ≡ true
  unfolding states_on periods_from
  from-hit d p l h =
      on (n.first ≤? day_number b.setting.time d)
      (λ e. rw (e, some-hit (periods_at b.setting.time.codes d) (λ (q : ℕ). states_at b n s d (suc q)) p (rw e at l) h))
      (λ e. absurd (omega (arith, rw e at l)))

-- ---- the sides that are written, by the row of its authorisation

module _ (b : Book) (n : messages.Notification) (row : setups.Authorisation) (e : row_of row ≡ row_at (rows_in b.setup) n.authorisation) where
  pub row-writes-one : n.agent =? row.agent1 ≡ writes (rows_in b.setup) (notification_of n) one
  unfolding writes notification_of
  row-writes-one = ap (λ (a : Authorisation). n.agent =? a.agent1) e

  pub row-writes-two : n.agent =? row.agent2 ≡ writes (rows_in b.setup) (notification_of n) two
  unfolding writes notification_of
  row-writes-two = ap (λ (a : Authorisation). n.agent =? a.agent2) e

  -- ---- a place, by the sides that are written: what the code answers, r, is what the place states

  module _ {w1 w2 : Bool} (e1 : w1 ≡ n.agent =? row.agent1) (e2 : w2 ≡ n.agent =? row.agent2) (held : List ℕ) (side1 side2 : List ℤ) (s d p : ℕ)
      {r : Bool} (q : r ≡ states_place side1 side2 w1 w2 (index b.setup.days s d (suc p))) where
    pub place-states : states_at (book_of b held side1 side2) (notification_of n) s d (suc p) ≡ r
    unfolding states_at states_place at
    place-states = rw (q, e1, e2, row-writes-one, row-writes-two, codes-own)

    -- and of an open period
    pub open-states : b.closed - gates_before (time_in b).codes d ≤ p → on_period (book_of b held side1 side2) (notification_of n) s d p ≡ r
    open-states l = open-period (book_of b held side1 side2) (notification_of n) s d p l ∙ place-states

-- ---- rows, identifiers and days

-- what the type of a book says of its array, by whichever values of the machine it is held
pub rows-lent : (b : Book) {held : List Val} → Is (row Held.the_type) b held → length b.setup.rows ≡ 64
rows-lent b {held} g = (owed Held.the_type HeldLaws.the_laws b held g).0.1.1.1.1.1.1.1.0.1.0.1

-- an entry that is not 0 holds an identifier, and is one more than it
pub other-held : (s : Setting) (n : Notification contracts) (entry : ℕ) → entry ≢ 0
    → is_other s n entry ≡ not (entry =? suc n.identifier) && same_accounts (origin_in s.rows entry) (under s n)
unfolding is_other
other-held s n zero h = absurd (h refl)
other-held s n (suc i) h = rw compare.suc-suc

module _ (t : Time) (first d : ℕ) where
  pub from-before : day_number t d < first → periods_from t first d ≡ 0
  unfolding periods_from
  from-before l = rw (lt-leb first (day_number t d) l)

  pub from_on : first ≤ day_number t d → periods_from t first d ≡ periods_at t.codes d
  unfolding periods_from
  from_on l = rw (le-leb first (day_number t d) l)

  pub within-past : (last : ℕ) → last < day_number t d → periods_within t first last d ≡ 0
  unfolding periods_within
  within-past last l = rw (lt-leb (day_number t d) last l, and-false)

  pub within-upto : (last : ℕ) → day_number t d ≤ last → periods_within t first last d ≡ periods_from t first d
  unfolding periods_within periods_from
  within-upto last l = rw (le-leb (day_number t d) last l, and-true)

-- a day has at most 50 periods
pub from-few : (t : Time) (first d : ℕ) → periods_from t first d ≤ 50
unfolding periods_from
from-few t first d =
    on (first ≤? day_number t d) (λ e. rw e (periods-le t.codes d)) (λ e. rw e (omega arith))

pub within-few : (t : Time) (first last d : ℕ) → periods_within t first last d ≤ 50
unfolding periods_within
within-few t first last d =
    on (between first last (day_number t d)) (λ e. rw e (periods-le t.codes d)) (λ e. rw e (omega arith))

-- ---- the places of a slot are in tables that fit

pub place_inside : (b : Book) (held : List ℕ) (side1 side2 : List ℤ) (s d p : ℕ) → Fits b held side1 side2 → s < length held → d < b.setup.days → p < 50
    → Inside side1 side2 b.setup.days s d p
unfolding index
place_inside b held side1 side2 s d p f hs hd hp =
    let m = mul-le-mul_right b.setup.days hs in
    let q = suc-mul s b.setup.days in
    record { slot-few = omega (arith, f.slots-few); period-few = hp; in1 = omega (arith, m, q, f.table1); in2 = omega (arith, m, q, f.table2) }

-- ---- what does not read a table

module _ (b : Book) (held : List ℕ) (side1 side2 : List ℤ) (n : Notification contracts) where
  -- "its identifier is held": by its slot
  pub replaced-not : length held ≤ find (suc n.identifier) held → is_replacement (book_of b held side1 side2) n ≡ false
  unfolding is_replacement is_held
  replaced-not l = rw (le-ltb (find (suc n.identifier) held) (length held) l)

  pub replaced-held : find (suc n.identifier) held < length held
      → is_replacement (book_of b held side1 side2) n ≡ some_below b.setup.days (from_first (book_of b [] side1 side2) n (find (suc n.identifier) held))
  unfolding is_replacement is_held states_on states_at
  replaced-held l =
      rw (lt-ltb (find (suc n.identifier) held) (length held) l)
      (ap (λ (k : ℕ). some_below k (from_first (book_of b [] side1 side2) n (find (suc n.identifier) held))) (codes-own b.setup.days b.setup.codes))

-- ---- the kind, by the two searches

module _ (b : Books.Book contracts) (n : Notification contracts) where
  pub kind-replacement : is_replacement b n ≡ true → kind_number (kind_of b n) ≡ 2
  unfolding kind_of
  kind-replacement e = rw e

  pub kind-additional : is_replacement b n ≡ false → some_below (length b.ledger.held) (overlaps b n) ≡ true → kind_number (kind_of b n) ≡ 3
  unfolding kind_of is_additional
  kind-additional e q = rw (e, q)

  pub kind-initial : is_replacement b n ≡ false → some_below (length b.ledger.held) (overlaps b n) ≡ false → kind_number (kind_of b n) ≡ 1
  unfolding kind_of is_additional
  kind-initial e q = rw (e, q)

-- ---- the tables fit, as a test

module _ (b : Book) (held : List ℕ) (side1 side2 : List ℤ) where
  pub test_fits : fits b (length held) (length side1) (length side2) ≡ true → Fits b held side1 side2
  unfolding fits
  test_fits e =
      let days = b.setup.days in
      let slots = length held in
      let third = and_left ((days ≤? 8 && slots ≤? 256) && length side1 =? places slots days) (length side2 =? places slots days) e in
      let second = and_left (days ≤? 8 && slots ≤? 256) (length side1 =? places slots days) third in
      record {
        days-few = leb-true days 8 (and_left (days ≤? 8) (slots ≤? 256) second);
        slots-few = leb-true slots 256 (and_right (days ≤? 8) (slots ≤? 256) second);
        table1 = eqb-true (length side1) (places slots days) (and_right (days ≤? 8 && slots ≤? 256) (length side1 =? places slots days) third);
        table2 = eqb-true (length side2) (places slots days) (and_right ((days ≤? 8 && slots ≤? 256) && length side1 =? places slots days) (length side2 =? places slots days) e);
      }

  fits-test : Fits b held side1 side2 → fits b (length held) (length side1) (length side2) ≡ true
  unfolding fits
  fits-test f =
      let days = b.setup.days in
      let slots = length held in
      rw (le-leb days 8 f.days-few, le-leb slots 256 f.slots-few, eq-eqb (length side1) (places slots days) f.table1, eq-eqb (length side2) (places slots days) f.table2)

  -- the kind's number where they do, and none where they do not
  pub kind-fitting : (n : Notification contracts) → Fits b held side1 side2 → kind_answer b held side1 side2 n ≡ kind_number (kind_of (book_of b held side1 side2) n)
  unfolding kind_answer
  kind-fitting n f = rw (fits-test f)

  pub kind-unfit : (n : Notification contracts) → fits b (length held) (length side1) (length side2) ≡ false → kind_answer b held side1 side2 n ≡ 0
  unfolding kind_answer
  kind-unfit n e = rw e

-- by the code's tests
module _ (b : Book) (slots lent1 lent2 : ℕ) where
  pub too-many-days : 8 < b.setup.days → fits b slots lent1 lent2 ≡ false
  unfolding fits
  too-many-days h = rw (lt-leb b.setup.days 8 h)

  pub too-many-slots : 256 < slots → fits b slots lent1 lent2 ≡ false
  unfolding fits
  too-many-slots h = rw (lt-leb slots 256 h, and-false)

  pub lent-decide : b.setup.days ≤ 8 → slots ≤ 256 → fits b slots lent1 lent2 ≡ lent1 =? places slots b.setup.days && lent2 =? places slots b.setup.days
  unfolding fits
  lent-decide d s = rw (le-leb b.setup.days 8 d, le-leb slots 256 s)
