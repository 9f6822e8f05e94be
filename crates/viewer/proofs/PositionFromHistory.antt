-- THE POSITION FROM THE HISTORY, of what the code answers: after any calls of the proved functions on an opened book the totals, a day's totals and
-- the bars are what the accepted calls alone say, and 14 comes exactly when as many different identifiers have been accepted as there are slots.
use mathlib.Core.Bool.{true}
use mathlib.Core.List.{List}
use mathlib.Core.Logic.{◌↔◌}
use mathlib.Core.Path.{◌≡◌, refl, sym, ap, ◌∙◌}
use Prim.Native.Nat.{ℕ, suc, ◌*◌, ◌-◌, ◌<◌}
use native.Mathlib.Omega.{arith}
use lib.IntN.{ℤ, pos}
use lib.ListN.{length, get_or}
use borrow.Author.Tests.{ltb-false, not-false}
use Rattle.words.specs.Below.{sum_belowℤ}
use Rattle.words.specs.Rules.{answer}
use Rattle.laws.proofs.Rules.{answer-none}
use Rattle.meaning.specs.Time.{is_period}
use Rattle.meaning.specs.Settings.{has_account}
use Rattle.meaning.specs.Ledgers.{contracts}
use Rattle.meaning.specs.Books.{opening_rules, opened_book}
use Rattle.meaning.specs.Books as Meaning
use Rattle.meaning.specs.Notifications.{notification_rules}
use Rattle.meaning.specs.Calls.{Call}
use Rattle.meaning.specs.History.{Event, after, events_of}
use Rattle.meaning.specs.Totals.{mwh, total_rules, figures_rules}
use Rattle.meaning.specs.Bars.{Bar, map_bar, mark_rules, seen_bar, mark}
use Rattle.meaning.specs.FromHistory.{total_from_history, bar_from_history}
use Rattle.meaning.specs.PackedSetups.{setup_in}
use Rattle.meaning.proofs.Clock.{is-period-on}
use Rattle.meaning.proofs.Shown.{agreed_part}
use Rattle.meaning.proofs.TotalFromHistory.{total-answered, total-from-history}
use Rattle.meaning.proofs.BarsFromHistory.{total-is-agreed, bar-from-history}
use Rattle.meaning.proofs.Fourteen.{PassesThirteen, NewAndFull, fourteen-always}
use Rattle.setups.specs.declared.Setup.{Setup}
use Rattle.setups.specs.Structs.{setup_of}
use Rattle.messages.specs.declared.Notification.{Notification}
use Rattle.messages.specs.Structs.{notification_of}
use Rattle.book.specs.declared.Opened.{Opened}
use Rattle.book.specs.declared.OpenedPacked.{OpenedPacked}
use Rattle.book.proofs.UniqueState.{Opens}
use Rattle.book.proofs.PackedOpening.{OpensPacked}
use Rattle.calls.specs.declared.Notified.{Notified}
use Rattle.calls.proofs.NotifyLaws.{notified-number}
use Rattle.calls.proofs.Promises.{Notifies}
use Rattle.calls.proofs.Bridge.{State, whole, Made, Begins, begun-holds, opens-begins}
use Rattle.calls.proofs.PackedBridge.{packed-begins}
use Rattle.position.specs.Totals.{totalled, day_periods, day_total_rules}
use Rattle.position.specs.declared.Totalled.{Totalled}
use Rattle.position.proofs.TotalTheorems.{day-total-is-total}
use Rattle.position.proofs.Promises.{DayTotalled}
use Rattle.bar.specs.Figures.{bar_for}
use Rattle.marks.specs.Marks.{Marked, marked}

-- What is known of a book and its lent tables when the calls on a book opened with this setup and so many slots have led to them.
pub record FollowsHistory (t : State) (setup : Meaning.Setup) (slots : ℕ) (calls : List (Call contracts)) : Type 0 where
  -- "An account's total is the sum over identifiers where both sides stand and are equal": what `total` answers, to every account of the book in
  -- every period of it
  pub totals : (account D period : ℕ) (r : Totalled) → r ≡ totalled (whole t) account D period
      → has_account (whole t).setting account ≡ true → is_period (whole t).setting.time D period ≡ true
      → r ≡ record { answer = 0; kwh = total_from_history (whole t).setting (events_of (opened_book contracts setup slots) calls) account D period }
  -- what `day_totals` leaves at each period's place, from 0, when it answers 0
  pub day_totals : (account D : ℕ) (lent left : List ℤ) (r : ℕ) → DayTotalled t.book t.held t.side1 t.side2 account D lent r left → r ≡ 0
      → (period : ℕ) → is_period (whole t).setting.time D period ≡ true
      → get_or left (period - 1) (pos 0) ≡ total_from_history (whole t).setting (events_of (opened_book contracts setup slots) calls) account D period
  -- what `mark` shows of an identifier when it answers 0
  pub bars : (i account D period : ℕ) (r : Marked) → r ≡ marked (whole t) i account D period → r.answer ≡ 0
      → r.bar ≡ bar_for (map_bar mwh (bar_from_history (whole t).setting (events_of (opened_book contracts setup slots) calls) account D period i))
  -- and the bars show what `total` answers: it is the sum, over every identifier, of what its bar shows as Agreed, in whole kWh
  pub shown : (account D period : ℕ) (r : Totalled) → r ≡ totalled (whole t) account D period → r.answer ≡ 0
      → r.kwh ≡ sum_belowℤ (length (whole t).setting.rows * 65536) (λ i. agreed_part (bar_from_history (whole t).setting (events_of (opened_book contracts setup slots) calls) account D period i))
  -- "No slot is freed within a book, so 14 comes exactly when that many different identifiers have been accepted": what `notify` answers
  pub fourteen : (n : Notification) (r : Notified) (h : List ℕ) (l1 l2 : List ℤ) → Notifies t.book t.held t.side1 t.side2 n r h l1 l2
      → (r.answer ≡ 14) ↔ (PassesThirteen (whole t) (notification_of n) × NewAndFull setup slots calls (notification_of n))

-- ---- a question that is answered is about an account and a period of the book

module _ (w : Meaning.Book contracts) where
  total-asked : (account D period : ℕ) → answer (total_rules w account D period) ≡ 0
      → (has_account w.setting account ≡ true) × (is_period w.setting.time D period ≡ true)
  unfolding total_rules
  total-asked account D period e =
      let none = answer-none (total_rules w account D period) refl e in
      (not-false (has_account w.setting account) (none 1), not-false (is_period w.setting.time D period) (none 2))

  mark-asked : (i account D period : ℕ) → answer (mark_rules w i account D period) ≡ 0 → is_period w.setting.time D period ≡ true
  unfolding mark_rules
  mark-asked i account D period e = not-false (is_period w.setting.time D period) (answer-none (mark_rules w i account D period) refl e 3)

  day-asked : (account D room : ℕ) → answer (day_total_rules w account D room) ≡ 0 → has_account w.setting account ≡ true
  unfolding figures_rules day_total_rules
  day-asked account D room e = not-false (has_account w.setting account) (answer-none (day_total_rules w account D room) refl e 1)

  day-inside : (account D room period : ℕ) → answer (day_total_rules w account D room) ≡ 0 → is_period w.setting.time D period ≡ true
      → (period - 1 < day_periods w D) × (period - 1 < room) × (suc (period - 1) ≡ period)
  unfolding figures_rules day_total_rules
  day-inside account D room period e p =
      let q = (is-period-on w.setting.time D period p).1 in
      let enough = ltb-false room (day_periods w D) (answer-none (day_total_rules w account D room) refl e 3) in
      (omega (arith, q.low, q.high), omega (arith, q.low, q.high, enough), omega (arith, q.low))

-- ---- of any book that calls have led to

module _ (setup : Meaning.Setup) (slots lent1 lent2 : ℕ) (opening : answer (opening_rules setup slots lent1 lent2) ≡ 0) (calls : List (Call contracts))
    (w : Meaning.Book contracts) (reached : w ≡ after (opened_book contracts setup slots) calls) where
  abbrev begun : Meaning.Book contracts
  begun = opened_book contracts setup slots

  abbrev events : List (Event contracts)
  events = events_of begun calls

  module _ (account D period : ℕ) (p : is_period w.setting.time D period ≡ true) where
    total-follows : has_account w.setting account ≡ true
        → totalled w account D period ≡ record { answer = 0; kwh = total_from_history w.setting events account D period }
    unfolding totalled
    total-follows inBook =
        let there = rw reached at p in
        let here = rw reached at inBook in
        rw reached
        (λ j. record {
          answer = total-answered setup slots lent1 lent2 opening calls account D period there here j;
          kwh = total-from-history setup slots lent1 lent2 opening calls account D period there here j;
        })

    bar-follows : (i : ℕ) → answer (mark_rules w i account D period) ≡ 0 → seen_bar w i account D period ≡ bar_from_history w.setting events account D period i
    bar-follows i e =
        rw reached (bar-from-history setup slots lent1 lent2 opening calls account D period i (rw reached at p) (rw reached at e))

  fourteen-follows : (n : Notification) → (answer (notification_rules w (notification_of n)) ≡ 14) ↔ (PassesThirteen w (notification_of n) × NewAndFull setup slots calls (notification_of n))
  fourteen-follows n = rw reached (fourteen-always setup slots calls (notification_of n))

-- ---- so of the code

module _ (setup : Meaning.Setup) (slots lent1 lent2 : ℕ) (opening : answer (opening_rules setup slots lent1 lent2) ≡ 0) (calls : List (Call contracts))
    (t : State) (reached : whole t ≡ after (opened_book contracts setup slots) calls) where
  abbrev history : List (Event contracts)
  history = events_of (opened_book contracts setup slots) calls

  day-total-follows : (account D : ℕ) (lent left : List ℤ) (r : ℕ) → DayTotalled t.book t.held t.side1 t.side2 account D lent r left → r ≡ 0
      → (period : ℕ) → is_period (whole t).setting.time D period ≡ true
      → get_or left (period - 1) (pos 0) ≡ total_from_history (whole t).setting history account D period
  day-total-follows account D lent left r promise e period p =
      let done : answer (day_total_rules (whole t) account D (length lent)) ≡ 0 = sym promise.0 ∙ e in
      let inside = day-inside (whole t) account D (length lent) period done p in
      ap (λ (l : List ℤ). get_or l (period - 1) (pos 0)) promise.1
      ∙ day-total-is-total t.book t.held t.side1 t.side2 account D lent done (period - 1) inside.0 inside.1
      ∙ ap (λ (x : ℕ). (totalled (whole t) account D x).kwh) inside.2
      ∙ ap (λ (x : Totalled). x.kwh)
      (total-follows setup slots lent1 lent2 opening calls (whole t) reached account D period p (day-asked (whole t) account D (length lent) done))

  bar-shown : (i account D period : ℕ) (r : Marked) → r ≡ marked (whole t) i account D period → r.answer ≡ 0
      → r.bar ≡ bar_for (map_bar mwh (bar_from_history (whole t).setting history account D period i))
  unfolding marked mark
  bar-shown i account D period r promise e =
      let done : answer (mark_rules (whole t) i account D period) ≡ 0 = sym (ap (λ (x : Marked). x.answer) promise) ∙ e in
      let p = mark-asked (whole t) i account D period done in
      ap (λ (x : Marked). x.bar) promise
      ∙ ap (λ (x : Bar ℤ). bar_for (map_bar mwh x)) (bar-follows setup slots lent1 lent2 opening calls (whole t) reached account D period p i done)

  total-shown-agreed : (account D period : ℕ) (r : Totalled) → r ≡ totalled (whole t) account D period → r.answer ≡ 0
      → r.kwh ≡ sum_belowℤ (length (whole t).setting.rows * 65536) (λ i. agreed_part (bar_from_history (whole t).setting history account D period i))
  unfolding totalled
  total-shown-agreed account D period r promise e =
      let asked = total-asked (whole t) account D period (sym (ap (λ (x : Totalled). x.answer) promise) ∙ e) in
      ap (λ (x : Totalled). x.kwh) (promise ∙ total-follows setup slots lent1 lent2 opening calls (whole t) reached account D period asked.1 asked.0)
      ∙ total-is-agreed (whole t).setting history account D period

  fourteen-answered : (n : Notification) (r : Notified) (h : List ℕ) (l1 l2 : List ℤ) → Notifies t.book t.held t.side1 t.side2 n r h l1 l2
      → (r.answer ≡ 14) ↔ (PassesThirteen (whole t) (notification_of n) × NewAndFull setup slots calls (notification_of n))
  fourteen-answered n r h l1 l2 promise =
      let same : r.answer ≡ answer (notification_rules (whole t) (notification_of n)) = ap (λ (x : Notified). x.answer) promise.0 ∙ notified-number (whole t) (notification_of n) in
      let exactly = fourteen-follows setup slots lent1 lent2 opening calls (whole t) reached n in
      (λ e. exactly.0 (sym same ∙ e), λ h. same ∙ exactly.1 h)

  pub follows-history : FollowsHistory t setup slots calls
  follows-history =
      record {
        totals = λ account D period r promise known p. promise ∙ total-follows setup slots lent1 lent2 opening calls (whole t) reached account D period p known;
        day_totals = day-total-follows;
        bars = bar-shown;
        shown = total-shown-agreed;
        fourteen = fourteen-answered;
      }

-- ---- after `open` or `open_packed`, and any calls of the proved functions

module _ {start : State} {setup : Meaning.Setup} {slots lent1 lent2 : ℕ} (begins : Begins start setup slots lent1 lent2) (t : State) (calls : List (Call contracts)) where
  begun-follows : Made start calls t → FollowsHistory t setup slots calls
  begun-follows made = follows-history setup slots lent1 lent2 begins.unrefused calls t (begun-holds begins t calls made)

pub position-follows-history : (setup : Setup) (held : List ℕ) (side1 side2 : List ℤ) (r : Opened) (h : List ℕ) (l1 l2 : List ℤ)
    → Opens setup held side1 side2 r h l1 l2 → r.answer ≡ 0
    → (t : State) (calls : List (Call contracts)) → Made (record { book = r.book; held = h; side1 = l1; side2 = l2 }) calls t
    → FollowsHistory t (setup_of setup) (length held) calls
position-follows-history setup held side1 side2 r h l1 l2 opening accepted t calls made =
    begun-follows (opens-begins setup held side1 side2 r h l1 l2 opening accepted) t calls made

pub packed-position-follows-history : (bytes held : List ℕ) (side1 side2 : List ℤ) (r : OpenedPacked) (h : List ℕ) (l1 l2 : List ℤ)
    → OpensPacked bytes held side1 side2 r h l1 l2 → r.answer ≡ 0
    → (t : State) (calls : List (Call contracts)) → Made (record { book = r.book; held = h; side1 = l1; side2 = l2 }) calls t
    → FollowsHistory t (setup_in bytes) (length held) calls
packed-position-follows-history bytes held side1 side2 r h l1 l2 opening accepted t calls made =
    begun-follows (packed-begins bytes held side1 side2 r h l1 l2 opening accepted) t calls made
