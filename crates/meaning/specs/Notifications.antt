-- Document 01, "What a notification does" and "Answer numbers" (1 to 14): what can be wrong with a notification, its kind, and its answer.
use Rattle.std.specs.Prelude.{Bool, not, ◌&&◌, ◌||◌, List, ◌++◌, ℕ, zero, suc, length, get_or, if◌then◌else◌}
use Rattle.words.specs.Tests.{◌<?◌, ◌≤?◌, ◌=?◌, between}
use Rattle.words.specs.Below.{some_below, first_below}
use Rattle.words.specs.Rules.{Rule, ◌when◌else◌, ◌when◌by◌else◌, done, answer, place}
use Rattle.meaning.specs.Time.{periods_at, days, day_number, periods_on, is_open_at, next_day, current_day}
use Rattle.meaning.specs.Authorisations.{Authorisation, row_at, same_accounts}
use Rattle.meaning.specs.Ledgers.{Sort, Ledger, stands, at, originator_of, is_held, slot_of, slot_for, every_slot_held, holds, one, two}
use Rattle.meaning.specs.Messages.{Entry, Notification, writes}
use Rattle.meaning.specs.Settings.{Setting, known, in_force, expired}
use Rattle.meaning.specs.Books.{Book}
use Rattle.meaning.specs.Refusals.{arriving}

pub data Kind : Type 0 where
  initial replacement additional : Kind

module _ {K : Sort} where
  -- the authorisation that it is sent under, which has the type
  abbrev pub under : Setting → Notification K → Authorisation
  under s n = row_at s.rows n.authorisation

  -- ---- what can be wrong with it

  -- 4: "key wrong, or agent is neither of its two"
  unfoldable pub key_or_agent_wrong : Setting → Notification K → Bool
  key_or_agent_wrong s n = not (n.key =? (under s n).key) || not (writes s.rows n one || writes s.rows n two)

  -- 6: the originator is this authorisation, or "one whose last day is before the current day with the same account 1 and account 2"
  unfoldable pub originator_right : Setting → Notification K → Bool
  originator_right s n =
      let o : ℕ = originator_of n.identifier in
      o =? n.authorisation
      || (known s o && expired s o (current_day s.time) && same_accounts (row_at s.rows o) (under s n))

  -- "First and last day equal: periods 1 to that day's length. Otherwise, evergreen included: periods 1 to 48."
  unfoldable pub highest_period : Setting → Notification K → ℕ
  highest_period s n = if n.first =? n.last then periods_on s.time n.first else 48

  -- the entry at a place, counted from 0; the period before a place, 0 before the first
  unfoldable pub entry_at : Notification K → ℕ → Entry K
  entry_at n k = get_or n.entries k (record { period = 0; volume = K.omitted })

  unfoldable pub period_before : Notification K → ℕ → ℕ
  period_before n zero = 0
  period_before n (suc k) = (entry_at n k).period

  -- 10: "a period is 0 or too high, or periods do not strictly rise; an entry past the 50th counts as too high". Of two that do not rise the later
  -- entry offends, and 0 rises above nothing.
  unfoldable pub period_offends : Setting → Notification K → ℕ → Bool
  period_offends s n k = 50 ≤? k || highest_period s n <? (entry_at n k).period || (entry_at n k).period ≤? period_before n k

  -- 11: "a volume out of range"
  unfoldable pub volume_offends : Notification K → ℕ → Bool
  volume_offends n k = not (K.in_range (entry_at n k).volume)

  -- some entry offends; and the place of the least that does, "the first offending entry's place, counted from 0" (02, A3); the count where none does
  unfoldable pub some_entry : Notification K → (ℕ → Bool) → Bool
  some_entry n offends = some_below (length n.entries) offends

  unfoldable pub first_entry : Notification K → (ℕ → Bool) → ℕ
  first_entry n offends = first_below (length n.entries) offends

  -- ---- its kind

  -- a place of a slot, on a side that it writes, "states something when it does not hold the mark"
  unfoldable pub states_at : Book K → Notification K → ℕ → ℕ → ℕ → Bool
  states_at b n slot d period =
      (writes b.setting.rows n one && stands K (at K (days b.setting.time) b.ledger.side1 slot d period))
      || (writes b.setting.rows n two && stands K (at K (days b.setting.time) b.ledger.side2 slot d period))

  -- in some period of a day; in some open period of a day
  unfoldable pub states_on : Book K → Notification K → ℕ → ℕ → Bool
  states_on b n slot d = some_below (periods_at b.setting.time.codes d) (λ (p : ℕ). states_at b n slot d (suc p))

  unfoldable pub states_open_on : Book K → Notification K → ℕ → ℕ → Bool
  states_open_on b n slot d =
      some_below (periods_at b.setting.time.codes d) (λ (p : ℕ). is_open_at b.setting.time.codes b.setting.time.closed d (suc p) && states_at b n slot d (suc p))

  -- "its identifier is held and, on a side it writes, states anything on the notification's first day or later"
  unfoldable pub is_replacement : Book K → Notification K → Bool
  is_replacement b n =
      is_held b.ledger.held n.identifier
      && some_below (days b.setting.time) (λ (d : ℕ). n.first ≤? day_number b.setting.time d && states_on b n (slot_of b.ledger.held n.identifier) d)

  -- a slot's entry holds "another held identifier of the same account 1 and account 2"
  unfoldable pub is_other : Setting → Notification K → ℕ → Bool
  is_other s n entry = holds (λ (i : ℕ). not (i =? n.identifier) && same_accounts (row_at s.rows (originator_of i)) (under s n)) entry

  -- it "states, on a side it writes, an open period on one of its days"
  unfoldable pub overlaps : Book K → Notification K → ℕ → Bool
  overlaps b n slot =
      is_other b.setting n (get_or b.ledger.held slot 0)
      && some_below (days b.setting.time) (λ (d : ℕ). between n.first n.last (day_number b.setting.time d) && states_open_on b n slot d)

  unfoldable pub is_additional : Book K → Notification K → Bool
  is_additional b n = not (is_replacement b n) && some_below (length b.ledger.held) (overlaps b n)

  unfoldable pub kind_of : Book K → Notification K → Kind
  kind_of b n = if is_replacement b n then replacement else if is_additional b n then additional else initial

  -- ---- its answer

  -- 3 to 6: its authorisation
  abbrev pub authorisation_rules : Setting → Notification K → List Rule
  authorisation_rules s n =
      3 when not (known s n.authorisation) else
      4 when key_or_agent_wrong s n else
      5 when not (in_force s n.authorisation (current_day s.time)) else
      6 when not (originator_right s n) else
      done

  -- 7 to 9: its days
  abbrev pub day_rules : Setting → Notification K → List Rule
  day_rules s n =
      7 when n.last <? n.first else
      8 when n.last <? current_day s.time else
      9 when next_day s.time ≤? n.first else
      done

  -- 10 and 11: its entries. "Refusals 10 and 11 are to carry the first offending entry's place .. 10 is still decided over all entries before 11" (02, A3)
  abbrev pub entry_rules : Setting → Notification K → List Rule
  entry_rules s n =
      10 when some_entry n (period_offends s n) by first_entry n (period_offends s n) else
      11 when some_entry n (volume_offends n) by first_entry n (volume_offends n) else
      done

  -- 12 and 13: its kind, against the type of its authorisation
  abbrev pub kind_rules : Book K → Notification K → List Rule
  kind_rules b n =
      12 when is_replacement b n && (under b.setting n).type =? 2 else
      13 when is_additional b n && (under b.setting n).type =? 1 else
      done

  -- 14: a slot for its identifier
  abbrev pub slot_rules : Ledger K → Notification K → List Rule
  slot_rules l n =
      14 when not (is_held l.held n.identifier) && every_slot_held l.held else
      done

  -- "notification 1 to 14 as numbered"
  unfoldable pub notification_rules : Book K → Notification K → List Rule
  notification_rules b n =
      arriving b (
      authorisation_rules b.setting n ++ day_rules b.setting n ++ entry_rules b.setting n ++ kind_rules b n ++ slot_rules b.ledger n)

-- "The answer gives kind and slot": 1 initial, 2 replacement, 3 additional; both zero with a refusal. The place is the refusal's.
pub record Notified : Type 0 where
  pub answer : ℕ
  pub place : ℕ
  pub kind : ℕ
  pub slot : ℕ

abbrev pub kind_number : Kind → ℕ
kind_number initial = 1
kind_number replacement = 2
kind_number additional = 3

module _ {K : Sort} where
  unfoldable pub notified : Book K → Notification K → Notified
  notified b n =
      let number = answer (notification_rules b n) in
      if number =? 0
      then record { answer = 0; place = 0; kind = kind_number (kind_of b n); slot = slot_for b.ledger.held n.identifier }
      else record { answer = number; place = place (notification_rules b n); kind = 0; slot = 0 }
