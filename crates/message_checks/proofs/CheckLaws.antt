-- What the struct types say of a book and a notification, and what the loops over entries compute.
use mathlib.Core.Bool.{Bool, true, false, not, ◌&&◌, ◌||◌}
use mathlib.Core.List.{List}
use mathlib.Core.Logic.{◌≢◌}
use mathlib.Core.Path.{◌≡◌, refl, sym, ap, ap₂, ◌∙◌}
use Prim.Native.Nat.{ℕ, zero, suc, ◌≤◌, ◌<◌, min}
use native.Mathlib.Omega.{arith}
use lib.IntN.{pos}
use lib.ListN.{length, get_or, take, drop, get_or-eq_default}
use borrow.Author.Tests.{ne_eqb, lt-leb}
use denote.Laws.{Is}
use denote.Struct.Declared.{row}
use denote.Struct.Laws.{owed, vals}
use Rattle.words.specs.Tests.{◌<?◌, ◌=?◌, between, within}
use Rattle.words.specs.Below.{some_below}
use Rattle.laws.proofs.Below.{some-miss, some_first, first-is}
use Rattle.laws.proofs.Builds.{length-build, get_or-build, get_or-build-past}
use Rattle.laws.proofs.Cases.{by-lt}
use Rattle.meaning.specs.Time.{periods_at, every_gate_closed, current_day}
use Rattle.meaning.specs.Authorisations.{Authorisation, row_at, same_accounts}
use Rattle.meaning.specs.Settings.{Setting, in_force}
use Rattle.meaning.specs.Ledgers.{Sort, contracts}
use Rattle.meaning.specs.Messages as Messages
use Rattle.meaning.specs.Messages.{writes}
use Rattle.meaning.specs.Books as Books
use Rattle.meaning.specs.Notifications.{key_or_agent_wrong, originator_right, highest_period, entry_at, period_before, period_offends, volume_offends, some_entry, first_entry, notification_rules}
use Rattle.clock.specs.declared.Clock.{Clock}
use Rattle.clock.specs.Structs.{time_of}
use Rattle.meaning.proofs.Entries.{not-between, least-is-first, past-the-50th}
use Rattle.meaning.proofs.MessageValues.{originator-again}
use Rattle.setups.proofs.SetupHeld.{rows-own}
use Rattle.setups.specs.Structs.{codes_of}
use Rattle.messages.specs.declared.Notification.{Notification}
use Rattle.messages.specs.Structs.{no_entry, entry_of, entries_of, notification_of}
use Rattle.messages.specs.contracts.Notification as Note
use Rattle.messages.proofs.Notification.TheLaws as NoteLaws
use Rattle.book.specs.declared.Book.{Book}
use Rattle.book.specs.Structs.{time_in, clock_in, rows_in, setting_in}
use Rattle.book.proofs.StateLaws.{clock-time}
use Rattle.message_checks.specs.Checks.{check_rules}

-- ---- what the types say

module _ (n : Notification) (g : Is (row Note.the_type) n (vals Note.the_type NoteLaws.the_laws n)) where
  pub reference-fits : n.reference < 65536
  reference-fits = (owed Note.the_type NoteLaws.the_laws n (vals Note.the_type NoteLaws.the_laws n) g).1.1.1.1.0.1

  pub entries-length : length n.entries ≡ 50
  entries-length = (owed Note.the_type NoteLaws.the_laws n (vals Note.the_type NoteLaws.the_laws n) g).1.1.1.1.1.1.1.1.0.1.0.1

-- ---- the clock, which the code asks by value

module _ (b : Book) {c : Clock} (e : c ≡ clock_in b) where
  pub gates-test : {r : Bool} → r ≡ every_gate_closed (time_of c) → r ≡ every_gate_closed (time_in b)
  gates-test q = q ∙ ap every_gate_closed (clock-time b e)

  pub today-is : {D : ℕ} → D ≡ current_day (time_of c) → D ≡ current_day (time_in b)
  today-is q = q ∙ ap current_day (clock-time b e)

-- ---- the authorisation that it is sent under, by its row

module _ (b : Book) (n : Notification) {a : Authorisation} (e : a ≡ row_at (rows_in b.setup) n.authorisation) where
  pub key-test : {r : Bool} → r ≡ not (n.key =? a.key) || not (n.agent =? a.agent1 || n.agent =? a.agent2)
      → r ≡ key_or_agent_wrong (setting_in b) (notification_of n)
  unfolding key_or_agent_wrong writes notification_of
  key-test q = rw (← e) q

  pub force-test : {r : Bool} {D : ℕ} → D ≡ current_day (time_in b) → r ≡ between a.first a.last D
      → not r ≡ not (in_force (setting_in b) (notification_of n).authorisation (current_day (time_in b)))
  unfolding notification_of
  force-test today q = ap not (q ∙ ap₂ (λ (x : Authorisation) (D : ℕ). between x.first x.last D) e today)

  -- the originator is another one
  pub originator-test : {o : Authorisation} {D : ℕ} → o ≡ row_at (rows_in b.setup) n.originator → D ≡ current_day (time_in b)
      → n.reference < 65536 → n.originator ≢ n.authorisation
      → n.originator <? b.setup.authorisations && o.last <? D && same_accounts o a ≡ originator_right (setting_in b) (notification_of n)
  unfolding originator_right notification_of
  originator-test {o} {D} p today fits other =
      let known : Bool = n.originator <? b.setup.authorisations in
      rw (originator-again n.originator n.reference fits, ne_eqb n.originator n.authorisation other, rows-own)
      (ap (λ (x : Authorisation). known && x.last <? D && same_accounts x a) p
      ∙ ap₂ (λ (y : Authorisation) (k : ℕ). known && (row_at (rows_in b.setup) n.originator).last <? k && same_accounts (row_at (rows_in b.setup) n.originator) y) e today)

-- ---- days

-- a day that is past a bound on the days has the periods of the one at the bound
pub periods-capped : (m : ℕ) (codes : List ℕ) (d high : ℕ) → m ≤ high → periods_at (codes_of m codes) (min d high) ≡ periods_at (codes_of m codes) d
unfolding periods_at codes_of
periods-capped m codes d high h =
    by-lt d high
    (λ l. let e : min d high ≡ d = omega arith in rw e)
    (λ l.
    rw (
      get_or-build-past m (λ (k : ℕ). get_or codes k 0) 0 d (omega arith),
      get_or-build-past m (λ (k : ℕ). get_or codes k 0) 0 (min d high) (omega arith),
    ))

-- ---- entries

-- the entry at a place is the array's
entry-is : (n : Notification) (k : ℕ) → k < n.count → entry_at (notification_of n) k ≡ entry_of (get_or n.entries k no_entry)
unfolding entry_at notification_of entries_of
entry-is n k h = get_or-build n.count (λ (j : ℕ). entry_of (get_or n.entries j no_entry)) (record { period = 0; volume = pos 0 }) k h

-- as many as it counts
pub many-entries : (n : Notification) → length (notification_of n).entries ≡ n.count
unfolding notification_of entries_of
many-entries n = length-build n.count (λ (k : ℕ). entry_of (get_or n.entries k no_entry))

-- some entry offends exactly where the first place that does is below the count
pub some-below-count : (n : Notification) (offends : ℕ → Bool) {k : ℕ} → k ≡ first_entry (notification_of n) offends
    → some_entry (notification_of n) offends ≡ k <? n.count
unfolding some_entry first_entry
some-below-count n offends e =
    some_first (length (notification_of n).entries) offends ∙ ap₂ ◌<?◌ (sym e) (many-entries n)

-- ---- periods

-- the period before the one at place k; 0 stands before the first
abbrev pub prior : (ℕ → ℕ) → ℕ → ℕ
prior p zero = 0
prior p (suc k) = p k

-- the period at place k does not rise, or is too high
abbrev pub wrong_period : ℕ → (ℕ → ℕ) → ℕ → Bool
wrong_period highest p k = not (between (suc (prior p k)) highest (p k))

abbrev pub period_of : Notification → ℕ → ℕ
period_of n k = (get_or n.entries k no_entry).period

prior-is : (n : Notification) (k : ℕ) → k < n.count → period_before (notification_of n) k ≡ prior (period_of n) k
unfolding period_before
prior-is n zero h = refl
prior-is n (suc k) h = ap (λ (e : Messages.Entry contracts). e.period) (entry-is n k (omega arith))

-- what offends of the entries that there is room for
offends-wrong : (s : Setting) (n : Notification) (k : ℕ) → k < n.count → k < 50
    → period_offends s (notification_of n) k ≡ wrong_period (highest_period s (notification_of n)) (period_of n) k
unfolding period_offends
offends-wrong s n k h few =
    let highest : ℕ = highest_period s (notification_of n) in
    rw (lt-leb 50 k few, entry-is n k h, prior-is n k h) (sym (not-between (prior (period_of n) k) highest (period_of n k)))

-- what the search shows: no period before this place is wrong, and this one is, or the entries that there is room for end here
module _ (s : Setting) (n : Notification) {highest : ℕ} (e : highest ≡ highest_period s (notification_of n)) (k : ℕ) (inside : k ≤ min n.count 50)
    (right : some_below k (wrong_period highest (period_of n)) ≡ false) where
  none_before : (j : ℕ) → j < k → period_offends s (notification_of n) j ≡ false
  none_before j h =
      offends-wrong s n j (omega (arith, inside)) (omega (arith, inside))
      ∙ ap (λ (x : ℕ). wrong_period x (period_of n) j) (sym e)
      ∙ some-miss k (wrong_period highest (period_of n)) right j h

  pub period-found : k < min n.count 50 → wrong_period highest (period_of n) k ≡ true → k ≡ first_entry (notification_of n) (period_offends s (notification_of n))
  period-found h wrong =
      sym (least-is-first (notification_of n) (period_offends s (notification_of n)) k
      (record {
        there = rw (many-entries n) (omega (arith, h));
        at-fault = offends-wrong s n k (omega (arith, h)) (omega (arith, h)) ∙ ap (λ (x : ℕ). wrong_period x (period_of n) k) (sym e) ∙ wrong;
        none_before = none_before;
      }))

  pub periods-ended : min n.count 50 ≤ k → k ≡ first_entry (notification_of n) (period_offends s (notification_of n))
  unfolding first_entry
  periods-ended h =
      sym (rw (many-entries n)
      (first-is n.count (period_offends s (notification_of n)) k (omega (arith, inside)) none_before
      (λ l. past-the-50th s (notification_of n) k (omega (arith, h, inside, l)))))

-- ---- volumes

abbrev pub wrong_volume : Notification → ℕ → Bool
wrong_volume n k = not (within 99999999 (get_or n.entries k no_entry).volume)

offends-out : (n : Notification) (k : ℕ) → k < n.count → volume_offends (notification_of n) k ≡ wrong_volume n k
unfolding volume_offends
offends-out n k h = ap (λ (e : Messages.Entry contracts). not (contracts.in_range e.volume)) (entry-is n k h)

module _ (n : Notification) (k : ℕ) (inside : k ≤ min n.count 50) (right : some_below k (wrong_volume n) ≡ false) where
  volumes-before : (j : ℕ) → j < k → volume_offends (notification_of n) j ≡ false
  volumes-before j h = offends-out n j (omega (arith, inside)) ∙ some-miss k (wrong_volume n) right j h

  pub volume-found : k < min n.count 50 → wrong_volume n k ≡ true → k ≡ first_entry (notification_of n) (volume_offends (notification_of n))
  volume-found h wrong =
      sym (least-is-first (notification_of n) (volume_offends (notification_of n)) k
      (record {
        there = rw (many-entries n) (omega (arith, h));
        at-fault = offends-out n k (omega (arith, h)) ∙ wrong;
        none_before = volumes-before;
      }))

  -- no volume past the array is out of range
  pub volumes-ended : length n.entries ≡ 50 → min n.count 50 ≤ k → n.count ≡ first_entry (notification_of n) (volume_offends (notification_of n))
  unfolding first_entry
  volumes-ended size h =
      sym (rw (many-entries n)
      (first-is n.count (volume_offends (notification_of n)) n.count (omega arith)
      (λ j l. by-lt j k
      (λ m. volumes-before j m)
      (λ m. offends-out n j l ∙ rw (get_or-eq_default n.entries no_entry {n = j} (rw size (omega (arith, h, m))))))
      (λ l. absurd (omega (arith, l)))))

-- ---- the rules

-- they are rules 2 to 11 of a notification's, in their order
pub checks-are-rules : {K : Sort} (b : Books.Book K) (n : Messages.Notification K) → take 10 (drop 1 (notification_rules b n)) ≡ check_rules b.setting n
unfolding notification_rules check_rules
checks-are-rules b n = refl
