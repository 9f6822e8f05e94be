-- What an accepted message makes of a side's table, slot by slot: a notification rewrites the slot of its identifier, and a nullification each
-- slot whose identifier is between its two accounts.
use mathlib.Core.Bool.{Bool, true, false, cond, ◌&&◌}
use mathlib.Core.List.{List}
use mathlib.Core.Path.{◌≡◌, refl, sym, ap, ◌∙◌}
use Prim.Native.Nat.{ℕ, zero, suc, ◌+◌, ◌≤◌, ◌<◌}
use native.Mathlib.Omega.{arith}
use lib.Dec.{leb, ltb, eqb}
use lib.IntN.{ℤ}
use lib.ListN.{length, get_or, get_or-eq_default}
use lib.Seq.{get_or-set_same, get_or-set_other}
use borrow.Author.Tests.{ltb-false, le-ltb, le-leb, lt-leb, eq-eqb, ne_eqb}
use Rattle.words.specs.Tests.{◌=?◌}
use Rattle.words.specs.Lists.{map_at, find}
use Rattle.words.specs.Rules.{answer}
use Rattle.laws.proofs.Cases.{on, by-lt, by-eq, and-false, and-true}
use Rattle.laws.proofs.Lists.{map_at-is, map_at-same}
use Rattle.meaning.specs.Time.{Time, periods_at, days, day_number, is_period_at, is_open_at}
use Rattle.meaning.specs.Authorisations.{Authorisation}
use Rattle.meaning.specs.Ledgers.{contracts, the_mark, slot_at, day_at, period_at, slot_for, holds, Side}
use Rattle.meaning.specs.Messages.{Entry, Notification, Nullification, Message, notification, nullification, writes, about, from, leaves, volume_on, says, reaches, rewritten, held_after}
use Rattle.meaning.specs.Books.{Book}
use Rattle.meaning.specs.Notifications.{notification_rules}
use Rattle.meaning.proofs.Sound.{parts}
use Rattle.meaning.proofs.Accepted.{NotificationPasses, notification-passes}
use Rattle.meaning.proofs.Clock.{is-period, reaches-is}
use Rattle.meaning.proofs.Held.{Room, Apart, with, held-is, unheld-is}
use Rattle.book.specs.declared.Book as Struct
use Rattle.book.specs.Structs.{time_in, rows_in}
use Rattle.message_effects.specs.Effects.{only, slot_rule, pair_in, nullified, pair_blanked}
use Rattle.message_effects.specs.Placing.{laid_volume, laid_out}
use Rattle.message_effects.proofs.Rows.{own_volumes, laid-given}
use Rattle.message_effects.proofs.DayRuns.{only-is, only-id, only_none, only-more, only-all, below-not-equal, below_next}

-- what a message makes of each place
unfoldable pub place_rule : List Authorisation → Time → Message contracts → List ℕ → Side → ℕ → ℤ → ℤ
place_rule rows t m held σ j old =
    cond (holds (λ (i : ℕ). about rows m i σ) (get_or held (slot_at (days t) j) 0) && reaches t m (day_at (days t) j) (period_at j))
    (says (leaves m) (day_number t (day_at (days t) j)) (periods_at t.codes (day_at (days t) j)) (period_at j)) old

pub rewritten-rule : (rows : List Authorisation) (t : Time) (m : Message contracts) (held : List ℕ) (σ : Side) (table : List ℤ)
    → rewritten rows t m held σ table ≡ map_at (place_rule rows t m held σ) table
unfolding rewritten place_rule
rewritten-rule rows t m held σ table = refl

-- the volumes and the day from which on the mark stands are what the message leaves to be said
abbrev pub Gives : Message contracts → ℕ → (ℕ → ℕ → ℤ) → Type 0
Gives m until volumes = (D periods period : ℕ) → cond (ltb D until) (volumes periods period) the_mark ≡ says (leaves m) D periods period

not-reached : (t : Time) (m : Message contracts) (d period : ℕ) → is_period_at t.codes d period ≡ false → reaches t m d period ≡ false
unfolding reaches
not-reached t m d period p = rw p

module _ (t : Time) (m : Message contracts) (until : ℕ) (volumes : ℕ → ℕ → ℤ) (gives : Gives m until volumes) where
  -- a place by its day and period, in a slot that the message is about or not
  place_same : (own : Bool) (d period : ℕ) (old : ℤ)
      → cond (own && reaches t m d period) (says (leaves m) (day_number t d) (periods_at t.codes d) period) old
      ≡ cond (own && (is_period_at t.codes d period && is_open_at t.codes t.closed d period && leb (from m) (day_number t d)))
      (cond (ltb (day_number t d) until) (volumes (periods_at t.codes d) period) the_mark) old
  place_same own d period old =
      on (is_period_at t.codes d period)
      (λ p. rw (reaches-is t m d period p, p, gives (day_number t d) (periods_at t.codes d) period))
      (λ p. rw (not-reached t m d period p, p, and-false own))

  -- where the message is about a slot's identifier exactly in this slot, its rewriting is the slot's
  pub place-slot : (rows : List Authorisation) (held : List ℕ) (σ : Side) (slot j : ℕ) (old : ℤ)
      → holds (λ (i : ℕ). about rows m i σ) (get_or held (slot_at (days t) j) 0) ≡ eqb (slot_at (days t) j) slot
      → place_rule rows t m held σ j old ≡ slot_rule t slot (from m) until volumes j old
  unfolding place_rule slot_rule
  place-slot rows held σ slot j old e = rw e (place_same (eqb (slot_at (days t) j) slot) (day_at (days t) j) (period_at j) old)

other-slot : (t : Time) (slot first until : ℕ) (volumes : ℕ → ℕ → ℤ) (j : ℕ) (old : ℤ) → eqb (slot_at (days t) j) slot ≡ false
    → slot_rule t slot first until volumes j old ≡ old
unfolding slot_rule
other-slot t slot first until volumes j old e = rw e

place-not : (t : Time) (m : Message contracts) (rows : List Authorisation) (held : List ℕ) (σ : Side) (j : ℕ) (old : ℤ)
    → holds (λ (i : ℕ). about rows m i σ) (get_or held (slot_at (days t) j) 0) ≡ false
    → place_rule rows t m held σ j old ≡ old
unfolding place_rule
place-not t m rows held σ j old e = rw e

-- ---- the slot of a notification's identifier

module _ (held : List ℕ) (i : ℕ) (apart : Apart held) (room : Room held i) where
  slot-inside : slot_for held i < length held
  unfolding slot_for
  slot-inside =
      by-lt (find (suc i) held) (length held)
      (λ h. rw (held-is held i h) h)
      (λ h. let f = room h in rw (unheld-is held i h) f)

  slot-own : find (suc i) held < length held → slot_for held i ≡ find (suc i) held
  unfolding slot_for
  slot-own h = rw (held-is held i h)

  -- afterwards the identifier stands in its slot and in no other
  own-slot : (k : ℕ) → eqb (get_or (with held i) k 0) (suc i) ≡ eqb k (slot_for held i)
  own-slot k =
      by-eq k (slot_for held i)
      (λ q. eq-eqb (get_or (with held i) k 0) (suc i) (rw q (get_or-set_same held (slot_for held i) (suc i) 0 slot-inside)) ∙ sym (eq-eqb k (slot_for held i) q))
      (λ q.
      ne_eqb (get_or (with held i) k 0) (suc i)
      (λ e.
      let was : get_or held k 0 ≡ suc i = sym (get_or-set_other held (slot_for held i) k (suc i) 0 q) ∙ e in
      by-lt k (length held)
      (λ h. let f = apart k i h was in q (sym f ∙ sym (slot-own (omega arith))))
      (λ h. let z : 0 ≡ suc i = sym (get_or-eq_default held 0 {n = k} h) ∙ was in omega arith))
      ∙ sym (ne_eqb k (slot_for held i) q))

same-suc : (a b : ℕ) → eqb a b ≡ eqb (suc a) (suc b)
same-suc a b =
    by-eq a b
    (λ q. eq-eqb a b q ∙ sym (eq-eqb (suc a) (suc b) (omega arith)))
    (λ q. ne_eqb a b q ∙ sym (ne_eqb (suc a) (suc b) (λ e. q (omega arith))))

-- whom a notification is about, by a slot's entry
about-entry : (rows : List Authorisation) (n : Notification contracts) (σ : Side) (entry : ℕ)
    → holds (λ (i : ℕ). about rows (notification n) i σ) entry ≡ eqb entry (suc n.identifier) && writes rows n σ
unfolding about
about-entry rows n σ zero = rw (ne_eqb 0 (suc n.identifier) (λ e. omega arith))
about-entry rows n σ (suc i) = ap (λ (b : Bool). b && writes rows n σ) (same-suc i n.identifier)

-- what it gives for a period of a day that has so many
abbrev pub volumes_given : Notification contracts → ℕ → ℕ → ℤ
volumes_given n = volume_on (n.first =? n.last) n.entries

notification-gives : (n : Notification contracts) → Gives (notification n) (suc n.last) (volumes_given n)
unfolding says leaves
notification-gives n D periods period = refl

-- laid out or not, the same stands at every place
module _ (t : Time) (slot first until : ℕ) (single : Bool) (entries : List (Entry contracts)) where
  laid-place : (j : ℕ) (old : ℤ)
      → slot_rule t slot first until (laid_volume (laid_out t single (own_volumes entries))) j old ≡ slot_rule t slot first until (volume_on single entries) j old
  unfolding slot_rule
  laid-place j old =
      let d = day_at (days t) j in
      on (is_period_at t.codes d (period_at j))
      (λ p.
      let w = is-period t.codes d (period_at j) p in
      rw (laid-given t single entries d (period_at j) w.day w.low w.high))
      (λ p. rw (p, and-false (eqb (slot_at (days t) j) slot)))

  pub laid-side : (side : List ℤ)
      → map_at (slot_rule t slot first until (laid_volume (laid_out t single (own_volumes entries)))) side ≡ map_at (slot_rule t slot first until (volume_on single entries)) side
  laid-side side = map_at-same _ _ side the_mark (λ j h. laid-place j (get_or side j the_mark))

module _ (rows : List Authorisation) (t : Time) (n : Notification contracts) (held : List ℕ) (σ : Side) (table : List ℤ) where
  -- a side that it writes: the slot of its identifier is rewritten
  pub written-side : Apart held → Room held n.identifier → writes rows n σ ≡ true
      → rewritten rows t (notification n) (held_after (notification n) held) σ table
      ≡ map_at (slot_rule t (slot_for held n.identifier) n.first (suc n.last) (volumes_given n)) table
  unfolding held_after from
  written-side apart room w =
      let i = n.identifier in
      rewritten-rule rows t (notification n) (with held i) σ table
      ∙ map_at-same (place_rule rows t (notification n) (with held i) σ) (slot_rule t (slot_for held i) n.first (suc n.last) (volumes_given n)) table the_mark
      (λ j h.
      place-slot t (notification n) (suc n.last) (volumes_given n) (notification-gives n) rows (with held i) σ (slot_for held i) j (get_or table j the_mark)
      (about-entry rows n σ (get_or (with held i) (slot_at (days t) j) 0) ∙ rw (w, own-slot held i apart room (slot_at (days t) j)) (and-true (eqb (slot_at (days t) j) (slot_for held i)))))

  -- a side that it does not write stays
  pub unwritten-side : (after : List ℕ) → writes rows n σ ≡ false → rewritten rows t (notification n) after σ table ≡ table
  unwritten-side after w =
      rewritten-rule rows t (notification n) after σ table
      ∙ sym (map_at-is (place_rule rows t (notification n) after σ) table table the_mark refl
      (λ j h.
      sym (place-not t (notification n) rows after σ j (get_or table j the_mark)
      (about-entry rows n σ (get_or after (slot_at (days t) j) 0) ∙ rw (w, and-false (eqb (get_or after (slot_at (days t) j) 0) (suc n.identifier)))))))

-- an accepted notification finds its identifiers apart and a slot for its own, so that this is its whole effect on a side
module _ (b : Book contracts) (n : Notification contracts) (accepted : answer (notification_rules b n) ≡ 0) where
  passes : NotificationPasses b n
  passes = notification-passes b n accepted

  held-apart : Apart b.ledger.held
  held-apart = λ k i hk e. ((parts b passes.call.book).slots k i hk e).own

  -- its slot is one of the book's
  pub accepted-slot : slot_for b.ledger.held n.identifier < length b.ledger.held
  accepted-slot = slot-inside b.ledger.held n.identifier held-apart passes.room

  pub accepted-side : (σ : Side) (table : List ℤ) → writes b.setting.rows n σ ≡ true
      → rewritten b.setting.rows b.setting.time (notification n) (held_after (notification n) b.ledger.held) σ table
      ≡ map_at (slot_rule b.setting.time (slot_for b.ledger.held n.identifier) n.first (suc n.last) (volumes_given n)) table
  accepted-side σ table w = written-side b.setting.rows b.setting.time n b.ledger.held σ table held-apart passes.room w

-- ---- the slots of a nullification's pair

nullification-gives : (x : Nullification) (volumes : ℕ → ℕ → ℤ) → Gives (nullification x) 0 volumes
unfolding says leaves
nullification-gives x volumes D periods period = rw (le-ltb D 0 (omega arith))

module _ (rows : List Authorisation) (t : Time) (x : Nullification) (held : List ℕ) (σ : Side) where
  about-pair : (entry : ℕ) → holds (λ (i : ℕ). about {K = contracts} rows (nullification x) i σ) entry ≡ pair_in rows x.account x.other entry
  unfolding about pair_in
  about-pair entry = refl

  module _ (side : List ℤ) where
    pub pairs-none : side ≡ map_at (only (λ (j : ℕ). ltb (slot_at (days t) j) 0) (place_rule rows t (nullification x) held σ)) side
    pairs-none =
        only_none (place_rule rows t (nullification x) held σ) side (λ (j : ℕ). ltb (slot_at (days t) j) 0) (λ j. le-ltb (slot_at (days t) j) 0 (omega arith))

    -- one slot more: it is the pair's and blanked, or is not and stays
    slots-more : (s : ℕ) (l1 l2 : List ℤ)
        → l1 ≡ map_at (only (λ (j : ℕ). ltb (slot_at (days t) j) s) (place_rule rows t (nullification x) held σ)) side
        → l2 ≡ map_at (only (λ (j : ℕ). eqb (slot_at (days t) j) s) (place_rule rows t (nullification x) held σ)) l1
        → l2 ≡ map_at (only (λ (j : ℕ). ltb (slot_at (days t) j) (s + 1)) (place_rule rows t (nullification x) held σ)) side
    slots-more s l1 l2 e1 e2 =
        only-more (place_rule rows t (nullification x) held σ) side (λ (j : ℕ). ltb (slot_at (days t) j) s) (λ (j : ℕ). eqb (slot_at (days t) j) s) (λ (j : ℕ). ltb (slot_at (days t) j) (s + 1)) l1 l2 e1 e2
        (λ j h. below-not-equal (slot_at (days t) j) s h)
        (λ j. below_next (slot_at (days t) j) s)

    pub pair-blanked : (s : ℕ) (volumes : ℕ → ℕ → ℤ) (l1 l2 : List ℤ) (r : Bool)
        → l1 ≡ map_at (only (λ (j : ℕ). ltb (slot_at (days t) j) s) (place_rule rows t (nullification x) held σ)) side
        → r ≡ pair_in rows x.account x.other (get_or held s 0) → r ≡ true → l2 ≡ map_at (slot_rule t s x.first 0 volumes) l1
        → l2 ≡ map_at (only (λ (j : ℕ). ltb (slot_at (days t) j) (s + 1)) (place_rule rows t (nullification x) held σ)) side
    unfolding from
    pair-blanked s volumes l1 l2 r e1 answered said e2 =
        let rule = place_rule rows t (nullification x) held σ in
        let here : ℕ → Bool = λ j. eqb (slot_at (days t) j) s in
        slots-more s l1 l2 e1
        (e2
        ∙ map_at-same (slot_rule t s x.first 0 volumes) (only here rule) l1 the_mark
        (λ j h.
        let old = get_or l1 j the_mark in
        let k = slot_at (days t) j in
        by-eq k s
        (λ q.
        sym (only-is here rule j old (eq-eqb k s q)
        ∙ place-slot t (nullification x) 0 volumes (nullification-gives x volumes) rows held σ s j old
        (about-pair (get_or held k 0) ∙ ap (λ (z : ℕ). pair_in rows x.account x.other (get_or held z 0)) q ∙ sym answered ∙ said ∙ sym (eq-eqb k s q))))
        (λ q. other-slot t s x.first 0 volumes j old (ne_eqb k s q) ∙ sym (only-id here rule j old (ne_eqb k s q)))))

    pub pair-other : (s : ℕ) (l1 l2 : List ℤ) (r : Bool)
        → l1 ≡ map_at (only (λ (j : ℕ). ltb (slot_at (days t) j) s) (place_rule rows t (nullification x) held σ)) side
        → r ≡ pair_in rows x.account x.other (get_or held s 0) → r ≡ false → l2 ≡ l1
        → l2 ≡ map_at (only (λ (j : ℕ). ltb (slot_at (days t) j) (s + 1)) (place_rule rows t (nullification x) held σ)) side
    pair-other s l1 l2 r e1 answered said e2 =
        let rule = place_rule rows t (nullification x) held σ in
        let here : ℕ → Bool = λ j. eqb (slot_at (days t) j) s in
        slots-more s l1 l2 e1
        (e2 ∙ map_at-is (only here rule) l1 l1 the_mark refl
        (λ j h.
        let old = get_or l1 j the_mark in
        let k = slot_at (days t) j in
        by-eq k s
        (λ q.
        sym (only-is here rule j old (eq-eqb k s q)
        ∙ place-not t (nullification x) rows held σ j old (about-pair (get_or held k 0) ∙ ap (λ (z : ℕ). pair_in rows x.account x.other (get_or held z 0)) q ∙ sym answered ∙ said)))
        (λ q. sym (only-id here rule j old (ne_eqb k s q)))))

    -- when every slot is done
    pub pairs-all : (s : ℕ) (l1 : List ℤ) → l1 ≡ map_at (only (λ (j : ℕ). ltb (slot_at (days t) j) s) (place_rule rows t (nullification x) held σ)) side → s ≡ length held
        → l1 ≡ rewritten {K = contracts} rows t (nullification x) held σ side
    pairs-all s l1 e1 e =
        e1
        ∙ only-all (place_rule rows t (nullification x) held σ) side (λ (j : ℕ). ltb (slot_at (days t) j) s)
        (λ j old past.
        let k = slot_at (days t) j in
        let none : get_or held k 0 ≡ 0 = get_or-eq_default held 0 {n = k} (omega (arith, ltb-false k s past)) in
        place-not t (nullification x) rows held σ j old (ap (holds (λ (i : ℕ). about {K = contracts} rows (nullification x) i σ)) none))
        ∙ sym (rewritten-rule rows t (nullification x) held σ side)

-- ---- a nullification of few slots, and of more than a book has

module _ (b : Struct.Book) (account other first : ℕ) (held : List ℕ) (σ : Side) (side : List ℤ) where
  pub blanked-few : length held ≤ 256 → pair_blanked b account other first held σ side ≡ rewritten (rows_in b.setup) (time_in b) (nullified account other first) held σ side
  unfolding pair_blanked
  blanked-few h = rw (le-leb (length held) 256 h)

  pub blanked-many : 256 < length held → pair_blanked b account other first held σ side ≡ side
  unfolding pair_blanked
  blanked-many h = rw (lt-leb (length held) 256 h)
