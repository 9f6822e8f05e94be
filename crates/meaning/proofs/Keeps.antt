-- An opened book is sound, and every accepted call keeps it sound.
use mathlib.Core.Bool.{Bool, true, false, not, ◌&&◌, false≢true}
use mathlib.Core.List.{List, [], ◌∷◌}
use mathlib.Core.Logic.{⊎_elim}
use mathlib.Core.Path.{◌≡◌, refl, sym, ap, ◌∙◌}
use Prim.Native.Nat.{ℕ, zero, suc, ◌<◌}
use native.Mathlib.Omega.{arith}
use lib.Dec.{ltb, eqb}
use lib.ListN.{length, get_or, length-set, replicate, length-replicate, get_or-replicate, get_or-eq_default}
use borrow.Author.Tests.{lt-ltb, ltb-true, not-false}
use Rattle.words.specs.Lists.{any}
use Rattle.words.specs.Rules.{answer}
use Rattle.laws.proofs.Cases.{on, by-lt, and_left, and_right, or_left, or_right, or-true}
use Rattle.laws.proofs.Lists.{get_or-replicate-same}
use Rattle.meaning.specs.Time.{Time, periods_at, is_period_at, days, day_number, with_gate_closed}
use Rattle.meaning.specs.Authorisations.{Authorisation}
use Rattle.meaning.specs.Ledgers.{Sort, stands, slot_at, day_at, period_at, places, holds, Ledger, Side, one, two, side, empty_ledger}
use Rattle.meaning.specs.Messages.{Entry, Message, notification, nullification, about, leaves, source_of, volume, volume_on, says, reaches, rewritten, held_after, written}
use Rattle.meaning.specs.Settings.{known}
use Rattle.meaning.specs.Books.{Setup, opening_rules, Book, opened_book}
use Rattle.meaning.specs.Soundness.{place_right, sound}
use Rattle.meaning.specs.Calls.{Call, gate, message, accepted, act}
use Rattle.meaning.proofs.Places.{length-rewritten, rewritten-at}
use Rattle.meaning.proofs.Clock.{reaches-period}
use Rattle.meaning.proofs.SetupRules.{opens}
use Rattle.meaning.proofs.Sound.{Lawful, SlotHolds, Sound, parts, whole}
use Rattle.meaning.proofs.Held.{with-entry, with-apart}
use Rattle.meaning.proofs.Accepted.{Passes, CallPasses, call_passes}

module _ {K : Sort} (lawful : Lawful K) where
  -- ---- a place is right where nothing stands, and where a volume in range stands at a period of a held slot's day

  pub nothing_right : (codes held : List ℕ) (j : ℕ) → place_right K codes held j K.nothing ≡ true
  unfolding place_right
  nothing_right codes held j = rw (lawful.same_refl K.nothing)

  volume-right : (codes held : List ℕ) (j : ℕ) (v : K.Val) → K.in_range v ≡ true → 0 < get_or held (slot_at (length codes) j) 0
      → is_period_at codes (day_at (length codes) j) (period_at j) ≡ true → place_right K codes held j v ≡ true
  unfolding place_right
  volume-right codes held j v r h p = rw (r, lt-ltb 0 (get_or held (slot_at (length codes) j) 0) h, p) (or-true (not (stands K v)))

  -- a place that is right stays so where more slots are held
  still-right : (codes held held' : List ℕ) (j : ℕ) (v : K.Val)
      → (0 < get_or held (slot_at (length codes) j) 0 → 0 < get_or held' (slot_at (length codes) j) 0)
      → place_right K codes held j v ≡ true → place_right K codes held' j v ≡ true
  unfolding place_right
  still-right codes held held' j v more e =
      let slot = slot_at (length codes) j in
      let p = is_period_at codes (day_at (length codes) j) (period_at j) in
      on (not (stands K v))
      (λ q. rw q)
      (λ q.
      let all : K.in_range v && ltb 0 (get_or held slot 0) && p ≡ true = rw q at e in
      let two' = and_left (K.in_range v && ltb 0 (get_or held slot 0)) p all in
      rw (q, and_left (K.in_range v) (ltb 0 (get_or held slot 0)) two', lt-ltb 0 (get_or held' slot 0) (more (ltb-true 0 (get_or held slot 0) (and_right (K.in_range v) (ltb 0 (get_or held slot 0)) two'))))
      (and_right (K.in_range v && ltb 0 (get_or held slot 0)) p all))

  -- ---- opening

  side-opened : (s : Setup) (slots : ℕ) (σ : Side) → side (opened_book K s slots).ledger σ ≡ replicate (places slots (length s.codes)) K.nothing
  unfolding opened_book empty_ledger
  side-opened s slots one = refl
  side-opened s slots two = refl

  opened-place : (s : Setup) (slots : ℕ) (σ : Side) (j : ℕ) → j < length (side (opened_book K s slots).ledger σ)
      → get_or (side (opened_book K s slots).ledger σ) j K.nothing ≡ K.nothing
  opened-place s slots σ j h =
      ap (λ (t : List K.Val). get_or t j K.nothing) (side-opened s slots σ)
      ∙ get_or-replicate (places slots (length s.codes)) j K.nothing K.nothing (rw (side-opened s slots σ, length-replicate) at h)

  pub opened-Sound : (s : Setup) (slots lent1 lent2 : ℕ) → answer (opening_rules s slots lent1 lent2) ≡ 0 → Sound (opened_book K s slots)
  unfolding opened_book empty_ledger
  opened-Sound s slots lent1 lent2 e =
      let o = opens s slots lent1 lent2 e in
      record {
        setup = rw (length-replicate {A = ℕ} slots 0, length-replicate (places slots (length s.codes)) K.nothing, ← o.side1) (rw (← (o.side1 ∙ sym o.side2)) at e);
        clock = omega arith;
        slots = λ k i hk q. absurd (omega (arith, sym q ∙ get_or-replicate-same slots k 0));
        place = λ σ j h. rw (opened-place s slots σ j h) (nothing_right s.codes (replicate slots 0) j);
      }

  pub opened-sound : (s : Setup) (slots lent1 lent2 : ℕ) → answer (opening_rules s slots lent1 lent2) ≡ 0 → sound (opened_book K s slots) ≡ true
  opened-sound s slots lent1 lent2 e = whole (opened_book K s slots) (opened-Sound s slots lent1 lent2 e)

  -- ---- a gate

  gate-keeps : (b : Book K) → Passes b → Sound b → Sound (act b gate)
  unfolding act with_gate_closed
  gate-keeps b p s = record { setup = s.setup; clock = p.open-gate; slots = s.slots; place = side_same }
    where
      side_same : (σ : Side) (j : ℕ) → j < length (side b.ledger σ) → place_right K b.setting.time.codes b.ledger.held j (get_or (side b.ledger σ) j K.nothing) ≡ true
      side_same σ j h = s.place σ j h

  -- ---- a message

  pub length-held_after : (m : Message K) (held : List ℕ) → length (held_after m held) ≡ length held
  unfolding held_after
  length-held_after (notification n) held = length-set held _ _
  length-held_after (nullification x) held = refl

  pub side-written : (rows : List Authorisation) (t : Time) (m : Message K) (l : Ledger K) (σ : Side)
      → side (written rows t m l) σ ≡ rewritten rows t m (held_after m l.held) σ (side l σ)
  unfolding written
  side-written rows t m l one = refl
  side-written rows t m l two = refl

  -- a volume of entries that are in range is in range
  volume-in-range : (es : List (Entry K)) (period : ℕ) → any (λ (e : Entry K). not (K.in_range e.volume)) es ≡ false → K.in_range (volume es period) ≡ true
  unfolding volume any
  volume-in-range [] period h = lawful.omitted-right
  volume-in-range (e ∷ es) period h =
      on (eqb period e.period)
      (λ q. rw q (not-false (K.in_range e.volume) (or_left (not (K.in_range e.volume)) (any (λ (x : Entry K). not (K.in_range x.volume)) es) h)))
      (λ q. rw q (volume-in-range es period (or_right (not (K.in_range e.volume)) (any (λ (x : Entry K). not (K.in_range x.volume)) es) h)))

  -- what a message's statement holds: volumes in range
  abbrev Right : Book K → Message K → Type 0
  Right b m = any (λ (e : Entry K). not (K.in_range e.volume)) (leaves m).entries ≡ false

  says-right : (codes held : List ℕ) (m : Message K) (j D periods : ℕ) → any (λ (e : Entry K). not (K.in_range e.volume)) (leaves m).entries ≡ false
      → 0 < get_or held (slot_at (length codes) j) 0 → is_period_at codes (day_at (length codes) j) (period_at j) ≡ true
      → place_right K codes held j (says (leaves m) D periods (period_at j)) ≡ true
  unfolding says volume_on
  says-right codes held m j D periods r h p =
      on (ltb D (leaves m).until)
      (λ q. rw q (volume-right codes held j _ (volume-in-range (leaves m).entries (source_of (leaves m).single periods (period_at j)) r) h p))
      (λ q. rw q (nothing_right codes held j))

  holds-held : (f : ℕ → Bool) (e : ℕ) → holds f e ≡ true → 0 < e
  holds-held f zero h = absurd (false≢true h)
  holds-held f (suc i) h = omega arith

  module _ (b : Book K) (s : Sound b) (m : Message K) (right : any (λ (e : Entry K). not (K.in_range e.volume)) (leaves m).entries ≡ false)
      (held_more : (k : ℕ) → 0 < get_or b.ledger.held k 0 → 0 < get_or (held_after m b.ledger.held) k 0)
      (slots-right : (k i : ℕ) → k < length b.ledger.held → get_or (held_after m b.ledger.held) k 0 ≡ suc i → SlotHolds (known b.setting) (held_after m b.ledger.held) k i) where
    place-keeps : (σ : Side) (j : ℕ) → j < length (side b.ledger σ)
        → place_right K b.setting.time.codes (held_after m b.ledger.held) j (get_or (rewritten b.setting.rows b.setting.time m (held_after m b.ledger.held) σ (side b.ledger σ)) j K.nothing) ≡ true
    place-keeps σ j h =
        let held = held_after m b.ledger.held in
        let t = b.setting.time in
        let d = day_at (days t) j in
        let mine = holds (λ (i : ℕ). about b.setting.rows m i σ) (get_or held (slot_at (days t) j) 0) in
        rw (rewritten-at b.setting.rows t m held σ (side b.ledger σ) j h)
        (on (mine && reaches t m d (period_at j))
        (λ e. rw e
        (says-right t.codes held m j (day_number t d) (periods_at t.codes d) right
        (holds-held (λ (i : ℕ). about b.setting.rows m i σ) (get_or held (slot_at (days t) j) 0) (and_left mine (reaches t m d (period_at j)) e))
        (reaches-period t m d (period_at j) (and_right mine (reaches t m d (period_at j)) e))))
        (λ e. rw e (still-right t.codes b.ledger.held held j _ (held_more (slot_at (days t) j)) (s.place σ j h))))

    message-keeps-parts : Sound (act b (message m))
    unfolding act written
    message-keeps-parts =
        record {
          setup = rw (length-held_after m b.ledger.held, length-rewritten b.setting.rows b.setting.time m (held_after m b.ledger.held) one b.ledger.side1, length-rewritten b.setting.rows b.setting.time m (held_after m b.ledger.held) two b.ledger.side2) s.setup;
          clock = s.clock;
          slots = λ k i hk e. slots-right k i (rw length-held_after at hk) e;
          place = side-keeps;
        }
      where
        side-keeps : (σ : Side) (j : ℕ) → j < length (side (written b.setting.rows b.setting.time m b.ledger) σ)
            → place_right K b.setting.time.codes (held_after m b.ledger.held) j (get_or (side (written b.setting.rows b.setting.time m b.ledger) σ) j K.nothing) ≡ true
        side-keeps σ j h =
            rw side-written
            (place-keeps σ j (rw (side-written b.setting.rows b.setting.time m b.ledger σ, length-rewritten) at h))

  message-keeps : (b : Book K) (m : Message K) → CallPasses b (message m) → Sound b → Sound (act b (message m))
  unfolding leaves held_after any
  message-keeps b (notification n) p s =
      let held = b.ledger.held in
      let i = n.identifier in
      message-keeps-parts b s (notification n) p.volumes
      (λ k h. by-lt k (length held)
      (λ l. ⊎_elim (λ e. omega (arith, e)) (λ e. rw e h) (with-entry i held k l))
      (λ l. absurd (omega (arith, get_or-eq_default held 0 l))))
      (λ k x hk e.
      record {
        originator = ⊎_elim (λ q. let w : i ≡ x = omega (arith, sym q ∙ e) in rw w at p.originator) (λ q. (s.slots k x hk (sym q ∙ e)).originator) (with-entry i held k hk);
        own = with-apart i held p.room (λ k' x' hk' e'. (s.slots k' x' hk' e').own) k x (rw length-set hk) e;
      })
  message-keeps b (nullification x) p s = message-keeps-parts b s (nullification x) refl (λ k h. h) (λ k i hk e. s.slots k i hk e)

  pub keeps : (b : Book K) (c : Call K) → accepted b c ≡ true → Sound b → Sound (act b c)
  keeps b gate a s = gate-keeps b (call_passes b gate a) s
  keeps b (message m) a s = message-keeps b m (call_passes b (message m) a) s

  -- THE LAW, of the test
  pub keeps-sound : (b : Book K) (c : Call K) → accepted b c ≡ true → sound b ≡ true → sound (act b c) ≡ true
  keeps-sound b c a s = whole (act b c) (keeps b c a (parts b s))
