-- Document 02, A2, of checked setups: each refusal exactly, in its order; what passes is the calendar, day by day; and a proposal passes.
use mathlib.Core.Bool.{true, not}
use mathlib.Core.List.{List, [], ◌∷◌, map}
use mathlib.Core.Logic.{◌↔◌}
use mathlib.Core.Path.{◌≡◌, refl, ap, ◌∙◌}
use Prim.Native.Nat.{ℕ, ◌+◌, ◌<◌}
use native.Mathlib.Omega.{arith}
use lib.ListN.{length, get_or}
use borrow.Author.Tests.{eqb-true, eq-eqb, ne_eqb, lt-ltb, not-false}
use Rattle.std.specs.Prelude.{if◌then◌else◌}
use Rattle.words.specs.Tests.{◌=?◌, ◌<?◌}
use Rattle.words.specs.Lists.{build}
use Rattle.words.specs.Rules.{Rule, answer}
use Rattle.laws.proofs.Cases.{by-eq}
use Rattle.laws.proofs.Below.{some-miss, some-all}
use Rattle.laws.proofs.Builds.{is-build, get_or-build}
use Rattle.laws.proofs.Rules.{Exactly, exactly, answer-none}
use Rattle.meaning.specs.Time.{periods_at}
use Rattle.meaning.specs.Books.{Setup, opening_rules}
use Rattle.setups.specs.Structs.{setup_of}
use Rattle.setups.specs.declared.Setup as Struct
use Rattle.calendar.specs.Calendar.{is_day, some_day_outside, length_of, code_of}
use Rattle.calendar.specs.Answers.{proposal_rules, codes_from, proposed}
use Rattle.calendar.proofs.Following.{inside, proposal-inside}
use Rattle.calendar.proofs.CodeLengths.{code-exactly}
use Rattle.checked_setups.specs.Checked.{some_code_disagrees, calendar_rules, checked_opening_rules, checked_reading_rules}
use Rattle.checked_setups.proofs.CheckedLaws.{disagrees, struct-disagrees, struct-outside}

-- ---- a refusal is given exactly under its condition, in the stated order

pub checked-opening-exactly : (s : Setup) (slots lent1 lent2 : ℕ) → Exactly (checked_opening_rules s slots lent1 lent2)
unfolding checked_opening_rules opening_rules calendar_rules
checked-opening-exactly s slots lent1 lent2 = exactly (checked_opening_rules s slots lent1 lent2) refl

pub checked-reading-exactly : (bytes : List ℕ) (slots lent1 lent2 : ℕ) → Exactly (checked_reading_rules bytes slots lent1 lent2)
unfolding checked_reading_rules calendar_rules
checked-reading-exactly bytes slots lent1 lent2 = exactly (checked_reading_rules bytes slots lent1 lent2) refl

abbrev numbers : List Rule → List ℕ
numbers rules = map (λ (r : Rule). r.number) rules

pub checked-opening-order : (s : Setup) (slots lent1 lent2 : ℕ) → numbers (checked_opening_rules s slots lent1 lent2) ≡ 17 ∷ 18 ∷ 27 ∷ 28 ∷ []
unfolding checked_opening_rules opening_rules calendar_rules
checked-opening-order s slots lent1 lent2 = refl

pub checked-reading-order : (bytes : List ℕ) (slots lent1 lent2 : ℕ)
    → numbers (checked_reading_rules bytes slots lent1 lent2) ≡ 19 ∷ 17 ∷ 19 ∷ 17 ∷ 18 ∷ 27 ∷ 28 ∷ 22 ∷ []
unfolding checked_reading_rules calendar_rules
checked-reading-order bytes slots lent1 lent2 = refl

-- ---- what passes is the calendar

-- the day at place d is in the calendar, and has as many periods as there
pub record Agrees (s : Setup) (d : ℕ) : Type 0 where
  pub day : is_day (s.first + d) ≡ true
  pub periods : periods_at s.codes d ≡ length_of (s.first + d)

module _ (s : Setup) where
  agrees-all : answer (calendar_rules s) ≡ 0 → (d : ℕ) → d < length s.codes → Agrees s d
  unfolding calendar_rules some_day_outside some_code_disagrees periods_at
  agrees-all e d h =
      let none = answer-none (calendar_rules s) refl e in
      let n = s.first + d in
      let code = get_or s.codes d 0 in
      record {
        day = not-false (is_day n) (some-miss (length s.codes) (λ (d : ℕ). not (is_day (s.first + d))) (none 0) d h);
        periods = (code-exactly n code).0 (eqb-true code (code_of n) (not-false (code =? code_of n) (some-miss (length s.codes) (disagrees s.first s.codes) (none 1) d h)));
      }

  all-agree : ((d : ℕ) → d < length s.codes → Agrees s d) → answer (calendar_rules s) ≡ 0
  unfolding answer calendar_rules some_day_outside some_code_disagrees periods_at
  all-agree w =
      let n = length s.codes in
      rw (
        some-all n (λ (d : ℕ). not (is_day (s.first + d))) (λ d h. ap not (w d h).day),
        some-all n (disagrees s.first s.codes) (λ d h. ap not (eq-eqb _ _ ((code-exactly (s.first + d) (get_or s.codes d 0)).1 (w d h).periods))),
      )

  pub calendar-exactly : (answer (calendar_rules s) ≡ 0) ↔ ((d : ℕ) → d < length s.codes → Agrees s d)
  calendar-exactly = (agrees-all, all-agree)

  -- so the codes of a checked setup are the calendar's, and there is no choice of them
  pub only-codes : answer (calendar_rules s) ≡ 0 → s.codes ≡ build (length s.codes) (λ (d : ℕ). code_of (s.first + d))
  unfolding periods_at
  only-codes e =
      is-build (length s.codes) (λ (d : ℕ). code_of (s.first + d)) 0 s.codes refl
      (λ d h. (code-exactly (s.first + d) (get_or s.codes d 0)).1 (agrees-all e d h).periods)

-- ---- a proposal passes

module _ (first days : ℕ) (done : (proposed first days).answer ≡ 0) where
  unrefused : answer (proposal_rules first days) ≡ 0
  unfolding proposed
  unrefused = by-eq (answer (proposal_rules first days)) 0 (λ e. e) (λ n. rw (ne_eqb (answer (proposal_rules first days)) 0 n) at done)

  codes-are : (proposed first days).codes ≡ codes_from first days
  unfolding proposed
  codes-are = rw (eq-eqb (answer (proposal_rules first days)) 0 unrefused)

  code_at : (d : ℕ) → d < days → get_or (proposed first days).codes d 0 ≡ code_of (first + d)
  unfolding codes_from
  code_at d h =
      let few = proposal-inside first days unrefused in
      rw codes-are (get_or-build 8 (λ (d : ℕ). if d <? days then code_of (first + d) else 0) 0 d (omega arith) ∙ rw (lt-ltb d days h))

  -- a setup of these days with the proposed codes is refused by neither 27 nor 28
  pub proposal-passes : (t : Struct.Setup) → t.first ≡ first → t.days ≡ days → t.codes ≡ (proposed first days).codes
      → answer (calendar_rules (setup_of t)) ≡ 0
  unfolding answer calendar_rules
  proposal-passes t ef ed ec =
      let few = proposal-inside first days unrefused in
      let same : (d : ℕ) → d < t.days → get_or t.codes d 0 ≡ code_of (t.first + d) = λ d h. rw (ec, ef) (code_at d (omega arith)) in
      rw (
        struct-outside t,
        struct-disagrees t,
        inside t.first t.days (omega arith),
        some-all t.days (disagrees t.first t.codes) (λ d h. ap not (eq-eqb (get_or t.codes d 0) (code_of (t.first + d)) (same d h))),
      )
