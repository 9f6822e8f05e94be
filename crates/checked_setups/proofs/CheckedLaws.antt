-- A setup's days and codes against the calendar, asked of its struct; and what passes the checks passes without them.
use mathlib.Core.Bool.{Bool, true, not}
use mathlib.Core.List.{List, ◌++◌}
use mathlib.Core.Path.{◌≡◌, refl, sym, ap, ◌∙◌}
use Prim.Native.Nat.{ℕ, ◌+◌, ◌≤◌, ◌<◌}
use lib.IntN.{ℤ}
use lib.ListN.{length, get_or}
use Rattle.std.specs.Prelude.{Result, Ok}
use Rattle.limits.specs.declared.refusals.Refusal.{Refusal}
use Rattle.words.specs.Tests.{◌=?◌}
use Rattle.words.specs.Below.{some_below}
use Rattle.words.specs.Rules.{Rule, answer}
use Rattle.laws.proofs.Below.{some-ext}
use Rattle.laws.proofs.Builds.{get_or-build}
use Rattle.laws.proofs.Rules.{numbered, answer-none, later-answers, front-done, back_done}
use Rattle.meaning.specs.Books as Books
use Rattle.meaning.specs.Books.{opening_rules}
use Rattle.meaning.specs.PackedSetups.{setup_in, content_rules, padding_rules, setup_reading_rules, read_setup}
use Rattle.meaning.proofs.SetupRules.{opens}
use Rattle.setups.specs.Structs.{codes_of, setup_of}
use Rattle.setups.specs.declared.Setup.{Setup}
use Rattle.setups.proofs.SetupHeld.{codes-own}
use Rattle.setup_reading.specs.Parts.{setup_struct_in}
use Rattle.setup_reading.proofs.ReadParts.{bounds-passed}
use Rattle.book.proofs.OpeningLaws.{opening_answer}
use Rattle.calendar.specs.Calendar.{some_day_outside, code_of}
use Rattle.calendar.specs.Answers.{coded}
use Rattle.calendar.specs.Outcomes.{as_coded}
use Rattle.calendar.proofs.Years.{below-day}
use Rattle.calendar.proofs.Outcomes.{coded-tells}
use Rattle.checked_setups.specs.Checked.{some_code_disagrees, calendar_rules, checked_opening_rules, checked_reading_rules, read_checked_setup}

-- ---- the calendar's rules, asked of the struct

abbrev pub disagrees : ℕ → List ℕ → ℕ → Bool
disagrees first codes d = not (get_or codes d 0 =? code_of (first + d))

module _ (s : Setup) where
  pub struct-disagrees : some_code_disagrees (setup_of s) ≡ some_below s.days (disagrees s.first s.codes)
  unfolding some_code_disagrees setup_of codes_of
  struct-disagrees =
      rw (codes-own s.days s.codes)
      (some-ext s.days (disagrees s.first (codes_of s.days s.codes)) (disagrees s.first s.codes)
      (λ d h. ap (λ (code : ℕ). not (code =? code_of (s.first + d))) (get_or-build s.days (λ (k : ℕ). get_or s.codes k 0) 0 d h)))

  pub struct-outside : some_day_outside (setup_of s).first (length (setup_of s).codes) ≡ some_day_outside s.first s.days
  unfolding setup_of
  struct-outside = ap (some_day_outside s.first) (codes-own s.days s.codes)

  pub days-counted : (slots lent1 lent2 : ℕ) → answer (opening_rules (setup_of s) slots lent1 lent2) ≡ 0 → (1 ≤ s.days) × (s.days ≤ 8)
  unfolding setup_of
  days-counted slots lent1 lent2 e =
      let o = opens (setup_of s) slots lent1 lent2 e in
      (rw (codes-own s.days s.codes) at o.some-day, rw (codes-own s.days s.codes) at o.few-days)

-- the code that a day of the calendar is given
pub coded-is : (n : ℕ) (r : Result ℕ Refusal) → n < 36525 → as_coded r ≡ coded n → r ≡ Ok (code_of n)
unfolding coded
coded-is n r h e = coded-tells r (Ok (code_of n)) (e ∙ rw (below-day n h))

pub calendar-numbered : (s : Books.Setup) → numbered (calendar_rules s) ≡ true
unfolding calendar_rules
calendar-numbered s = refl

-- ---- a packed setup whose content passes is in hand

module _ (bytes : List ℕ) (slots lent1 lent2 : ℕ) (passes : answer (content_rules bytes slots lent1 lent2) ≡ 0) where
  pub content-opens : answer (opening_rules (setup_in bytes) slots lent1 lent2) ≡ 0
  unfolding answer opening_rules
  content-opens =
      let none = answer-none (content_rules bytes slots lent1 lent2) refl passes in
      rw (none 1, none 3, none 4)

  module _ (s : Setup) (e : s ≡ setup_struct_in bytes) where
    pub content-held : setup_of s ≡ setup_in bytes
    content-held =
        bounds-passed bytes slots lent1 lent2 s e
        (answer-none (content_rules bytes slots lent1 lent2) refl passes 1)

    pub content-counted : (1 ≤ s.days) × (s.days ≤ 8)
    content-counted = days-counted s slots lent1 lent2 (rw content-held content-opens)

-- ---- what passes the checks passes without them

pub checked-opens : (s : Books.Setup) (slots lent1 lent2 : ℕ) → answer (checked_opening_rules s slots lent1 lent2) ≡ 0
    → answer (opening_rules s slots lent1 lent2) ≡ 0
unfolding checked_opening_rules
checked-opens s slots lent1 lent2 = front-done (opening_rules s slots lent1 lent2) (calendar_rules s)

-- so both ways open by the same number
abbrev pub checked_answer : Setup → List ℕ → List ℤ → List ℤ → ℕ
checked_answer s held side1 side2 = answer (checked_opening_rules (setup_of s) (length held) (length side1) (length side2))

pub both-open : (s : Setup) (held : List ℕ) (side1 side2 : List ℤ) → checked_answer s held side1 side2 ≡ 0
    → opening_answer s held side1 side2 ≡ checked_answer s held side1 side2
both-open s held side1 side2 e = checked-opens (setup_of s) (length held) (length side1) (length side2) e ∙ sym e

module _ (bytes : List ℕ) (slots lent1 lent2 : ℕ) (passes : answer (checked_reading_rules bytes slots lent1 lent2) ≡ 0) where
  abbrev content : List Rule
  content = content_rules bytes slots lent1 lent2

  abbrev calendar : List Rule
  calendar = calendar_rules (setup_in bytes)

  content-done : answer content ≡ 0
  unfolding checked_reading_rules
  content-done = front-done content (calendar ++ padding_rules bytes) passes

  after-done : answer (calendar ++ padding_rules bytes) ≡ 0
  unfolding checked_reading_rules
  after-done = back_done content (calendar ++ padding_rules bytes) refl passes

  pub checked-reads : answer (setup_reading_rules bytes slots lent1 lent2) ≡ 0
  unfolding setup_reading_rules
  checked-reads =
      later-answers content (padding_rules bytes) refl content-done
      ∙ back_done calendar (padding_rules bytes) (calendar-numbered (setup_in bytes)) after-done

  pub same-reading : read_setup bytes slots lent1 lent2 ≡ read_checked_setup bytes slots lent1 lent2
  unfolding read_setup read_checked_setup
  same-reading = rw (checked-reads, passes)
