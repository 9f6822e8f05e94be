-- The rules of a day's marks, and a buffer after the question.
use mathlib.Core.Bool.{Bool, true, false, not, ◌||◌}
use mathlib.Core.List.{List}
use mathlib.Core.Logic.{◌≢◌}
use mathlib.Core.Path.{◌≡◌, refl, sym, ap, ◌∙◌}
use Prim.Native.Nat.{ℕ, suc, ◌≤◌, ◌<◌}
use lib.Dec.{ltb}
use borrow.Author.Tests.{ne_eqb, ltb-false}
use Rattle.words.specs.Lists.{on_front}
use Rattle.words.specs.Rules.{Rule, ◌when◌else◌, done, answer}
use Rattle.laws.proofs.Cases.{or_left, or_right}
use Rattle.laws.proofs.Rules.{earlier-answers, later-answers}
use Rattle.laws.proofs.Fronts.{front_same}
use Rattle.meaning.specs.Time.{periods_at, day_of, has_day}
use Rattle.meaning.specs.Ledgers.{contracts}
use Rattle.meaning.specs.Books.{Book}
use Rattle.meaning.specs.Bars.{mark}
use Rattle.bar.specs.Figures.{bar_for}
use Rattle.marks.specs.Marks.{asking_rules, day_mark_rules, day_marked}
use Rattle.bar.specs.declared.Bar.{Bar}

-- ---- the rules of a day's marks

module _ (b : Book contracts) (i account D : ℕ) where
  abbrev asking : ℕ
  asking = answer (asking_rules b i account)

  abbrev pub periods_on : ℕ
  periods_on = periods_at b.setting.time.codes (day_of b.setting.time D)

  module _ (cases firsts seconds : ℕ) where
    abbrev pub day_answer : ℕ
    day_answer = answer (day_mark_rules b i account D cases firsts seconds)

    -- a buffer has no room
    abbrev pub no_room : Bool
    no_room = ltb cases periods_on || ltb firsts periods_on || ltb seconds periods_on

    abbrev later : List Rule
    later = 16 when not (has_day b.setting.time D) else 24 when no_room else done

    pub day-earlier : asking ≢ 0 → asking ≡ day_answer
    unfolding asking_rules day_mark_rules
    day-earlier n = sym (earlier-answers (asking_rules b i account) later n)

    day-later : asking ≡ 0 → day_answer ≡ answer later
    unfolding asking_rules day_mark_rules
    day-later e = later-answers (asking_rules b i account) later refl e

    pub day-none : asking ≡ 0 → has_day b.setting.time D ≡ false → 16 ≡ day_answer
    unfolding answer
    day-none e h = sym (day-later e ∙ rw h)

    pub day-no-room : asking ≡ 0 → has_day b.setting.time D ≡ true → no_room ≡ true → 24 ≡ day_answer
    unfolding answer
    day-no-room e h r = sym (day-later e ∙ rw (h, r))

    pub day-done : asking ≡ 0 → has_day b.setting.time D ≡ true → no_room ≡ false → 0 ≡ day_answer
    unfolding answer
    day-done e h r = sym (day-later e ∙ rw (h, r))

    pub rooms : no_room ≡ false → (periods_on ≤ cases) × (periods_on ≤ firsts) × (periods_on ≤ seconds)
    rooms e =
        let some = or_left (ltb cases periods_on || ltb firsts periods_on) (ltb seconds periods_on) e in (
          ltb-false cases periods_on (or_left (ltb cases periods_on) (ltb firsts periods_on) some),
          ltb-false firsts periods_on (or_right (ltb cases periods_on) (ltb firsts periods_on) some),
          ltb-false seconds periods_on (or_right (ltb cases periods_on || ltb firsts periods_on) (ltb seconds periods_on) e),
        )

-- ---- a buffer after the question

module _ {A : Type 0} (value : Bar → A) (b : Book contracts) (i account D : ℕ) (buffer : List A) where
  pub day-refused : (refusal : ℕ) → refusal ≢ 0 → buffer ≡ day_marked value b i account D refusal buffer
  unfolding day_marked
  day-refused refusal n = rw (ne_eqb refusal 0 n)

  -- where the bars written are the marks of the day's periods
  pub day-written : (bars : ℕ → Bar) (d : A) → ((p : ℕ) → p < periods_at b.setting.time.codes (day_of b.setting.time D) → bars p ≡ bar_for (mark b i account D (suc p)))
      → on_front (periods_at b.setting.time.codes (day_of b.setting.time D)) (λ (p : ℕ) (old : A). value (bars p)) buffer ≡ day_marked value b i account D 0 buffer
  unfolding day_marked
  day-written bars d e =
      front_same (periods_at b.setting.time.codes (day_of b.setting.time D)) (λ (p : ℕ) (old : A). value (bars p)) (λ (p : ℕ) (old : A). value (bar_for (mark b i account D (suc p)))) buffer d
      (λ p l. ap value (e p l))
