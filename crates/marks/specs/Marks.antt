-- Document 01, "Matching, totals, marks": the mark of a period, and the marks of a whole day.
use Rattle.std.specs.Prelude.{not, ◌||◌, List, ◌++◌, ℕ, suc, ◌+◌, ℤ, get_or, Result, Ok, Err, if◌then◌else◌}
use Rattle.words.specs.Tests.{◌<?◌, ◌=?◌}
use Rattle.words.specs.Lists.{on_front}
use Rattle.words.specs.Rules.{Rule, ◌when◌else◌, done, answer}
use Rattle.limits.specs.declared.refusals.Refusal.{Refusal}
use Rattle.limits.specs.Refusals.{number_of}
use Rattle.meaning.specs.Time.{periods_on, has_day}
use Rattle.meaning.specs.Authorisations.{Authorisation}
use Rattle.meaning.specs.Ledgers.{contracts, the_mark}
use Rattle.meaning.specs.Books.{Book}
use Rattle.meaning.specs.Refusals.{asked}
use Rattle.meaning.specs.Bars as Meaning
use Rattle.bar.specs.Figures.{bar_for, bar_seen}
use Rattle.bar.specs.declared.Bar.{Bar}
use Rattle.bar.specs.declared.Bar.TheVariants.{Blank}

-- ---- a mark

-- an answer number beside a bar
pub record Marked : Type 0 where
  pub answer : ℕ
  pub bar : Bar

-- a refusal's "other results are .. the blank mark"
abbrev pub refused_mark : ℕ → Marked
refused_mark n = record { answer = n; bar = Blank }

-- what is told of a mark that may be refused. Two outcomes of which the same is told are the same (`same_mark`, proofs/SameOutcomes.antt).
abbrev pub marked_of : Result Bar Refusal → Marked
marked_of (Ok bar) = record { answer = 0; bar = bar }
marked_of (Err refusal) = refused_mark (number_of refusal)

unfoldable pub marked : Book contracts → ℕ → ℕ → ℕ → ℕ → Marked
marked b i account D period =
    record { answer = answer (Meaning.mark_rules b i account D period); bar = bar_for (Meaning.mark b i account D period) }

-- ---- the marks of a day

-- the rules of a mark that speak of no day: 1, 25, 15
unfoldable pub asking_rules : Book contracts → ℕ → ℕ → List Rule
asking_rules b i account = asked b (Meaning.asker_rules b i account)

-- those of a mark for a day instead of a period; and 24 where one of the three buffers, by its length, has no room for the day
unfoldable pub day_mark_rules : Book contracts → ℕ → ℕ → ℕ → ℕ → ℕ → ℕ → List Rule
day_mark_rules b i account D cases firsts seconds =
    let periods : ℕ = periods_on b.setting.time D in
    asked b (Meaning.asker_rules b i account ++ (
    16 when not (has_day b.setting.time D) else
    24 when cases <? periods || firsts <? periods || seconds <? periods else
    done))

-- a buffer after the question: with the answer 0 place p holds a value of the mark of period p + 1, and with a refusal it is as it came
unfoldable pub day_marked : {A : Type 0} → (Bar → A) → Book contracts → ℕ → ℕ → ℕ → ℕ → List A → List A
day_marked {A} value b i account D refusal buffer =
    if refusal =? 0
    then on_front (periods_on b.setting.time D) (λ (p : ℕ) (old : A). value (bar_for (Meaning.mark b i account D (suc p)))) buffer
    else buffer

-- what the two sides hold in the place p past `start`, as an account of the pair sees it
unfoldable pub bar_from : Authorisation → ℕ → List ℤ → List ℤ → ℕ → ℕ → Bar
bar_from a account side1 side2 start p = bar_seen a account (get_or side1 (start + p) the_mark) (get_or side2 (start + p) the_mark)
