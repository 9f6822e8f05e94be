-- What the questions of totals and figures give: meaning's answers as structs, and a whole day of totals at once.
use Rattle.std.specs.Prelude.{false, List, ◌++◌, ℕ, suc, ℤ, pos, Float, length, Result, Ok, Err, if◌then◌else◌}
use Rattle.std.specs.Float.{fin}
use Rattle.words.specs.Tests.{◌<?◌, ◌=?◌}
use Rattle.words.specs.Lists.{on_front}
use Rattle.words.specs.Rules.{Rule, ◌when◌else◌, done, answer}
use Rattle.limits.specs.declared.refusals.Refusal.{Refusal}
use Rattle.limits.specs.Refusals.{number_of}
use Rattle.meaning.specs.Time.{periods_on}
use Rattle.meaning.specs.Ledgers.{contracts}
use Rattle.meaning.specs.Books.{Book}
use Rattle.meaning.specs.Totals as Meaning
use Rattle.position.specs.declared.Totalled.{Totalled}
use Rattle.position.specs.declared.DayFigures.{DayFigures}
use Rattle.position.specs.declared.Figured.{Figured}

-- what C is given of it: a refusal's number and no total. Two outcomes of which C is given the same are the same (`same_total`, proofs/SameOutcomes.antt).
abbrev pub totalled_of : Result ℤ Refusal → Totalled
totalled_of (Ok kwh) = record { answer = 0; kwh = kwh }
totalled_of (Err refusal) = record { answer = number_of refusal; kwh = pos 0 }

unfoldable pub totalled : Book contracts → ℕ → ℕ → ℕ → Totalled
totalled b account D period =
    record { answer = answer (Meaning.total_rules b account D period); kwh = Meaning.total b account D period }

-- ---- a whole day of totals

abbrev pub day_periods : Book contracts → ℕ → ℕ
day_periods b D = periods_on b.setting.time D

-- as the day's figures, and then the room that is lent
unfoldable pub day_total_rules : Book contracts → ℕ → ℕ → ℕ → List Rule
day_total_rules b account D room = Meaning.figures_rules b account D ++ (24 when room <? day_periods b D else done)

-- What is lent, after the question: place p gets the total of period p + 1, which is 0 where that one is refused by 26, and a place past the day's
-- length stays. A refusal changes nothing.
unfoldable pub day_totals : Book contracts → ℕ → ℕ → List ℤ → List ℤ
day_totals b account D lent =
    if answer (day_total_rules b account D (length lent)) =? 0
    then on_front (day_periods b D) (λ (p : ℕ) (old : ℤ). Meaning.total b account D (suc p)) lent
    else lent

-- ---- the day's figures

abbrev pub figures_of : Meaning.DayFigures → DayFigures
figures_of f = record { sold = f.sold; bought = f.bought; net = f.net }

-- "Zero is positive zero"
abbrev pub zero_figure : Float
zero_figure = fin false 0 (pos 0)

abbrev pub no_figures : DayFigures
no_figures = record { sold = zero_figure; bought = zero_figure; net = zero_figure }

-- what C is given of them: a refusal's number and three zeros. Of these too the same is given only of the same (`same_figures`).
abbrev pub figured_of : Result DayFigures Refusal → Figured
figured_of (Ok day) = record { answer = 0; day = day }
figured_of (Err refusal) = record { answer = number_of refusal; day = no_figures }

unfoldable pub figured : Book contracts → ℕ → ℕ → Figured
figured b account D =
    record { answer = answer (Meaning.figures_rules b account D); day = figures_of (Meaning.figures b account D) }
