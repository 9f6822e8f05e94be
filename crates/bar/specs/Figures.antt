-- Document 01, "Matching, totals, marks": the bar of what two sides hold as an enum, with this paper's number and values for each case.
use Rattle.std.specs.Prelude.{false, ℕ, ℤ, pos, Float}
use Rattle.std.specs.Float.{fin}
use Rattle.meaning.specs.Authorisations.{Authorisation}
use Rattle.meaning.specs.Totals.{seen_by, mwh}
use Rattle.meaning.specs.Bars as Meaning
use Rattle.bar.specs.declared.Bar.{Bar}
use Rattle.bar.specs.declared.Bar.TheVariants.{Blank, OneSide, Agreed, Disagreed}

-- ---- the enum

abbrev pub bar_for : Meaning.Bar Float → Bar
bar_for Meaning.Blank = Blank
bar_for (Meaning.OneSide x) = OneSide x
bar_for (Meaning.Agreed x) = Agreed x
bar_for (Meaning.Disagreed x y) = Disagreed x y

-- its number
abbrev pub case_of : Bar → ℕ
case_of Blank = 0
case_of (OneSide x) = 1
case_of (Agreed x) = 2
case_of (Disagreed x y) = 3

-- "Zero is positive zero": a figure that a case does not have
abbrev pub no_figure : Float
no_figure = fin false 0 (pos 0)

-- its values: the first figure, which is side 1's where there are two, and the second
abbrev pub first_of : Bar → Float
first_of Blank = no_figure
first_of (OneSide x) = x
first_of (Agreed x) = x
first_of (Disagreed x y) = x

abbrev pub second_of : Bar → Float
second_of Blank = no_figure
second_of (OneSide x) = no_figure
second_of (Agreed x) = no_figure
second_of (Disagreed x y) = y

-- ---- what the two sides hold in a place, for the pair of an authorisation, as an account sees it

unfoldable pub bar_seen : Authorisation → ℕ → ℤ → ℤ → Bar
bar_seen a account v w = bar_for (Meaning.map_bar mwh (Meaning.map_bar (seen_by a account) (Meaning.bar_of v w)))
