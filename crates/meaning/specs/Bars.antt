-- Document 01, "Matching, totals, marks": a figure on a bar, seen from the asking account.
use Rattle.std.specs.Prelude.{not, ◌&&◌, List, ◌++◌, ℕ, ℤ, Float, if◌then◌else◌}
use Rattle.words.specs.Tests.{◌=?◌}
use Rattle.words.specs.Rules.{Rule, ◌when◌else◌, done, answer}
use Rattle.meaning.specs.Time.{days, day_of, is_period}
use Rattle.meaning.specs.Authorisations.{row_at, in_pair}
use Rattle.meaning.specs.Ledgers.{contracts, stands, at, originator_of, is_held, slot_of}
use Rattle.meaning.specs.Settings.{has_account}
use Rattle.meaning.specs.Books.{Book}
use Rattle.meaning.specs.Refusals.{asked}
use Rattle.meaning.specs.Totals.{matches, seen_by, mwh}

-- "Blank, OneSide, Agreed or Disagreed with its MWh (two figures for Disagreed, side 1 first)"
pub data Bar (A : Type 0) : Type 0 where
  Blank : Bar A
  OneSide : A → Bar A
  Agreed : A → Bar A
  Disagreed : A → A → Bar A

-- each figure put through f
abbrev pub map_bar : {A B : Type 0} → (A → B) → Bar A → Bar B
map_bar f Blank = Blank
map_bar f (OneSide v) = OneSide (f v)
map_bar f (Agreed v) = Agreed (f v)
map_bar f (Disagreed v w) = Disagreed (f v) (f w)

-- of what side 1 and side 2 hold, in whole kWh
unfoldable pub bar_of : ℤ → ℤ → Bar ℤ
bar_of v w =
    if matches v w then Agreed v
    else if stands contracts v && stands contracts w then Disagreed v w
    else if stands contracts v then OneSide v
    else if stands contracts w then OneSide w
    else Blank

-- who may ask about an identifier, whatever the day
abbrev pub asker_rules : Book contracts → ℕ → ℕ → List Rule
asker_rules b i account =
    25 when not (is_held b.ledger.held i) else
    15 when not (has_account b.setting account && in_pair (row_at b.setting.rows (originator_of i)) account) else
    done

-- "mark 1, 25, 15, 16"
unfoldable pub mark_rules : Book contracts → ℕ → ℕ → ℕ → ℕ → List Rule
mark_rules b i account D period =
    asked b (asker_rules b i account ++ (
    16 when not (is_period b.setting.time D period) else
    done))

-- in whole kWh, as the asking account sees it; and in MWh
unfoldable pub seen_bar : Book contracts → ℕ → ℕ → ℕ → ℕ → Bar ℤ
seen_bar b i account D period =
    let slot : ℕ = slot_of b.ledger.held i in
    let d : ℕ = day_of b.setting.time D in
    if answer (mark_rules b i account D period) =? 0
    then map_bar (seen_by (row_at b.setting.rows (originator_of i)) account)
    (bar_of (at contracts (days b.setting.time) b.ledger.side1 slot d period) (at contracts (days b.setting.time) b.ledger.side2 slot d period))
    else Blank

unfoldable pub mark : Book contracts → ℕ → ℕ → ℕ → ℕ → Bar Float
mark b i account D period = map_bar mwh (seen_bar b i account D period)
