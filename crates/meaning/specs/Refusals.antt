-- Document 01, "Answer numbers": what stands in front of the refusals that a call or a question has of its own.
use Rattle.std.specs.Prelude.{not, List}
use Rattle.words.specs.Rules.{Rule, ◌when◌else◌}
use Rattle.meaning.specs.Time.{every_gate_closed}
use Rattle.meaning.specs.Settings.{Setting}
use Rattle.meaning.specs.Ledgers.{Sort}
use Rattle.meaning.specs.Books.{Book}
use Rattle.meaning.specs.Soundness.{sound}

-- 2, in a setting
abbrev pub while_open : Setting → List Rule → List Rule
while_open s rules = 2 when every_gate_closed s.time else rules

module _ {K : Sort} where
  -- 1 comes first, of every call and every question
  abbrev pub asked : Book K → List Rule → List Rule
  asked b rules = 1 when not (sound b) else rules

  -- and then 2, of every call that needs an open gate
  abbrev pub arriving : Book K → List Rule → List Rule
  arriving b rules = asked b (while_open b.setting rules)
