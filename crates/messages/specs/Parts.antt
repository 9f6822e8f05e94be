-- What `kind_refusal` answers.
use Rattle.std.specs.Prelude.{ℕ, if◌then◌else◌}
use Rattle.words.specs.Tests.{◌<?◌, ◌=?◌}

-- kinds 0, 1 and 2 are read; 20: "message kind 3"; 23: "a value does not fit its field", which for the kind has 2 bits
abbrev pub kind_refusal : ℕ → ℕ
kind_refusal kind = if kind <? 3 then 0 else if kind =? 3 then 20 else 23
