-- What `code_refusal` and `amendment_refusal` answer.
use Rattle.std.specs.Prelude.{ℕ, if◌then◌else◌}
use Rattle.words.specs.Tests.{◌<?◌}

-- three codes, and three types, pass; the fourth is refused by its number
abbrev pub code_refusal : ℕ → ℕ
code_refusal code = if code <? 3 then 0 else 17

abbrev pub amendment_refusal : ℕ → ℕ
amendment_refusal amendment = if amendment <? 3 then 0 else 18
