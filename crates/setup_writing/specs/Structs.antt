-- What writing answers, as the struct that C is given, and a setup as it reads back.
use Rattle.std.specs.Prelude.{ℕ, get_or, if◌then◌else◌}
use Rattle.words.specs.Tests.{◌<?◌}
use Rattle.words.specs.Lists.{build}
use Rattle.meaning.specs.PackedMessages.{Written}
use Rattle.setups.specs.Structs.{no_authorisation}
use Rattle.setups.specs.declared.Setup.{Setup}
use Rattle.fields.specs.declared.WrittenBytes.{WrittenBytes}

unfoldable pub setup_written : Written → WrittenBytes
setup_written w = record { answer = w.answer; length = w.length }

-- a setup as it reads back: codes past its days, and rows past its authorisations, are zero
unfoldable pub settled : Setup → Setup
settled s =
    let codes = build 8 (λ (k : ℕ). if k <? s.days then get_or s.codes k 0 else 0) in
    let rows = build 64 (λ (k : ℕ). if k <? s.authorisations then get_or s.rows k no_authorisation else no_authorisation) in
    record { first = s.first; days = s.days; accounts = s.accounts; authorisations = s.authorisations; codes = codes; rows = rows }
