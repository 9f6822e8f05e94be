-- The three tests as they stand.
use mathlib.Core.Path.{refl}
use Rattle.meaning.specs.Calls.{accounts_wrong}
use Rattle.message_checks.proofs.nullifications.accounts_wrong.Goals as goal

pub returns : goal.returns
unfolding accounts_wrong
returns c = refl
