-- The sort of contract volumes keeps the laws that are asked of a sort.
use mathlib.Core.Path.{refl}
use Rattle.laws.proofs.Whole as Whole
use Rattle.meaning.specs.Ledgers.{contracts}
use Rattle.meaning.proofs.Sound.{Lawful}

pub contracts-lawful : Lawful contracts
contracts-lawful = record { same_refl = Whole.same_refl; same-is = Whole.same-is; omitted-right = refl }
