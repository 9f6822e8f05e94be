-- Our own table beside document 01's: what P1 to P13 leave open. Its rows stand by the paper's chapters in the files named below, each a test on the
-- definitions with its sentence above it, and one claim says that all of them pass.
use mathlib.Core.Path.{◌≡◌, refl}
use mathlib.Core.Bool.{true}
use mathlib.Core.List.{◌++◌}
use lib.Ieee.{to_bits, div, of_int}
use Rattle.words.specs.Lists.{every}
use Rattle.meaning.proofs.Opened as Opened
use Rattle.meaning.proofs.OurOrders.{orders}
use Rattle.meaning.proofs.OurRefusals.{refusals}
use Rattle.meaning.proofs.OurKinds.{kinds}
use Rattle.meaning.proofs.OurEffects.{effects}
use Rattle.meaning.proofs.OurFigures.{questions}
use Rattle.meaning.proofs.OurSetups.{setups}
use Rattle.meaning.proofs.OurPackedMessages.{packed_messages}
use Rattle.meaning.proofs.OurPackedSetups.{packed_setups}
use Rattle.meaning.proofs.OurPackedCalls.{packed_calls}

pub our_table : every (λ p. p) (orders ++ (refusals ++ (kinds ++ (effects ++ (questions ++ (setups ++ (packed_messages ++ (packed_setups ++ packed_calls)))))))) ≡ true
unfolding Opened.opened div of_int to_bits
our_table = refl
