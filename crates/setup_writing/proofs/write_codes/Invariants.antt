-- After d turns the codes of the days below d are written.
use mathlib.Core.Path.{◌≡◌}
use Rattle.setup_writing.specs.Writing.{codes_into}
use Rattle.setup_writing.proofs.write_codes.Given as goal

abbrev pub invariant-loop-d : goal.invariant-loop-d
invariant-loop-d l = l.out ≡ codes_into l.s l.initial.out l.d
