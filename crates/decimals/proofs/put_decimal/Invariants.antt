-- The digits that are left, stored before those already there, make the whole of the number.
use Rattle.std.proofs.Common.{◌≡◌, ◌-◌, ◌≤◌, length}
use lib.Seq.{sets}
use Rattle.meaning.specs.Decimals.{decimal}
use Rattle.decimals.proofs.Digits.{last_digits}
use Rattle.decimals.proofs.put_decimal.Given as goal

abbrev pub invariant-loop-place : goal.invariant-loop-place
invariant-loop-place l =
    record {
      inside : l.after ≤ length l.initial.out;
      digits : sets l.out l.at (last_digits (l.place - l.at) l.rest) ≡ sets l.initial.out l.at (decimal l.number);
    }
