-- There is a digit more than the logarithm's whole part.
use Rattle.decimals.proofs.Digits.{counted}
use Rattle.decimals.proofs.digit_count.Goals as goal

pub returns : goal.returns
returns c = let log = c.checked_ilog10 in rw c.unwrap_or.ensures (counted c.args.number log.result log.ensures.none log.ensures.power_le log.ensures.next_power_gt)
