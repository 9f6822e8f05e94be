-- Two numbers of 8 bits have a product of 16.
use Rattle.std.proofs.Common.{arith}
use Rattle.sheet_parts.proofs.AccountDays.{few-account-days}
use Rattle.sheet_parts.proofs.totals.account_days.Goals as goal

pub overflow_mul-result : goal.overflow_mul-result
overflow_mul-result c = record { fits = few-account-days _ _ (omega arith) (omega arith) }
