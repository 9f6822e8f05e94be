-- What is kept behind the setup lies within the buffer.
use Rattle.std.proofs.Common.{arith}
use Rattle.sheet_parts.proofs.KeptLaws.{kept-fits}
use Rattle.sheet.proofs.print_sheet.Goals as goal

pub print_rest-requires : goal.print_rest-requires
print_rest-requires c = omega (arith, c.keep.ensures.1, c.keep.auto.input, kept-fits c.in-Ok.front.length c.args.have c.args.bytes.now)
