-- A row of the count is what the array has there, or the all-zero row past the array; past the count is the all-zero row.
use mathlib.Core.Path.{sym, ap, ◌∙◌}
use Prim.Native.Nat.{◌<◌}
use native.Mathlib.Omega.{arith}
use Rattle.std.specs.Prelude.{Option}
use Rattle.std.specs.Option.{unwrap_or}
use Rattle.setups.specs.declared.Authorisation.{Authorisation}
use Rattle.setups.specs.Structs.{row_of, no_authorisation}
use Rattle.book.proofs.StateLaws.{row_inside, row_none}
use Rattle.book.proofs.state.row_of.Goals as goal

pub returns-then-s-k : goal.returns-then-s-k
returns-then-s-k c = sym (row_none c.args.b.setup c.args.k c.if-s-k.true)

pub returns : goal.returns
returns c =
    let s = c.args.b.setup in
    let k = c.args.k in
    let own : k < s.authorisations = omega arith in
    ap row_of (c.unwrap_or.ensures ∙ ap (λ (o : Option Authorisation). unwrap_or o no_authorisation) c.copied.ensures ∙ c.get.ensures.lookup.4 (omega arith) no_authorisation)
    ∙ sym (row_inside s k own)
