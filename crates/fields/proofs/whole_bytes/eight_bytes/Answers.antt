-- The eight bytes are those of the part.
use Rattle.std.proofs.Common.{rules}
use mathlib.Core.Path.{◌≡◌, ◌∙◌}
use Prim.Native.Nat.{◌+◌, ◌-◌}
use native.Mathlib.Omega.{arith}
use lib.ListN.{take, drop}
use Rattle.fields.proofs.EightBytes.{eight-joined}
use Rattle.fields.proofs.whole_bytes.eight_bytes.Goals as goal

pub returns : goal.returns
returns c =
    let a = c.args in
    let part : c.unwrap.result ≡ take (a.first + 8 - a.first) (drop a.first a.src.now) = search rules in
    c.from_be_bytes.ensures ∙ eight-joined a.src.now a.first (λ i. omega (arith, c.type_inv.src i)) c.unwrap.result part
