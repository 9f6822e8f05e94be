-- The bits before, the field and the bits behind, joined: a word again.
use mathlib.Core.Path.{◌≡◌, ◌∙◌}
use Prim.Native.Nat.{ℕ, ◌+◌, ◌-◌, ◌*◌, ◌/◌, ◌%◌, ◌^◌, ◌≤◌, ◌<◌}
use native.Mathlib.Nat.{mod-lt, div-one}
use native.Mathlib.Omega.{arith}
use lib.Arith.{digits_lt}
use lib.Pow.{pow-add, pow_mono, pow_pos, shr_lt}
use Rattle.fields.proofs.whole_bytes.made_in.Goals as goal
use Rattle.fields.proofs.whole_bytes.made_in.Goals.{After-cut-behind, After-cut-field}

-- x, of i bits, and y, of k, joined
joined-lt : (x y i k : ℕ) → x < 2 ^ i → y < 2 ^ k → x * 2 ^ k + y < 2 ^ (i + k)
joined-lt x y i k h l = rw (pow-add 2 i k) (digits_lt h l)

-- the bits before the field with the field behind them
front-lt : (word d w v : ℕ) → word < 2 ^ 64 → d + w < 64 → v < 2 ^ w → word / 2 ^ (d + w) * 2 ^ w + v < 2 ^ (64 - d)
front-lt word d w v h room l =
    let whole : 64 ≡ 64 - (d + w) + (d + w) = omega arith in
    let front : 64 - (d + w) + w ≡ 64 - d = omega arith in
    let above : word / 2 ^ (d + w) < 2 ^ (64 - (d + w)) = shr_lt (64 - (d + w)) (d + w) (rw (← whole) h) in
    rw (← front) (joined-lt (word / 2 ^ (d + w)) v (64 - (d + w)) w above l)

fits-64 : (x d : ℕ) → x < 2 ^ (64 - d) → x < 2 ^ 64
fits-64 x d h =
    let larger : 2 ^ (64 - d) ≤ 2 ^ 64 = pow_mono {i = 64 - d} {j = 64} (omega arith) in
    omega arith

-- and the bits behind it
whole-lt : (x r d : ℕ) → d < 64 → x < 2 ^ (64 - d) → r < 2 ^ d → x * 2 ^ d + r < 2 ^ 64
whole-lt x r d h l k =
    let whole : 64 - d + d ≡ 64 = omega arith in
    rw whole at (joined-lt x r (64 - d) d l k)

-- the field, and what is behind it
field_is : (c : After-cut-field) → c.cut-field.result ≡ c.args.value % 2 ^ c.args.width
field_is c = c.cut-field.ensures ∙ rw div-one

behind-is : (c : After-cut-behind) → c.cut-behind.result ≡ c.args.word % 2 ^ c.args.below
behind-is c = c.cut-behind.ensures ∙ rw div-one

-- the bits before the field with the field behind them
front : (c : After-cut-field)
    → c.args.word / 2 ^ (c.args.below + c.args.width) * 2 ^ c.args.width + c.cut-field.result < 2 ^ (64 - c.args.below)
front c =
    let a = c.args in
    front-lt a.word a.below a.width c.cut-field.result (omega arith) c.requires (rw (field_is c) (mod-lt a.value (pow_pos a.width)))

pub join-requires : goal.join-requires
join-requires c =
    let a = c.args in
    let less : c.cut-field.result < 2 ^ a.width = rw (field_is (goal.at.join-requires c).After-cut-field) (mod-lt a.value (pow_pos a.width)) in
    (omega arith, less, fits-64 _ a.below (front (goal.at.join-requires c).After-cut-field))

pub join-requires-2 : goal.join-requires-2
join-requires-2 c =
    let a = c.args in
    let less : c.cut-behind.result < 2 ^ a.below = rw (behind-is (goal.at.join-requires-2 c).After-cut-behind) (mod-lt a.word (pow_pos a.below)) in
    (omega arith, less, whole-lt c.join.result c.cut-behind.result a.below (omega arith) (rw c.join.ensures (front (goal.at.join-requires-2 c).After-cut-field)) less)

pub returns : goal.returns
returns c =
    c.join-2.ensures ∙ rw (c.join.ensures, field_is (goal.at.returns c).After-cut-field, behind-is (goal.at.returns c).After-cut-behind)
