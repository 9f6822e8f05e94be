-- After n turns the first n bytes are those of the word without its last ones.
use mathlib.Core.Path.{◌≡◌, refl, sym, ap, ap₂, ◌∙◌}
use mathlib.Core.List.{List}
use Prim.Native.Nat.{ℕ, ◌+◌, ◌-◌, ◌*◌, ◌/◌, ◌%◌, ◌^◌, ◌<◌}
use native.Mathlib.Nat.{div-one}
use native.Mathlib.Omega.{arith}
use lib.ListN.{length, set}
use lib.Pow.{shr-shr}
use borrow.Author.Rules.{rules}
use Rattle.words.specs.Fields.{set_field}
use Rattle.laws.proofs.Bits.{Bytes}
use Rattle.laws.proofs.Fields.{set-field-length}
use Rattle.laws.proofs.WideFields.{set-field-byte}
use Rattle.fields.proofs.whole_bytes.put_bytes.Goals as goal

-- turn n of count, and the end
byte_more : (s : List ℕ) (f n count v : ℕ) → Bytes s → n < count
    → set (set_field s (f * 8) (n * 8) (v / 2 ^ ((count - n) * 8))) (f + n) (v / 2 ^ ((count - 1 - n) * 8) % 2 ^ 8)
    ≡ set_field s (f * 8) ((n + 1) * 8) (v / 2 ^ ((count - (n + 1)) * 8))
byte_more s f n count v b h =
    let d : ℕ = (count - (n + 1)) * 8 in
    let behind : (count - 1 - n) * 8 ≡ d = omega arith in
    let before : (count - n) * 8 ≡ d + 8 = omega arith in
    rw (behind, before, ← shr-shr v d 8) (sym (set-field-byte s f n (v / 2 ^ d) b))

bytes-done : (s : List ℕ) (f n count v : ℕ) → n ≡ count → set_field s (f * 8) (n * 8) (v / 2 ^ ((count - n) * 8)) ≡ set_field s (f * 8) (count * 8) v
bytes-done s f n count v e =
    let none : (count - n) * 8 ≡ 0 = omega arith in
    rw (none, e, div-one)

pub loop-n-init : goal.loop-n-init
unfolding set_field
loop-n-init c = refl

pub loop-n-preserved : goal.loop-n-preserved
loop-n-preserved c =
    let a = c.args in
    let l = c.loop-n in
    c.put_byte.ensures
    ∙ ap₂ (λ (d : List ℕ) (x : ℕ). set d (a.first + l.n) x) l.invariant c.cut.ensures
    ∙ byte_more a.dst.now a.first l.n a.count a.word (λ i h. search rules) (omega arith)

pub shape_of-dst : goal.shape_of-dst
shape_of-dst c = ap length c.loop-n.invariant ∙ set-field-length _ _ _ _

pub returns : goal.returns
returns c =
    let a = c.args in
    let l = c.loop-n in
    l.invariant ∙ bytes-done a.dst.now a.first l.n a.count a.word (omega arith)
