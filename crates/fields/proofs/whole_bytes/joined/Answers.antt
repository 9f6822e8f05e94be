-- Before byte n the word is the field of the bytes before it.
use mathlib.Core.Path.{refl, sym, ap₂, ◌∙◌}
use Prim.Native.Nat.{ℕ, ◌+◌, ◌*◌}
use native.Mathlib.Omega.{arith}
use Rattle.words.specs.Fields.{field_at}
use Rattle.laws.proofs.Fields.{field_fits}
use Rattle.laws.proofs.WideFields.{field-byte}
use Rattle.fields.proofs.whole_bytes.joined.Goals as goal

pub loop-n-init : goal.loop-n-init
unfolding field_at
loop-n-init c = refl

pub join-word-requires : goal.join-word-requires
join-word-requires c =
    let a = c.args in
    let l = c.loop-n in
    (omega arith, omega arith, omega (arith, field_fits a.src.now (a.first * 8) (l.n * 8) 56 (omega arith)))

pub loop-n-preserved : goal.loop-n-preserved
loop-n-preserved c =
    let a = c.args in
    let l = c.loop-n in
    c.join-word.ensures ∙ ap₂ (λ (w b : ℕ). w * 256 + b) l.invariant c.byte.ensures
    ∙ sym (field-byte a.src.now a.first l.n (omega (arith, c.type_inv.src (a.first + l.n))))
