-- Each test of the code is one rule of the chain, or two that give the same number; what none refuses takes the bytes of its layout.
use mathlib.Core.Bool.{Bool, true, false, not}
use mathlib.Core.List.{List}
use mathlib.Core.Logic.{◌≢◌}
use mathlib.Core.Path.{◌≡◌, sym, ◌∙◌}
use Prim.Native.Nat.{ℕ, ◌+◌, ◌-◌, ◌*◌, ◌/◌, ◌≤◌}
use native.Mathlib.Omega.{arith}
use lib.Dec.{eqb}
use lib.ListN.{length}
use borrow.Author.Tests.{eq-eqb, eqb-true, eqb-false}
use Rattle.std.proofs.Common.{rules}
use Rattle.std.specs.Prelude.{Result, Ok, Err}
use Rattle.std.specs.Result.{result_unwrap_or}
use Rattle.limits.specs.declared.refusals.Refusal.{Refusal}
use Rattle.limits.specs.declared.refusals.Refusal.TheVariants.{BytesEndTooSoon, KindThree, PaddingBit}
use Rattle.limits.specs.Refusals.{number_of, answer_of}
use Rattle.limits.proofs.AnswerNumbers.{not-done}
use Rattle.words.specs.Rules.{answer}
use Rattle.words.specs.Fields.{field_at, total}
use Rattle.meaning.specs.PackedMessages.{kind_in, layout_in, reading_rules, read_message}
use Rattle.meaning.proofs.PackedMessageRules.{reading-done}
use Rattle.message_reading.proofs.ReadRefusals.{bits_told, told-whole, refuses-empty, refuses-three, refuses-many, refuses-short, refuses-padding, refuses-nothing}
use Rattle.message_reading.proofs.size_in.Goals as goal
use Rattle.message_reading.proofs.size_in.Goals.{After-bytes_of-taken, After-padding_bit, Else-bytes-taken, Else-kind-eq3, In_ok-bits}

-- what a refusal gives, and what no refusal does
module _ (s : List ℕ) where
  abbrev Sized : Result ℕ Refusal → Type 0
  Sized r = (answer_of r ≡ answer (reading_rules s)) × (result_unwrap_or r 0 ≡ (read_message s).length)

  none : (r : Refusal) → number_of r ≡ answer (reading_rules s) → Sized (Err r)
  unfolding read_message
  none r e = (e, rw (← e, not-done r))

  all : (n : ℕ) → n ≡ (bits_told s + 7) / 8 → bits_told s ≡ total (layout_in s) → answer (reading_rules s) ≡ 0 → Sized (Ok n)
  all n e b z = (sym z, rw (reading-done s z, e, b))

-- the bytes, at the places behind each test
abbrev bytes2 : Else-kind-eq3 → List ℕ
bytes2 c = c.args.bytes.now

abbrev bytes3 : In_ok-bits → List ℕ
bytes3 c = bytes2 (goal.at.In_ok-bits c).Else-kind-eq3

abbrev bytes4 : Else-bytes-taken → List ℕ
bytes4 c = bytes3 (goal.at.Else-bytes-taken c).In_ok-bits

-- what each test says of them

some : (c : Else-kind-eq3) → length (bytes2 c) ≢ 0
some c = eqb-false (length (bytes2 c)) 0 (sym c.is_empty.ensures ∙ c.if-is_empty.false)

kind-not : (c : Else-kind-eq3) → kind_in (bytes2 c) ≢ 3
kind-not c e = c.if-kind-eq3.false (c.kind_in-kind.ensures ∙ e)

bits_are : (c : In_ok-bits) → c.in_ok-bits.bits ≡ bits_told (bytes3 c)
bits_are c = c.in_ok-bits.ensures.1

bits-some : (c : In_ok-bits) → bits_told (bytes3 c) ≢ 0
bits-some c z = let e : ◌≡◌ {A = ℕ} 0 21 = rw (eq-eqb (bits_told (bytes3 c)) 0 z) at c.in_ok-bits.ensures.0 in absurd (omega arith)

taken-is : (c : After-bytes_of-taken) → c.bytes_of-taken.result ≡ (bits_told (bytes3 (goal.at.After-bytes_of-taken c).In_ok-bits) + 7) / 8
taken-is c = c.bytes_of-taken.ensures ∙ rw (bits_are (goal.at.After-bytes_of-taken c).In_ok-bits)

is_whole : (c : Else-bytes-taken) → (bits_told (bytes4 c) + 7) / 8 ≤ length (bytes4 c)
is_whole c = rw (taken-is (goal.at.Else-bytes-taken c).After-bytes_of-taken) at c.if-bytes-taken.false

padding-is : (c : After-padding_bit) (b : Bool) → c.padding_bit.result ≡ b
    → not (eqb (field_at (bytes4 (goal.at.After-padding_bit c).Else-bytes-taken) (bits_told (bytes4 (goal.at.After-padding_bit c).Else-bytes-taken)) ((bits_told (bytes4 (goal.at.After-padding_bit c).Else-bytes-taken) + 7) / 8 * 8 - bits_told (bytes4 (goal.at.After-padding_bit c).Else-bytes-taken))) 0) ≡ b
padding-is c b e = sym (c.padding_bit.ensures ∙ rw (bits_are (goal.at.After-padding_bit c).In_ok-bits)) ∙ e

pub returns-then-is_empty : goal.returns-then-is_empty
returns-then-is_empty c =
    let s = c.args.bytes.now in
    none s BytesEndTooSoon (refuses-empty s (eqb-true (length s) 0 (sym c.is_empty.ensures ∙ c.if-is_empty.true)))

pub returns-then-kind-eq3 : goal.returns-then-kind-eq3
returns-then-kind-eq3 c =
    let s = c.args.bytes.now in
    none s KindThree (refuses-three s (eqb-false (length s) 0 (sym c.is_empty.ensures ∙ c.if-is_empty.false)) (sym c.kind_in-kind.ensures ∙ c.if-kind-eq3.true))

pub returns-in_err-bits : goal.returns-in_err-bits
returns-in_err-bits c =
    let s = bytes2 (goal.at.returns-in_err-bits c).Else-kind-eq3 in
    let refusal = c.in_err-bits.field-0.0 in
    let zero : bits_told s ≡ 0 = sym c.in_err-bits.ensures.1 in
    let e = none s refusal ((rw (eq-eqb (bits_told s) 0 zero) at c.in_err-bits.ensures.0) ∙ refuses-many s (some (goal.at.returns-in_err-bits c).Else-kind-eq3) (kind-not (goal.at.returns-in_err-bits c).Else-kind-eq3) zero) in
    search (rules, e)

pub returns-then-bytes-taken : goal.returns-then-bytes-taken
returns-then-bytes-taken c =
    let s = bytes2 (goal.at.returns-then-bytes-taken c).Else-kind-eq3 in
    none s BytesEndTooSoon (refuses-short s (some (goal.at.returns-then-bytes-taken c).Else-kind-eq3) (kind-not (goal.at.returns-then-bytes-taken c).Else-kind-eq3) (bits-some (goal.at.returns-then-bytes-taken c).In_ok-bits) (rw (taken-is (goal.at.returns-then-bytes-taken c).After-bytes_of-taken) at c.if-bytes-taken.true))

pub padding_bit-requires : goal.padding_bit-requires
padding_bit-requires c =
    let at = goal.at.padding_bit-requires c in
    let is = bits_are at.In_ok-bits in
    (omega (arith, bits-some at.In_ok-bits), omega (arith, is_whole at.Else-bytes-taken))

pub returns-then-padding_bit : goal.returns-then-padding_bit
returns-then-padding_bit c =
    let s = bytes4 (goal.at.returns-then-padding_bit c).Else-bytes-taken in
    none s PaddingBit (refuses-padding s (some (goal.at.returns-then-padding_bit c).Else-kind-eq3) (kind-not (goal.at.returns-then-padding_bit c).Else-kind-eq3) (bits-some (goal.at.returns-then-padding_bit c).In_ok-bits) (is_whole (goal.at.returns-then-padding_bit c).Else-bytes-taken) (padding-is (goal.at.returns-then-padding_bit c).After-padding_bit true c.if-padding_bit.true))

pub returns : goal.returns
returns c =
    let s = bytes4 (goal.at.returns c).Else-bytes-taken in
    all s _ (taken-is (goal.at.returns c).After-bytes_of-taken) (told-whole s (some (goal.at.returns c).Else-kind-eq3) (kind-not (goal.at.returns c).Else-kind-eq3) (bits-some (goal.at.returns c).In_ok-bits) (is_whole (goal.at.returns c).Else-bytes-taken)).bits
    (refuses-nothing s (some (goal.at.returns c).Else-kind-eq3) (kind-not (goal.at.returns c).Else-kind-eq3) (bits-some (goal.at.returns c).In_ok-bits) (is_whole (goal.at.returns c).Else-bytes-taken) (padding-is (goal.at.returns c).After-padding_bit false c.if-padding_bit.false))
