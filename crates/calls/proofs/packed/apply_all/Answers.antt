-- What is not sound is refused by 1 and nothing is done; a sound book runs.
use mathlib.Core.Path.{refl, sym, ◌∙◌}
use Prim.Native.Nat.{min}
use lib.ListN.{length}
use Rattle.meaning.proofs.PackedCalls.{run-unsound, run_sound}
use Rattle.book.specs.Structs.{book_of}
use Rattle.calls.proofs.packed.apply_all.Goals as goal

pub returns-then-not-is_sound : goal.returns-then-not-is_sound
returns-then-not-is_sound c =
    let a = c.args in
    let whole = book_of a.b a.held.now a.side1.now a.side2.now in
    let u = run-unsound whole (min (length a.answers.now) (length a.places.now)) a.bytes.now (sym c.is_sound.ensures ∙ c.if-not-is_sound.true) in
    rw (u.0, u.1) (refl, refl, refl, refl, refl, refl)

pub returns : goal.returns
returns c =
    let a = c.args in
    let whole = book_of a.b a.held.now a.side1.now a.side2.now in
    let s = run_sound whole (min (length a.answers.now) (length a.places.now)) a.bytes.now (sym c.is_sound.ensures ∙ c.if-not-is_sound.false) in
    rw (s.0, s.1) c.run_known.ensures
