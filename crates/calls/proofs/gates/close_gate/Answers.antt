-- What is not sound is refused by 1; a sound book's next gate is what is left to ask.
use mathlib.Core.Path.{sym, ap, ◌∙◌}
use Rattle.calls.specs.Answers.{gated}
use Rattle.book.specs.Structs.{book_seen}
use Rattle.calls.proofs.GateLaws.{gate-unsound, gate-sound}
use Rattle.calls.proofs.gates.close_gate.Goals as goal

pub returns-then-not-is_sound : goal.returns-then-not-is_sound
unfolding gated
returns-then-not-is_sound c =
    let view = c.args.view in
    ap (gated view.book) (sym (gate-unsound (book_seen view) (sym c.is_sound.ensures ∙ c.if-not-is_sound.true)))

pub returns : goal.returns
returns c =
    let view = c.args.view in
    c.close_next.ensures
    ∙ ap (gated view.book) (sym (gate-sound view.book view.held.now view.side1.now view.side2.now (sym c.is_sound.ensures ∙ c.if-not-is_sound.false)))
