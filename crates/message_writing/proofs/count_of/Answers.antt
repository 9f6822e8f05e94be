-- The test of the definition.
use borrow.Author.Tests.{ne_eqb}
use Rattle.message_writing.specs.Writing.{count_of}
use Rattle.message_writing.proofs.count_of.Goals as goal

pub returns-then-m-eq1 : goal.returns-then-m-eq1
unfolding count_of
returns-then-m-eq1 c = rw c.if-m-eq1.true

pub returns : goal.returns
unfolding count_of
returns c = rw (ne_eqb c.args.m.kind 1 c.if-m-eq1.false)
