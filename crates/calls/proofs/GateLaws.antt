-- Closing a gate: the answers in their order, the next gate's number fits, and the new book is the one that meaning speaks of.
use mathlib.Core.Bool.{true, false}
use mathlib.Core.List.{List}
use mathlib.Core.Path.{◌≡◌}
use Prim.Native.Nat.{ℕ, ◌<◌}
use native.Mathlib.Numerals.{add-one}
use native.Mathlib.Omega.{arith}
use lib.Dec.{eqb}
use lib.IntN.{ℤ}
use lib.ListN.{length}
use borrow.Author.Tests.{leb-false}
use Rattle.std.specs.Prelude.{if◌then◌else◌}
use Rattle.words.specs.Rules.{answer}
use Rattle.laws.proofs.Cases.{on}
use Rattle.meaning.specs.Time.{all_gates, every_gate_closed, with_gate_closed}
use Rattle.meaning.specs.Ledgers.{contracts}
use Rattle.meaning.specs.Books as Meaning
use Rattle.meaning.specs.Soundness.{sound}
use Rattle.meaning.specs.Calls.{gate, gate_rules, rules_for, accepted, act}
use Rattle.meaning.proofs.Clock.{gates-le}
use Rattle.calls.specs.Answers.{next_answer, one_closed, gated}
use Rattle.book.specs.Structs.{time_in, book_of}
use Rattle.book.specs.declared.Book.{Book}
use Rattle.book.proofs.SoundParts.{codes-count}

-- ---- the answers

module _ (b : Meaning.Book contracts) where
  pub gate-unsound : sound b ≡ false → answer (gate_rules b) ≡ 1
  unfolding answer gate_rules
  gate-unsound e = rw e

module _ (b : Book) where
  pub next-late : every_gate_closed (time_in b) ≡ true → next_answer b ≡ 2
  unfolding next_answer
  next-late e = rw e

  pub next-open : every_gate_closed (time_in b) ≡ false → next_answer b ≡ 0
  unfolding next_answer
  next-open e = rw e

  -- the days of a book's struct are few, sound or not
  pub few-gates : b.setup.days < 256 → every_gate_closed (time_in b) ≡ false → b.closed < 12800
  unfolding every_gate_closed
  few-gates few e =
      let codes = (time_in b).codes in
      omega (arith, leb-false (all_gates codes) b.closed e, gates-le codes (length codes), codes-count b)

module _ (b : Book) (held : List ℕ) (side1 side2 : List ℤ) where
  abbrev pub whole : Meaning.Book contracts
  whole = book_of b held side1 side2

  pub gate-sound : sound whole ≡ true → answer (gate_rules whole) ≡ next_answer b
  unfolding answer gate_rules next_answer
  gate-sound e = on (every_gate_closed (time_in b)) (λ q. rw (e, q)) (λ q. rw (e, q))

  -- ---- the new book

  pub one-closed-acts : book_of (one_closed b) held side1 side2 ≡ act whole gate
  unfolding one_closed act with_gate_closed
  one-closed-acts = rw (add-one b.closed)

  -- an accepted call does what meaning says; any call leaves the book that it says
  pub gated-acts : accepted whole gate ≡ true → book_of (gated b (answer (gate_rules whole))).book held side1 side2 ≡ act whole gate
  unfolding gated accepted rules_for
  gated-acts e = rw e one-closed-acts

  pub gated-steps : book_of (gated b (answer (gate_rules whole))).book held side1 side2 ≡ (if accepted whole gate then act whole gate else whole)
  unfolding gated accepted rules_for
  gated-steps = on (eqb (answer (gate_rules whole)) 0) (λ e. rw e one-closed-acts) (λ e. rw e)
