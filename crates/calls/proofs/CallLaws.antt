-- A call as the code makes it: what is refused changes nothing, tables that are no book refuse all, and a nullification that is accepted writes
-- both sides.
use mathlib.Core.Bool.{true, false, not}
use mathlib.Core.List.{List, [], ◌∷◌}
use mathlib.Core.Logic.{◌≢◌}
use mathlib.Core.Path.{◌≡◌, refl, sym, ap, ◌∙◌}
use Prim.Native.Nat.{ℕ, ◌≤◌}
use native.Mathlib.Omega.{arith}
use lib.IntN.{ℤ}
use lib.ListN.{length}
use borrow.Author.Tests.{eq-eqb, ne_eqb}
use Rattle.meaning.specs.Ledgers.{contracts, Side, one, two, side}
use Rattle.meaning.specs.Messages as Meant
use Rattle.meaning.specs.Messages.{Message, nullification, held_after, rewritten, written}
use Rattle.meaning.specs.Books as Meaning
use Rattle.meaning.specs.Soundness.{sound}
use Rattle.meaning.specs.Calls.{Call, message, rules_for, refusal, nullification_rules, accepted, act}
use Rattle.meaning.specs.History.{after}
use Rattle.meaning.proofs.SetupRules.{opens}
use Rattle.meaning.proofs.Sound.{parts}
use Rattle.meaning.proofs.Applied.{unsound-refused}
use Rattle.words.specs.Rules.{answer}
use Rattle.words.specs.Runs.{run}
use Rattle.laws.proofs.Cases.{on}
use Rattle.laws.proofs.RuleByRule.{passes}
use Rattle.messages.specs.Structs.{nullification_of}
use Rattle.messages.specs.declared.Nullification.{Nullification}
use Rattle.message_effects.specs.Effects.{pair_blanked}
use Rattle.message_effects.proofs.EffectLaws.{blanked-few}
use Rattle.message_checks.specs.Checks.{pair_check_rules}
use Rattle.calls.specs.Answers.{after_call}
use Rattle.book.specs.Structs.{setting_in, book_of}
use Rattle.book.specs.declared.Book.{Book}

module _ (b : Meaning.Book contracts) (c : Call contracts) where
  pub call-refused : refusal b c ≢ 0 → after_call b c ≡ b
  unfolding accepted
  call-refused n = rw (ne_eqb (refusal b c) 0 n)

  pub call-accepted : refusal b c ≡ 0 → after_call b c ≡ act b c
  unfolding accepted
  call-accepted e = rw (eq-eqb (refusal b c) 0 e)

  -- tables that are no sound book stay
  pub unsound-stays : sound b ≡ false → after_call b c ≡ b
  unsound-stays e = call-refused (λ z. omega (arith, unsound-refused b e c, z))

-- one call, and then none
pub after_one : (b : Meaning.Book contracts) (c : Call contracts) → after b (c ∷ []) ≡ after_call b c
unfolding after run
after_one b c = refl

-- a message leaves the setting, and a nullification the identifiers too
pub message-setting : (b : Meaning.Book contracts) (m : Message contracts) → (after_call b (message m)).setting ≡ b.setting
unfolding act
message-setting b m = on (accepted b (message m)) (λ e. rw e) (λ e. rw e)

pub nullification-held : (b : Meaning.Book contracts) (x : Meant.Nullification) → (after_call b (message (nullification x))).ledger.held ≡ b.ledger.held
unfolding act written held_after
nullification-held b x = on (accepted b (message (nullification x))) (λ e. rw e) (λ e. rw e)

module _ (b : Book) (held : List ℕ) (side1 side2 : List ℤ) where
  -- a sound book has few slots
  pub sound-slots : sound (book_of b held side1 side2) ≡ true → length held ≤ 256
  sound-slots s =
      let whole = book_of b held side1 side2 in
      (opens (Meaning.setup_of whole.setting) (length held) (length side1) (length side2) (parts whole s).setup).few-slots

  module _ (x : Nullification) where
    abbrev pub nullification_call : Call contracts
    nullification_call = message (nullification (nullification_of x))

    abbrev pub nullification_answer : ℕ
    nullification_answer = answer (nullification_rules (book_of b held side1 side2) (nullification_of x))

    pub nullification-answer : nullification_answer ≡ refusal (book_of b held side1 side2) nullification_call
    unfolding rules_for
    nullification-answer = refl

    acts-side : (σ : Side)
        → rewritten {K = contracts} (book_of b held side1 side2).setting.rows (book_of b held side1 side2).setting.time (nullification (nullification_of x)) held σ (side (book_of b held side1 side2).ledger σ)
        ≡ side (act (book_of b held side1 side2) nullification_call).ledger σ
    unfolding act written held_after
    acts-side one = refl
    acts-side two = refl

    -- of a sound book only the rules that read no table are left
    pub nullification-rest : sound (book_of b held side1 side2) ≡ true → nullification_answer ≡ answer (pair_check_rules (setting_in b) (nullification_of x))
    unfolding nullification_rules pair_check_rules
    nullification-rest e = passes (nullification_rules (book_of b held side1 side2) (nullification_of x)) 0 refl (ap not e)

    -- as `blank_pair` leaves it
    pub nullification-side : (σ : Side) → sound (book_of b held side1 side2) ≡ true → nullification_answer ≡ 0
        → pair_blanked b x.account x.other x.first held σ (side (book_of b held side1 side2).ledger σ)
        ≡ side (after_call (book_of b held side1 side2) nullification_call).ledger σ
    nullification-side σ s e =
        blanked-few b x.account x.other x.first held σ (side (book_of b held side1 side2).ledger σ) (sound-slots s)
        ∙ acts-side σ
        ∙ sym (ap (λ (w : Meaning.Book contracts). side w.ledger σ) (call-accepted (book_of b held side1 side2) nullification_call (sym nullification-answer ∙ e)))
