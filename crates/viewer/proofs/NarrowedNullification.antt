-- A nullification of the narrowed numbers answers and leaves what that of the caller's does: a number out of every book is refused like its limit.
use mathlib.Core.Bool.{Bool, true, not, cond, ◌||◌}
use mathlib.Core.Path.{◌≡◌, ◌∙◌}
use Prim.Native.Nat.{ℕ, ◌≤◌, min}
use Rattle.words.specs.Tests.{◌=?◌}
use Rattle.words.specs.Rules.{answer}
use Rattle.laws.proofs.Cases.{on, or-true}
use Rattle.meaning.specs.Time.{every_gate_closed}
use Rattle.meaning.specs.Ledgers.{contracts}
use Rattle.meaning.specs.Messages.{nullification}
use Rattle.meaning.specs.Settings.{has_account}
use Rattle.meaning.specs.Books.{Book}
use Rattle.meaning.specs.Soundness.{sound}
use Rattle.meaning.specs.Calls.{Call, message, accounts_wrong, nullification_rules, rules_for, refusal, accepted}
use Rattle.calls.specs.Answers.{after_call}
use Rattle.viewer.proofs.OutOfBook.{no-account, past-last-day}
use Rattle.viewer.proofs.Narrowed.{narrowed}

module _ (b : Book contracts) where
  -- the answer, and the book that is left
  abbrev pub nullified : ℕ → ℕ → ℕ → ℕ × Book contracts
  nullified account other first =
      let call : Call contracts = message (nullification (record { account = account; other = other; first = first })) in
      (refusal b call, after_call b call)

  abbrev wrong_pair : ℕ → ℕ → Bool
  wrong_pair account other = not (has_account b.setting account) || not (has_account b.setting other) || account =? other

  wrong-accounts : (account other first : ℕ) → (sound b ≡ true → wrong_pair account other ≡ true)
      → nullified account other first ≡ (cond (sound b) (cond (every_gate_closed b.setting.time) 2 15) 1, b)
  unfolding answer accounts_wrong nullification_rules rules_for accepted
  wrong-accounts account other first wrong =
      on (sound b) (λ s. on (every_gate_closed b.setting.time) (λ g. rw (s, g)) (λ g. rw (s, g, wrong s))) (λ s. rw s)

  late-first : (account other first : ℕ) → 65535 ≤ first
      → nullified account other first ≡ (cond (sound b) (cond (every_gate_closed b.setting.time) 2 (cond (wrong_pair account other) 15 9)) 1, b)
  unfolding answer accounts_wrong nullification_rules rules_for accepted
  late-first account other first l =
      on (sound b)
      (λ s. on (every_gate_closed b.setting.time)
      (λ g. rw (s, g))
      (λ g. on (wrong_pair account other) (λ w. rw (s, g, w)) (λ w. rw (s, g, w, past-last-day b s first l))))
      (λ s. rw s)

  pub nullified-narrowed : (account other first : ℕ) {a o f : ℕ} → a ≡ min account 255 → o ≡ min other 255 → f ≡ min first 65535
      → nullified a o f ≡ nullified account other first
  nullified-narrowed account other first {a} {o} {f} ea eo ef =
      narrowed (λ (k : ℕ). nullified k o f) (λ k l. wrong-accounts k o f (λ s. rw (no-account b s k l))) ea
      ∙ narrowed (λ (k : ℕ). nullified account k f) (λ k l. wrong-accounts account k f (λ s. rw (no-account b s k l, or-true (not (has_account b.setting account))))) eo
      ∙ narrowed (nullified account other) (late-first account other) ef
