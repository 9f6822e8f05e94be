-- Document 01, "Answer numbers" and "What a notification does": the calls that change a book, their refusals and their effect.
use Rattle.std.specs.Prelude.{Bool, not, ◌||◌, List, ℕ}
use Rattle.words.specs.Tests.{◌≤?◌, ◌=?◌}
use Rattle.words.specs.Rules.{Rule, ◌when◌else◌, done, answer}
use Rattle.meaning.specs.Time.{next_day}
use Rattle.meaning.specs.Ledgers.{Sort}
use Rattle.meaning.specs.Messages.{Nullification, Message, notification, nullification, written}
use Rattle.meaning.specs.Settings.{Setting, has_account, after_gate}
use Rattle.meaning.specs.Books.{Book}
use Rattle.meaning.specs.Refusals.{arriving}
use Rattle.meaning.specs.Notifications.{notification_rules}

-- A gate closes, or a message arrives.
module _ (K : Sort) where
  pub data Call : Type 0 where
    gate : Call
    message : Message K → Call

-- 15: "account not in the book .. or the two equal"
unfoldable pub accounts_wrong : Setting → Nullification → Bool
accounts_wrong s x = not (has_account s x.account) || not (has_account s x.other) || x.account =? x.other

-- 15 and 9, of a nullification
abbrev pub pair_rules : Setting → Nullification → List Rule
pair_rules s x =
    15 when accounts_wrong s x else
    9 when next_day s.time ≤? x.first else
    done

module _ {K : Sort} where
  unfoldable pub gate_rules : Book K → List Rule
  gate_rules b = arriving b done

  unfoldable pub nullification_rules : Book K → Nullification → List Rule
  nullification_rules b x = arriving b (pair_rules b.setting x)

  unfoldable pub rules_for : Book K → Call K → List Rule
  rules_for b gate = gate_rules b
  rules_for b (message (notification n)) = notification_rules b n
  rules_for b (message (nullification x)) = nullification_rules b x

  abbrev pub refusal : Book K → Call K → ℕ
  refusal b c = answer (rules_for b c)

  unfoldable pub accepted : Book K → Call K → Bool
  accepted b c = refusal b c =? 0

  -- the book after an accepted call
  unfoldable pub act : Book K → Call K → Book K
  act b gate = record { setting = after_gate b.setting; ledger = b.ledger }
  act b (message m) = record { setting = b.setting; ledger = written b.setting.rows b.setting.time m b.ledger }
