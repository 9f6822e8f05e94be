-- Demand 2, "exactly": for each call and each question, answer k comes if and only if its condition holds and no earlier one of the order does.
-- One law over the chain (laws, Rules.antt), named here for each.
use mathlib.Core.List.{List}
use mathlib.Core.Path.{refl}
use Prim.Native.Nat.{ℕ}
use Rattle.laws.proofs.Rules.{Exactly, exactly}
use Rattle.meaning.specs.Ledgers.{Sort, contracts}
use Rattle.meaning.specs.Messages.{Notification, Nullification}
use Rattle.meaning.specs.Books.{Setup, opening_rules, Book}
use Rattle.meaning.specs.Notifications.{notification_rules}
use Rattle.meaning.specs.Calls.{gate_rules, nullification_rules}
use Rattle.meaning.specs.Totals.{total_rules, figures_rules}
use Rattle.meaning.specs.Bars.{mark_rules}
use Rattle.meaning.specs.Rows.{row_rules}
use Rattle.meaning.specs.PackedMessages.{Packed, reading_rules, read_message, writing_rules}
use Rattle.meaning.specs.PackedCalls.{apply_rules}
use Rattle.meaning.specs.PackedSetups.{setup_reading_rules, setup_writing_rules}
use Rattle.meaning.proofs.Applied.{numbered-message}

-- ---- opening and the calls

pub opening-exactly : (s : Setup) (slots lent1 lent2 : ℕ) → Exactly (opening_rules s slots lent1 lent2)
unfolding opening_rules
opening-exactly s slots lent1 lent2 = exactly (opening_rules s slots lent1 lent2) refl

module _ {K : Sort} (b : Book K) where
  pub notification-exactly : (n : Notification K) → Exactly (notification_rules b n)
  unfolding notification_rules
  notification-exactly n = exactly (notification_rules b n) refl

  pub nullification-exactly : (x : Nullification) → Exactly (nullification_rules b x)
  unfolding nullification_rules
  nullification-exactly x = exactly (nullification_rules b x) refl

  pub gate-exactly : Exactly (gate_rules b)
  unfolding gate_rules
  gate-exactly = exactly (gate_rules b) refl

  pub row-exactly : (i D side : ℕ) → Exactly (row_rules b i D side)
  unfolding row_rules
  row-exactly i D side = exactly (row_rules b i D side) refl

-- ---- the questions

module _ (b : Book contracts) where
  pub total-exactly : (account D period : ℕ) → Exactly (total_rules b account D period)
  unfolding total_rules
  total-exactly account D period = exactly (total_rules b account D period) refl

  pub mark-exactly : (i account D period : ℕ) → Exactly (mark_rules b i account D period)
  unfolding mark_rules
  mark-exactly i account D period = exactly (mark_rules b i account D period) refl

  pub figures-exactly : (account D : ℕ) → Exactly (figures_rules b account D)
  unfolding figures_rules
  figures-exactly account D = exactly (figures_rules b account D) refl

-- ---- packed messages and setups

pub reading-exactly : (bytes : List ℕ) → Exactly (reading_rules bytes)
unfolding reading_rules
reading-exactly bytes = exactly (reading_rules bytes) refl

-- a packed message done to a book: the book's own test, reading's rules, and those of what was read
pub apply-exactly : (b : Book contracts) (bytes : List ℕ) → Exactly (apply_rules b bytes)
unfolding apply_rules reading_rules
apply-exactly b bytes = exactly (apply_rules b bytes) (numbered-message b (read_message bytes).read)

pub writing-exactly : (m : Packed) (room : ℕ) → Exactly (writing_rules m room)
unfolding writing_rules
writing-exactly m room = exactly (writing_rules m room) refl

pub setup-reading-exactly : (bytes : List ℕ) (slots lent1 lent2 : ℕ) → Exactly (setup_reading_rules bytes slots lent1 lent2)
unfolding setup_reading_rules
setup-reading-exactly bytes slots lent1 lent2 = exactly (setup_reading_rules bytes slots lent1 lent2) refl

pub setup-writing-exactly : (s : Setup) (room : ℕ) → Exactly (setup_writing_rules s room)
unfolding setup_writing_rules
setup-writing-exactly s room = exactly (setup_writing_rules s room) refl
