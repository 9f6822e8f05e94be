-- What each call on a book ensures in its source gives the type by which theorems speak of it (Promises.antt), of what C is given of its outcome: each by
-- the identity, so that the check fails where the two part.
use mathlib.Core.List.{List}
use mathlib.Core.Path.{◌≡◌}
use Prim.Native.Nat.{ℕ}
use contract.Lifetimes.{Lfts}
use denote.MutBor.{MutBor}
use denote.Ref.{Bor}
use lib.IntN.{ℤ}
use Rattle.words.specs.Rules.{answer}
use Rattle.meaning.specs.Calls.{gate_rules}
use Rattle.messages.specs.declared.Notification.{Notification}
use Rattle.messages.specs.declared.Nullification.{Nullification}
use Rattle.std.specs.Prelude.{Result}
use Rattle.limits.specs.declared.refusals.Refusal.{Refusal}
use Rattle.limits.specs.Refusals.{answer_of}
use Rattle.fields.specs.declared.AtFront.{AtFront}
use Rattle.message_checks.specs.declared.Fault.{Fault}
use Rattle.book.specs.declared.Book.{Book}
use Rattle.book.specs.declared.BookView.{BookView}
use Rattle.book.specs.Structs.{book_seen}
use Rattle.calls.specs.Answers.{gated, gated_seen, notified_seen, applied_seen, ran_seen}
use Rattle.calls.specs.declared.Accepted.{Accepted}
use Rattle.calls.specs.declared.Done.{Done}
use Rattle.calls.specs.declared.Run.{Run}
use Rattle.calls.proofs.Promises.{Notifies, Nullifies, Applies, AppliesAll}
use Rattle.calls.proofs.gates.close_gate.Reads as close-gate
use Rattle.calls.proofs.notifications.notify.Reads as notify
use Rattle.calls.proofs.nullifications.nullify.Reads as nullify
use Rattle.calls.proofs.packed.apply.Reads as apply
use Rattle.calls.proofs.packed.apply_all.Reads as apply-all

pub close-gate-promises : (view : BookView) (κs : Lfts 1) (r : Result Book Refusal)
    → close-gate.Post κs (view, tt) r (view, tt)
    → gated_seen view.book r ≡ gated view.book (answer (gate_rules (book_seen view)))
close-gate-promises view κs r p = p

pub nullify-promises : (b : Book) (held : Bor (List ℕ)) (side1 side1' side2 side2' : MutBor (List ℤ)) (κs : Lfts 3) (x : Nullification) (r : Result Unit Refusal)
    → nullify.Post κs (b, (x, (held, (side1, (side2, tt))))) r (b, (x, (held, (side1', (side2', tt)))))
    → Nullifies b held.now side1.now side2.now x (answer_of r) side1'.now side2'.now
nullify-promises b held side1 side1' side2 side2' κs x r p = p

module _ (b : Book) (held held' : MutBor (List ℕ)) (side1 side1' side2 side2' : MutBor (List ℤ)) where
  pub notify-promises : (κs : Lfts 3) (n : Notification) (r : Result Accepted Fault)
      → notify.Post κs (b, (n, (held, (side1, (side2, tt))))) r (b, (n, (held', (side1', (side2', tt)))))
      → Notifies b held.now side1.now side2.now n (notified_seen r) held'.now side1'.now side2'.now
  notify-promises κs n r p = p

  pub apply-promises : (κs : Lfts 4) (bytes : Bor (List ℕ)) (r : Result (AtFront Done) Fault)
      → apply.Post κs (b, (bytes, (held, (side1, (side2, tt))))) r (b, (bytes, (held', (side1', (side2', tt)))))
      → Applies b held.now side1.now side2.now bytes.now (applied_seen b r) held'.now side1'.now side2'.now
  apply-promises κs bytes r p = p

  pub apply-all-promises : (κs : Lfts 6) (bytes : Bor (List ℕ)) (answers answers-left places places-left : MutBor (List ℕ)) (r : Result Run Refusal)
      → apply-all.Post κs (b, (bytes, (held, (side1, (side2, (answers, (places, tt))))))) r (b, (bytes, (held', (side1', (side2', (answers-left, (places-left, tt)))))))
      → AppliesAll b held.now side1.now side2.now bytes.now answers.now places.now (ran_seen b r) held'.now side1'.now side2'.now answers-left.now places-left.now
  apply-all-promises κs bytes answers answers-left places places-left r p = p
