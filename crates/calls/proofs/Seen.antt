-- What C is given of an outcome tells the whole outcome.
use mathlib.Core.Path.{◌≡◌, refl, sym, ap, ap₂}
use Prim.Native.Nat.{ℕ}
use Rattle.std.specs.Prelude.{Option, Some, None, Result, Ok, Err}
use Rattle.limits.specs.declared.refusals.Refusal.{Refusal}
use Rattle.limits.specs.declared.kinds.Kind.{Kind}
use Rattle.limits.specs.declared.kinds.Kind.TheVariants.{Initial, Replacement, Additional}
use Rattle.limits.specs.Refusals.{number_of}
use Rattle.limits.specs.Kinds.{number_of_kind}
use Rattle.limits.proofs.AnswerNumbers.{same-number, never-done}
use Rattle.limits.proofs.KindNumbers.{same-kind}
use Rattle.limits.proofs.Told.{told}
use Rattle.fields.specs.declared.AtFront.{AtFront}
use Rattle.message_checks.specs.declared.Fault.{Fault}
use Rattle.book.specs.declared.Book.{Book}
use Rattle.calls.specs.declared.Accepted.{Accepted}
use Rattle.calls.specs.declared.Done.{Done}
use Rattle.calls.specs.declared.Run.{Run}
use Rattle.calls.specs.declared.Gated.{Gated}
use Rattle.calls.specs.declared.Notified.{Notified}
use Rattle.calls.specs.declared.Applied.{Applied}
use Rattle.calls.specs.declared.AppliedAll.{AppliedAll}
use Rattle.calls.specs.Answers.{kind_told, slot_told, gated_seen, notified_seen, applied_seen, ran_seen}

pub same-gated : (b : Book) (r s : Result Book Refusal) → gated_seen b r ≡ gated_seen b s → r ≡ s
same-gated b = told (gated_seen b) (λ (g : Gated). g.answer) (λ (g : Gated). g.book) (λ a. refl) (λ r. refl) (λ a. refl)

pub same-ran : (b : Book) (r s : Result Run Refusal) → ran_seen b r ≡ ran_seen b s → r ≡ s
same-ran b =
    told (ran_seen b) (λ (a : AppliedAll). a.answer) (λ (a : AppliedAll). record { done = a.done; used = a.used; book = a.book }) (λ a. refl) (λ r. refl) (λ a. refl)

-- a refusal with its place
same-fault : (f g : Fault) → number_of f.refusal ≡ number_of g.refusal → f.place ≡ g.place → f ≡ g
same-fault f g n p = ap₂ (λ (r : Refusal) (k : ℕ). record { refusal = r; place = k }) (same-number f.refusal g.refusal n) p

pub same-notified : (r s : Result Accepted Fault) → notified_seen r ≡ notified_seen s → r ≡ s
same-notified (Ok a) (Ok b) e =
    ap₂ (λ (k : Kind) (slot : ℕ). Ok (record { kind = k; slot = slot }))
    (same-kind a.kind b.kind (ap (λ (x : Notified). x.kind) e))
    (ap (λ (x : Notified). x.slot) e)
same-notified (Ok a) (Err g) e = never-done g.refusal (sym (ap (λ (x : Notified). x.answer) e))
same-notified (Err f) (Ok b) e = never-done f.refusal (ap (λ (x : Notified). x.answer) e)
same-notified (Err f) (Err g) e = ap Err (same-fault f g (ap (λ (x : Notified). x.answer) e) (ap (λ (x : Notified). x.place) e))

-- no kind has the number 0, which is told of any other message than a notification
no-kind : (k : Kind) → 0 ≡ number_of_kind k → ⊥
no-kind Initial e = cc
no-kind Replacement e = cc
no-kind Additional e = cc

same-accepted : (a b : Option Accepted) → kind_told a ≡ kind_told b → slot_told a ≡ slot_told b → a ≡ b
same-accepted None None k s = refl
same-accepted None (Some b) k s = absurd (no-kind b.kind k)
same-accepted (Some a) None k s = absurd (no-kind a.kind (sym k))
same-accepted (Some a) (Some b) k s = ap₂ (λ (x : Kind) (slot : ℕ). Some (record { kind = x; slot = slot })) (same-kind a.kind b.kind k) s

same-done : (d g : AtFront Done) → kind_told d.value.notification ≡ kind_told g.value.notification → slot_told d.value.notification ≡ slot_told g.value.notification
    → d.length ≡ g.length → d.value.book ≡ g.value.book → d ≡ g
same-done d g k s l b =
    let a = same-accepted d.value.notification g.value.notification k s in
    λ i. record { length = l i; value = record { notification = a i; book = b i } }

pub same-applied : (b : Book) (r s : Result (AtFront Done) Fault) → applied_seen b r ≡ applied_seen b s → r ≡ s
same-applied b (Ok d) (Ok g) e =
    ap Ok (same-done d g (ap (λ (x : Applied). x.kind) e) (ap (λ (x : Applied). x.slot) e) (ap (λ (x : Applied). x.length) e) (ap (λ (x : Applied). x.book) e))
same-applied b (Ok d) (Err g) e = never-done g.refusal (sym (ap (λ (x : Applied). x.answer) e))
same-applied b (Err f) (Ok g) e = never-done f.refusal (ap (λ (x : Applied). x.answer) e)
same-applied b (Err f) (Err g) e = ap Err (same-fault f g (ap (λ (x : Applied). x.answer) e) (ap (λ (x : Applied). x.place) e))
