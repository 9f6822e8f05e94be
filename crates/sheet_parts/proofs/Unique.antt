-- No two different outcomes satisfy one promise of `sheets`: the result, and each table and buffer left.
use Rattle.std.proofs.Common.{◌≡◌, ℕ, Bool, List, ℤ}
use Rattle.laws.proofs.Cases.{one-outcome}
use Rattle.laws.proofs.Promises.{OneResult}
use Rattle.book.specs.declared.Book.{Book}
use Rattle.book.proofs.OpeningLaws.{same-opened-packed}
use Rattle.sheet_parts.specs.Promises.{Begins, Turns, Keeps, PutsAccountDay}
use Rattle.sheet_parts.specs.Seen.{Begun, begun_seen}
use Rattle.sheet_parts.specs.declared.Begun as Given
use Rattle.sheet_parts.specs.declared.Turned.{Turned}
use Rattle.sheet_parts.proofs.beginning.lent_for.Reads as lent-for
use Rattle.sheet_parts.proofs.totals.account_days.Reads as account-days

pub unique-lent-for : OneResult lent-for.Post
unique-lent-for κs a r r' s s' p q = one-outcome p.0 q.0

pub unique-account-days : OneResult account-days.Post
unique-account-days κs a r r' s s' = one-outcome

pub unique-keep : (used have : ℕ) (input left left' : List ℕ) (r r' : ℕ) → Keeps used have input left r → Keeps used have input left' r' → (left ≡ left') × (r ≡ r')
unique-keep used have input left left' r r' p q = (one-outcome p.0 q.0, one-outcome p.1 q.1)

pub unique-put-account-day : (b : Book) (held : List ℕ) (side1 side2 : List ℤ) (k : ℕ) (out left left' : List ℕ) (r r' : ℕ)
    → PutsAccountDay b held side1 side2 k out left r → PutsAccountDay b held side1 side2 k out left' r' → (left ≡ left') × (r ≡ r')
unique-put-account-day b held side1 side2 k out left left' r r' p q = (one-outcome p.0 q.0, one-outcome p.1 q.1)

-- a beginning as the meaning tells it tells all of the code's
pub begun-tells : (g h : Given.Begun) → begun_seen g ≡ begun_seen h → g ≡ h
begun-tells g h e =
    let same = same-opened-packed g.opened h.opened (λ i. record { answer = (e i).answer; length = (e i).used; book = (e i).book }) in
    λ i. record { opened = same i; written = (e i).written }

pub unique-begin : (bytes held : List ℕ) (side1 side2 : List ℤ) (out : List ℕ) (r r' : Begun) (h h' : List ℕ) (l1 l1' l2 l2' : List ℤ) (text text' : List ℕ)
    → Begins bytes held side1 side2 out r h l1 l2 text → Begins bytes held side1 side2 out r' h' l1' l2' text' → (r ≡ r') × (h ≡ h') × (l1 ≡ l1') × (l2 ≡ l2') × (text ≡ text')
unique-begin bytes held side1 side2 out r r' h h' l1 l1' l2 l2' text text' p q =
    (one-outcome p.0 q.0, one-outcome p.1 q.1, one-outcome p.2 q.2, one-outcome p.3 q.3, one-outcome p.4 q.4)

module _ (b : Book) (seen : ℕ) (bytes : List ℕ) (ended : Bool) (held : List ℕ) (side1 side2 : List ℤ) (answers places out : List ℕ) where
  abbrev Taken : Turned → List ℕ → List ℤ → List ℤ → List ℕ → List ℕ → List ℕ → Type 0
  Taken = Turns b seen bytes ended held side1 side2 answers places out

  pub unique-turn : (r r' : Turned) (h h' : List ℕ) (l1 l1' l2 l2' : List ℤ) (answers-left answers-left' places-left places-left' text text' : List ℕ)
      → Taken r h l1 l2 answers-left places-left text → Taken r' h' l1' l2' answers-left' places-left' text'
      → (r ≡ r') × (h ≡ h') × (l1 ≡ l1') × (l2 ≡ l2') × (answers-left ≡ answers-left') × (places-left ≡ places-left') × (text ≡ text')
  unique-turn r r' h h' l1 l1' l2 l2' answers-left answers-left' places-left places-left' text text' p q =
      (one-outcome p.0 q.0, one-outcome p.1 q.1, one-outcome p.2 q.2, one-outcome p.3 q.3, one-outcome p.4 q.4, one-outcome p.5 q.5, one-outcome p.6 q.6)
