-- One position: of what the questions answer, an account's total is the sum, over the slots, of what their marks show it as Agreed.
use mathlib.Core.List.{List}
use mathlib.Core.Path.{◌≡◌, sym, ap, ◌∙◌}
use Prim.Native.Nat.{ℕ}
use lib.IntN.{ℤ}
use lib.ListN.{length, get_or}
use Rattle.words.specs.Below.{sum_belowℤ}
use Rattle.meaning.specs.Ledgers.{contracts}
use Rattle.meaning.specs.Books as Meaning
use Rattle.meaning.specs.Totals.{mwh}
use Rattle.meaning.specs.Bars.{map_bar, seen_bar, mark}
use Rattle.meaning.proofs.Shown.{shown_in, total-is-shown}
use Rattle.book.specs.declared.Book.{Book}
use Rattle.book.specs.Structs.{book_of}
use Rattle.position.specs.Totals.{totalled}
use Rattle.position.specs.declared.Totalled.{Totalled}
use Rattle.bar.specs.Figures.{bar_for}
use Rattle.marks.specs.Marks.{Marked, marked}

module _ (b : Book) (held : List ℕ) (side1 side2 : List ℤ) (account D period : ℕ) where
  abbrev whole : Meaning.Book contracts
  whole = book_of b held side1 side2

  -- what `total` answers; `shown_in` is what a slot's mark shows as Agreed, in whole kWh, and nothing of any other mark
  pub total-shown : (r : Totalled) → r ≡ totalled whole account D period → r.answer ≡ 0
      → r.kwh ≡ sum_belowℤ (length held) (λ slot. shown_in whole account D period (get_or held slot 0))
  unfolding totalled
  total-shown r p e =
      ap (λ (x : Totalled). x.kwh) p ∙ total-is-shown whole account D period (sym (ap (λ (x : Totalled). x.answer) p) ∙ e)

  -- what `mark` shows is that very bar in MWh
  pub mark-shown : (i : ℕ) (r : Marked) → r ≡ marked whole i account D period → r.bar ≡ bar_for (map_bar mwh (seen_bar whole i account D period))
  unfolding marked mark
  mark-shown i r p = ap (λ (x : Marked). x.bar) p
