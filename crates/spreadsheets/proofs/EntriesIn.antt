-- The entries in a struct, by their places; and that the struct of entries holds them.
use mathlib.Core.List.{List}
use mathlib.Core.Path.{◌≡◌, refl, sym, ap}
use Prim.Native.Nat.{ℕ, ◌≤◌, ◌<◌}
use native.Mathlib.Omega.{arith}
use lib.ListN.{length, get_or}
use Rattle.words.specs.Lists.{every, build}
use Rattle.words.specs.Below.{every_below}
use Rattle.laws.proofs.Builds.{length-build, get_or-build, is-build, every-build}
use Rattle.meaning.specs.Ledgers.{contracts}
use Rattle.meaning.specs.Messages as Meaning
use Rattle.messages.specs.Structs.{no_entry, no_entry_meant, entry_of, entry_for, entries_of}
use Rattle.spreadsheets.specs.Structs.{entries_in, spreadsheet_for}
use Rattle.spreadsheets.specs.Writing.{writable}
use Rattle.spreadsheets.specs.declared.Spreadsheet.{Spreadsheet}

module _ (x : Spreadsheet) where
  pub entries-count : length (entries_in x) ≡ x.count
  unfolding entries_in entries_of
  entries-count = length-build x.count (λ (k : ℕ). entry_of (get_or x.entries k no_entry))

  pub entry_at : (k : ℕ) → k < x.count → get_or (entries_in x) k no_entry_meant ≡ entry_of (get_or x.entries k no_entry)
  unfolding entries_in entries_of
  entry_at k h = get_or-build x.count (λ (j : ℕ). entry_of (get_or x.entries j no_entry)) no_entry_meant k h

  pub every-entry : every writable (entries_in x) ≡ every_below x.count (λ (k : ℕ). writable (entry_of (get_or x.entries k no_entry)))
  unfolding entries_in entries_of
  every-entry = every-build writable x.count (λ (k : ℕ). entry_of (get_or x.entries k no_entry))

-- the struct of at most 50 entries holds them
pub entries-held : (es : List (Meaning.Entry contracts)) → length es ≤ 50 → entries_in (spreadsheet_for es) ≡ es
unfolding entries_in entries_of spreadsheet_for
entries-held es h =
    sym (is-build (length es) (λ (k : ℕ). entry_of (get_or (build 50 (λ (j : ℕ). entry_for (get_or es j no_entry_meant))) k no_entry)) no_entry_meant es refl
    (λ k l. sym (ap entry_of (get_or-build 50 (λ (j : ℕ). entry_for (get_or es j no_entry_meant)) no_entry k (omega arith)))))
