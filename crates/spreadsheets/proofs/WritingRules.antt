-- What writing answers, refusal by refusal; and where it is done, what it leaves is a valid file that holds the same entries.
use mathlib.Core.Bool.{Bool, true, false, not, ◌&&◌, ◌||◌}
use mathlib.Core.List.{List}
use mathlib.Core.Logic.{◌≢◌}
use mathlib.Core.Path.{◌≡◌}
use Prim.Native.Nat.{ℕ, ◌≤◌, ◌<◌}
use native.Mathlib.Omega.{arith}
use lib.ListN.{length, take}
use lib.Seq.{sets}
use borrow.Author.Tests.{lt-ltb, le-ltb, leb-true, lt-leb, le-leb}
use Rattle.words.specs.Lists.{every}
use Rattle.words.specs.Rules.{answer}
use Rattle.words.specs.Tests.{◌<?◌, ◌≤?◌}
use Rattle.laws.proofs.Cases.{on, by-lt, and_left, and_right}
use Rattle.laws.proofs.Stores.{take-front}
use Rattle.meaning.specs.Ledgers.{contracts}
use Rattle.meaning.specs.Messages.{Entry}
use Rattle.spreadsheets.specs.Entries.{entries}
use Rattle.spreadsheets.specs.Refusals.{valid, File}
use Rattle.spreadsheets.specs.Writing.{written, writable, writing_rules, write_spreadsheet}
use Rattle.spreadsheets.proofs.ReadBack.{read_back}
use Rattle.spreadsheets.proofs.WrittenFile.{written-file}
use Rattle.spreadsheets.proofs.WrittenLength.{written-length}

-- at most 50 entries, and each writable
abbrev pub all_writable : List (Entry contracts) → Bool
all_writable es = length es ≤? 50 && every writable es

module _ (es : List (Entry contracts)) where
  pub few : all_writable es ≡ true → length es ≤ 50
  few t = leb-true (length es) 50 (and_left (length es ≤? 50) (every writable es) t)

  -- the same as the first rule has it
  first-rule : (t : Bool) → all_writable es ≡ t → 50 <? length es || not (every writable es) ≡ not t
  first-rule t e =
      by-lt 50 (length es)
      (λ h. rw (lt-ltb 50 (length es) h, ← e, lt-leb (length es) 50 h))
      (λ h. rw (le-ltb 50 (length es) h, ← e, le-leb (length es) 50 h))

  module _ (out : List ℕ) where
    pub refused-23 : all_writable es ≡ false → write_spreadsheet es out ≡ record { answer = 23; length = 0; out = out }
    unfolding write_spreadsheet writing_rules answer
    refused-23 e = rw (first-rule false e)

    pub refused-24 : all_writable es ≡ true → length out < length (written es) → write_spreadsheet es out ≡ record { answer = 24; length = 0; out = out }
    unfolding write_spreadsheet writing_rules answer
    refused-24 e h = rw (first-rule true e, lt-ltb (length out) (length (written es)) h)

    pub writing-done : all_writable es ≡ true → length (written es) ≤ length out
        → write_spreadsheet es out ≡ record { answer = 0; length = length (written es); out = sets out 0 (written es) }
    unfolding write_spreadsheet writing_rules answer
    writing-done e h = rw (first-rule true e, le-ltb (length out) (length (written es)) h)

    -- ---- where it is done

    pub done-why : (write_spreadsheet es out).answer ≡ 0 → (all_writable es ≡ true) × (length (written es) ≤ length out)
    done-why e =
        on (all_writable es)
        (λ t. by-lt (length out) (length (written es))
        (λ h. absurd (omega (arith, rw (refused-24 t h) at e)))
        (λ h. (t, h)))
        (λ t. absurd (omega (arith, rw (refused-23 t) at e)))

-- ---- THE ROUND TRIP: what was written is a valid file, holds the same entries, and is not longer than 711 bytes

pub record ReadsBack (es : List (Entry contracts)) (bytes : List ℕ) : Type 0 where
  pub file : File valid bytes
  pub same : entries bytes ≡ es
  pub most : length bytes ≤ 711

module _ (es : List (Entry contracts)) where
  pub reads-back : all_writable es ≡ true → ReadsBack es (written es)
  reads-back t =
      let each = and_right (length es ≤? 50) (every writable es) t in
      record { file = written-file es each (few es t); same = read_back es; most = written-length es each (few es t) }

  pub written-reads : (out : List ℕ) → (write_spreadsheet es out).answer ≡ 0 → ReadsBack es (take (write_spreadsheet es out).length (write_spreadsheet es out).out)
  written-reads out e =
      let (t, h) = done-why es out e in
      rw (writing-done es out t h, take-front out (written es) h) (reads-back t)

  -- so 711 bytes are always room enough
  pub never-24 : (out : List ℕ) → 711 ≤ length out → (write_spreadsheet es out).answer ≢ 24
  never-24 out room e =
      on (all_writable es)
      (λ t. omega (arith, rw (writing-done es out t (omega (arith, (reads-back t).most))) at e))
      (λ t. omega (arith, rw (refused-23 es out t) at e))
