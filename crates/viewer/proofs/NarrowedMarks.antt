-- What is shown of an identifier is what the narrowed numbers show: a number out of every book is refused like its limit.
use mathlib.Core.Bool.{Bool, true, false, cond, ◌&&◌}
use mathlib.Core.List.{List}
use mathlib.Core.Path.{◌≡◌, ◌∙◌}
use Prim.Native.Nat.{ℕ, ◌*◌, ◌≤◌, min}
use lib.Ieee.{Float}
use lib.ListN.{length}
use Rattle.std.specs.Prelude.{if◌then◌else◌}
use Rattle.words.specs.Tests.{◌<?◌, between}
use Rattle.words.specs.Rules.{answer}
use Rattle.laws.proofs.Cases.{on, and-false}
use Rattle.meaning.specs.Time.{has_day, is_period}
use Rattle.meaning.specs.Authorisations.{row_at, in_pair}
use Rattle.meaning.specs.Ledgers.{contracts, identifier_of, originator_of, is_held}
use Rattle.meaning.specs.Settings.{has_account}
use Rattle.meaning.specs.Books.{Book}
use Rattle.meaning.specs.Soundness.{sound}
use Rattle.meaning.specs.Bars.{mark_rules, seen_bar, mark}
use Rattle.meaning.specs.Rows.{row_rules}
use Rattle.bar.specs.Figures.{case_of, first_of, second_of}
use Rattle.marks.specs.Marks.{refused_mark, marked, day_mark_rules, day_marked}
use Rattle.marks.specs.Rows.{row_place}
use Rattle.marks.specs.declared.RowPlace.{RowPlace}
use Rattle.viewer.specs.Asked.{named}
use Rattle.viewer.proofs.OutOfBook.{no-account, no-day, no-period, no-period-of-day, no-side, none-held}
use Rattle.viewer.proofs.Narrowed.{narrowed, narrowed-identifier}

module _ (b : Book contracts) where
  -- the answers where the identifier is out of the book, where the account is, and where the day, the period or the side is
  abbrev without_identifier : ℕ
  without_identifier = cond (sound b) 25 1

  abbrev without_account : ℕ → ℕ
  without_account i = cond (sound b) (cond (is_held b.ledger.held i) 15 25) 1

  abbrev of_pair : ℕ → ℕ → Bool
  of_pair i account = has_account b.setting account && in_pair (row_at b.setting.rows (originator_of i)) account

  abbrev without_day : ℕ → ℕ → ℕ
  without_day i account = cond (sound b) (cond (is_held b.ledger.held i) (cond (of_pair i account) 16 15) 25) 1

  abbrev without_side : ℕ → ℕ
  without_side i = cond (sound b) (cond (is_held b.ledger.held i) 16 25) 1

  -- ---- a mark

  mark-no-identifier : (account D period i : ℕ) → 64 * 65536 ≤ i → marked b i account D period ≡ refused_mark without_identifier
  unfolding answer mark_rules seen_bar mark marked
  mark-no-identifier account D period i l = on (sound b) (λ s. rw (s, none-held b s i l)) (λ s. rw s)

  mark-no-account : (i D period account : ℕ) → 255 ≤ account → marked b i account D period ≡ refused_mark (without_account i)
  unfolding answer mark_rules seen_bar mark marked
  mark-no-account i D period account l =
      on (sound b) (λ s. on (is_held b.ledger.held i) (λ h. rw (s, h, no-account b s account l)) (λ h. rw (s, h))) (λ s. rw s)

  mark-no-period : (i account D period : ℕ) → (sound b ≡ true → is_period b.setting.time D period ≡ false)
      → marked b i account D period ≡ refused_mark (without_day i account)
  unfolding answer mark_rules seen_bar mark marked
  mark-no-period i account D period none =
      on (sound b)
      (λ s. on (is_held b.ledger.held i)
      (λ h. on (of_pair i account) (λ p. rw (s, h, p, none s)) (λ p. rw (s, h, p)))
      (λ h. rw (s, h)))
      (λ s. rw s)

  -- ---- the marks of a day, and what is left of the three buffers

  module _ (cases : List ℕ) (firsts seconds : List Float) where
    abbrev pub day_marks : ℕ → ℕ → ℕ → ℕ × List ℕ × List Float × List Float
    day_marks i account D =
        let a = answer (day_mark_rules b i account D (length cases) (length firsts) (length seconds)) in
        (a, day_marked case_of b i account D a cases, day_marked first_of b i account D a firsts, day_marked second_of b i account D a seconds)

    abbrev untouched : ℕ → ℕ × List ℕ × List Float × List Float
    untouched n = (n, cases, firsts, seconds)

    day-marks-no-identifier : (account D i : ℕ) → 64 * 65536 ≤ i → day_marks i account D ≡ untouched without_identifier
    unfolding answer day_mark_rules day_marked
    day-marks-no-identifier account D i l = on (sound b) (λ s. rw (s, none-held b s i l)) (λ s. rw s)

    day-marks-no-account : (i D account : ℕ) → 255 ≤ account → day_marks i account D ≡ untouched (without_account i)
    unfolding answer day_mark_rules day_marked
    day-marks-no-account i D account l =
        on (sound b) (λ s. on (is_held b.ledger.held i) (λ h. rw (s, h, no-account b s account l)) (λ h. rw (s, h))) (λ s. rw s)

    day-marks-no-day : (i account D : ℕ) → 65535 ≤ D → day_marks i account D ≡ untouched (without_day i account)
    unfolding answer day_mark_rules day_marked
    day-marks-no-day i account D l =
        on (sound b)
        (λ s. on (is_held b.ledger.held i)
        (λ h. on (of_pair i account) (λ p. rw (s, h, p, no-day b s D l)) (λ p. rw (s, h, p)))
        (λ h. rw (s, h)))
        (λ s. rw s)

  -- ---- the refusal of a row, and where it lies

  abbrev pub row_asked : ℕ → ℕ → ℕ → ℕ × RowPlace
  row_asked i D side = (answer (row_rules b i D side), row_place b i D side)

  abbrev no_row : ℕ → ℕ × RowPlace
  no_row n = (n, record { answer = n; start = 0; length = 0 })

  row-no-identifier : (D side i : ℕ) → 64 * 65536 ≤ i → row_asked i D side ≡ no_row without_identifier
  unfolding answer row_rules row_place
  row-no-identifier D side i l = on (sound b) (λ s. rw (s, none-held b s i l)) (λ s. rw s)

  row-no-day-or-side : (i D side : ℕ) → (sound b ≡ true → has_day b.setting.time D && between 1 2 side ≡ false) → row_asked i D side ≡ no_row (without_side i)
  unfolding answer row_rules row_place
  row-no-day-or-side i D side none =
      on (sound b) (λ s. on (is_held b.ledger.held i) (λ h. rw (s, h, none s)) (λ h. rw (s, h))) (λ s. rw s)

  module _ (originator reference : ℕ) where
    abbrev identifier : ℕ
    identifier = named originator reference

    module _ {o r : ℕ} (eo : o ≡ (if reference <? 65536 then min originator 255 else 255)) (er : r ≡ min reference 65535) where
      pub mark-narrowed : (account D period : ℕ) {a d p : ℕ} → a ≡ min account 255 → d ≡ min D 65535 → p ≡ min period 255
          → marked b (identifier_of o r) a d p ≡ marked b identifier account D period
      mark-narrowed account D period {a} {d} {p} ea ed ep =
          narrowed-identifier (λ (i : ℕ). marked b i a d p) originator reference (mark-no-identifier a d p) eo er
          ∙ narrowed (λ (k : ℕ). marked b identifier k d p) (mark-no-account identifier d p) ea
          ∙ narrowed (λ (k : ℕ). marked b identifier account k p) (λ k l. mark-no-period identifier account k p (λ s. no-period-of-day b s k p l)) ed
          ∙ narrowed (λ (k : ℕ). marked b identifier account D k) (λ k l. mark-no-period identifier account D k (λ s. no-period b.setting.time D k l)) ep

      pub day-marks-narrowed : (cases : List ℕ) (firsts seconds : List Float) (account D : ℕ) {a d : ℕ} → a ≡ min account 255 → d ≡ min D 65535
          → day_marks cases firsts seconds (identifier_of o r) a d ≡ day_marks cases firsts seconds identifier account D
      day-marks-narrowed cases firsts seconds account D {a} {d} ea ed =
          let f = day_marks cases firsts seconds in
          narrowed-identifier (λ (i : ℕ). f i a d) originator reference (day-marks-no-identifier cases firsts seconds a d) eo er
          ∙ narrowed (λ (k : ℕ). f identifier k d) (day-marks-no-account cases firsts seconds identifier d) ea
          ∙ narrowed (f identifier account) (day-marks-no-day cases firsts seconds identifier account) ed

      pub row-narrowed : (D side : ℕ) {d s : ℕ} → d ≡ min D 65535 → s ≡ min side 255 → row_asked (identifier_of o r) d s ≡ row_asked identifier D side
      row-narrowed D side {d} {s} ed es =
          narrowed-identifier (λ (i : ℕ). row_asked i d s) originator reference (row-no-identifier d s) eo er
          ∙ narrowed (λ (k : ℕ). row_asked identifier k s) (λ k l. row-no-day-or-side identifier k s (λ q. rw (no-day b q k l))) ed
          ∙ narrowed (row_asked identifier D) (λ k l. row-no-day-or-side identifier D k (λ q. rw (no-side k l) (and-false (has_day b.setting.time D)))) es
