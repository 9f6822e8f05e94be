-- The rules are asked of the struct. While its counts may be wrong only what both have is asked; then it holds the setup, and each return is the first rule met.
use borrow.Author.Tests.{lt-ltb, le-ltb}
use mathlib.Core.Bool.{Bool, false, ◌||◌}
use mathlib.Core.List.{List}
use mathlib.Core.Path.{◌≡◌, sym, ap, ◌∙◌}
use Prim.Native.Nat.{ℕ}
use lib.ListN.{length}
use Rattle.words.specs.Tests.{◌<?◌}
use Rattle.words.specs.Fields.{bytes_for}
use Rattle.laws.proofs.RuleByRule.{Answers, answered}
use Rattle.meaning.specs.Books.{code_wrong, some_row_wrong}
use Rattle.meaning.specs.PackedSetups.{setup_in, setup_layout_for, setup_layout_in}
use Rattle.setups.specs.Structs.{setup_of}
use Rattle.setups.specs.declared.Setup.{Setup}
use Rattle.setup_reading.proofs.ReadParts.{bounds-passed, bounds-same, bounds_wrong, layout-same}
use Rattle.setup_reading.proofs.content_refusal.Goals as goal
use Rattle.setup_reading.proofs.content_refusal.Goals.{After-lent_wrong, Else-counts_wrong-last_day_wrong, Start}

module _ (c : After-lent_wrong) where
  abbrev start : Start
  start = (goal.at.After-lent_wrong c).Start

  abbrev s : List ℕ
  s = start.args.bytes.now

  abbrev wrong : Bool
  wrong = bounds_wrong s start.args.slots start.args.lent1 start.args.lent2

  long : length s <? 5 ≡ false
  long = le-ltb (length s) 5 c.if-bytes-lt-HEAD_BYTES.false

  tested : c.counts_wrong.result || c.last_day_wrong.result || c.lent_wrong.result ≡ wrong
  tested =
      bounds-same s start.args.slots start.args.lent1 start.args.lent2 start.args.s
      start.requires
      c.counts_wrong.ensures
      c.last_day_wrong.ensures
      c.lent_wrong.ensures

-- what is known of the setup once its bounds have passed
module _ (c : Else-counts_wrong-last_day_wrong) where
  abbrev bytes : List ℕ
  bytes = s (goal.at.Else-counts_wrong-last_day_wrong c).After-lent_wrong

  abbrev setup : Setup
  setup = (start (goal.at.Else-counts_wrong-last_day_wrong c).After-lent_wrong).args.s

  passed : wrong (goal.at.Else-counts_wrong-last_day_wrong c).After-lent_wrong ≡ false
  passed = sym (tested (goal.at.Else-counts_wrong-last_day_wrong c).After-lent_wrong) ∙ c.if-counts_wrong-last_day_wrong.false

  held : setup_of setup ≡ setup_in bytes
  held =
      let a = (start (goal.at.Else-counts_wrong-last_day_wrong c).After-lent_wrong).args in
      bounds-passed a.bytes.now a.slots a.lent1 a.lent2 setup (start (goal.at.Else-counts_wrong-last_day_wrong c).After-lent_wrong).requires passed

  layout : setup_layout_for setup.days setup.authorisations ≡ setup_layout_in bytes
  layout =
      let a = (start (goal.at.Else-counts_wrong-last_day_wrong c).After-lent_wrong).args in
      layout-same a.bytes.now a.slots a.lent1 a.lent2 setup (start (goal.at.Else-counts_wrong-last_day_wrong c).After-lent_wrong).requires

  -- each test after them is the rule's
  short : {n : ℕ} {t : Bool} → n ≡ bytes_for (setup_layout_for setup.days setup.authorisations)
      → length bytes <? n ≡ t → length bytes <? bytes_for (setup_layout_in bytes) ≡ t
  short e q = ap (λ (n : ℕ). length bytes <? n) (sym (e ∙ ap bytes_for layout)) ∙ q

  codes : {r : Bool} → r ≡ code_wrong (setup_of setup) → code_wrong (setup_in bytes) ≡ r
  codes e = sym (e ∙ ap code_wrong held)

  rows : {r : Bool} → r ≡ some_row_wrong (setup_of setup) → some_row_wrong (setup_in bytes) ≡ r
  rows e = sym (e ∙ ap some_row_wrong held)

pub returns-then-bytes-lt-HEAD_BYTES : goal.returns-then-bytes-lt-HEAD_BYTES
returns-then-bytes-lt-HEAD_BYTES c =
    answered _ (Answers.met (lt-ltb (length c.args.bytes.now) 5 c.if-bytes-lt-HEAD_BYTES.true))

pub returns-then-counts_wrong-last_day_wrong : goal.returns-then-counts_wrong-last_day_wrong
returns-then-counts_wrong-last_day_wrong c =
    answered _ (Answers.passed (long (goal.at.returns-then-counts_wrong-last_day_wrong c).After-lent_wrong) (Answers.met (sym (tested (goal.at.returns-then-counts_wrong-last_day_wrong c).After-lent_wrong) ∙ c.if-counts_wrong-last_day_wrong.true)))

pub returns-then-bytes-bytes_for : goal.returns-then-bytes-bytes_for
returns-then-bytes-bytes_for c =
    answered _
    (Answers.passed (long (goal.at.returns-then-bytes-bytes_for c).After-lent_wrong)
    (Answers.passed (passed (goal.at.returns-then-bytes-bytes_for c).Else-counts_wrong-last_day_wrong)
    (Answers.met (short (goal.at.returns-then-bytes-bytes_for c).Else-counts_wrong-last_day_wrong c.bytes_for.ensures (lt-ltb (length (bytes (goal.at.returns-then-bytes-bytes_for c).Else-counts_wrong-last_day_wrong)) c.bytes_for.result c.if-bytes-bytes_for.true)))))

pub returns-then-code_wrong : goal.returns-then-code_wrong
returns-then-code_wrong c =
    answered _
    (Answers.passed (long (goal.at.returns-then-code_wrong c).After-lent_wrong)
    (Answers.passed (passed (goal.at.returns-then-code_wrong c).Else-counts_wrong-last_day_wrong)
    (Answers.passed (short (goal.at.returns-then-code_wrong c).Else-counts_wrong-last_day_wrong c.bytes_for.ensures (le-ltb (length (bytes (goal.at.returns-then-code_wrong c).Else-counts_wrong-last_day_wrong)) c.bytes_for.result c.if-bytes-bytes_for.false))
    (Answers.met (codes (goal.at.returns-then-code_wrong c).Else-counts_wrong-last_day_wrong c.code_wrong.ensures ∙ c.if-code_wrong.true)))))

pub returns-then-some_row_wrong : goal.returns-then-some_row_wrong
returns-then-some_row_wrong c =
    answered _
    (Answers.passed (long (goal.at.returns-then-some_row_wrong c).After-lent_wrong)
    (Answers.passed (passed (goal.at.returns-then-some_row_wrong c).Else-counts_wrong-last_day_wrong)
    (Answers.passed (short (goal.at.returns-then-some_row_wrong c).Else-counts_wrong-last_day_wrong c.bytes_for.ensures (le-ltb (length (bytes (goal.at.returns-then-some_row_wrong c).Else-counts_wrong-last_day_wrong)) c.bytes_for.result c.if-bytes-bytes_for.false))
    (Answers.passed (codes (goal.at.returns-then-some_row_wrong c).Else-counts_wrong-last_day_wrong c.code_wrong.ensures ∙ c.if-code_wrong.false)
    (Answers.met (rows (goal.at.returns-then-some_row_wrong c).Else-counts_wrong-last_day_wrong c.some_row_wrong.ensures ∙ c.if-some_row_wrong.true))))))

pub returns : goal.returns
returns c =
    answered _
    (Answers.passed (long (goal.at.returns c).After-lent_wrong)
    (Answers.passed (passed (goal.at.returns c).Else-counts_wrong-last_day_wrong)
    (Answers.passed (short (goal.at.returns c).Else-counts_wrong-last_day_wrong c.bytes_for.ensures (le-ltb (length (bytes (goal.at.returns c).Else-counts_wrong-last_day_wrong)) c.bytes_for.result c.if-bytes-bytes_for.false))
    (Answers.passed (codes (goal.at.returns c).Else-counts_wrong-last_day_wrong c.code_wrong.ensures ∙ c.if-code_wrong.false)
    (Answers.passed (rows (goal.at.returns c).Else-counts_wrong-last_day_wrong c.some_row_wrong.ensures ∙ c.if-some_row_wrong.false) Answers.none)))))
