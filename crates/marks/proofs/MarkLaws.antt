-- The mark that a period has where no rule refuses it.
use mathlib.Core.Bool.{true, false, not}
use mathlib.Core.Logic.{◌≢◌}
use mathlib.Core.Path.{◌≡◌, refl, sym, ap₂, ◌∙◌}
use Prim.Native.Nat.{ℕ}
use borrow.Author.Tests.{not-false}
use Rattle.words.specs.Rules.{◌when◌else◌, done, answer}
use Rattle.laws.proofs.Rules.{answer-none, earlier-answers, later-answers}
use Rattle.meaning.specs.Time.{days, day_of, is_period}
use Rattle.meaning.specs.Authorisations.{Authorisation, row_at}
use Rattle.meaning.specs.Ledgers.{contracts, at, originator_of, is_held, slot_of}
use Rattle.meaning.specs.Books.{Book}
use Rattle.meaning.specs.Soundness.{sound}
use Rattle.meaning.specs.Bars as Meaning
use Rattle.meaning.proofs.Bars as Bars
use Rattle.bar.specs.Figures.{bar_for, bar_seen}
use Rattle.bar.specs.declared.Bar.{Bar}
use Rattle.marks.specs.Marks.{Marked, refused_mark, marked, asking_rules}
use Rattle.bar.specs.declared.Bar.TheVariants.{Blank}

module _ (b : Book contracts) (i account : ℕ) where
  abbrev pub row_for : Authorisation
  row_for = row_at b.setting.rows (originator_of i)

  -- what the answer 0 to the rules that speak of no day has shown
  pub record Asks : Type 0 where
    pub is-sound : sound b ≡ true
    pub is-held : is_held b.ledger.held i ≡ true

  pub asks : answer (asking_rules b i account) ≡ 0 → Asks
  unfolding asking_rules
  asks e =
      let rules = asking_rules b i account in
      record {
        is-sound = not-false (sound b) (answer-none rules refl e 0);
        is-held = not-false (is_held b.ledger.held i) (answer-none rules refl e 1);
      }

  module _ (D period : ℕ) where
    abbrev pub mark_answer : ℕ
    mark_answer = answer (Meaning.mark_rules b i account D period)

    pub mark-earlier : answer (asking_rules b i account) ≢ 0 → answer (asking_rules b i account) ≡ mark_answer
    unfolding asking_rules Meaning.mark_rules
    mark-earlier n = sym (earlier-answers (asking_rules b i account) (16 when not (is_period b.setting.time D period) else done) n)

    pub mark-later : answer (asking_rules b i account) ≡ 0 → mark_answer ≡ answer (16 when not (is_period b.setting.time D period) else done)
    unfolding asking_rules Meaning.mark_rules
    mark-later e = later-answers (asking_rules b i account) (16 when not (is_period b.setting.time D period) else done) refl e

    pub mark-no-period : answer (asking_rules b i account) ≡ 0 → is_period b.setting.time D period ≡ false → 16 ≡ mark_answer
    unfolding answer
    mark-no-period e p = sym (mark-later e ∙ rw p)

    pub mark-done : answer (asking_rules b i account) ≡ 0 → is_period b.setting.time D period ≡ true → 0 ≡ mark_answer
    unfolding answer
    mark-done e p = sym (mark-later e ∙ rw p)

    pub mark-refused : mark_answer ≢ 0 → bar_for (Meaning.mark b i account D period) ≡ Blank
    unfolding Meaning.mark
    mark-refused n = rw (Bars.seen-refused b i D period account n)

    abbrev made : ℕ → Bar → Marked
    made n x = record { answer = n; bar = x }

    pub marked_refused : (n : ℕ) → n ≢ 0 → n ≡ mark_answer → refused_mark n ≡ marked b i account D period
    unfolding marked
    marked_refused n m e =
        ap₂ made e (sym (mark-refused (λ z. m (e ∙ z))))

    -- what stands in the two places, as the account sees it
    pub mark-answered : mark_answer ≡ 0
        → bar_for (Meaning.mark b i account D period)
        ≡ bar_seen row_for account
        (at contracts (days b.setting.time) b.ledger.side1 (slot_of b.ledger.held i) (day_of b.setting.time D) period)
        (at contracts (days b.setting.time) b.ledger.side2 (slot_of b.ledger.held i) (day_of b.setting.time D) period)
    unfolding Meaning.mark bar_seen
    mark-answered e = rw (Bars.seen-answered b i D period account e)
