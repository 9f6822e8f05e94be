-- Rule by rule: each refusal's test is the rule's.
use Prim.Native.Nat.{◌<◌}
use borrow.Author.Tests.{lt-ltb, le-ltb}
use Rattle.std.proofs.Common.{rules}
use native.Mathlib.Omega.{arith}
use mathlib.Core.Bool.{true}
use mathlib.Core.Path.{◌≡◌, sym, ap, ◌∙◌}
use Rattle.meaning.specs.Time.{Time, has_day}
use Rattle.meaning.specs.Ledgers.{contracts}
use Rattle.meaning.specs.Books as Meaning
use Rattle.meaning.specs.Soundness.{sound}
use Rattle.meaning.specs.Totals.{figures_rules}
use Rattle.words.specs.Rules.{answer}
use Rattle.book.specs.Structs.{time_in, book_seen}
use Rattle.book.proofs.SoundParts.{codes-count}
use Rattle.book.proofs.StateLaws.{clock-time}
use Rattle.position.proofs.TotalLaws.{asked, day-asked, unsound-refused, account-refused, day-refused, none-refuses}
use Rattle.position.proofs.counting.day_asked.Goals as goal
use Rattle.position.proofs.counting.day_asked.Goals.{After-has_day, Else-not-has_day, Else-not-is_sound, Start}

abbrev whole : Start → Meaning.Book contracts
whole s = book_seen s.args.view

pub returns-then-not-is_sound-clause-refusal : goal.returns-then-not-is_sound-clause-refusal
returns-then-not-is_sound-clause-refusal c =
    unsound-refused (book_seen c.args.view) c.args.account c.args.day (sym c.is_sound.ensures ∙ c.if-not-is_sound.true)

-- past the first test
held-sound : (c : Else-not-is_sound) → sound (whole (goal.at.Else-not-is_sound c).Start) ≡ true
held-sound c = sym c.is_sound.ensures ∙ c.if-not-is_sound.false

pub returns-then-view-account-clause-refusal : goal.returns-then-view-account-clause-refusal
returns-then-view-account-clause-refusal c =
    let a = c.args in
    account-refused (book_seen a.view) a.account a.day (held-sound (goal.at.returns-then-view-account-clause-refusal c).Else-not-is_sound) (le-ltb a.account a.view.book.setup.accounts c.if-view-account.true)

-- the book's days
day-there : (c : After-has_day) → c.has_day.result ≡ has_day (time_in c.args.view.book) c.args.day
day-there c =
    c.has_day.ensures ∙ ap (λ (t : Time). has_day t c.args.day) (clock-time c.args.view.book c.clock_of.ensures)

pub returns-then-not-has_day-clause-refusal : goal.returns-then-not-has_day-clause-refusal
returns-then-not-has_day-clause-refusal c =
    let a = c.args in
    day-refused (book_seen a.view) a.account a.day (held-sound (goal.at.returns-then-not-has_day-clause-refusal c).Else-not-is_sound) (lt-ltb a.account a.view.book.setup.accounts c.if-view-account.false) (sym (day-there (goal.at.returns-then-not-has_day-clause-refusal c).After-has_day) ∙ c.if-not-has_day.true)

-- past all three
none : (c : Else-not-has_day) → 0 ≡ answer (figures_rules (book_seen c.args.view) c.args.account c.args.day)
none c =
    let a = c.args in
    none-refuses (book_seen a.view) a.account a.day (held-sound (goal.at.Else-not-has_day c).Else-not-is_sound) (lt-ltb a.account a.view.book.setup.accounts c.if-view-account.false) (sym (day-there (goal.at.Else-not-has_day c).After-has_day) ∙ c.if-not-has_day.false)

pub overflow_cast-place : goal.overflow_cast-place
overflow_cast-place c =
    let a = c.args in
    let few : a.view.book.setup.days < 256 = search rules in
    omega (arith, few, (asked (book_seen a.view) a.account a.day (none (goal.at.overflow_cast-place c).Else-not-has_day)).inside, codes-count a.view.book)

pub returns-clause-refusal : goal.returns-clause-refusal
returns-clause-refusal c = none (goal.at.returns-clause-refusal c).Else-not-has_day

pub invariant_of-result : goal.invariant_of-result
invariant_of-result c =
    let a = c.args in
    record { asked = day-asked (book_seen a.view) a.account a.day (asked (book_seen a.view) a.account a.day (none c)) }
