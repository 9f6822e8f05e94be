-- Where the two volumes do not match nothing counts; else the first is what the account sees, and no larger.
use mathlib.Core.Bool.{true, false}
use mathlib.Core.Path.{◌≡◌, sym, ap, ap₂, ◌∙◌}
use native.Mathlib.Omega.{arith}
use lib.IntN.{ℤ, pos}
use lib.ListN.{get_or}
use lib.Signed.{nat_abs-le}
use mir.Syntax.{w32, w64}
use Rattle.laws.proofs.Lists.{get_or-inside}
use Rattle.laws.proofs.Machine.{back}
use Rattle.meaning.specs.Ledgers.{the_mark}
use Rattle.meaning.specs.Totals.{matches, seen_by}
use Rattle.meaning.proofs.Counted.{seen-le}
use Rattle.setups.specs.Structs.{row_of}
use Rattle.position.specs.Counting.{counted_at}
use Rattle.position.proofs.counting.counted_at.Goals as goal
use Rattle.position.proofs.counting.counted_at.Goals.{After-is_matched, Start}

-- the volumes at the place
module _ (s : Start) where
  abbrev first : ℤ
  first = get_or s.args.side1.now s.args.place the_mark

  abbrev second : ℤ
  second = get_or s.args.side2.now s.args.place the_mark

  -- as the machine reads them; inside the tables its default is not asked for
  read1 : get_or s.args.side1.now s.args.place (pos 0) ≡ first
  read1 = get_or-inside s.args.side1.now s.args.place (pos 0) the_mark s.requires.0

  read2 : get_or s.args.side2.now s.args.place (pos 0) ≡ second
  read2 = get_or-inside s.args.side2.now s.args.place (pos 0) the_mark s.requires.1

matched : (c : After-is_matched) → c.is_matched.result ≡ matches (first (goal.at.After-is_matched c).Start) (second (goal.at.After-is_matched c).Start)
matched c =
    c.is_matched.ensures
    ∙ (ap₂ matches (back w32 _ c.v-1.given ∙ read1 (goal.at.After-is_matched c).Start) (back w32 _ c.w-1.given ∙ read2 (goal.at.After-is_matched c).Start))

pub returns-then-not-is_matched : goal.returns-then-not-is_matched
unfolding counted_at
returns-then-not-is_matched c =
    let e : matches (first (goal.at.returns-then-not-is_matched c).Start) (second (goal.at.returns-then-not-is_matched c).Start) ≡ false = sym (matched (goal.at.returns-then-not-is_matched c).After-is_matched) ∙ c.if-not-is_matched.true in
    (rw e, omega arith)

pub returns : goal.returns
unfolding counted_at
returns c =
    let origin = row_of c.args.row in
    let account = c.args.account in
    let v = first (goal.at.returns c).Start in
    let fits = c.v-1.given in
    let r = c.seen_by.result in
    let e : matches (first (goal.at.returns c).Start) (second (goal.at.returns c).Start) ≡ true = sym (matched (goal.at.returns c).After-is_matched) ∙ c.if-not-is_matched.false in
    let seen : r ≡ seen_by origin account v = c.seen_by.ensures ∙ ap (seen_by origin account) (back w32 _ fits ∙ read1 (goal.at.returns c).Start) in (
      back w64 r c.seen_by.type_inv ∙ seen ∙ rw e,
      rw (back w64 r c.seen_by.type_inv, seen) (omega (arith, seen-le origin v account, rw (read1 (goal.at.returns c).Start) at (nat_abs-le (get_or c.args.side1.now c.args.place (pos 0)) fits))),
    )
