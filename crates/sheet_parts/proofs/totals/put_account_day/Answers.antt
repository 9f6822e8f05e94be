-- The k-th account's day, where there are so many: its account and the number of its day.
use Rattle.std.proofs.Common.{◌*◌, ◌<◌, length, refl, ap, ◌∙◌, arith}
use Rattle.sheet_lines.specs.Places.{all_placed, place_after_all}
use Rattle.sheet_parts.proofs.AccountDays.{some-day, account-below, no-account-day, account-day}
use Rattle.sheet_parts.proofs.totals.put_account_day.Goals as goal
use Rattle.sheet_parts.proofs.totals.put_account_day.Goals.{Else-account_days-k}

pub returns-then-account_days-k : goal.returns-then-account_days-k
unfolding all_placed place_after_all
returns-then-account_days-k c =
    let v = c.args.view in
    rw (no-account-day v.book v.held.now v.side1.now v.side2.now c.args.k (omega (arith, c.if-account_days-k.true, c.account_days.ensures))) (refl, refl)

-- past the test there are so many
some : (c : Else-account_days-k) → let s = c.args.view.book.setup in c.args.k < s.accounts * s.days
some c = omega (arith, c.if-account_days-k.false, c.account_days.ensures)

pub nonzero_div-account : goal.nonzero_div-account
nonzero_div-account c = some-day _ _ _ (some (goal.at.nonzero_div-account c).Else-account_days-k)

pub overflow_cast-account : goal.overflow_cast-account
overflow_cast-account c =
    let few : c.args.view.book.setup.accounts < 256 = omega arith in
    record { fits = omega (arith, account-below _ _ _ (some (goal.at.overflow_cast-account c).Else-account_days-k), few) }

pub nonzero_rem-day : goal.nonzero_rem-day
nonzero_rem-day c = some-day _ _ _ (some (goal.at.nonzero_rem-day c).Else-account_days-k)

pub returns : goal.returns
returns c =
    let a = c.args in
    let v = a.view in
    let lines = account-day v.book v.held.now v.side1.now v.side2.now a.k (some (goal.at.returns c).Else-account_days-k) in
    let p = c.put_day.ensures in
    (p.0 ∙ ap (all_placed a.out.now 0) lines, p.1 ∙ ap (place_after_all (length a.out.now) 0) lines)
