-- The bar of what two sides hold, case by case.
use mathlib.Core.Bool.{true, false, ◌&&◌}
use mathlib.Core.Path.{◌≡◌}
use Prim.Native.Nat.{ℕ}
use lib.IntN.{ℤ}
use Rattle.laws.proofs.Cases.{and_left, and_right}
use Rattle.meaning.specs.Ledgers.{contracts, stands}
use Rattle.meaning.specs.Authorisations.{Authorisation}
use Rattle.meaning.specs.Totals.{matches, seen_by, mwh}
use Rattle.meaning.proofs.Bars as Bars
use Rattle.bar.specs.Figures.{bar_seen}
use Rattle.bar.specs.declared.Bar.TheVariants.{Blank, OneSide, Agreed, Disagreed}

-- ---- the bar of what the two sides hold

module _ (a : Authorisation) (account : ℕ) (v w : ℤ) where
  pub seen-agreed : matches v w ≡ true → bar_seen a account v w ≡ Agreed (mwh (seen_by a account v))
  unfolding bar_seen
  seen-agreed e = rw (Bars.matched-agreed v w e)

  pub seen-disagreed : matches v w ≡ false → stands contracts v && stands contracts w ≡ true
      → bar_seen a account v w ≡ Disagreed (mwh (seen_by a account v)) (mwh (seen_by a account w))
  unfolding bar_seen
  seen-disagreed m e =
      rw (Bars.both-disagreed v w (and_left (stands contracts v) (stands contracts w) e) (and_right (stands contracts v) (stands contracts w) e) m)

  pub seen-first-alone : stands contracts v ≡ true → stands contracts w ≡ false → bar_seen a account v w ≡ OneSide (mwh (seen_by a account v))
  unfolding bar_seen
  seen-first-alone p q = rw (Bars.first_alone v w p q)

  pub seen-second-alone : stands contracts v ≡ false → stands contracts w ≡ true → bar_seen a account v w ≡ OneSide (mwh (seen_by a account w))
  unfolding bar_seen
  seen-second-alone p q = rw (Bars.second-alone v w p q)

  pub seen-blank : stands contracts v ≡ false → stands contracts w ≡ false → bar_seen a account v w ≡ Blank
  unfolding bar_seen
  seen-blank p q = rw (Bars.neither-blank v w p q)
