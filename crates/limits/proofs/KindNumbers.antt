-- A kind's number is not 0 and tells the kind, so no two kinds, found or not, have the same number.
use Rattle.std.proofs.Common.{◌≡◌, refl, ap}
use Rattle.std.specs.Prelude.{Option, Some, None}
use Rattle.limits.specs.declared.kinds.Kind.{Kind}
use Rattle.limits.specs.declared.kinds.Kind.TheVariants.{Initial, Replacement, Additional}
use Rattle.limits.specs.Kinds.{number_of_kind, number_found}

pub same-kind : (k l : Kind) → number_of_kind k ≡ number_of_kind l → k ≡ l
same-kind Initial Initial e = refl
same-kind Initial Replacement e = cc
same-kind Initial Additional e = cc
same-kind Replacement Initial e = cc
same-kind Replacement Replacement e = refl
same-kind Replacement Additional e = cc
same-kind Additional Initial e = cc
same-kind Additional Replacement e = cc
same-kind Additional Additional e = refl

pub same-found : (k l : Option Kind) → number_found k ≡ number_found l → k ≡ l
same-found None None e = refl
same-found None (Some Initial) e = cc
same-found None (Some Replacement) e = cc
same-found None (Some Additional) e = cc
same-found (Some Initial) None e = cc
same-found (Some Replacement) None e = cc
same-found (Some Additional) None e = cc
same-found (Some k) (Some l) e = ap Some (same-kind k l e)
