-- The number of a notification's kind, and of one that may not have been found: 0 is none.
use Rattle.std.specs.Prelude.{ℕ, Option, Some, None}
use Rattle.limits.specs.declared.kinds.Kind.{Kind}
use Rattle.limits.specs.declared.kinds.Kind.TheVariants.{Initial, Replacement, Additional}

abbrev pub number_of_kind : Kind → ℕ
number_of_kind Initial = 1
number_of_kind Replacement = 2
number_of_kind Additional = 3

abbrev pub number_found : Option Kind → ℕ
number_found None = 0
number_found (Some kind) = number_of_kind kind
