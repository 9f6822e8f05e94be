-- A pattern's derivative by a byte (Brzozowski 1964): what must follow that byte. So a string begins a match exactly where the derivative
-- by its bytes, one after the other, still matches something, and that is computed.
use mathlib.Core.Bool.{Bool, true, false, ◌&&◌, ◌||◌}
use mathlib.Core.List.{List, [], ◌∷◌, ◌++◌}
use Prim.Native.Nat.{ℕ}
use lib.ListN.{length}
use Rattle.std.specs.Prelude.{if◌then◌else◌}
use Rattle.words.specs.Tests.{◌≤?◌}
use Rattle.patterns.specs.Patterns.{Range, ◌to◌, Pattern, never, empty, one, ◌·◌, ◌∣◌, many, is_one_of}

-- the empty string matches
unfoldable pub nullable : Pattern → Bool
nullable never = false
nullable empty = true
nullable (one ranges) = false
nullable (p · q) = nullable p && nullable q
nullable (p ∣ q) = nullable p || nullable q
nullable (many p) = true

abbrev pub lowest : List Range → ℕ
lowest [] = 0
lowest (low to high ∷ ranges) = low

-- some string matches
unfoldable pub possible : Pattern → Bool
possible never = false
possible empty = true
possible (one ranges) = is_one_of ranges (lowest ranges)
possible (p · q) = possible p && possible q
possible (p ∣ q) = possible p || possible q
possible (many p) = true

-- such a string, with as little as can be
unfoldable pub example : Pattern → List ℕ
example never = []
example empty = []
example (one ranges) = lowest ranges ∷ []
example (p · q) = example p ++ example q
example (p ∣ q) = if possible q && length (example q) ≤? length (example p) then example q else (if possible p then example p else example q)
example (many p) = []

unfoldable pub is_never : Pattern → Bool
is_never never = true
is_never empty = false
is_never (one ranges) = false
is_never (p · q) = false
is_never (p ∣ q) = false
is_never (many p) = false

-- p · q and p ∣ q, with what says nothing left out and sequences leaning to the right, so that equal states look equal
unfoldable pub after : Pattern → Pattern → Pattern
after never q = never
after empty q = q
after (one ranges) q = one ranges · q
after (a · b) q = after a (after b q)
after (a ∣ b) q = (a ∣ b) · q
after (many a) q = many a · q

unfoldable pub either : Pattern → Pattern → Pattern
either p q = if is_never p then q else (if is_never q then p else p ∣ q)

unfoldable pub derive : ℕ → Pattern → Pattern
derive b never = never
derive b empty = never
derive b (one ranges) = if is_one_of ranges b then empty else never
derive b (p · q) = if nullable p then either (after (derive b p) q) (derive b q) else after (derive b p) q
derive b (p ∣ q) = either (derive b p) (derive b q)
derive b (many p) = after (derive b p) (many p)

unfoldable pub derives : List ℕ → Pattern → Pattern
derives [] p = p
derives (b ∷ s) p = derives s (derive b p)
