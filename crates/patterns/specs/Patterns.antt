-- Patterns of byte strings, in which a grammar is written as its ABNF is (RFC 5234), and which strings match one.
use Rattle.std.specs.Prelude.{Bool, true, List, [], ◌∷◌, ◌++◌, ◌⊎◌, ◌≡◌, ℕ, zero, suc}
use Prim.Native.Char.{code}
use Prim.Native.String.{String, [] as []ˢ, ◌∷◌ as ◌∷ˢ◌}
use Rattle.words.specs.Lists.{any, join}
use Rattle.words.specs.Tests.{between}

-- the bytes from low to high
infix 70 ◌to◌
pub data Range : Type 0 where
  ◌to◌ : ℕ → ℕ → Range

infixr 60 ◌·◌
infixr 50 ◌∣◌
pub data Pattern : Type 0 where
  never : Pattern
  empty : Pattern
  one : List Range → Pattern
  ◌·◌ : Pattern → Pattern → Pattern
  ◌∣◌ : Pattern → Pattern → Pattern
  many : Pattern → Pattern

abbrev pub in_range : ℕ → Range → Bool
in_range b (low to high) = between low high b

-- the byte is in one of the ranges
unfoldable pub is_one_of : List Range → ℕ → Bool
is_one_of ranges b = any (in_range b) ranges

abbrev pub Each : {A : Type 0} → (A → Type 0) → List A → Type 0
Each P [] = Unit {0}
Each P (x ∷ xs) = P x × Each P xs

-- A string matches `never` in no case; `empty` where it has no byte; `one` by a byte of the ranges; `p · q` by a part that matches p and the rest q;
-- `p ∣ q` where it matches either; `many p` by parts, however many, that each match p.
abbrev pub Matches : Pattern → List ℕ → Type 0
Matches never s = ⊥
Matches empty s = s ≡ []
Matches (one ranges) s = (b : ℕ) × ((s ≡ b ∷ []) × (is_one_of ranges b ≡ true))
Matches (p · q) s = (u : List ℕ) × ((v : List ℕ) × ((s ≡ u ++ v) × (Matches p u × Matches q v)))
Matches (p ∣ q) s = Matches p s ⊎ Matches q s
Matches (many p) s = (parts : List (List ℕ)) × ((s ≡ join parts) × Each (λ u. Matches p u) parts)

-- ---- shorter

abbrev pub byte : ℕ → Pattern
byte b = one (b to b ∷ [])

abbrev pub word : String → Pattern
word []ˢ = empty
word (c ∷ˢ []ˢ) = byte (code c)
word (c ∷ˢ (d ∷ˢ w)) = byte (code c) · word (d ∷ˢ w)

abbrev pub optional : Pattern → Pattern
optional p = p ∣ empty

-- at most n of them
abbrev pub up_to : ℕ → Pattern → Pattern
up_to zero p = empty
up_to (suc n) p = optional (p · up_to n p)
