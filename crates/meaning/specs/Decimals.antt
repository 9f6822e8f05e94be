-- Numbers in decimal, as ASCII bytes.
use Rattle.std.specs.Prelude.{Bool, true, false, List, [], ◌∷◌, ◌++◌, ℕ, zero, suc, ◌+◌, ◌/◌, ◌%◌, ℤ, pos, negsuc}
use Rattle.words.specs.Tests.{◌<?◌}
use Rattle.meaning.specs.Ascii.{ascii}

-- the byte of the digit d: "0" is 48
abbrev pub digit : ℕ → ℕ
digit d = 48 + d

-- the digits of n, most significant first, of which there are no more than `most`; `single` says whether n is below ten
unfoldable pub digits : ℕ → Bool → ℕ → List ℕ
digits zero single n = []
digits (suc most) true n = digit n ∷ []
digits (suc most) false n = digits most (n / 10 <? 10) (n / 10) ++ (digit (n % 10) ∷ [])

-- No number n has more than n + 1 digits, so none is lost.
unfoldable pub decimal : ℕ → List ℕ
decimal n = digits (suc n) (n <? 10) n

-- below zero "-" stands before the size; negsuc n is -(n + 1)
unfoldable pub signed : ℤ → List ℕ
signed (pos n) = decimal n
signed (negsuc n) = ascii "-" ++ decimal (suc n)
