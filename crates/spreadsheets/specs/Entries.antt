-- Document 02, A5: the entries that a file of numbers holds, one for each line after the header. Quotes and CR are no digits, and are passed over.
use Rattle.std.specs.Prelude.{Bool, List, [], ◌∷◌, ◌++◌, map, ℕ, ◌+◌, ◌-◌, ◌*◌, ◌^◌, ℤ, pos, neg_ℤ, length, drop, if◌then◌else◌}
use Rattle.words.specs.Lists.{any, keep}
use Rattle.words.specs.Tests.{◌=?◌, between}
use Rattle.meaning.specs.Ledgers.{contracts}
use Rattle.meaning.specs.Messages.{Entry}

-- ---- lines: each ends at its LF, the last one perhaps at the end

-- a line is there once it has a byte
abbrev pub as_line : List ℕ → List (List ℕ)
as_line [] = []
as_line (b ∷ line) = (b ∷ line) ∷ []

-- the lines of a text, the first of which has begun already
unfoldable pub lines_after : List ℕ → List ℕ → List (List ℕ)
lines_after line [] = as_line line
lines_after line (b ∷ s) = if b =? 0x0A then line ∷ lines_after [] s else lines_after (line ++ (b ∷ [])) s

unfoldable pub lines_of : List ℕ → List (List ℕ)
lines_of s = lines_after [] s

-- ---- what stands before the first b, and what behind it

unfoldable pub before : ℕ → List ℕ → List ℕ
before b [] = []
before b (x ∷ s) = let rest = x ∷ before b s in if x =? b then [] else rest

unfoldable pub behind : ℕ → List ℕ → List ℕ
behind b [] = []
behind b (x ∷ s) = let rest = behind b s in if x =? b then s else rest

-- ---- numbers

abbrev pub is_digit : ℕ → Bool
is_digit b = between 0x30 0x39 b

-- one digit more in base ten; what is no digit is passed over
unfoldable pub with_digit : ℕ → ℕ → ℕ
with_digit v b = if is_digit b then v * 10 + (b - 0x30) else v

abbrev pub value_from : ℕ → List ℕ → ℕ
value_from v [] = v
value_from v (b ∷ s) = value_from (with_digit v b) s

unfoldable pub value : List ℕ → ℕ
value s = value_from 0 s

-- how many digits stand behind the point
unfoldable pub decimals : List ℕ → ℕ
decimals s = length (keep is_digit (behind 0x2E s))

-- "it becomes whole kWh exactly": a thousand times the MWh, less a ten for each digit behind the point
unfoldable pub kwh : Bool → ℕ → ℕ → ℤ
kwh minus size places =
    let n = size * 10 ^ (3 - places) in
    if minus then neg_ℤ (pos n) else pos n

unfoldable pub kwh_of : List ℕ → ℤ
kwh_of s = kwh (any (◌=? 0x2D) s) (value s) (decimals s)

-- ---- entries

unfoldable pub entry_of : List ℕ → Entry contracts
entry_of line = record { period = value (before 0x2C line); volume = kwh_of (behind 0x2C line) }

unfoldable pub entries : List ℕ → List (Entry contracts)
entries s = map entry_of (drop 1 (lines_of s))
