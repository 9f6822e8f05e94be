-- Document 02, A5: "Refusals, at the first byte (the end counts as one) by which no valid file can begin so, the lower number first there".
use Rattle.std.specs.Prelude.{List, ◌++◌, ℕ, suc, ◌≤◌, ◌<◌, length, take, cond}
use Rattle.words.specs.Tests.{◌<?◌}
use Rattle.patterns.specs.Patterns.{Matches}
use Rattle.spreadsheets.specs.Languages.{csv_file, table_file, number_file}
use Rattle.spreadsheets.specs.Entries.{entries}

-- Four languages, each inside the one before.
pub data Language : Type 0 where
  csv table numbers valid : Language

-- "29 not well-formed CSV; 30 wrong header or field count, empty input included; 31 a field is not such a number; 32 more than 50 entries"
abbrev pub number : Language → ℕ
number csv = 29
number table = 30
number numbers = 31
number valid = 32

abbrev pub File : Language → List ℕ → Type 0
File csv s = Matches csv_file s
File table s = Matches table_file s
File numbers s = Matches number_file s
File valid s = Matches number_file s × (length (entries s) ≤ 50)

-- a file can begin so: some continuation makes it one
abbrev pub Begins : Language → List ℕ → Type 0
Begins l u = (rest : List ℕ) × File l (u ++ rest)

-- with the byte at this place it still can; at the end, which counts as a byte, it is one
abbrev pub Goes : Language → List ℕ → ℕ → Type 0
Goes l s place = cond (place <? length s) (Begins l (take (suc place) s)) (File l s)

-- The bytes are refused at this place by this language: up to there a valid file can begin so, and with the byte there none can; nor can a file of this
-- language, while of every language with a lower number one still can.
pub record Refused (s : List ℕ) (language : Language) (place : ℕ) : Type 0 where
  pub within : place ≤ length s
  pub so_far : Begins valid (take place s)
  pub no_more : Goes valid s place → ⊥
  pub outside : Goes language s place → ⊥
  pub lowest : (l : Language) → number l < number language → Goes l s place

-- What is said of bytes: 0 with the length of a valid file, or the number of their refusal with its place.
pub data Judged (s : List ℕ) : ℕ → ℕ → Type 0 where
  accepted : File valid s → Judged s 0 (length s)
  refused : (l : Language) (place : ℕ) → Refused s l place → Judged s (number l) place
