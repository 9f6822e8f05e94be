-- Document 02, A5: entries written out, "each line ended by LF, no needless leading zeros, minus only below zero, always three decimals".
use Rattle.std.specs.Prelude.{Bool, not, ◌&&◌, ◌||◌, List, [], ◌∷◌, ◌++◌, map, ℕ, ◌/◌, ◌%◌, ℤ, pos, negsuc, nat_abs, length, if◌then◌else◌}
use Rattle.std.proofs.lemmas.List.Edits.{sets}
use Rattle.words.specs.Lists.{every, join}
use Rattle.words.specs.Rules.{Rule, ◌when◌else◌, done, answer}
use Rattle.words.specs.Tests.{◌<?◌, ◌≤?◌, ◌=?◌}
use Rattle.meaning.specs.Ascii.{ascii}
use Rattle.meaning.specs.Decimals.{digit, decimal}
use Rattle.meaning.specs.Ledgers.{contracts}
use Rattle.meaning.specs.Messages.{Entry}
use Rattle.meaning.specs.PackedMessages.{Written}

abbrev pub three_digits : ℕ → List ℕ
three_digits n = digit (n / 100 % 10) ∷ digit (n / 10 % 10) ∷ digit (n % 10) ∷ []

abbrev pub sign : ℤ → List ℕ
sign (pos n) = []
sign (negsuc n) = ascii "-"

-- so many kWh in MWh
abbrev pub size_text : ℕ → List ℕ
size_text n = decimal (n / 1000) ++ (ascii "." ++ three_digits n)

unfoldable pub mwh_text : ℤ → List ℕ
mwh_text kwh = sign kwh ++ size_text (nat_abs kwh)

unfoldable pub entry_text : Entry contracts → List ℕ
entry_text e = decimal e.period ++ (ascii "," ++ mwh_text e.volume)

abbrev pub entry_line : Entry contracts → List ℕ
entry_line e = entry_text e ++ ascii "\n"

unfoldable pub written : List (Entry contracts) → List ℕ
written es = ascii "period,mwh\n" ++ join (map entry_line es)

-- "Periods above 99, volumes out of range or over 50 entries give 23, then 24 for room."
unfoldable pub writable : Entry contracts → Bool
writable e = e.period ≤? 99 && contracts.in_range e.volume

unfoldable pub writing_rules : List (Entry contracts) → ℕ → List Rule
writing_rules es room =
    23 when 50 <? length es || not (every writable es) else
    24 when room <? length (written es) else
    done

-- with a refusal no length, and the buffer as it was; else bytes past what is written stay
unfoldable pub write_spreadsheet : List (Entry contracts) → List ℕ → Written
write_spreadsheet es out =
    let number = answer (writing_rules es (length out)) in
    if number =? 0
    then record { answer = 0; length = length (written es); out = sets out 0 (written es) }
    else record { answer = number; length = 0; out = out }
