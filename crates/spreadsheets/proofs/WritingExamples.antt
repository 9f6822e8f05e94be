-- A file as it is written: no needless zero, minus only below zero, always three decimals; no entries; and what is refused.
use mathlib.Core.Bool.{true, false}
use mathlib.Core.List.{[], ◌∷◌}
use mathlib.Core.Path.{◌≡◌, refl}
use Prim.Native.Nat.{ℕ}
use lib.IntN.{ℤ, pos, negsuc}
use lib.ListN.{replicate}
use Rattle.words.specs.Lists.{every, join}
use Rattle.words.specs.Rules.{answer}
use Rattle.meaning.specs.Ascii.{ascii}
use Rattle.meaning.specs.Decimals.{digits, decimal}
use Rattle.meaning.specs.Ledgers.{contracts}
use Rattle.meaning.specs.Messages.{Entry}
use Rattle.spreadsheets.specs.Writing.{mwh_text, entry_text, written, writable, writing_rules}

abbrev entry : ℕ → ℤ → Entry contracts
entry period volume = record { period = period; volume = volume }

pub three_entries : written (entry 1 (pos 0) ∷ entry 35 (negsuc 49) ∷ entry 99 (pos 99999999) ∷ [])
    ≡ ascii "period,mwh\n1,0.000\n35,-0.050\n99,99999.999\n"
unfolding written join entry_text mwh_text decimal digits
three_entries = refl

pub no_entries : written [] ≡ ascii "period,mwh\n"
unfolding written join
no_entries = refl

pub highest_period : writable (entry 99 (negsuc 99999998)) ≡ true
unfolding writable
highest_period = refl

pub period_too_high : writable (entry 100 (pos 0)) ≡ false
unfolding writable
period_too_high = refl

pub volume_too_low : writable (entry 1 (negsuc 99999999)) ≡ false
unfolding writable
volume_too_low = refl

-- 23 comes before 24
pub too_many_and_no_room : answer (writing_rules (replicate 51 (entry 1 (pos 0))) 0) ≡ 23
unfolding writing_rules answer
too_many_and_no_room = refl

pub just_enough_room : answer (writing_rules [] 11) ≡ 0
unfolding writing_rules answer every written join
just_enough_room = refl

pub one_byte_too_few : answer (writing_rules [] 10) ≡ 24
unfolding writing_rules answer every written join
one_byte_too_few = refl
