-- A refusal's number is not 0 and tells the refusal, so an answer number tells the whole outcome.
use Rattle.std.proofs.Common.{◌≡◌, List, [], ◌∷◌, false, nat_eq, refl, ap, ◌∙◌, sym, rules}
use Rattle.std.specs.Prelude.{Result, Ok, Err, get_or}
use Rattle.limits.specs.declared.refusals.Refusal.{Refusal}
use Rattle.limits.specs.declared.refusals.Refusal.TheVariants.{NotSound, EveryGateClosed, NoAuthorisation, KeyOrAgentWrong, NotInForce, OriginatorWrong, LastBeforeFirst, LastDayPast, FirstDayAfterBook, PeriodWrong, VolumeWrong, ReplacementNotAllowed, AdditionalNotAllowed, NoSlot, NoSuchAccount, NoSuchDay, SetupWrong, RowWrong, BytesEndTooSoon, KindThree, TooManyEntries, PaddingBit, ValueDoesNotFit, NoRoom, NotHeld, TotalTooLarge, NotInCalendar, CodeDisagrees, NotCsv, NotTwoFields, NotANumber, TooManyRecords}
use Rattle.limits.specs.Refusals.{number_of, answer_of}

-- the refusals by their numbers; 0 is none's
abbrev refusals : List Refusal
refusals = NotSound ∷ NotSound ∷ EveryGateClosed ∷ NoAuthorisation ∷ KeyOrAgentWrong ∷ NotInForce ∷ OriginatorWrong ∷ LastBeforeFirst ∷ LastDayPast ∷ FirstDayAfterBook ∷ PeriodWrong ∷ VolumeWrong ∷ ReplacementNotAllowed ∷ AdditionalNotAllowed ∷ NoSlot ∷ NoSuchAccount ∷ NoSuchDay ∷ SetupWrong ∷ RowWrong ∷ BytesEndTooSoon ∷ KindThree ∷ TooManyEntries ∷ PaddingBit ∷ ValueDoesNotFit ∷ NoRoom ∷ NotHeld ∷ TotalTooLarge ∷ NotInCalendar ∷ CodeDisagrees ∷ NotCsv ∷ NotTwoFields ∷ NotANumber ∷ TooManyRecords ∷ []

number-tells : (r : Refusal) → get_or refusals (number_of r) NotSound ≡ r
number-tells NotSound = refl
number-tells EveryGateClosed = refl
number-tells NoAuthorisation = refl
number-tells KeyOrAgentWrong = refl
number-tells NotInForce = refl
number-tells OriginatorWrong = refl
number-tells LastBeforeFirst = refl
number-tells LastDayPast = refl
number-tells FirstDayAfterBook = refl
number-tells PeriodWrong = refl
number-tells VolumeWrong = refl
number-tells ReplacementNotAllowed = refl
number-tells AdditionalNotAllowed = refl
number-tells NoSlot = refl
number-tells NoSuchAccount = refl
number-tells NoSuchDay = refl
number-tells SetupWrong = refl
number-tells RowWrong = refl
number-tells BytesEndTooSoon = refl
number-tells KindThree = refl
number-tells TooManyEntries = refl
number-tells PaddingBit = refl
number-tells ValueDoesNotFit = refl
number-tells NoRoom = refl
number-tells NotHeld = refl
number-tells TotalTooLarge = refl
number-tells NotInCalendar = refl
number-tells CodeDisagrees = refl
number-tells NotCsv = refl
number-tells NotTwoFields = refl
number-tells NotANumber = refl
number-tells TooManyRecords = refl

pub same-number : (r s : Refusal) → number_of r ≡ number_of s → r ≡ s
same-number r s e = sym (number-tells r) ∙ ap (λ n. get_or refusals n NotSound) e ∙ number-tells s

-- no refusal has the number 0, so what has it is done
pub not-done : (r : Refusal) → nat_eq (number_of r) 0 ≡ false
not-done NotSound = refl
not-done EveryGateClosed = refl
not-done NoAuthorisation = refl
not-done KeyOrAgentWrong = refl
not-done NotInForce = refl
not-done OriginatorWrong = refl
not-done LastBeforeFirst = refl
not-done LastDayPast = refl
not-done FirstDayAfterBook = refl
not-done PeriodWrong = refl
not-done VolumeWrong = refl
not-done ReplacementNotAllowed = refl
not-done AdditionalNotAllowed = refl
not-done NoSlot = refl
not-done NoSuchAccount = refl
not-done NoSuchDay = refl
not-done SetupWrong = refl
not-done RowWrong = refl
not-done BytesEndTooSoon = refl
not-done KindThree = refl
not-done TooManyEntries = refl
not-done PaddingBit = refl
not-done ValueDoesNotFit = refl
not-done NoRoom = refl
not-done NotHeld = refl
not-done TotalTooLarge = refl
not-done NotInCalendar = refl
not-done CodeDisagrees = refl
not-done NotCsv = refl
not-done NotTwoFields = refl
not-done NotANumber = refl
not-done TooManyRecords = refl

pub never-done : {A : Type 0} (r : Refusal) → number_of r ≡ 0 → A
never-done r e = absurd (search (rules, not-done r, e))

-- So no two outcomes that give nothing have the same answer number.
pub same-answer : (r s : Result Unit Refusal) → answer_of r ≡ answer_of s → r ≡ s
same-answer (Ok _) (Ok _) e = refl
same-answer (Ok _) (Err s) e = never-done s (sym e)
same-answer (Err r) (Ok _) e = never-done r e
same-answer (Err r) (Err s) e = ap Err (same-number r s e)
