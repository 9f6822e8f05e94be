-- The number of a refusal, and the answer number of what may be refused: 0 is done.
use Rattle.std.specs.Prelude.{ℕ, Result, Ok, Err}
use Rattle.limits.specs.declared.refusals.Refusal.{Refusal}
use Rattle.limits.specs.declared.refusals.Refusal.TheVariants.{NotSound, EveryGateClosed, NoAuthorisation, KeyOrAgentWrong, NotInForce, OriginatorWrong, LastBeforeFirst, LastDayPast, FirstDayAfterBook, PeriodWrong, VolumeWrong, ReplacementNotAllowed, AdditionalNotAllowed, NoSlot, NoSuchAccount, NoSuchDay, SetupWrong, RowWrong, BytesEndTooSoon, KindThree, TooManyEntries, PaddingBit, ValueDoesNotFit, NoRoom, NotHeld, TotalTooLarge, NotInCalendar, CodeDisagrees, NotCsv, NotTwoFields, NotANumber, TooManyRecords}

abbrev pub number_of : Refusal → ℕ
number_of NotSound = 1
number_of EveryGateClosed = 2
number_of NoAuthorisation = 3
number_of KeyOrAgentWrong = 4
number_of NotInForce = 5
number_of OriginatorWrong = 6
number_of LastBeforeFirst = 7
number_of LastDayPast = 8
number_of FirstDayAfterBook = 9
number_of PeriodWrong = 10
number_of VolumeWrong = 11
number_of ReplacementNotAllowed = 12
number_of AdditionalNotAllowed = 13
number_of NoSlot = 14
number_of NoSuchAccount = 15
number_of NoSuchDay = 16
number_of SetupWrong = 17
number_of RowWrong = 18
number_of BytesEndTooSoon = 19
number_of KindThree = 20
number_of TooManyEntries = 21
number_of PaddingBit = 22
number_of ValueDoesNotFit = 23
number_of NoRoom = 24
number_of NotHeld = 25
number_of TotalTooLarge = 26
number_of NotInCalendar = 27
number_of CodeDisagrees = 28
number_of NotCsv = 29
number_of NotTwoFields = 30
number_of NotANumber = 31
number_of TooManyRecords = 32

abbrev pub answer_of : {A : Type 0} → Result A Refusal → ℕ
answer_of (Ok _) = 0
answer_of (Err refusal) = number_of refusal
