-- Words for worked examples: calls as document 01's table writes them, and tests of what comes of them.
use mathlib.Core.Bool.{Bool, true, false, not, ◌&&◌}
use mathlib.Core.List.{List, [], ◌∷◌}
use Prim.Native.Nat.{ℕ, ◌+◌, ◌*◌}
use lib.IntN.{ℤ}
use lib.ListN.{length}
use Rattle.words.specs.Tests.{◌=?◌, sameℤ}
use Rattle.words.specs.Lists.{every}
use Rattle.words.specs.Rules.{answer}
use Rattle.meaning.specs.Ledgers.{contracts, stands, identifier_of}
use Rattle.meaning.specs.Messages.{Entry, Notification, notification, nullification}
use Rattle.meaning.specs.Books.{Book}
use Rattle.meaning.specs.Notifications.{notified}
use Rattle.meaning.specs.Calls.{Call, gate, message, refusal}
use Rattle.meaning.specs.Totals.{total_rules, total}
use Rattle.meaning.specs.Bars.{Bar, Blank, OneSide, Agreed, Disagreed}
use Rattle.meaning.specs.Rows.{row_rules, row}

-- ---- calls

infix 90 ◌/₁◌
abbrev pub ◌/₁◌ : ℕ → ℕ → ℕ
o /₁ r = identifier_of o r

abbrev pub entry : ℕ → ℤ → Entry contracts
entry period volume = record { period = period; volume = volume }

-- under an authorisation, by an agent, with a key: an identifier, its first and last day, and its entries
abbrev pub letter : ℕ → ℕ → ℕ → ℕ → ℕ → ℕ → List (Entry contracts) → Notification contracts
letter number agent key i first last es =
    record { authorisation = number; agent = agent; key = key; identifier = i; first = first; last = last; entries = es }

abbrev pub send : ℕ → ℕ → ℕ → ℕ → ℕ → ℕ → List (Entry contracts) → Call contracts
send number agent key i first last es = message (notification (letter number agent key i first last es))

-- with the authorisation's own key, and one period with its volume
abbrev pub tell : ℕ → ℕ → ℕ → ℕ → ℕ → ℕ → ℤ → Call contracts
tell number agent i first last period volume = send number agent (500 + 100 * number) i first last (entry period volume ∷ [])

abbrev pub cancel : ℕ → ℕ → ℕ → Call contracts
cancel x y first = message (nullification (record { account = x; other = y; first = first }))

-- ---- what is said of a call, and of a book

abbrev pub answers : Book contracts → Call contracts → ℕ → Bool
answers b c number = refusal b c =? number

abbrev pub accepts : Book contracts → Call contracts → Bool
accepts b c = answers b c 0

-- a notification's answer with its place, its kind (1 initial, 2 replacement, 3 additional) and its slot
abbrev pub notifies : Book contracts → Call contracts → ℕ → ℕ → ℕ → ℕ → Bool
notifies b gate number place kind slot = false
notifies b (message (notification n)) number place kind slot =
    (notified b n).answer =? number && (notified b n).place =? place && (notified b n).kind =? kind && (notified b n).slot =? slot
notifies b (message (nullification x)) number place kind slot = false

abbrev pub initial_in : ℕ → Book contracts → Call contracts → Bool
initial_in slot b c = notifies b c 0 0 1 slot

abbrev pub replacement_in : ℕ → Book contracts → Call contracts → Bool
replacement_in slot b c = notifies b c 0 0 2 slot

abbrev pub additional_in : ℕ → Book contracts → Call contracts → Bool
additional_in slot b c = notifies b c 0 0 3 slot

-- "A refusal .. its other results are zero"
abbrev pub refuses : ℕ → Book contracts → Call contracts → Bool
refuses number b c = notifies b c number 0 0 0

-- but for the place of the entry at fault, with 10 and 11 (02, A3)
abbrev pub refuses_at : ℕ → ℕ → Book contracts → Call contracts → Bool
refuses_at number place b c = notifies b c number place 0 0

-- the total of an account in a period of a day, with the answer 0: a refusal would give the total 0 too
abbrev pub has : Book contracts → ℕ → ℕ → ℕ → ℤ → Bool
has b account D period v = answer (total_rules b account D period) =? 0 && sameℤ (total b account D period) v

abbrev pub disagreed : Bar ℤ → ℤ → ℤ → Bool
disagreed Blank v w = false
disagreed (OneSide x) v w = false
disagreed (Agreed x) v w = false
disagreed (Disagreed x y) v w = sameℤ x v && sameℤ y w

abbrev pub one_sided : Bar ℤ → ℤ → Bool
one_sided Blank v = false
one_sided (OneSide x) v = sameℤ x v
one_sided (Agreed x) v = false
one_sided (Disagreed x y) v = false

abbrev pub agreed : Bar ℤ → ℤ → Bool
agreed Blank v = false
agreed (OneSide x) v = false
agreed (Agreed x) v = sameℤ x v
agreed (Disagreed x y) v = false

abbrev pub alike {ℓ} : {A : Type ℓ} → (A → A → Bool) → List A → List A → Bool
alike f [] [] = true
alike f [] (y ∷ ys) = false
alike f (x ∷ xs) [] = false
alike f (x ∷ xs) (y ∷ ys) = f x y && alike f xs ys

abbrev pub nothing_in : List ℤ → Bool
nothing_in vs = every (λ v. not (stands contracts v)) vs

-- the row of an identifier on a day and a side, with the answer 0; and one so long in which nothing stands: a refusal's row is empty
abbrev pub shows : Book contracts → ℕ → ℕ → ℕ → List ℤ → Bool
shows b i D side vs = answer (row_rules b i D side) =? 0 && alike sameℤ (row b i D side) vs

abbrev pub empty : Book contracts → ℕ → ℕ → ℕ → ℕ → Bool
empty b i D side periods =
    answer (row_rules b i D side) =? 0 && length (row b i D side) =? periods && nothing_in (row b i D side)
