-- THE PROGRAM'S CALLS ONE AFTER ANOTHER. Each is given what the one before left, and all that is known of it is its promise. What is printed after a
-- call is the front of the buffer that it left, as long as it says.
use Rattle.std.specs.Prelude.{◌≡◌, ℕ, ◌+◌, ◌*◌, ◌<◌, ◌≤◌, Bool, true, false, ◌≢◌, List, [], ◌∷◌, ◌++◌, length, take, ℤ, slice_index}
use Rattle.book.specs.declared.Book.{Book}
use Rattle.meaning.specs.SheetLines.{end_line}
use Rattle.sheet_lines.specs.Places.{Puts}
use Rattle.meaning.specs.Sheet.{slots, lent_for}
use Rattle.sheet_parts.specs.Promises.{Begins, Turns, Keeps, PutsAccountDay}
use Rattle.sheet_parts.specs.Seen.{Begun}
use Rattle.sheet_parts.specs.declared.Turned.{Turned}

-- a book by value, its lent tables, and the buffer that is lent for lines
pub record State : Type 0 where
  pub book : Book
  pub held : List ℕ
  pub side1 : List ℤ
  pub side2 : List ℤ
  pub out : List ℕ

-- how many bytes are lent for the input at hand, for the answers to it and for their places, and for lines
abbrev pub input_size : ℕ
input_size = 2048

abbrev pub lines_size : ℕ
lines_size = 65536

-- what a slice of u8 holds
abbrev pub Bytes : List ℕ → Type 0
Bytes bytes = (k : ℕ) → slice_index bytes k < 256

-- ---- `begin` on the first bytes, for 16 slots and tables as `lent_for` says

pub record BeginsOn (first held : List ℕ) (side1 side2 : List ℤ) (out : List ℕ) (r : Begun) (s : State) (printed : List ℕ) : Type 0 where
  pub held-lent : length held ≡ slots
  pub side1-lent : length side1 ≡ lent_for first
  pub side2-lent : length side2 ≡ lent_for first
  pub out-lent : length out ≡ lines_size
  pub promise : Begins first held side1 side2 out r s.held s.side1 s.side2 s.out
  pub book : s.book ≡ r.book
  pub prints : printed ≡ take r.written s.out

-- ---- `keep` on a buffer with these bytes at its front, of which so many are used: what is at its front then

pub record KeepsOf (bytes : List ℕ) (used : ℕ) (kept : List ℕ) : Type 0 where
  pub input : List ℕ
  pub have : ℕ
  pub left : List ℕ
  pub count : ℕ
  pub at-hand : take have input ≡ bytes
  pub promise : Keeps used have input left count
  pub front : kept ≡ take count left

-- ---- `turn` on the bytes at hand, where so many messages were told before

pub record TurnsOn (seen : ℕ) (s : State) (ended : Bool) (bytes : List ℕ) (r : Turned) (t : State) (printed : List ℕ) : Type 0 where
  pub answers : List ℕ
  pub places : List ℕ
  pub answers-left : List ℕ
  pub places-left : List ℕ
  pub answers-lent : length answers ≡ input_size
  pub places-lent : length places ≡ input_size
  pub out-lent : length s.out ≡ lines_size
  pub few : length bytes ≤ input_size
  pub answers-bytes : Bytes answers-left
  pub places-bytes : Bytes places-left
  pub promise : Turns s.book seen bytes ended s.held s.side1 s.side2 answers places s.out r t.held t.side1 t.side2 answers-left places-left t.out
  pub book : t.book ≡ r.book
  pub prints : printed ≡ take r.written t.out

-- turns from a state and kept bytes on, each of which goes on: the parts read, what was printed, and the messages told, the state and the bytes kept then
pub data GoesOn (seen₀ : ℕ) (s₀ : State) (kept₀ : List ℕ) : List (List ℕ) → List ℕ → ℕ → State → List ℕ → Type 0 where
  no-turn : GoesOn seen₀ s₀ kept₀ [] [] seen₀ s₀ kept₀
  one-turn : {parts : List (List ℕ)} {printed : List ℕ} {seen : ℕ} {s : State} {kept : List ℕ} (part : List ℕ) (r : Turned) (t : State) (text later : List ℕ)
      → GoesOn seen₀ s₀ kept₀ parts printed seen s kept
      → TurnsOn seen s false (kept ++ part) r t text
      → r.going ≡ true
      → KeepsOf (kept ++ part) r.used later
      → GoesOn seen₀ s₀ kept₀ (parts ++ (part ∷ [])) (printed ++ text) r.seen t later

-- and then the last turn: the input has ended, or a message is unreadable, whatever comes behind it
pub data AllTurns (seen₀ : ℕ) (s₀ : State) (kept₀ : List ℕ) : List (List ℕ) → List ℕ → List ℕ → ℕ → State → Type 0 where
  input-ends : {parts : List (List ℕ)} {printed : List ℕ} {seen : ℕ} {s : State} {kept : List ℕ} (final : List ℕ) (r : Turned) (t : State) (text : List ℕ)
      → GoesOn seen₀ s₀ kept₀ parts printed seen s kept
      → TurnsOn seen s true (kept ++ final) r t text
      → AllTurns seen₀ s₀ kept₀ parts final (printed ++ text) r.seen t
  unreadable : {parts : List (List ℕ)} {printed : List ℕ} {seen : ℕ} {s : State} {kept : List ℕ} (part : List ℕ) (rest : List (List ℕ)) (final : List ℕ) (r : Turned) (t : State) (text : List ℕ)
      → GoesOn seen₀ s₀ kept₀ parts printed seen s kept
      → TurnsOn seen s false (kept ++ part) r t text
      → r.going ≡ false
      → AllTurns seen₀ s₀ kept₀ (parts ++ (part ∷ rest)) final (printed ++ text) r.seen t

-- ---- `put_account_day` for k = 0, 1, .., as long as there are accounts' days, and what was printed of those below k

abbrev pub account_days_in : Book → ℕ
account_days_in b = b.setup.accounts * b.setup.days

pub data TotalsPut (s : State) : ℕ → List ℕ → List ℕ → Type 0 where
  no-total : TotalsPut s 0 [] s.out
  one-total : {k : ℕ} {printed out : List ℕ} (left : List ℕ) (written : ℕ)
      → TotalsPut s k printed out
      → k < account_days_in s.book
      → length out ≡ lines_size
      → PutsAccountDay s.book s.held s.side1 s.side2 k out left written
      → TotalsPut s (k + 1) (printed ++ take written left) left

-- ---- the program: with a refused setup its line only, else the first line, the messages, the totals and the end; and the buffer that it leaves

pub data Prints (first held : List ℕ) (side1 side2 : List ℤ) (out : List ℕ) (parts : List (List ℕ)) (final : List ℕ) : List ℕ → State → Type 0 where
  refused : {r : Begun} {s : State} {printed : List ℕ}
      → BeginsOn first held side1 side2 out r s printed
      → r.answer ≢ 0
      → Prints first held side1 side2 out parts final printed s
  sheet : {r : Begun} {s t : State} {opened kept messages totals after : List ℕ} {seen : ℕ} (left : List ℕ) (written : ℕ)
      → BeginsOn first held side1 side2 out r s opened
      → r.answer ≡ 0
      → KeepsOf first r.used kept
      → AllTurns 0 s kept parts final messages seen t
      → TotalsPut t (account_days_in t.book) totals after
      → length after ≡ lines_size
      → Puts (end_line seen) after 0 left written
      → Prints first held side1 side2 out parts final (opened ++ (messages ++ (totals ++ take written left))) (record { book = t.book; held = t.held; side1 = t.side1; side2 = t.side2; out = left })
