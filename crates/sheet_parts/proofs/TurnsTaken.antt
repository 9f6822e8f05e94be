-- THE TURNS OF THE CODE ARE THE DEFINITION'S: turns taken one after another, of which nothing is known but their promises, print, count and leave what
-- `all_turns` (sheet_turns/specs/Turns.antt) says of the parts that they were given.
use Rattle.std.proofs.Common.{◌≡◌, ℕ, zero, suc, ◌+◌, ◌%◌, ◌^◌, ◌≤◌, min, Bool, true, false, List, [], ◌∷◌, ◌++◌, length, take, drop, sym, refl, ap, ◌∙◌, ap₂, append_assoc, append-nil, arith}
use lib.Seq.{sets}
use Rattle.words.specs.Lists.{join}
use Rattle.meaning.specs.Ledgers.{contracts}
use Rattle.meaning.specs.Books as Meaning
use Rattle.meaning.specs.Soundness.{sound}
use Rattle.meaning.specs.PackedCalls.{Run, answers_in, places_in, run_on}
use Rattle.meaning.proofs.OnlyClock.{OnlyClock, run-moves-clock}
use Rattle.meaning.proofs.PackedCalls.{run-is-calls}
use Rattle.book.specs.Structs.{book_of}
use Rattle.calls.proofs.RunLaws.{holds-book}
use Rattle.sheet_lines.specs.Places.{all_placed}
use Rattle.meaning.specs.Sheet.{run_over}
use Rattle.sheet_turns.specs.Turns.{waits, told_count, told, told_lines, Turn, turn_of, all_turns}
use Rattle.sheet_turns.proofs.ByTurns.{told-counted}
use Rattle.sheet_parts.specs.Parts.{turned_of, kept_of}
use Rattle.sheet_parts.specs.Program.{State, Bytes, KeepsOf, TurnsOn, GoesOn, no-turn, one-turn, AllTurns, input-ends, unreadable}
use Rattle.sheet_parts.specs.declared.Turned.{Turned}
use Rattle.sheet_parts.proofs.AccountDays.{join-append}
use Rattle.sheet_parts.proofs.Answers.{Stored, run-few, told-stored}
use Rattle.sheet_parts.proofs.Fronts.{front-text, front-lines}
use Rattle.sheet_parts.proofs.KeptLaws.{kept-fits}
use Rattle.sheet_parts.proofs.Room.{Short, short-messages, many-messages}
use Rattle.sheet_parts.proofs.SameTurns.{same-run, stays-sound}
use Rattle.sheet_parts.proofs.TurnLaws.{few-told}

-- the book that a state holds
abbrev pub whole : State → Meaning.Book contracts
whole s = book_of s.book s.held s.side1 s.side2

-- ---- what is kept is the definition's: the bytes behind those used

pub keeps-is : {bytes : List ℕ} {used : ℕ} {kept : List ℕ} → KeepsOf bytes used kept → kept ≡ drop used bytes
unfolding kept_of
keeps-is {bytes} {used} {kept} k =
    let held = kept_of used k.have k.input in
    k.front ∙ ap₂ (λ (n : ℕ) (l : List ℕ). take n l) k.promise.1 k.promise.0
    ∙ front-text k.input held (kept-fits used k.have k.input)
    ∙ ap (drop used) k.at-hand

-- ---- a turn

bytes_take : (n : ℕ) (bytes : List ℕ) → Bytes bytes → Bytes (take n bytes)
bytes_take zero bytes h k = omega arith
bytes_take (suc n) [] h k = omega arith
bytes_take (suc n) (x ∷ bytes) h zero = h 0
bytes_take (suc n) (x ∷ bytes) h (suc k) = bytes_take n bytes (λ j. h (suc j)) k

pub record IsTurn (r : Turned) (t : State) (bytes printed : List ℕ) (d : Turn) : Type 0 where
  pub lines : printed ≡ join d.lines
  pub seen : r.seen ≡ d.seen
  pub book : whole t ≡ d.book
  pub kept : drop r.used bytes ≡ d.kept
  pub going : r.going ≡ d.going

module _ {seen : ℕ} {s : State} {ended : Bool} {bytes : List ℕ} {r : Turned} {t : State} {printed : List ℕ} (is-sound : sound (whole s) ≡ true) (turn : TurnsOn seen s ended bytes r t printed) where
  abbrev run : Run
  run = run_over (whole s) bytes

  -- there is room for the outcome of every message
  abbrev room : ℕ
  room = min (length turn.answers) (length turn.places)

  same : run_on room (whole s) bytes ≡ run
  same = same-run room (whole s) bytes is-sound (omega (arith, turn.few, turn.answers-lent, turn.places-lent))

  result : r ≡ turned_of s.book seen ended (length bytes) (length s.out) run
  result = turn.promise.0 ∙ ap (turned_of s.book seen ended (length bytes) (length s.out)) same

  few : length run.outcomes ≤ room
  few = rw (← same) (run-few room (whole s) bytes)

  stored : Stored run.outcomes turn.answers turn.places turn.answers-left turn.places-left
  stored =
      record {
        answers-fit = omega (arith, few);
        places-fit = omega (arith, few);
        answers-stored = turn.promise.4 ∙ ap (λ (x : Run). sets turn.answers 0 (answers_in x.outcomes)) same;
        places-stored = turn.promise.5 ∙ ap (λ (x : Run). sets turn.places 0 (places_in x.outcomes)) same;
      }

  -- what is told is at the front of both buffers, in bytes
  short-told : Short 31 (told_lines seen (told ended (length bytes) run))
  unfolding told told_count told_lines
  short-told =
      let n = told_count ended (length bytes) run in
      let inside = few-told (waits ended (length bytes) run) (length run.outcomes) in
      rw (← (told-stored stored n inside))
      (short-messages (take n turn.answers-left) (take n turn.places-left) ((seen + 1) % 2 ^ 64) (omega arith) (bytes_take n turn.answers-left turn.answers-bytes) (bytes_take n turn.places-left turn.places-bytes))

  printed-told : printed ≡ join (told_lines seen (told ended (length bytes) run))
  unfolding turned_of told_lines told_count
  printed-told =
      let outcomes = told ended (length bytes) run in
      let text : t.out ≡ all_placed s.out 0 (told_lines seen outcomes) =
      turn.promise.6 ∙ ap (λ (x : Run). all_placed s.out 0 (told_lines seen (told ended (length bytes) x))) same in
      let many : length (told_lines seen outcomes) ≤ 2048 =
      omega (arith, many-messages outcomes ((seen + 1) % 2 ^ 64), told-counted ended (length bytes) run, few, turn.answers-lent, few-told (waits ended (length bytes) run) (length run.outcomes)) in
      turn.prints ∙ front-lines 31 s.out t.out r.written (told_lines seen outcomes) short-told (omega (arith, many, turn.out-lent)) (text, ap (λ (x : Turned). x.written) result)

  clock-moves : OnlyClock (whole s).setting run.book.setting
  unfolding run_over
  clock-moves = rw (run-is-calls (length bytes) (whole s) bytes) (run-moves-clock (length bytes) (whole s) bytes)

  book-left : whole t ≡ run.book
  unfolding turned_of
  book-left =
      rw (turn.book ∙ ap (λ (x : Turned). x.book) result, turn.promise.1 ∙ ap (λ (x : Run). x.book.ledger.held) same, turn.promise.2 ∙ ap (λ (x : Run). x.book.ledger.side1) same, turn.promise.3 ∙ ap (λ (x : Run). x.book.ledger.side2) same)
      (holds-book s.book run.book clock-moves)

  pub turn_is : IsTurn r t bytes printed (turn_of seen (whole s) ended bytes)
  unfolding turn_of turned_of
  turn_is =
      record {
        lines = printed-told;
        seen = ap (λ (x : Turned). x.seen) result;
        book = book-left;
        kept = ap (λ (x : Turned). drop x.used bytes) result;
        going = ap (λ (x : Turned). x.going) result;
      }

  pub turn-sound : sound (whole t) ≡ true
  turn-sound = rw book-left (stays-sound (whole s) bytes is-sound)

-- ---- turns one after another

-- the definition's turns from the start on are what was printed, and then those from here on
pub record Behind (printed : List ℕ) (all rest : Turn) : Type 0 where
  pub lines : join all.lines ≡ printed ++ join rest.lines
  pub seen : all.seen ≡ rest.seen
  pub book : all.book ≡ rest.book

module _ (seen : ℕ) (b : Meaning.Book contracts) (kept part : List ℕ) (rest : List (List ℕ)) (final : List ℕ) where
  abbrev first : Turn
  first = turn_of seen b false (kept ++ part)

  turn_on : first.going ≡ true → Behind (join first.lines) (all_turns seen b kept (part ∷ rest) final) (all_turns first.seen first.book first.kept rest final)
  unfolding all_turns
  turn_on g = rw g (record { lines = join-append first.lines (all_turns first.seen first.book first.kept rest final).lines; seen = refl; book = refl })

  turn-stops : first.going ≡ false → all_turns seen b kept (part ∷ rest) final ≡ first
  unfolding all_turns
  turn-stops g = rw g refl

behind-then : {printed text : List ℕ} {all rest later : Turn} → Behind printed all rest → Behind text rest later → Behind (printed ++ text) all later
behind-then {printed} {text} {all} {rest} {later} p q =
    record {
      lines = p.lines ∙ ap (λ (l : List ℕ). printed ++ l) q.lines ∙ sym (append_assoc printed text (join later.lines));
      seen = p.seen ∙ q.seen;
      book = p.book ∙ q.book;
    }

-- what was printed, how many messages were told and what is left
pub record AreTurns (printed : List ℕ) (seen : ℕ) (t : State) (d : Turn) : Type 0 where
  pub lines : printed ≡ join d.lines
  pub seen-then : seen ≡ d.seen
  pub book : whole t ≡ d.book
  pub stays : sound (whole t) ≡ true

last_turn : {printed text : List ℕ} {all : Turn} {r : Turned} {t : State} {bytes : List ℕ} {d : Turn} → Behind printed all d → IsTurn r t bytes text d → sound (whole t) ≡ true
    → AreTurns (printed ++ text) r.seen t all
last_turn {printed} {text} b d s =
    record {
      lines = ap (λ (l : List ℕ). printed ++ l) d.lines ∙ sym b.lines;
      seen-then = d.seen ∙ sym b.seen;
      book = d.book ∙ sym b.book;
      stays = s;
    }

module _ {seen₀ : ℕ} {s₀ : State} {kept₀ : List ℕ} (is-sound : sound (whole s₀) ≡ true) where
  goes_on : {parts : List (List ℕ)} {printed : List ℕ} {seen : ℕ} {s : State} {kept : List ℕ} → GoesOn seen₀ s₀ kept₀ parts printed seen s kept
      → (sound (whole s) ≡ true)
      × ((rest : List (List ℕ)) (final : List ℕ) → Behind printed (all_turns seen₀ (whole s₀) kept₀ (parts ++ rest) final) (all_turns seen (whole s) kept rest final))
  goes_on no-turn = (is-sound, λ rest final. record { lines = refl; seen = refl; book = refl })
  goes_on (one-turn {parts} {printed} {seen} {s} {kept} part r t text later g turn going keeps) =
      let before = goes_on g in
      let d = turn_is before.0 turn in (
        turn-sound before.0 turn,
        λ rest final.
            let next = turn_on seen (whole s) kept part rest final (sym d.going ∙ going) in
            let here : Behind text (all_turns seen (whole s) kept (part ∷ rest) final) (all_turns r.seen (whole t) later rest final) =
            rw (d.lines, d.seen, d.book, keeps-is keeps ∙ d.kept) next in
            rw (append_assoc parts (part ∷ []) rest) (behind-then (before.1 (part ∷ rest) final) here),
      )

  pub all-turns : {parts : List (List ℕ)} {final printed : List ℕ} {seen : ℕ} {t : State} → AllTurns seen₀ s₀ kept₀ parts final printed seen t
      → AreTurns printed seen t (all_turns seen₀ (whole s₀) kept₀ parts final)
  unfolding all_turns
  all-turns (input-ends {parts} {printed} {seen} {s} {kept} final r t text g turn) =
      let before = goes_on g in
      last_turn (rw (append-nil parts) at (before.1 [] final)) (turn_is before.0 turn) (turn-sound before.0 turn)
  all-turns (unreadable {parts} {printed} {seen} {s} {kept} part rest final r t text g turn stops) =
      let before = goes_on g in
      let d = turn_is before.0 turn in
      last_turn (rw (turn-stops seen (whole s) kept part rest final (sym d.going ∙ stops)) at (before.1 (part ∷ rest) final)) d (turn-sound before.0 turn)
