-- THE SHEET PROGRAM PRINTS THE SHEET: its calls one after another, of which nothing is known but their promises, print document 01's sheet of all the
-- input, in whatever parts that came.
use Rattle.std.proofs.Common.{◌≡◌, ℕ, ◌^◌, ◌<◌, ◌≤◌, true, ◌≢◌, List, [], ◌∷◌, ◌++◌, length, drop, ℤ, sym, refl, ap, ◌∙◌, ap₂, append_assoc, append-nil, arith, ltb-true, eq-eqb, ne_eqb}
use Rattle.words.specs.Tests.{◌<?◌}
use Rattle.words.specs.Lists.{every, build, join}
use Rattle.words.specs.Rules.{Rule, answer}
use Rattle.laws.proofs.Cases.{on, by-eq, and_left, and_right}
use Rattle.meaning.specs.Ledgers.{contracts}
use Rattle.meaning.specs.Books.{Setup, opening_rules, opened_book}
use Rattle.meaning.specs.PackedMessages.{Reading}
use Rattle.meaning.specs.Soundness.{sound}
use Rattle.meaning.specs.PackedSetups.{setup_in, setup_reading_rules, read_setup}
use Rattle.meaning.proofs.Contracts.{contracts-lawful}
use Rattle.meaning.proofs.Keeps.{opened-sound}
use Rattle.meaning.proofs.PackedSetupRules.{setup-reading-answer, setup-reading-done, setup-readable}
use Rattle.meaning.proofs.SetupRules.{opens}
use Rattle.setups.specs.Structs.{setup_of, setup_for}
use Rattle.setup_reading.proofs.ReadParts.{struct_holds, few-codes, few-rows}
use Rattle.book.specs.Answers.{opened_packed, held_opened, side_opened}
use Rattle.book.proofs.OpeningLaws.{opening_answer, opened-book}
use Rattle.meaning.specs.SheetLines.{end_line}
use Rattle.sheet_lines.specs.Places.{placed}
use Rattle.sheet_lines.proofs.Lengths.{sheet-most, end-most, setup-most}
use Rattle.meaning.specs.Sheet.{slots, lent_for, read_first, total_lines, sheet_text}
use Rattle.sheet_turns.specs.Turns.{line_for, first_line, seen_after, Turn, all_turns, printed}
use Rattle.sheet_turns.proofs.ByTurns.{all_told, Enough, printed-sheet}
use Rattle.sheet_parts.specs.Parts.{begun_of, account_days, account_day_lines}
use Rattle.sheet_parts.specs.Program.{State, BeginsOn, account_days_in, TotalsPut, no-total, one-total, Prints, refused, sheet}
use Rattle.sheet_parts.specs.Seen.{Begun}
use Rattle.sheet_parts.proofs.AccountDays.{own-days, join-append, every-account-day}
use Rattle.sheet_parts.proofs.DayRoom.{few-of-account-day}
use Rattle.sheet_parts.proofs.Fronts.{front-line, front-lines}
use Rattle.sheet_parts.proofs.LineLaws.{join-on, join-next}
use Rattle.sheet_parts.proofs.TurnsTaken.{whole, keeps-is, all-turns}

-- ---- the first line is short

rules-below : (n : ℕ) (rules : List Rule) → 0 < n → every (λ (r : Rule). r.number <? n) rules ≡ true → answer rules < n
unfolding every answer
rules-below n [] p h = p
rules-below n (r ∷ rules) p h =
    on r.met
    (λ e. rw e (ltb-true r.number n (and_left (r.number <? n) (every (λ (x : Rule). x.number <? n) rules) h)))
    (λ e. rw e (rules-below n rules p (and_right (r.number <? n) (every (λ (x : Rule). x.number <? n) rules) h)))

module _ (input : List ℕ) where
  read_number : (read_first input).answer ≡ answer (setup_reading_rules input slots (lent_for input) (lent_for input))
  unfolding read_first
  read_number = setup-reading-answer input slots (lent_for input) (lent_for input)

  small-number : (read_first input).answer < 256
  unfolding setup_reading_rules every
  small-number = rw read_number (rules-below 256 (setup_reading_rules input slots (lent_for input) (lent_for input)) (omega arith) refl)

  module _ (e : (read_first input).answer ≡ 0) where
    none-refuses : answer (setup_reading_rules input slots (lent_for input) (lent_for input)) ≡ 0
    none-refuses = sym read_number ∙ e

    read-setup : (read_first input).read ≡ setup_in input
    unfolding read_first
    read-setup = ap (λ (r : Reading Setup). r.read) (setup-reading-done input slots (lent_for input) (lent_for input) none-refuses)

    held-in-struct : setup_of (setup_for (read_first input).read) ≡ (read_first input).read
    held-in-struct =
        let r = setup-readable input slots (lent_for input) (lent_for input) none-refuses in
        rw read-setup (struct_holds (setup_in input) (few-codes (setup_in input) r.counts) (few-rows (setup_in input) r.counts))

    opens-read : answer (opening_rules (read_first input).read slots (lent_for input) (lent_for input)) ≡ 0
    unfolding answer opening_rules
    opens-read =
        let r = setup-readable input slots (lent_for input) (lent_for input) none-refuses in
        rw (read-setup, r.counts, r.last_day, r.lent, r.codes, r.rows)

  first_short : length (first_line (read_first input)) ≤ 64
  unfolding first_line line_for
  first_short =
      by-eq (read_first input).answer 0
      (λ e.
      let o = opens (read_first input).read slots (lent_for input) (lent_for input) (opens-read e) in
      rw (eq-eqb (read_first input).answer 0 e) (sheet-most (read_first input).read.first (length (read_first input).read.codes) (read_first input).read.accounts (omega (arith, o.last-day)) (omega (arith, o.few-days)) (omega (arith, o.few-accounts))))
      (λ n. rw (ne_eqb (read_first input).answer 0 n) (setup-most (read_first input).answer small-number))

-- ---- the beginning

module _ {first held : List ℕ} {side1 side2 : List ℤ} {out : List ℕ} {r : Begun} {s : State} {text : List ℕ} (b : BeginsOn first held side1 side2 out r s text) where
  abbrev reading : Reading Setup
  reading = read_first first

  same-reading : read_setup first (length held) (length side1) (length side2) ≡ reading
  unfolding read_first
  same-reading = rw (b.held-lent, b.side1-lent, b.side2-lent) refl

  result : r ≡ begun_of (length out) reading
  result = b.promise.0 ∙ ap (begun_of (length out)) same-reading

  same_answer : r.answer ≡ reading.answer
  unfolding begun_of opened_packed
  same_answer = ap (λ (x : Begun). x.answer) result

  same-used : r.used ≡ reading.length
  unfolding begun_of opened_packed
  same-used = ap (λ (x : Begun). x.used) result

  printed-first : text ≡ first_line reading
  unfolding begun_of
  printed-first =
      b.prints
      ∙ front-line out s.out r.written (first_line reading) (first_short first) (omega (arith, b.out-lent)) (b.promise.4 ∙ ap (λ (x : Reading Setup). placed out 0 (first_line x)) same-reading, ap (λ (x : Begun). x.written) result)

  module _ (e : reading.answer ≡ 0) where
    book-opened : whole s ≡ opened_book contracts reading.read slots
    unfolding begun_of opened_packed
    book-opened =
        let x = setup_for reading.read in
        let o : opening_answer x held side1 side2 ≡ 0 = rw (held-in-struct first e, b.held-lent, b.side1-lent, b.side2-lent) (opens-read first e) in
        rw (b.book ∙ ap (λ (y : Begun). y.book) result, b.promise.1 ∙ ap (λ (y : Reading Setup). held_opened y.answer held) same-reading, b.promise.2 ∙ ap (λ (y : Reading Setup). side_opened y.answer side1) same-reading, b.promise.3 ∙ ap (λ (y : Reading Setup). side_opened y.answer side2) same-reading, e)
        (opened-book x held side1 side2 o ∙ ap₂ (opened_book contracts) (held-in-struct first e) b.held-lent)

    begins-sound : sound (whole s) ≡ true
    begins-sound = rw book-opened (opened-sound contracts-lawful reading.read slots (lent_for first) (lent_for first) (opens-read first e))

-- ---- the totals

totals-put : {s : State} {k : ℕ} {text out : List ℕ} → sound (whole s) ≡ true → TotalsPut s k text out → text ≡ join (join (build k (account_day_lines (whole s))))
unfolding build join
totals-put h no-total = refl
totals-put {s} h (one-total {k} {printed} {out} left written before below lent p) =
    let f : ℕ → List (List ℕ) = account_day_lines (whole s) in
    let few = few-of-account-day (whole s) k h in
    ap₂ (λ (xs ys : List ℕ). xs ++ ys) (totals-put h before) (front-lines 64 out left written (f k) few.0 (omega (arith, few.1, lent)) p)
    ∙ sym (ap join (join-next k f) ∙ join-append (join (build k f)) (f k))

all-totals : {s : State} {text out : List ℕ} → sound (whole s) ≡ true → TotalsPut s (account_days_in s.book) text out → text ≡ join (total_lines (whole s))
unfolding account_days
all-totals {s} h t =
    let count : account_days_in s.book ≡ account_days (whole s) = rw (own-days s.book s.held s.side1 s.side2 0) refl in
    totals-put h t ∙ ap (λ (n : ℕ). join (join (build n (account_day_lines (whole s))))) count ∙ ap join (every-account-day (whole s))

-- ---- the sheet

module _ (first : List ℕ) (parts : List (List ℕ)) (final : List ℕ) where
  abbrev turns : Turn
  turns = all_turns 0 (opened_book contracts (read_first first).read slots) (drop (read_first first).length first) parts final

  refused-text : (read_first first).answer ≢ 0 → join (printed first parts final) ≡ first_line (read_first first)
  unfolding printed join
  refused-text n = rw (ne_eqb (read_first first).answer 0 n) (append-nil (first_line (read_first first)))

  sheet-text : (read_first first).answer ≡ 0 → join (printed first parts final) ≡ first_line (read_first first) ++ (join turns.lines ++ (join (total_lines turns.book) ++ end_line turns.seen))
  unfolding printed join
  sheet-text e =
      let totals = total_lines turns.book in
      rw (eq-eqb (read_first first).answer 0 e)
      (ap (λ (l : List ℕ). first_line (read_first first) ++ l)
      (join-on (turns.lines ++ totals) (end_line turns.seen)
      ∙ ap (λ (l : List ℕ). l ++ end_line turns.seen) (join-append turns.lines totals)
      ∙ append_assoc (join turns.lines) (join totals) (end_line turns.seen)))

  told-few : turns.seen < 2 ^ 64
  unfolding seen_after
  told-few = rw (all_told 0 (opened_book contracts (read_first first).read slots) (drop (read_first first).length first) parts final).seen (omega arith)

  pub program-prints-the-sheet : {held : List ℕ} {side1 side2 : List ℤ} {out text : List ℕ} {end : State} → Enough first (join parts ++ final)
      → Prints first held side1 side2 out parts final text end → text ≡ sheet_text (first ++ (join parts ++ final))
  unfolding sheet_text
  program-prints-the-sheet enough (refused b n) =
      printed-first b ∙ sym (refused-text (λ z. n (same_answer b ∙ z))) ∙ ap join (printed-sheet first parts final enough)
  program-prints-the-sheet enough (sheet {r} {s} {t} {opened} {kept} {messages} {totals} {after} {seen} left written b accepted keeps taken put lent p) =
      let e = sym (same_answer b) ∙ accepted in
      let d = all-turns (begins-sound b e) taken in
      let same : all_turns 0 (whole s) kept parts final ≡ turns = ap₂ (λ w k. all_turns 0 w k parts final) (book-opened b e) (keeps-is keeps ∙ ap (λ (n : ℕ). drop n first) (same-used b)) in
      let told : seen ≡ turns.seen = d.seen-then ∙ ap (λ (x : Turn). x.seen) same in
      ap₂ (λ (xs ys : List ℕ). xs ++ ys) (printed-first b)
      (ap₂ (λ (xs ys : List ℕ). xs ++ ys) (d.lines ∙ ap (λ (x : Turn). join x.lines) same)
      (ap₂ (λ (xs ys : List ℕ). xs ++ ys) (all-totals d.stays put ∙ ap (λ w. join (total_lines w)) (d.book ∙ ap (λ (x : Turn). x.book) same))
      (front-line after left written (end_line seen) (end-most seen (rw told told-few)) (omega (arith, lent)) p ∙ ap end_line told)))
      ∙ sym (sheet-text e) ∙ ap join (printed-sheet first parts final enough)
