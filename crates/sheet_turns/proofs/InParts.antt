-- Messages that come in parts are answered as if they came at once: what is told of the bytes at hand, and then of what is kept of them with the
-- bytes that come behind, is what would be told of them all.
use mathlib.Core.Bool.{Bool, true, false, true≢false}
use mathlib.Core.List.{List, [], ◌∷◌, ◌++◌}
use mathlib.Core.Logic.{◌≢◌}
use mathlib.Core.Path.{◌≡◌, refl, sym, ap, ◌∙◌}
use Prim.Native.Nat.{ℕ, zero, suc, ◌+◌, ◌-◌, ◌≤◌, ◌<◌}
use native.Mathlib.Nat.{zero-add, add_assoc}
use native.Mathlib.Omega.{arith}
use lib.ListN.{length, take, drop, length-append, length-drop}
use lib.Seq.{drop-append-le, drop-drop}
use borrow.Author.Tests.{ne_eqb, lt-ltb, le-ltb, le-leb, lt-leb}
use Rattle.words.specs.Tests.{◌<?◌, ◌≤?◌}
use Rattle.words.specs.Rules.{Outcome}
use Rattle.laws.proofs.Cases.{by-eq, by-lt}
use Rattle.meaning.specs.Ledgers.{contracts}
use Rattle.meaning.specs.Books.{Book}
use Rattle.meaning.specs.PackedMessages.{read_message}
use Rattle.meaning.specs.PackedCalls.{Step, stepped, Run, applied_all, answers_in}
use Rattle.meaning.proofs.PackedCalls.{read-takes, stepped-read, stepped-unread, unread-stays, takes-read, no_room, bytes-ended, unreadable, one_more}
use Rattle.meaning.proofs.ReadMore.{read_more}
use Rattle.meaning.specs.Sheet.{run_over}
use Rattle.sheet_turns.specs.Turns.{last_in, waits_for, waits, count_told, told_count, told, goes}

-- ---- any room that is enough gives the same run

module _ (b : Book contracts) (bytes : List ℕ) where
  abbrev one : Step
  one = stepped b bytes

  -- a message that is read leaves fewer bytes
  fewer : length bytes ≢ 0 → one.length ≢ 0 → length (drop one.length bytes) < length bytes
  fewer s t = omega (arith, length-drop one.length bytes)

  abbrev one_then : Run → Run
  one_then rest = record { outcomes = one.outcome ∷ rest.outcomes; used = one.length + rest.used; book = rest.book }

pub enough : (m n : ℕ) (b : Book contracts) (bytes : List ℕ) → length bytes ≤ m → length bytes ≤ n → applied_all m b bytes ≡ applied_all n b bytes
enough zero n b bytes h k = no_room b bytes 0 refl ∙ sym (bytes-ended b bytes n (omega arith))
enough (suc m) zero b bytes h k = bytes-ended b bytes (suc m) (omega arith) ∙ sym (no_room b bytes 0 refl)
enough (suc m) (suc n) b bytes h k =
    by-eq (length bytes) 0
    (λ e. bytes-ended b bytes (suc m) e ∙ sym (bytes-ended b bytes (suc n) e))
    (λ s.
    by-eq (stepped b bytes).length 0
    (λ e. unreadable b bytes m s e ∙ sym (unreadable b bytes n s e))
    (λ t.
    let f = fewer b bytes s t in
    let rest = enough m n (stepped b bytes).book (drop (stepped b bytes).length bytes) (omega (arith, f)) (omega (arith, f)) in
    one_more b bytes m s t ∙ ap (one_then b bytes) rest ∙ sym (one_more b bytes n s t)))

-- a run that stops before the bytes end was stopped by a message
some-outcome : (n : ℕ) (b : Book contracts) (bytes : List ℕ) → length bytes ≤ n → (applied_all n b bytes).used < length bytes → 0 < length (applied_all n b bytes).outcomes
some-outcome zero b bytes h u = absurd (omega (arith, h, u))
some-outcome (suc n) b bytes h u =
    by-eq (length bytes) 0
    (λ e. absurd (omega (arith, u, e)))
    (λ s.
    by-eq (stepped b bytes).length 0
    (λ e. rw (unreadable b bytes n s e) (omega arith))
    (λ t. rw (one_more b bytes n s t) (omega arith)))

-- ---- what is told, one message more

-- both numbers larger by the same
plus-lt : (k u s : ℕ) → (k + u <? k + s) ≡ (u <? s)
plus-lt k u s =
    by-lt u s
    (λ h. lt-ltb (k + u) (k + s) (omega arith) ∙ sym (lt-ltb u s h))
    (λ h. le-ltb (k + u) (k + s) (omega arith) ∙ sym (le-ltb u s h))

plus-le : (k s u : ℕ) → (k + s ≤? k + u) ≡ (s ≤? u)
plus-le k s u =
    by-lt u s
    (λ h. lt-leb (k + s) (k + u) (omega arith) ∙ sym (lt-leb s u h))
    (λ h. le-leb (k + s) (k + u) (omega arith) ∙ sym (le-leb s u h))

pred : (n : ℕ) → suc n - 1 ≡ n
pred n = omega arith

last_more : (o : Outcome) (os : List Outcome) → 0 < length os → last_in (answers_in (o ∷ os)) (suc (length os)) ≡ last_in (answers_in os) (length os)
unfolding last_in
last_more o [] h = absurd (omega arith)
last_more o (x ∷ xs) h = rw (pred (suc (length xs)), pred (length xs), ne_eqb (suc (suc (length xs))) 0 (λ e. omega arith), ne_eqb (suc (length xs)) 0 (λ e. omega arith))

told_more : (o : Outcome) (os : List Outcome) (waiting : Bool) → (waiting ≡ true → 0 < length os)
    → take (count_told waiting (suc (length os))) (o ∷ os) ≡ o ∷ take (count_told waiting (length os)) os
unfolding count_told
told_more o os false h = refl
told_more o [] true h = absurd (omega (arith, h refl))
told_more o (x ∷ xs) true h = rw (pred (suc (length xs)), pred (length xs)) refl

module _ (o : Outcome) (k size : ℕ) (rest : Run) (some : rest.used < size → 0 < length rest.outcomes) where
  abbrev more : Run
  more = record { outcomes = o ∷ rest.outcomes; used = k + rest.used; book = rest.book }

  waits-more : waits false (k + size) more ≡ waits false size rest
  unfolding waits waits_for
  waits-more =
      by-lt rest.used size
      (λ h. rw (plus-lt k rest.used size, last_more o rest.outcomes (some h)))
      (λ h. rw (plus-lt k rest.used size, le-ltb rest.used size h))

  waiting-some : waits false size rest ≡ true → 0 < length rest.outcomes
  unfolding waits waits_for
  waiting-some e =
      by-lt rest.used size
      some
      (λ h. absurd (true≢false (sym (rw (le-ltb rest.used size h) at e))))

  goes-more : goes false (k + size) more ≡ goes false size rest
  unfolding goes
  goes-more = rw (plus-le k size rest.used, waits-more)

  told-one-more : told false (k + size) more ≡ o ∷ told false size rest
  unfolding told told_count
  told-one-more = rw waits-more (told_more o rest.outcomes (waits false size rest) waiting-some)

-- ---- bytes at hand, and bytes behind them

zero-not-19 : (n : ℕ) → n ≡ 0 → n ≢ 19
zero-not-19 n z e = omega (arith, z, e)

abbrev then_run : List Outcome → ℕ → Run → Run
then_run outcomes used rest = record { outcomes = outcomes ++ rest.outcomes; used = used + rest.used; book = rest.book }

-- what a run of the bytes at hand says of the run of all
module _ (b : Book contracts) (bytes later : List ℕ) (r : Run) where
  pub record Split : Type 0 where
    pub going : goes false (length bytes) r ≡ true
        → run_over b (bytes ++ later) ≡ then_run (told false (length bytes) r) r.used (run_over r.book (drop r.used bytes ++ later))
    pub ended : goes false (length bytes) r ≡ false → run_over b (bytes ++ later) ≡ r

then-nothing : (r : Run) → r ≡ then_run [] 0 r
then-nothing r = ap (λ (u : ℕ). record { outcomes = r.outcomes; used = u; book = r.book }) (sym (zero-add r.used))

split-none : (b : Book contracts) (later : List ℕ) (r : Run) → r ≡ record { outcomes = []; used = 0; book = b } → Split b [] later r
unfolding goes waits waits_for told told_count count_told last_in
split-none b later r e = rw e (record { going = λ g. then-nothing (run_over b later); ended = λ g. absurd (true≢false g) })

-- a run that an unreadable message stops at once
module _ (o : Outcome) (size : ℕ) (b : Book contracts) (some : size ≢ 0) where
  abbrev stopped : Run
  stopped = record { outcomes = o ∷ []; used = 0; book = b }

  too-soon-waits : o.answer ≡ 19 → waits false size stopped ≡ true
  unfolding waits waits_for last_in
  too-soon-waits e = rw (e, lt-ltb 0 size (omega arith))

  too-soon-goes : o.answer ≡ 19 → goes false size stopped ≡ true
  unfolding goes
  too-soon-goes e = rw (lt-leb size 0 (omega arith), too-soon-waits e)

  too-soon-told : o.answer ≡ 19 → told false size stopped ≡ []
  unfolding told told_count count_told
  too-soon-told e = rw (too-soon-waits e)

  other-ends : o.answer ≢ 19 → goes false size stopped ≡ false
  unfolding goes waits waits_for last_in
  other-ends n = rw (lt-leb size 0 (omega arith), lt-ltb 0 size (omega arith), ne_eqb o.answer 19 n)

module _ (b : Book contracts) (bytes later : List ℕ) (s : length bytes ≢ 0) where
  abbrev all : List ℕ
  all = bytes ++ later

  all-some : length all ≢ 0
  all-some e = s (omega (arith, e, length-append bytes later))

  -- the run of all, its first message apart
  all-unreadable : (stepped b all).length ≡ 0 → run_over b all ≡ record { outcomes = (stepped b all).outcome ∷ []; used = 0; book = b }
  unfolding run_over
  all-unreadable e = enough (length all) (suc (length all)) b all (omega arith) (omega arith) ∙ unreadable b all (length all) all-some e

  all-one-more : (stepped b all).length ≢ 0 → run_over b all ≡ one_then b all (run_over (stepped b all).book (drop (stepped b all).length all))
  unfolding run_over
  all-one-more t =
      let f = fewer b all all-some t in
      enough (length all) (suc (length all)) b all (omega arith) (omega arith) ∙ one_more b all (length all) all-some t
      ∙ ap (one_then b all) (enough (length all) (length (drop (stepped b all).length all)) (stepped b all).book (drop (stepped b all).length all) (omega (arith, f)) (omega arith))

  -- a message that does not end too soon is done alike, whatever is behind it
  same-one : (read_message bytes).answer ≢ 19 → stepped b all ≡ stepped b bytes
  unfolding stepped
  same-one n = rw (read_more bytes later n)

  split-unreadable : (r : Run) → (stepped b bytes).length ≡ 0 → r ≡ record { outcomes = (stepped b bytes).outcome ∷ []; used = 0; book = b } → Split b bytes later r
  split-unreadable r e q =
      let o = (stepped b bytes).outcome in
      let read : o.answer ≡ (read_message bytes).answer = ap (λ (x : Step). x.outcome.answer) (stepped-unread bytes b (unread-stays bytes b e)) in
      rw q
      (by-eq o.answer 19
      (λ z. record {
        going = λ g. rw (too-soon-told o (length bytes) b s z) (then-nothing (run_over b all));
        ended = λ g. absurd (true≢false (sym (too-soon-goes o (length bytes) b s z) ∙ g));
      })
      (λ n.
      let same = same-one (λ w. n (read ∙ w)) in
      record {
        going = λ g. absurd (true≢false (sym g ∙ other-ends o (length bytes) b s n));
        ended = λ g. all-unreadable (ap (λ (x : Step). x.length) same ∙ e) ∙ ap (λ (x : Step). record { outcomes = x.outcome ∷ []; used = 0; book = b }) same;
      }))

  -- a message that is read, and the same of the bytes after it
  split-more : (r rest : Run) → (stepped b bytes).length ≢ 0 → r ≡ one_then b bytes rest
      → (rest.used < length (drop (stepped b bytes).length bytes) → 0 < length rest.outcomes)
      → Split (stepped b bytes).book (drop (stepped b bytes).length bytes) later rest → Split b bytes later r
  split-more r rest t q some p =
      let k = (stepped b bytes).length in
      let o = (stepped b bytes).outcome in
      let e = takes-read bytes b t in
      let same = same-one (zero-not-19 (read_message bytes).answer e) in
      let fits : k ≤ length bytes = rw (stepped-read bytes b e) (read-takes bytes e).1 in
      let size : length bytes ≡ k + length (drop k bytes) = omega (arith, length-drop k bytes, fits) in
      let whole : run_over b all ≡ one_then b bytes (run_over (stepped b bytes).book (drop k bytes ++ later)) =
      all-one-more (λ z. t (sym (ap (λ (x : Step). x.length) same) ∙ z))
      ∙ ap (λ (x : Step). record { outcomes = x.outcome ∷ (run_over x.book (drop x.length all)).outcomes; used = x.length + (run_over x.book (drop x.length all)).used; book = (run_over x.book (drop x.length all)).book }) same
      ∙ ap (λ (x : List ℕ). one_then b bytes (run_over (stepped b bytes).book x)) (drop-append-le k bytes later fits) in
      let goes-rest : goes false (length bytes) r ≡ goes false (length (drop k bytes)) rest =
      ap (goes false (length bytes)) q ∙ ap (λ (n : ℕ). goes false n (one_then b bytes rest)) size ∙ goes-more o k (length (drop k bytes)) rest some in
      record {
        going = λ g.
            let rest-told = told false (length (drop k bytes)) rest in
            let rest-run : List ℕ → Run = λ x. run_over rest.book (x ++ later) in
            let one_told : told false (length bytes) (one_then b bytes rest) ≡ o ∷ rest-told =
            ap (λ (n : ℕ). told false n (one_then b bytes rest)) size ∙ told-one-more o k (length (drop k bytes)) rest some in
            whole ∙ ap (one_then b bytes) (p.going (sym goes-rest ∙ g))
            ∙ ap (λ (u : ℕ). record { outcomes = o ∷ (rest-told ++ (rest-run (drop rest.used (drop k bytes))).outcomes); used = u; book = (rest-run (drop rest.used (drop k bytes))).book })
            (sym (add_assoc k rest.used (rest-run (drop rest.used (drop k bytes))).used))
            ∙ ap (λ (x : List ℕ). then_run (o ∷ rest-told) (k + rest.used) (rest-run x)) (drop-drop rest.used k bytes)
            ∙ ap (λ (x : List Outcome). then_run x (k + rest.used) (rest-run (drop (k + rest.used) bytes))) (sym one_told)
            ∙ ap (λ (z : Run). then_run (told false (length bytes) z) z.used (run_over z.book (drop z.used bytes ++ later))) (sym q);
        ended = λ g. whole ∙ ap (one_then b bytes) (p.ended (sym goes-rest ∙ g)) ∙ sym q;
      }

split-empty : (n : ℕ) (b : Book contracts) (bytes later : List ℕ) → length bytes ≡ 0 → Split b bytes later (applied_all n b bytes)
split-empty n b [] later e = split-none b later (applied_all n b []) (bytes-ended b [] n refl)
split-empty n b (x ∷ bytes) later e = absurd (omega (arith, e))

-- by the first message, and then the others
split : (n : ℕ) (b : Book contracts) (bytes later : List ℕ) → length bytes ≤ n → Split b bytes later (applied_all n b bytes)
split zero b bytes later h = split-empty zero b bytes later (omega arith)
split (suc n) b bytes later h =
    by-eq (length bytes) 0
    (split-empty (suc n) b bytes later)
    (λ s.
    by-eq (stepped b bytes).length 0
    (λ e. split-unreadable b bytes later s (applied_all (suc n) b bytes) e (unreadable b bytes n s e))
    (λ t.
    let f = fewer b bytes s t in
    let rest = drop (stepped b bytes).length bytes in
    let next = (stepped b bytes).book in
    split-more b bytes later s (applied_all (suc n) b bytes) (applied_all n next rest) t (one_more b bytes n s t) (some-outcome n next rest (omega (arith, f))) (split n next rest later (omega (arith, f)))))

pub in_two : (b : Book contracts) (bytes later : List ℕ) → Split b bytes later (run_over b bytes)
unfolding run_over
in_two b bytes later = split (length bytes) b bytes later (omega arith)
