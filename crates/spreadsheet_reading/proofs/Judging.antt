-- The table's refusals are the definition's, at a byte and at the end.
use mathlib.Core.Bool.{true, false, not}
use mathlib.Core.List.{List, [], ◌∷◌, ◌++◌}
use mathlib.Core.Path.{◌≡◌, refl, sym, ap, ◌∙◌, subst}
use Prim.Native.Nat.{ℕ, ◌+◌, ◌≤◌, ◌<◌}
use native.Mathlib.Omega.{arith}
use lib.ListN.{length, take, get_or}
use lib.Seq.{take-suc, take-length}
use borrow.Author.Tests.{lt-ltb, le-ltb}
use Rattle.words.specs.Tests.{◌=?◌}
use Rattle.laws.proofs.Cases.{on, not-true}
use Rattle.patterns.specs.Patterns.{Pattern}
use Rattle.spreadsheets.specs.Refusals.{Language, numbers, valid, number, File, Begins, Goes, Judged, accepted, refused}
use Rattle.spreadsheet_reading.specs.Machine.{column_of, turn_at, state_in, refusal_in}
use Rattle.patterns.proofs.Derivatives.{nullable, possible, is_never, derives}
use Rattle.spreadsheet_reading.proofs.RightTables.{column-small, state-possible, next_small, refuses-byte, refuses-end, accepts-end, name}
use Rattle.spreadsheet_reading.proofs.TableTests.{pattern_of, left, onward}
use Rattle.spreadsheets.proofs.LineCount.{begun_from, begun-append, entries-length}
use Rattle.spreadsheet_reading.proofs.Reached.{At, none-begins, some-begins, is-file, no-file, onward-follows, next-follows, more-lines, valid-begins, few-entries}

-- ---- a byte that is refused

module _ (s : List ℕ) (i state begun : ℕ) (h : i < length s) (byte : get_or s i 0 < 256) (a : At (take i s) state begun) (few : begun ≤ 50) where
  abbrev b : ℕ
  b = get_or s i 0

  abbrev turn : ℕ
  turn = turn_at state (column_of b)

  goes-now : (l : Language) → Begins l (take i s ++ (b ∷ [])) → Goes l s i
  goes-now l g = rw (lt-ltb i (length s) h, take-suc s i 0 h) g

  goes_then : (l : Language) → Goes l s i → Begins l (take i s ++ (b ∷ []))
  goes_then l g = rw (lt-ltb i (length s) h, take-suc s i 0 h) at g

  gone-then : (l : Language) → number l < 32 → is_never (onward state (column_of b) l) ≡ true → (k : Language) → pattern_of k ≡ pattern_of l → Goes k s i → ⊥
  gone-then l k e m p g =
      none-begins (take i s ++ (b ∷ [])) m
      (subst (λ (q : Pattern). is_never (derives (take i s ++ (b ∷ [])) q) ≡ true) (sym p)
      (ap is_never (onward-follows (take i s) state begun b a byte l k) ∙ e))
      (goes_then m g)

  refused-now : turn < 65 → Judged s (refusal_in turn) i
  refused-now dead =
      let n = name (λ l. is_never (onward state (column_of b) l)) (λ l. possible (onward state (column_of b) l)) turn (refuses-byte state a.small (column_of b) (column-small b byte) dead) in
      subst (λ (k : ℕ). Judged s k i) n.named
      (refused n.language i (record {
        within = omega arith;
        so_far = valid-begins (take i s) state begun a few;
        no_more = gone-then numbers (omega arith) n.all-out valid refl;
        outside = gone-then n.language n.below n.out n.language refl;
        lowest = λ l k.
            let lt : number l < 32 = omega (arith, n.below) in
            goes-now l (some-begins (take i s ++ (b ∷ [])) l lt (ap possible (onward-follows (take i s) state begun b a byte l lt) ∙ n.others l k));
      }))

  pub refused-here : (met : ℕ) → met ≡ turn → met < 65 → Judged s (refusal_in met) i
  refused-here met e dead = rw e (refused-now (omega (arith, e)))

  too_many : state ≡ 25 → begun ≡ 50 → Goes valid s i → ⊥
  too_many e f g =
      let (rest, (m, few')) = goes_then valid g in
      let u = take i s ++ (b ∷ []) in
      let z : begun_from true (take i s) ≡ begun + 1 = rw e at a.lines in
      let w : begun_from true u ≡ begun_from true (take i s) + 1 = rw e at (more-lines (take i s) state begun b a byte) in
      omega (arith, few', entries-length (u ++ rest), begun-append true u rest)

  pub refused-most : 65 ≤ turn → state ≡ 25 → begun ≡ 50 → Judged s 32 i
  refused-most live e f =
      refused valid i (record {
        within = omega arith;
        so_far = valid-begins (take i s) state begun a few;
        no_more = too_many e f;
        outside = too_many e f;
        lowest = λ l k.
            goes-now l (some-begins (take i s ++ (b ∷ [])) l k
            (ap possible (next-follows (take i s) state begun b a byte live l k) ∙ state-possible (state_in turn) (next_small state a.small (column_of b) (column-small b byte) live) l k));
      })

-- ---- the end

module _ (s : List ℕ) (state begun : ℕ) (a : At s state begun) (few : begun ≤ 50) where
  pub judged-file : turn_at state 18 ≡ 46 → Judged s 0 (length s)
  judged-file e =
      accepted (
        is-file s numbers (omega arith) (ap nullable (a.follows numbers (omega arith)) ∙ accepts-end state a.small e),
        few-entries s state begun a few,
      )

  goes_end : (l : Language) → File l s → Goes l s (length s)
  goes_end l g = rw (le-ltb (length s) (length s) (omega arith)) g

  end_goes : (l : Language) → Goes l s (length s) → File l s
  end_goes l g = rw (le-ltb (length s) (length s) (omega arith)) at g

  gone-end : (l : Language) → number l < 32 → not (nullable (left l state)) ≡ true → (k : Language) → pattern_of k ≡ pattern_of l → Goes k s (length s) → ⊥
  gone-end l k e m p g =
      no-file s m
      (subst (λ (q : Pattern). nullable (derives s q) ≡ false) (sym p) (ap nullable (a.follows l k) ∙ not-true (nullable (left l state)) e))
      (end_goes m g)

  refused-there : (turn_at state 18 ≡ 46 → ⊥) → Judged s (refusal_in (turn_at state 18)) (length s)
  refused-there dead =
      let n = name (λ l. not (nullable (left l state))) (λ l. nullable (left l state)) (turn_at state 18) (refuses-end state a.small dead) in
      subst (λ (k : ℕ). Judged s k (length s)) n.named
      (refused n.language (length s) (record {
        within = omega arith;
        so_far = rw (take-length s) (valid-begins s state begun a few);
        no_more = gone-end numbers (omega arith) n.all-out valid refl;
        outside = gone-end n.language n.below n.out n.language refl;
        lowest = λ l k.
            let lt : number l < 32 = omega (arith, n.below) in
            goes_end l (is-file s l lt (ap nullable (a.follows l lt) ∙ n.others l k));
      }))

  pub refused_end : (met place : ℕ) → met ≡ turn_at state 18 → place ≡ length s → (met ≡ 46 → ⊥) → Judged s (refusal_in met) place
  refused_end met place e all dead = rw (e, all) (refused-there (λ f. dead (e ∙ f)))

-- every refusal has a number
pub refusal-some : (turn : ℕ) → (refusal_in turn =? 0) ≡ false
refusal-some turn = on (turn =? 57) (λ e. rw e) (λ e. on (turn =? 48) (λ f. rw (e, f)) (λ f. rw (e, f)))
