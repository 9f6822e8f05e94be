-- Refusals 10 and 11 entry by entry: their conditions are those that document 01 has without places, and the place is the least offending entry's.
use mathlib.Core.Bool.{Bool, true, false, not, ◌&&◌, ◌||◌}
use mathlib.Core.List.{List, [], ◌∷◌}
use mathlib.Core.Path.{◌≡◌, refl, sym, ap, ap₂, ◌∙◌}
use Prim.Native.Nat.{ℕ, zero, suc, ◌≤◌, ◌<◌}
use native.Mathlib.Omega.{arith}
use lib.ListN.{length, get_or}
use borrow.Author.Tests.{lt-ltb, le-ltb, le-leb, lt-leb, ltb-true}
use Rattle.words.specs.Tests.{◌<?◌, ◌≤?◌, between}
use Rattle.words.specs.Below.{some_below, first_below}
use Rattle.words.specs.Lists.{any}
use Rattle.laws.proofs.Below.{some-none, some-hit, some-miss, some-ext, some-front, some_first, first-le, first-before, first-is, first_passes, first-least}
use Rattle.laws.proofs.Builds.{any_at}
use Rattle.laws.proofs.Cases.{by-lt, or-true, or_assoc}
use Rattle.meaning.specs.Ledgers.{Sort}
use Rattle.meaning.specs.Messages.{Entry, Notification}
use Rattle.meaning.specs.Settings.{Setting}
use Rattle.meaning.specs.Notifications.{highest_period, entry_at, period_before, period_offends, volume_offends, some_entry, first_entry}

-- ---- tests

not-both : (a b : Bool) → not (a && b) ≡ not a || not b
not-both true b = refl
not-both false b = refl

pub not-between : (before highest p : ℕ) → not (between (suc before) highest p) ≡ highest <? p || p ≤? before
not-between before highest p =
    by-lt highest p
    (λ h. rw (lt-leb p highest h, lt-ltb highest p h) (and_none (suc before ≤? p)))
    (λ h. by-lt before p
    (λ l. rw (le-leb p highest h, le-ltb highest p h, le-leb (suc before) p l, lt-leb p before l))
    (λ l. rw (le-ltb highest p h, lt-leb (suc before) p (omega arith), le-leb p before l)))
  where
    and_none : (b : Bool) → not (b && false) ≡ true
    and_none true = refl
    and_none false = refl

-- those from the m-th on, and others
some-past : (n m : ℕ) (g : ℕ → Bool) → some_below n (λ (k : ℕ). m ≤? k || g k) ≡ m <? n || some_below n g
some-past n m g =
    by-lt m n
    (λ l. some-hit n (λ (k : ℕ). m ≤? k || g k) m l (rw (le-leb m m (omega arith))) ∙ rw (lt-ltb m n l))
    (λ l. some-ext n (λ (k : ℕ). m ≤? k || g k) g (λ k h. rw (lt-leb m k (omega arith))) ∙ rw (le-ltb m n l))

module _ {K : Sort} where
  -- ---- 11: "a volume out of range", in whichever entry

  pub volumes-any : (n : Notification K) → some_entry n (volume_offends n) ≡ any (λ (e : Entry K). not (K.in_range e.volume)) n.entries
  unfolding some_entry volume_offends entry_at
  volumes-any n = sym (any_at (λ (e : Entry K). not (K.in_range e.volume)) n.entries (record { period = 0; volume = K.omitted }))

  -- ---- 10: the periods do not rise strictly from 1 to the highest, or there are more than 50

  -- each period is above the one before it, and none is above the highest
  unfoldable pub rising : ℕ → ℕ → List (Entry K) → Bool
  rising before highest [] = true
  rising before highest (e ∷ es) = between (suc before) highest e.period && rising e.period highest es

  abbrev period_in : List (Entry K) → ℕ → ℕ
  period_in es k = (get_or es k (record { period = 0; volume = K.omitted })).period

  abbrev prior : ℕ → List (Entry K) → ℕ → ℕ
  prior before es zero = before
  prior before es (suc k) = period_in es k

  abbrev wrong_at : ℕ → ℕ → List (Entry K) → ℕ → Bool
  wrong_at before highest es k = highest <? period_in es k || period_in es k ≤? prior before es k

  prior-next : (before : ℕ) (e : Entry K) (es : List (Entry K)) (k : ℕ) → prior e.period es k ≡ prior before (e ∷ es) (suc k)
  prior-next before e es zero = refl
  prior-next before e es (suc k) = refl

  rising-some : (es : List (Entry K)) (before highest : ℕ) → not (rising before highest es) ≡ some_below (length es) (wrong_at before highest es)
  unfolding rising
  rising-some [] before highest = sym (some-none (wrong_at before highest []))
  rising-some (e ∷ es) before highest =
      not-both (between (suc before) highest e.period) (rising e.period highest es)
      ∙ ap₂ ◌||◌
      (not-between before highest e.period)
      (rising-some es e.period highest
      ∙ some-ext (length es) (wrong_at e.period highest es) (λ (k : ℕ). wrong_at before highest (e ∷ es) (suc k))
      (λ k l. ap (λ (x : ℕ). highest <? period_in es k || period_in es k ≤? x) (prior-next before e es k)))
      ∙ sym (some-front (length es) (wrong_at before highest (e ∷ es)))

  module _ (s : Setting) (n : Notification K) where
    abbrev highest : ℕ
    highest = highest_period s n

    offends-parts : (k : ℕ) → period_offends s n k ≡ 50 ≤? k || wrong_at 0 highest n.entries k
    unfolding period_offends period_before entry_at
    offends-parts zero = or_assoc (50 ≤? 0) (highest <? period_in n.entries 0) (period_in n.entries 0 ≤? 0)
    offends-parts (suc k) = or_assoc (50 ≤? suc k) (highest <? period_in n.entries (suc k)) (period_in n.entries (suc k) ≤? period_in n.entries k)

    -- document 01's condition, word for word, and no other
    pub periods-rise : some_entry n (period_offends s n) ≡ 50 <? length n.entries || not (rising 0 highest n.entries)
    unfolding some_entry
    periods-rise =
        some-ext (length n.entries) (period_offends s n) (λ (k : ℕ). 50 ≤? k || wrong_at 0 highest n.entries k) (λ k l. offends-parts k)
        ∙ some-past (length n.entries) 50 (wrong_at 0 highest n.entries)
        ∙ ap (λ (t : Bool). 50 <? length n.entries || t) (sym (rising-some n.entries 0 highest))

  -- ---- THE LEAST OFFENDING ENTRY: it is there, it offends, and none before it does

  pub record Least (n : Notification K) (offends : ℕ → Bool) (k : ℕ) : Type 0 where
    pub there : k < length n.entries
    pub at-fault : offends k ≡ true
    pub none_before : (j : ℕ) → j < k → offends j ≡ false

  module _ (n : Notification K) (offends : ℕ → Bool) where
    pub first-is-least : some_entry n offends ≡ true → Least n offends (first_entry n offends)
    unfolding some_entry first_entry
    first-is-least e =
        let below = ltb-true (first_below (length n.entries) offends) (length n.entries) (sym (some_first (length n.entries) offends) ∙ e) in
        record {
          there = below;
          at-fault = first_passes (length n.entries) offends below;
          none_before = first-least (length n.entries) offends;
        }

    -- and no other place is
    pub least-is-first : (k : ℕ) → Least n offends k → first_entry n offends ≡ k
    unfolding first_entry
    least-is-first k l = first-is (length n.entries) offends k (omega (arith, l.there)) l.none_before (λ h. l.at-fault)

    pub no-entry : some_entry n offends ≡ false → (k : ℕ) → k < length n.entries → offends k ≡ false
    unfolding some_entry
    no-entry e = some-miss (length n.entries) offends e

  -- "an entry past the 50th counts as too high": so it offends, whatever its period is, and no place is above 50
  module _ (s : Setting) (n : Notification K) where
    pub past-the-50th : (k : ℕ) → 50 ≤ k → period_offends s n k ≡ true
    past-the-50th k h = offends-parts s n k ∙ rw (le-leb 50 k h)

    pub ten-at-most-50 : some_entry n (period_offends s n) ≡ true → first_entry n (period_offends s n) ≤ 50
    unfolding first_entry
    ten-at-most-50 e =
        by-lt 50 (length n.entries)
        (λ l. first-before (length n.entries) (period_offends s n) 50 l (past-the-50th 50 (omega arith)))
        (λ l. omega (arith, first-le (length n.entries) (period_offends s n), l))

    -- "Of two periods that do not rise the later entry offends"
    pub later-offends : (k : ℕ) → (entry_at n (suc k)).period ≤ (entry_at n k).period → period_offends s n (suc k) ≡ true
    unfolding period_offends period_before
    later-offends k h = rw (le-leb (entry_at n (suc k)).period (entry_at n k).period h) (or-true (50 ≤? suc k || highest_period s n <? (entry_at n (suc k)).period))
