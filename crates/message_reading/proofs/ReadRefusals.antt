-- The chain of reading's refusals, by what the head tells of the message's bits.
use mathlib.Core.Bool.{true, false, not}
use mathlib.Core.List.{List}
use mathlib.Core.Logic.{◌≢◌}
use mathlib.Core.Path.{◌≡◌, sym, ◌∙◌}
use Prim.Native.Nat.{ℕ, ◌+◌, ◌-◌, ◌*◌, ◌/◌, ◌≤◌, ◌<◌}
use native.Mathlib.Omega.{arith}
use lib.Dec.{eqb}
use lib.ListN.{length}
use borrow.Author.Tests.{eq-eqb, ne_eqb, lt-ltb, le-ltb, eqb-true, not-false}
use Rattle.std.specs.Prelude.{if◌then◌else◌}
use Rattle.words.specs.Tests.{◌<?◌}
use Rattle.words.specs.Rules.{answer}
use Rattle.words.specs.Fields.{field_at, total, bytes_for, padding}
use Rattle.laws.proofs.Cases.{by-eq, by-lt}
use Rattle.laws.proofs.Fields.{field_lt}
use Rattle.meaning.specs.PackedMessages.{kind_in, count_in, layout_for, layout_in, reading_rules}
use Rattle.meaning.proofs.PackedMessageRules.{readable-done}
use Rattle.messages.proofs.LayoutSizes.{bits-notification, bits-nullification, bits-other, bits-few}

-- the bits of a message as far as its head tells them: 0 with more than fifty entries
abbrev pub bits_told : List ℕ → ℕ
bits_told s =
    if length s <? bytes_for (layout_for (kind_in s) 0) then total (layout_for (kind_in s) 0)
    else if 50 <? count_in s then 0
    else total (layout_in s)

-- a message has 2 bits or more, and no more than with fifty entries
pub begins : (kind count : ℕ) → 2 ≤ total (layout_for kind count)
begins kind count =
    by-eq kind 1
    (λ e. omega (arith, bits-notification kind count e))
    (λ n. by-eq kind 2 (λ e. omega (arith, bits-nullification kind count e)) (λ m. omega (arith, bits-other kind count n m)))

pub told-few : (s : List ℕ) → bits_told s ≤ 1792
unfolding layout_in
told-few s =
    by-lt (length s) (bytes_for (layout_for (kind_in s) 0))
    (λ l. rw (lt-ltb (length s) (bytes_for (layout_for (kind_in s) 0)) l) (omega (arith, bits-few (kind_in s) 0)))
    (λ l.
    by-lt 50 (count_in s)
    (λ k. rw (le-ltb (length s) (bytes_for (layout_for (kind_in s) 0)) l, lt-ltb 50 (count_in s) k) (omega arith))
    (λ k. rw (le-ltb (length s) (bytes_for (layout_for (kind_in s) 0)) l, le-ltb 50 (count_in s) k) (omega (arith, bits-few (kind_in s) (count_in s)))))

-- what they say of the bytes
pub record Told (s : List ℕ) : Type 0 where
  pub head : bytes_for (layout_for (kind_in s) 0) ≤ length s
  pub count : count_in s ≤ 50
  pub bits : bits_told s ≡ total (layout_in s)

-- with the head and no more than fifty entries they are the layout's
told_with : (s : List ℕ) → bytes_for (layout_for (kind_in s) 0) ≤ length s → count_in s ≤ 50 → Told s
told_with s l k =
    record {
      head = l;
      count = k;
      bits = rw (le-ltb (length s) (bytes_for (layout_for (kind_in s) 0)) l, le-ltb 50 (count_in s) k);
    }

module _ (s : List ℕ) where
  pub refuses-empty : length s ≡ 0 → 19 ≡ answer (reading_rules s)
  unfolding answer reading_rules
  refuses-empty e = rw (eq-eqb (length s) 0 e)

  module _ (some : length s ≢ 0) where
    pub refuses-three : kind_in s ≡ 3 → 20 ≡ answer (reading_rules s)
    unfolding answer reading_rules
    refuses-three e = rw (ne_eqb (length s) 0 some, eq-eqb (kind_in s) 3 e)

    module _ (kind : kind_in s ≢ 3) where
      refuses-head : length s < bytes_for (layout_for (kind_in s) 0) → 19 ≡ answer (reading_rules s)
      unfolding answer reading_rules
      refuses-head l =
          rw (
            ne_eqb (length s) 0 some,
            ne_eqb (kind_in s) 3 kind,
            lt-ltb (length s) (bytes_for (layout_for (kind_in s) 0)) l,
          )

      pub refuses-many : bits_told s ≡ 0 → 21 ≡ answer (reading_rules s)
      unfolding answer reading_rules layout_in
      refuses-many z =
          by-lt (length s) (bytes_for (layout_for (kind_in s) 0))
          (λ l.
          let none : total (layout_for (kind_in s) 0) ≡ 0 = rw (lt-ltb (length s) (bytes_for (layout_for (kind_in s) 0)) l) at z in
          absurd (omega (arith, begins (kind_in s) 0)))
          (λ l.
          by-lt 50 (count_in s)
          (λ k.
          rw (
            ne_eqb (length s) 0 some,
            ne_eqb (kind_in s) 3 kind,
            le-ltb (length s) (bytes_for (layout_for (kind_in s) 0)) l,
            lt-ltb 50 (count_in s) k,
          ))
          (λ k.
          let none : total (layout_in s) ≡ 0 = sym (told_with s l k).bits ∙ z in
          absurd (omega (arith, begins (kind_in s) (count_in s)))))

      module _ (bits : bits_told s ≢ 0) where
        -- the head is there, or its bits are not
        told : bytes_for (layout_for (kind_in s) 0) ≤ length s → Told s
        told l =
            told_with s l
            (by-lt 50 (count_in s)
            (λ k. absurd (bits (rw (le-ltb (length s) (bytes_for (layout_for (kind_in s) 0)) l, lt-ltb 50 (count_in s) k))))
            (λ k. k))

        pub refuses-short : length s < (bits_told s + 7) / 8 → 19 ≡ answer (reading_rules s)
        unfolding answer reading_rules
        refuses-short h =
            by-lt (length s) (bytes_for (layout_for (kind_in s) 0))
            (λ l. refuses-head l)
            (λ l.
            let t = told l in
            rw (
              ne_eqb (length s) 0 some,
              ne_eqb (kind_in s) 3 kind,
              le-ltb (length s) (bytes_for (layout_for (kind_in s) 0)) l,
              le-ltb 50 (count_in s) t.count,
              lt-ltb (length s) (bytes_for (layout_in s)) (rw t.bits at h),
            ))

        module _ (whole : (bits_told s + 7) / 8 ≤ length s) where
          pub told-whole : Told s
          told-whole =
              by-lt (length s) (bytes_for (layout_for (kind_in s) 0))
              (λ l.
              let short : bits_told s ≡ total (layout_for (kind_in s) 0) = rw (lt-ltb (length s) (bytes_for (layout_for (kind_in s) 0)) l) in
              absurd (omega arith))
              (λ l. told l)

          pub refuses-padding : not (eqb (field_at s (bits_told s) ((bits_told s + 7) / 8 * 8 - bits_told s)) 0) ≡ true → 22 ≡ answer (reading_rules s)
          unfolding answer reading_rules
          refuses-padding e =
              let t = told-whole in
              rw (
                ne_eqb (length s) 0 some,
                ne_eqb (kind_in s) 3 kind,
                le-ltb (length s) (bytes_for (layout_for (kind_in s) 0)) t.head,
                le-ltb 50 (count_in s) t.count,
                le-ltb (length s) (bytes_for (layout_in s)) (rw t.bits at whole),
                rw t.bits at e,
              )

          pub refuses-nothing : not (eqb (field_at s (bits_told s) ((bits_told s + 7) / 8 * 8 - bits_told s)) 0) ≡ false → answer (reading_rules s) ≡ 0
          refuses-nothing e =
              let t = told-whole in
              readable-done s
              (record {
                kind = omega (arith, field_lt s 0 2);
                count = t.count;
                whole = rw t.bits at whole;
                filled = eqb-true (field_at s (total (layout_in s)) (padding (layout_in s))) 0 (not-false _ (rw t.bits at e));
              })
