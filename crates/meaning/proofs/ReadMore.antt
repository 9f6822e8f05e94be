-- Bytes that do not end too soon are read alike whatever comes behind them. So a stream may be read part by part: only 19 asks for more. Of a setup
-- the longest that a head can name is enough.
use mathlib.Core.Bool.{false}
use mathlib.Core.List.{List, ◌++◌}
use mathlib.Core.Logic.{◌≢◌}
use mathlib.Core.Path.{◌≡◌, sym, ap, ◌∙◌}
use Prim.Native.Nat.{ℕ, ◌+◌, ◌*◌, ◌≤◌}
use native.Mathlib.Omega.{arith}
use lib.ListN.{length, get_or, length-append}
use lib.Seq.{take-length}
use borrow.Author.Tests.{ne_eqb, eqb-false, le-ltb, ltb-false}
use Rattle.words.specs.Tests.{◌<?◌, ◌=?◌}
use Rattle.words.specs.Rules.{answer}
use Rattle.words.specs.Fields.{field_at, total, read_all, bytes_for, padding}
use Rattle.laws.proofs.Cases.{on}
use Rattle.laws.proofs.Fields.{field_lt}
use Rattle.laws.proofs.Padded.{front-field, front-values}
use Rattle.meaning.specs.PackedMessages.{notification_layout, layout_for, kind_in, count_in, layout_in, reading_rules, read_message}
use Rattle.meaning.specs.PackedSetups.{head_layout, setup_layout_in, setup_in, setup_reading_rules, read_setup}
use Rattle.meaning.proofs.LayoutSizes.{bits-setup}

module _ (s later : List ℕ) where
  abbrev whole : List ℕ
  whole = s ++ later

  pub field-stays : (p w : ℕ) → p + w ≤ length s * 8 → field_at whole p w ≡ field_at s p w
  field-stays p w h =
      ap (λ (x : List ℕ). field_at (x ++ later) p w) (sym (take-length s)) ∙ front-field s later (length s) p w (omega arith) h

  pub values-stay : (ws : List ℕ) → total ws ≤ length s * 8 → read_all whole 0 ws ≡ read_all s 0 ws
  values-stay ws h =
      ap (λ (x : List ℕ). read_all (x ++ later) 0 ws) (sym (take-length s)) ∙ front-values s later (length s) 0 ws (omega arith) (omega arith)

  pub longer : length s ≤ length whole
  longer = omega (arith, length-append s later)

  kind-stays : length s ≢ 0 → kind_in whole ≡ kind_in s
  kind-stays n = field-stays 0 2 (omega arith)

  count-stays : length s ≢ 0 → bytes_for (layout_for (kind_in s) 0) ≤ length s → count_in whole ≡ count_in s
  unfolding count_in layout_for
  count-stays n h =
      rw (kind-stays n)
      (on (kind_in s =? 1)
      (λ e. rw e (ap (λ (vs : List ℕ). get_or vs 8 0) (values-stay notification_layout (omega (arith, rw e at h)))))
      (λ e. rw e))

  layout_stays : length s ≢ 0 → bytes_for (layout_for (kind_in s) 0) ≤ length s → layout_in whole ≡ layout_in s
  unfolding layout_in
  layout_stays n h = rw (kind-stays n, count-stays n h)

  -- every rule but "bytes end too soon" answers alike
  pub read_more : (read_message s).answer ≢ 19 → read_message whole ≡ read_message s
  unfolding read_message reading_rules answer
  read_more n =
      on (length s =? 0)
      (λ z. absurd (n (rw z)))
      (λ z.
      let some : length s ≢ 0 = eqb-false (length s) 0 z in
      let t0 : (length whole =? 0) ≡ false = ne_eqb (length whole) 0 (λ q. some (omega (arith, longer, q))) in
      on (kind_in s =? 3)
      (λ k. rw (z, t0, kind-stays some, k))
      (λ k.
      on (length s <? bytes_for (layout_for (kind_in s) 0))
      (λ h. absurd (n (rw (z, k, h))))
      (λ h.
      let head = ltb-false (length s) (bytes_for (layout_for (kind_in s) 0)) h in
      let t2 : (length whole <? bytes_for (layout_for (kind_in s) 0)) ≡ false = le-ltb (length whole) (bytes_for (layout_for (kind_in s) 0)) (omega (arith, longer, head)) in
      on (50 <? count_in s)
      (λ c. rw (z, t0, kind-stays some, k, h, t2, count-stays some head, c))
      (λ c.
      on (length s <? bytes_for (layout_in s))
      (λ w. absurd (n (rw (z, k, h, c, w))))
      (λ w.
      let all = ltb-false (length s) (bytes_for (layout_in s)) w in
      let t4 : (length whole <? bytes_for (layout_in s)) ≡ false = le-ltb (length whole) (bytes_for (layout_in s)) (omega (arith, longer, all)) in
      let filled = field-stays (total (layout_in s)) (padding (layout_in s)) (omega (arith, all)) in
      let read = values-stay (layout_in s) (omega (arith, all)) in
      rw (z, t0, kind-stays some, k, h, t2, count-stays some head, c, layout_stays some head, w, t4, filled, read))))))

  -- 15 days and 127 authorisations, which is as much as their fields hold, make a setup of 1,247 bytes
  setup-most : bytes_for (setup_layout_in s) ≤ 1247
  unfolding setup_layout_in
  setup-most = omega (arith, bits-setup (field_at s 16 4) (field_at s 27 7), field_lt s 16 4, field_lt s 27 7)

  module _ (enough : 1247 ≤ length s) where
    setup-layout-stays : setup_layout_in whole ≡ setup_layout_in s
    unfolding setup_layout_in
    setup-layout-stays = rw (field-stays 16 4 (omega arith), field-stays 27 7 (omega arith))

    setup-in-stays : setup_in whole ≡ setup_in s
    unfolding setup_in
    setup-in-stays = rw (setup-layout-stays, values-stay (setup_layout_in s) (omega (arith, setup-most)))

    pub read-setup-more : (slots lent1 lent2 : ℕ) → read_setup whole slots lent1 lent2 ≡ read_setup s slots lent1 lent2
    unfolding read_setup setup_reading_rules
    read-setup-more slots lent1 lent2 =
        let t0 : (length whole <? bytes_for head_layout) ≡ (length s <? bytes_for head_layout) =
        le-ltb (length whole) 5 (omega (arith, longer)) ∙ sym (le-ltb (length s) 5 (omega arith)) in
        let t1 : (length whole <? bytes_for (setup_layout_in s)) ≡ (length s <? bytes_for (setup_layout_in s)) =
        le-ltb (length whole) (bytes_for (setup_layout_in s)) (omega (arith, longer, setup-most)) ∙ sym (le-ltb (length s) (bytes_for (setup_layout_in s)) (omega (arith, setup-most))) in
        let filled = field-stays (total (setup_layout_in s)) (padding (setup_layout_in s)) (omega (arith, setup-most)) in
        rw (t0, setup-layout-stays, setup-in-stays, t1, filled)
