-- READ BACK: what is written of entries holds the same entries, line by line.
use mathlib.Core.Bool.{false, true≢false}
use mathlib.Core.List.{List, [], ◌∷◌, ◌++◌, map, append_assoc, append-nil}
use mathlib.Core.Path.{◌≡◌, refl, sym, ap, ◌∙◌}
use Prim.Native.Nat.{ℕ}
use lib.IntN.{ℤ, pos, negsuc, nat_abs}
use lib.ListN.{drop}
use Rattle.words.specs.Lists.{any, join}
use Rattle.words.specs.Tests.{◌=?◌}
use Rattle.laws.proofs.Cases.{on}
use Rattle.laws.proofs.Lists.{any_append}
use Rattle.meaning.specs.Ascii.{ascii}
use Rattle.meaning.specs.Decimals.{decimal}
use Rattle.meaning.specs.Ledgers.{contracts}
use Rattle.meaning.specs.Messages.{Entry}
use Rattle.meaning.proofs.ReadBack.{decimal-digits}
use Rattle.spreadsheets.specs.Entries.{lines_after, lines_of, entry_of, entries}
use Rattle.spreadsheets.specs.Writing.{sign, size_text, mwh_text, entry_text, entry_line, written}
use Rattle.spreadsheets.proofs.WrittenNumbers.{none-among, size_none, entry-back}

-- a text without a line end, and then one, is a line
line-alone : (line t rest : List ℕ) → any (◌=? 0x0A) t ≡ false → lines_after line (t ++ (0x0A ∷ rest)) ≡ (line ++ t) ∷ lines_after [] rest
unfolding lines_after any
line-alone line [] rest e = ap (λ (l : List ℕ). l ∷ lines_after [] rest) (sym (append-nil line))
line-alone line (b ∷ t) rest e =
    on (b =? 0x0A)
    (λ q. absurd (true≢false (rw q at e)))
    (λ q. rw q (line-alone (line ++ (b ∷ [])) t rest (rw q at e) ∙ ap (λ (l : List ℕ). l ∷ lines_after [] rest) (append_assoc line (b ∷ []) t)))

sign-none : (z : ℤ) → any (◌=? 0x0A) (sign z) ≡ false
unfolding any
sign-none (pos n) = refl
sign-none (negsuc n) = refl

text-none : (e : Entry contracts) → any (◌=? 0x0A) (entry_text e) ≡ false
unfolding entry_text mwh_text any
text-none e =
    any_append (◌=? 0x0A) (decimal e.period) (ascii "," ++ (sign e.volume ++ size_text (nat_abs e.volume)))
    ∙ rw (none-among 0x0A refl (decimal e.period) (decimal-digits e.period))
    (any_append (◌=? 0x0A) (sign e.volume) (size_text (nat_abs e.volume)) ∙ rw (sign-none e.volume) (size_none (nat_abs e.volume) 0x0A refl refl))

lines-back : (es : List (Entry contracts)) → lines_after [] (join (map entry_line es)) ≡ map entry_text es
unfolding join lines_after
lines-back [] = refl
lines-back (e ∷ es) =
    ap (lines_after []) (append_assoc (entry_text e) (ascii "\n") (join (map entry_line es)))
    ∙ line-alone [] (entry_text e) (join (map entry_line es)) (text-none e)
    ∙ ap (λ (ls : List (List ℕ)). entry_text e ∷ ls) (lines-back es)

entries-back : (es : List (Entry contracts)) → map entry_of (map entry_text es) ≡ es
entries-back [] = refl
entries-back (e ∷ es) = λ i. entry-back e i ∷ entries-back es i

pub read_back : (es : List (Entry contracts)) → entries (written es) ≡ es
unfolding entries written lines_of any
read_back es =
    ap (λ (ls : List (List ℕ)). map entry_of (drop 1 ls)) (line-alone [] (ascii "period,mwh") (join (map entry_line es)) refl)
    ∙ ap (map entry_of) (lines-back es)
    ∙ entries-back es
