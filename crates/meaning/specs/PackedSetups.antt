-- Document 01, "Packed messages": the layout of a setup, reading and writing.
use Rattle.std.specs.Prelude.{not, ◌||◌, List, [], ◌∷◌, ◌++◌, ℕ, zero, suc, length, get_or, take, drop, if◌then◌else◌}
use Rattle.words.specs.Tests.{◌<?◌, ◌=?◌}
use Rattle.words.specs.Rules.{Rule, ◌when◌else◌, done, answer}
use Rattle.words.specs.Fields.{field_at, total, times, read_all, fit, bytes_for, padding}
use Rattle.meaning.specs.Authorisations.{Authorisation}
use Rattle.meaning.specs.Books.{Setup, counts_wrong, last_day_wrong, code_wrong, lent_wrong, some_row_wrong}
use Rattle.meaning.specs.PackedMessages.{Reading, Written, packed_into}

-- ---- the layout

-- "first day 16, days 4, accounts 7, authorisations 7"
abbrev pub head_layout : List ℕ
head_layout = 16 ∷ 4 ∷ 7 ∷ 7 ∷ []

-- "per authorisation agents 8 and 8, accounts 6 and 6, key 16, first day 16, last day 16, type 2"
abbrev pub row_layout : List ℕ
row_layout = 8 ∷ 8 ∷ 6 ∷ 6 ∷ 16 ∷ 16 ∷ 16 ∷ 2 ∷ []

-- "per day a code of 2 bits"
unfoldable pub setup_layout_for : ℕ → ℕ → List ℕ
setup_layout_for days rows = head_layout ++ (times days (2 ∷ []) ++ times rows row_layout)

-- ---- a setup as the values of its fields, and back

unfoldable pub row_values : List Authorisation → List ℕ
row_values [] = []
row_values (a ∷ later) =
    a.agent1 ∷ a.agent2 ∷ a.account1 ∷ a.account2 ∷ a.key ∷ a.first ∷ a.last ∷ a.type ∷ row_values later

unfoldable pub setup_values : Setup → List ℕ
setup_values s = s.first ∷ length s.codes ∷ s.accounts ∷ length s.rows ∷ (s.codes ++ row_values s.rows)

abbrev pub row_from : List ℕ → Authorisation
row_from vs =
    let v : ℕ → ℕ = λ k. get_or vs k 0 in
    record { agent1 = v 0; agent2 = v 1; account1 = v 2; account2 = v 3; key = v 4; first = v 5; last = v 6; type = v 7 }

-- so many rows
unfoldable pub rows_from : ℕ → List ℕ → List Authorisation
rows_from zero vs = []
rows_from (suc n) vs = row_from vs ∷ rows_from n (drop 8 vs)

unfoldable pub setup_from : List ℕ → Setup
setup_from vs =
    let rows = rows_from (get_or vs 3 0) (drop (get_or vs 1 0) (drop 4 vs)) in
    record { first = get_or vs 0 0; codes = take (get_or vs 1 0) (drop 4 vs); accounts = get_or vs 2 0; rows = rows }

-- ---- reading, for so many slots and two lent tables of such lengths

unfoldable pub setup_layout_in : List ℕ → List ℕ
setup_layout_in bytes = setup_layout_for (get_or (read_all bytes 0 head_layout) 1 0) (get_or (read_all bytes 0 head_layout) 3 0)

unfoldable pub setup_in : List ℕ → Setup
setup_in bytes = setup_from (read_all bytes 0 (setup_layout_in bytes))

-- "Setup order: under 5 bytes 19, wrong counts, last day above 65,534 or lent lengths 17, short 19, code 3 17, rows 18, 22." In two parts: what the bytes
-- hold, and their padding.
abbrev pub content_rules : List ℕ → ℕ → ℕ → ℕ → List Rule
content_rules bytes slots lent1 lent2 =
    19 when length bytes <? bytes_for head_layout else
    17 when counts_wrong (setup_in bytes) || last_day_wrong (setup_in bytes) || lent_wrong (setup_in bytes) slots lent1 lent2 else
    19 when length bytes <? bytes_for (setup_layout_in bytes) else
    17 when code_wrong (setup_in bytes) else
    18 when some_row_wrong (setup_in bytes) else
    done

abbrev pub padding_rules : List ℕ → List Rule
padding_rules bytes =
    22 when not (field_at bytes (total (setup_layout_in bytes)) (padding (setup_layout_in bytes)) =? 0) else
    done

unfoldable pub setup_reading_rules : List ℕ → ℕ → ℕ → ℕ → List Rule
setup_reading_rules bytes slots lent1 lent2 = content_rules bytes slots lent1 lent2 ++ padding_rules bytes

-- a setup whose every field is zero, with a refusal
abbrev pub no_setup : Setup
no_setup = record { first = 0; codes = []; accounts = 0; rows = [] }

-- what is read of the bytes with this answer, which is 0 where nothing refuses them
abbrev pub read_by : ℕ → List ℕ → Reading Setup
read_by number bytes =
    if number =? 0
    then record { answer = 0; length = bytes_for (setup_layout_in bytes); read = setup_in bytes }
    else record { answer = number; length = 0; read = no_setup }

unfoldable pub read_setup : List ℕ → ℕ → ℕ → ℕ → Reading Setup
read_setup bytes slots lent1 lent2 = read_by (answer (setup_reading_rules bytes slots lent1 lent2)) bytes

-- ---- writing

unfoldable pub setup_layout : Setup → List ℕ
setup_layout s = setup_layout_for (length s.codes) (length s.rows)

-- "a setup 17 (lent lengths aside) and then 18; after these 23, then 24"
unfoldable pub setup_writing_rules : Setup → ℕ → List Rule
setup_writing_rules s room =
    17 when counts_wrong s || last_day_wrong s || code_wrong s else
    18 when some_row_wrong s else
    23 when not (fit (setup_layout s) (setup_values s)) else
    24 when room <? bytes_for (setup_layout s) else
    done

unfoldable pub write_setup : Setup → List ℕ → Written
write_setup s out =
    let number = answer (setup_writing_rules s (length out)) in
    if number =? 0
    then record { answer = 0; length = bytes_for (setup_layout s); out = packed_into out (setup_layout s) (setup_values s) }
    else record { answer = number; length = 0; out = out }
