-- What the parts of reading a setup answer; the promises of the entries do not cite these.
use Rattle.std.specs.Prelude.{List, ℕ, ◌+◌, ◌*◌, get_or, if◌then◌else◌}
use Rattle.words.specs.Tests.{◌<?◌}
use Rattle.words.specs.Lists.{build}
use Rattle.words.specs.Fields.{field_at, total, read_all}
use Rattle.meaning.specs.PackedSetups.{head_layout, row_layout, setup_layout_for}
use Rattle.setups.specs.Structs.{no_authorisation}
use Rattle.setups.specs.declared.Authorisation.{Authorisation}
use Rattle.setups.specs.declared.Setup.{Setup}

-- row k stands behind the head, the codes and k rows
unfoldable pub row_in : List ℕ → ℕ → ℕ → Authorisation
row_in s days k =
    let v : ℕ → ℕ = λ j. get_or (read_all s (total (setup_layout_for days k)) row_layout) j 0 in
    record { agent1 = v 0; agent2 = v 1; account1 = v 2; account2 = v 3; key = v 4; first = v 5; last = v 6; amendment = v 7 }

unfoldable pub codes_in : List ℕ → ℕ → List ℕ
codes_in s days = build 8 (λ (d : ℕ). if d <? days then field_at s (34 + 2 * d) 2 else 0)

unfoldable pub rows_in : List ℕ → ℕ → ℕ → List Authorisation
rows_in s days count = build 64 (λ (k : ℕ). if k <? count then row_in s days k else no_authorisation)

unfoldable pub setup_struct_in : List ℕ → Setup
setup_struct_in s =
    let v : ℕ → ℕ = λ j. get_or (read_all s 0 head_layout) j 0 in
    record { first = v 0; days = v 1; accounts = v 2; authorisations = v 3; codes = codes_in s (v 1); rows = rows_in s (v 1) (v 3) }
