-- What the private functions of writing a setup leave in the buffer; the public promises do not cite these.
use Rattle.std.specs.Prelude.{List, [], ◌∷◌, ℕ, zero, suc, ◌+◌, ◌*◌, get_or, if◌then◌else◌}
use Rattle.words.specs.Tests.{◌<?◌}
use Rattle.words.specs.Fields.{set_field, total, write_all, padding}
use Rattle.meaning.specs.PackedSetups.{head_layout, row_layout, setup_layout_for}
use Rattle.setups.specs.Structs.{no_authorisation}
use Rattle.setups.specs.declared.Authorisation.{Authorisation}
use Rattle.setups.specs.declared.Setup.{Setup}

-- the codes of the days below n written
unfoldable pub codes_into : Setup → List ℕ → ℕ → List ℕ
codes_into s out zero = out
codes_into s out (suc d) =
    if d <? s.days then set_field (codes_into s out d) (34 + 2 * d) 2 (get_or s.codes d 0) else codes_into s out d

unfoldable pub row_into : Authorisation → ℕ → List ℕ → List ℕ
row_into a at out =
    write_all out at row_layout (a.agent1 ∷ a.agent2 ∷ a.account1 ∷ a.account2 ∷ a.key ∷ a.first ∷ a.last ∷ a.amendment ∷ [])

-- the rows below n written
unfoldable pub rows_into : Setup → List ℕ → ℕ → List ℕ
rows_into s out zero = out
rows_into s out (suc k) =
    if k <? s.authorisations
    then row_into (get_or s.rows k no_authorisation) (total (setup_layout_for s.days k)) (rows_into s out k)
    else rows_into s out k

unfoldable pub setup_into : Setup → List ℕ → List ℕ
setup_into s out =
    let layout = setup_layout_for s.days s.authorisations in
    let head = write_all out 0 head_layout (s.first ∷ s.days ∷ s.accounts ∷ s.authorisations ∷ []) in
    set_field (rows_into s (codes_into s head 8) 64) (total layout) (padding layout) 0
