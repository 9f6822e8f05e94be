-- The whole MWh, then the point and three digits.
use mathlib.Core.List.{[], ◌∷◌}
use Rattle.decimals.proofs.Texts.{put_same, put_then}
use Rattle.spreadsheet_writing.proofs.put_size.Goals as goal

pub returns : goal.returns
returns c =
    put_then c.requires c.put_decimal-after_whole.ensures
    (put_same (λ i. 0x2E ∷ c.last_digit.ensures i ∷ c.last_digit-2.ensures i ∷ c.last_digit-3.ensures i ∷ []) c.put_word.ensures)
