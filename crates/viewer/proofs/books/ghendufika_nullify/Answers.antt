-- The promise of the function that it calls, whose numbers are narrowed.
use mathlib.Core.Path.{◌∙◌}
use Rattle.viewer.proofs.Promises.{nullified-kept}
use Rattle.viewer.proofs.books.ghendufika_nullify.Goals as goal

pub returns : goal.returns
returns c =
    nullified-kept _ _ _ _ _ _ _ c.at_most_255.ensures c.at_most_255-2.ensures c.at_most_65535.ensures _ _ _ (c.answer_of.ensures ∙ c.nullify.ensures.0, c.nullify.ensures.1, c.nullify.ensures.2)
