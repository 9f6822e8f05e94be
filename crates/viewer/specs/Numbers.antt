-- Document 01, "Our forms for each place": "If an answer is an enum, a definition gives this paper's number and values for each case." A mark so.
use Rattle.bar.specs.Figures.{case_of, first_of, second_of}
use Rattle.marks.specs.Marks.{Marked}
use Rattle.viewer.specs.declared.MarkNumbers.{MarkNumbers}

unfoldable pub mark_numbers : Marked → MarkNumbers
mark_numbers m = record { answer = m.answer; bar = case_of m.bar; first = first_of m.bar; second = second_of m.bar }
