-- A beginning as the meaning tells it: the answer number, 0 where a book was opened, how many bytes the setup took, how many were written, and the book.
-- With a refusal the book is all zero, and no byte is taken. No two beginnings are seen as one (proofs/Unique.antt).
use Rattle.std.specs.Prelude.{ℕ}
use Rattle.book.specs.declared.Book.{Book}
use Rattle.book.specs.Answers.{opened_packed_seen}
use Rattle.sheet_parts.specs.declared.Begun as Given

pub record Begun : Type 0 where
  pub answer : ℕ
  pub used : ℕ
  pub written : ℕ
  pub book : Book

abbrev pub begun_seen : Given.Begun → Begun
begun_seen g =
    let o = opened_packed_seen g.opened in
    record { answer = o.answer; used = o.length; written = g.written; book = o.book }
