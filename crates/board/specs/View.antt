-- The book that a board says.
use Rattle.book.specs.Book.{Book}
use Rattle.drafts.specs.View.{book_of}
use Rattle.board.specs.declared.board.Board.{Board}

abbrev pub says : Board → Book
says b = book_of b.valid.tables
