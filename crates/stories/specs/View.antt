-- The book of a story.
use Rattle.book.specs.Book.{Book}
use Rattle.board.specs.View.{says}
use Rattle.stories.specs.declared.story.Story.{Story}

abbrev pub book_in : Story → Book
book_in s = says s.board
