-- The book that tables say.
use Rattle.tables.specs.declared.tables.Tables.{Tables}
use Rattle.tables.specs.View.{policy_of, state_of, requirements_of}
use Rattle.book.specs.Book.{Book}

abbrev pub book_of : Tables → Book
book_of t = record { policy = policy_of t; state = state_of t; requirements = requirements_of t }
