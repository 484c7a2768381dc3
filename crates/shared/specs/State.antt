-- What the lock guards, as contracts see it.
use Rattle.atomic_table.specs.Seated.{TableId}
use Rattle.shared_books.specs.Books.{BooksView}

-- the books, and which cell their counters are read from
pub record StateView : Type 0 where
  pub books : BooksView
  pub meter : TableId
