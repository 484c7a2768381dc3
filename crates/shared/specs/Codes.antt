-- The codes of what the lock guards, and of the counters.
use Rattle.std.specs.Prelude.{refl}
use Rattle.std.specs.Coded.{Coded, code_by, coded×}
use Rattle.shared_books.specs.declared.tally.Totals.{Totals}
use Rattle.shared_books.specs.contracts.tally.Totals as totals
use Rattle.atomic_table.specs.Seated.{TableId, table_id_coded}
use Rattle.shared_books.specs.Books.{BooksView}
use Rattle.shared.specs.State.{StateView}
use Rattle.shared_books.specs.Codes.{books_code}
use Rattle.shared.specs.Meter.{CountersView}

abbrev pub state_code : Coded StateView
state_code = code_by (BooksView × TableId) (coded× books_code table_id_coded) (λ s. (s.books, s.meter))
    (λ p. record { books = p.0; meter = p.1 }) (λ _. refl)

abbrev pub counters_code : Coded CountersView
counters_code = code_by (TableId × Totals) (coded× table_id_coded totals.the_row.coded)
    (λ c. (c.meter, c.shown)) (λ p. record { meter = p.0; shown = p.1 }) (λ _. refl)
