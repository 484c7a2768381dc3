-- The code of the books.
use Rattle.std.specs.Prelude.{ℕ, List, refl}
use Rattle.std.specs.Coded.{Coded, code_by, coded×, coded_ℕ, coded_list}
use Rattle.bpf_model.specs.View.{WorldView}
use Rattle.bpf_model.specs.declared.entry.Entry.{Entry}
use Rattle.bpf_model.specs.contracts.entry.Entry as entry
use Rattle.model_laws.specs.Codes.{world_code}
use Rattle.shared_books.specs.declared.tally.Tally.{Tally}
use Rattle.shared_books.specs.contracts.tally.Tally as tally
use Rattle.shared_books.specs.Books.{BooksView}

abbrev pub books_code : Coded BooksView
books_code = code_by (WorldView × (WorldView × (List Entry × (ℕ × (ℕ × (ℕ × (ℕ × Tally)))))))
    (coded× world_code (coded× world_code
    (coded× (coded_list entry.the_row.coded)
    (coded× coded_ℕ (coded× coded_ℕ (coded× coded_ℕ (coded× coded_ℕ tally.the_row.coded)))))))
    (λ b. (b.base, (b.world, (b.journal, (b.limit, (b.before, (b.steps_before, (b.total, b.tally))))))))
    (λ p. record {
      base = p.0;
      world = p.1.0;
      journal = p.1.1.0;
      limit = p.1.1.1.0;
      before = p.1.1.1.1.0;
      steps_before = p.1.1.1.1.1.0;
      total = p.1.1.1.1.1.1.0;
      tally = p.1.1.1.1.1.1.1;
    })
    (λ _. refl)
