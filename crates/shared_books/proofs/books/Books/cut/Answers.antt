use Rattle.bpf_model.proofs.Prelude.{rules, arith, refl, sym, ap, subst}
use Rattle.shared_books.specs.Replay.{HasNoRuns}
use Rattle.shared_books.specs.Books.{BooksView}
use Rattle.shared_books.proofs.books.Books.cut.Goals as goal

pub returns-then-not-is_quiet-clause-quiet : goal.returns-then-not-is_quiet-clause-quiet
returns-then-not-is_quiet-clause-quiet g c = (
  λ e quiet. let yes = c.is_quiet.ensures.1 (subst HasNoRuns (sym (ap (λ (b : BooksView). b.world) c.self.view_is))
      quiet) in let no = c.if-not-is_quiet.true in let z : ⊥ = first_of (search rules, grind arith) in z,
  λ no. refl,
)
