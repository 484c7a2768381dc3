use Rattle.bpf_model.proofs.Prelude.{rules, arith, refl, sym, ap, subst, ◌∙◌}
use Rattle.world.proofs.Prelude.{program_of}
use Rattle.world_laws.proofs.Prelude.{with_program}
use Rattle.shared_books.specs.Replay.{HasNoRuns}
use Rattle.shared_books.specs.Books.{BooksView, books_view}
use Rattle.shared_books.proofs.Balance.{balanced-loaded}
use Rattle.shared_books.proofs.books.Books.load.Goals as goal

pub returns-then-not-is_quiet-clause-quiet : goal.returns-then-not-is_quiet-clause-quiet
returns-then-not-is_quiet-clause-quiet g c = (
  λ e quiet. let yes = c.is_quiet.ensures.1 (subst HasNoRuns (sym (ap (λ (b : BooksView). b.world) c.self.view_is))
      quiet) in let no = c.if-not-is_quiet.true in let z : ⊥ = first_of (search rules, grind arith) in z,
  λ no. refl,
)

pub invariant_of-self : goal.invariant_of-self
invariant_of-self g c =
    let i = c.self.inside in
    let program = program_of c.args.loaded in
    let same = c.in-Ok-copy.ensures.same in
    let e = same ∙ (c.in-Ok-load.ensures.view ∙ ap (with_program program) c.in-Ok.ensures.same) in
    let quiet : HasNoRuns i.world = c.is_quiet.ensures.0 (search rules) in
    balanced-loaded (books_view i.base i.world i.journal i.before i.steps_before i.book.total i.tally) program c.in-Ok-copy.base c.load.new.self
    c.cut.new.self c.len.result c.len.ensures c.self.invariant quiet c.is_world.ensures e (sym same) c.cut.ensures.entries c.cut.ensures.limit

pub returns-clause-quiet : goal.returns-clause-quiet
returns-clause-quiet g c = (
  λ e. search rules,
  λ no. let quiet : HasNoRuns c.self.inside.world = c.is_quiet.ensures.0 (search rules) in
      absurd (no (subst HasNoRuns (ap (λ (b : BooksView). b.world) c.self.view_is) quiet)),
)
