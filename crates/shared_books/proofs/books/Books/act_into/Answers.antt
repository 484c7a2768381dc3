use Rattle.bpf_model.proofs.Prelude.{◌≡◌, ◌∙◌, ℕ, ◌+◌, ◌^◌, ◌<◌, ◌∷◌, [], ◌++◌, List, refl, sym, ap, subst, arith, Ok, Err, WorldView}
use Rattle.model_laws.proofs.Prelude.{Event, Answer, Entry}
use Rattle.world_laws.proofs.Prelude.{full_reaction}
use Rattle.journal.specs.Entries.{IsAnswerTo, JournalView}
use Rattle.shared_books.proofs.Fitting.{reaction_fits}
use Rattle.shared_books.specs.Books.{BooksView, WorkerView, Enters, TotalsRise, books_view}
use Rattle.shared_books.specs.Noted.{IsEntered}
use Rattle.shared_books.specs.Receipts.{ReceiptView}
use Rattle.shared_books.specs.Tally.{CountsOn, steps_by}
use Rattle.shared_books.specs.declared.tally.Tally.{Tally}
use Rattle.shared_books.proofs.Answered.{answered}
use Rattle.shared_books.proofs.Balance.{counts-on, tally-push, balanced-push}
use Rattle.shared_books.proofs.books.Books.act_into.Goals as goal

ok≢err : {A E : Type 0} {a : A} {e : E} → Ok a ≡ Err e → ⊥
ok≢err h = cc

pub count-requires-clause-counts : goal.count-requires-clause-counts
count-requires-clause-counts g c =
    subst (λ (k : ℕ). CountsOn c.apply_into.new.answer c.self.inside.tally.unreclaimed k) (sym c.unreclaimed.ensures)
    (counts-on c.self.inside.world c.apply_into.new.self c.args.event.now c.apply_into.new.answer
    c.self.inside.tally.unreclaimed c.self.invariant.tally.unreclaimed c.apply_into.ensures.answer
    c.apply_into.ensures.new)

pub push_answer-requires-clause-answer : goal.push_answer-requires-clause-answer
push_answer-requires-clause-answer g c =
    subst (λ (a : Answer). IsAnswerTo c.args.event.now a) (sym c.apply_into.ensures.answer)
    (reaction_fits c.self.inside.world c.args.event.now c.is_world.ensures c.is_real.ensures)

entered : (base world later : WorldView) (journal room pushed : JournalView) (before steps_before total sum : ℕ)
    (tally counted : Tally) (worker : ℕ) (event : Event) (answer : Answer) → room.entries ≡ journal.entries →
    room.limit ≡ journal.limit
    → pushed.entries ≡ room.entries ++ (record { worker = worker; event = event; answer = answer }) ∷ [] →
    pushed.limit ≡ room.limit → answer ≡ (full_reaction world event).0 → later ≡ (full_reaction world event).1 →
    counted.origin ≡ tally.origin
    → counted.totals.steps ≡ tally.totals.steps + steps_by answer → sum ≡ total + 1 →
    Enters (books_view base world journal before steps_before total tally) worker event answer
    (books_view base later pushed before steps_before sum counted)
entered base world later journal room pushed before steps_before total sum tally counted worker event answer same-entries
    same-limit items limit answers next origin steps more = record {
      journal = items ∙ ap (λ (z : List Entry). z ++ (record { worker = worker; event = event; answer = answer }) ∷ []) same-entries;
      answers = answers;
      world = next;
      base = refl;
      limit = limit ∙ same-limit;
      before = refl;
      steps_before = refl;
      total = more;
      origin = origin;
      steps = steps;
    }

pub invariant_of-self-2 : goal.invariant_of-self-2
invariant_of-self-2 g c =
    let old : BooksView = books_view c.self.inside.base c.self.inside.world c.self.inside.journal c.self.inside.before
    c.self.inside.steps_before c.self.inside.book.total c.self.inside.tally in
    let new : BooksView = books_view c.self.inside.base c.apply_into.new.self c.push_answer.new.self
    c.self.inside.before c.self.inside.steps_before c.add.new.self.total c.count.new.self in
    let count = c.self.invariant.count in
    let room = c.in_ok-make_room.ensures.count in
    let fits : c.self.inside.book.total + 1 < 2 ^ 64 = omega (arith, count, room) in
    let total : c.add.new.self.total ≡ c.self.inside.book.total + 1 = c.add.ensures.total ∙ ap (λ (k : ℕ). k + 1) c.audit.ensures.total in
    let enters : Enters old c.worker.inside.number c.args.event.now c.apply_into.new.answer new =
    entered _ _ _ c.self.inside.journal c.make_room.new.journal c.push_answer.new.self _ _ _ _ _ _ _ _ _
    c.make_room.ensures.entries c.make_room.ensures.limit c.push_answer.ensures.entries
    c.push_answer.ensures.limit
    c.apply_into.ensures.answer c.apply_into.ensures.new c.count.ensures.origin c.count.ensures.steps total in
    balanced-push old new c.worker.inside.number c.args.event.now c.apply_into.new.answer
    c.self.invariant fits c.is_real.ensures enters
    c.in_ok-make_room.ensures.few
    (c.count.ensures.unreclaimed ∙ c.unreclaimed.ensures)
    c.count.ensures.reclaimed
    (let u = c.count.ensures.unlinked in let same = c.count.ensures.unreclaimed in omega (arith, u, same))

pub returns-clause-noted : goal.returns-clause-noted
returns-clause-noted g c =
    let old : BooksView = books_view c.self.inside.base c.self.inside.world c.self.inside.journal c.self.inside.before
    c.self.inside.steps_before c.self.inside.book.total c.self.inside.tally in
    let new : BooksView = books_view c.self.inside.base c.apply_into.new.self c.push_answer.new.self
    c.self.inside.before c.self.inside.steps_before c.add.new.self.total c.count.new.self in
    let caller : WorkerView = record { number = c.worker.inside.number; made = c.worker.inside.made; parts = c.worker.inside.share.parts } in
    let later : WorkerView = record { number = c.worker.inside.number; made = c.worker.inside.made + 1; parts = c.add.new.share.parts } in
    let receipt : ReceiptView = record {
      worker = c.worker.inside.number;
      made = c.worker.inside.made + 1;
      event =
          c.args.event.now;
      reply = Ok c.apply_into.new.answer;
    } in
    let made : IsEntered old caller c.args.event.now receipt new later = record {
      noted = record {
        worker = refl;
        asked = refl;
        count = refl;
        answered = answered c.self.inside.world c.args.event.now c.apply_into.new.answer c.is_world.ensures c.is_real.ensures c.apply_into.ensures.answer;
        made = refl;
        same_number = refl;
        same_parts = c.add.ensures.parts ∙ c.audit.ensures.parts;
        err = tt;
      };
      entered = entered _ _ _ c.self.inside.journal c.make_room.new.journal c.push_answer.new.self _ _ _ _ _ _ _ _ _
          c.make_room.ensures.entries c.make_room.ensures.limit c.push_answer.ensures.entries
          c.push_answer.ensures.limit
          c.apply_into.ensures.answer c.apply_into.ensures.new c.count.ensures.origin c.count.ensures.steps
          (c.add.ensures.total ∙ ap (λ (k : ℕ). k + 1) c.audit.ensures.total);
      full = (λ e. absurd (ok≢err e), λ full. absurd (ok≢err (c.in_ok-make_room.ensures.full.1 full)));
      kept = tt;
    } in
    subst (λ (b : BooksView). IsEntered b c.args.worker.now c.args.event.now receipt new later) c.self.view_is
    (subst (λ (w : WorkerView). IsEntered old w c.args.event.now receipt new later) c.worker.view_is made)

pub returns-clause-rise : goal.returns-clause-rise
returns-clause-rise g c =
    let u = c.count.ensures.unlinked in
    let same = c.count.ensures.unreclaimed in
    let t = tally-push c.self.inside.tally c.count.new.self c.self.inside.world c.apply_into.new.self c.args.event.now
    c.apply_into.new.answer c.self.invariant.tally c.apply_into.ensures.answer c.apply_into.ensures.new
    c.count.ensures.origin (c.count.ensures.unreclaimed ∙ c.unreclaimed.ensures) c.count.ensures.reclaimed (omega (arith, u, same)) in
    let steps = c.count.ensures.steps in
    let reclaimed = c.count.ensures.reclaimed in
    let unlinked = t.2 in
    subst (λ (b : BooksView). TotalsRise b.tally.totals c.count.new.self.totals) c.self.view_is
    (record { steps = omega (arith, steps); unlinked = unlinked; reclaimed = omega (arith, reclaimed) })
