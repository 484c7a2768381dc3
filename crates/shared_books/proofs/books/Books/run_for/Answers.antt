use Rattle.bpf_model.proofs.Prelude.{◌≡◌, ◌∙◌, ℕ, ◌+◌, ◌^◌, ◌<◌, ◌≤◌, ◌++◌, List, length, replicate, refl, sym, ap, subst, arith, min, WorldView}
use Rattle.model_laws.proofs.Prelude.{Entry}
use Rattle.journal.specs.Entries.{JournalView}
use Rattle.shared_books.specs.Books.{BooksView, WorkerView, TotalsRise, books_view}
use Rattle.shared_books.specs.declared.tally.Tally.{Tally}
use Rattle.shared_books.specs.Stretches.{EntersMoves, not_yet}
use Rattle.shared_books.proofs.ManyMoves.{can-steps, can-unlinked, can-unreclaimed, machine-move, move-entry, moves-entered, still-balanced, totals-rise}
use Rattle.shared_books.proofs.books.Books.run_for.Goals as goal

-- there is room for as many moves as there are
fits-moves : (journal room : JournalView) (before total most space bound n : ℕ) → room.entries ≡ journal.entries →
    room.limit ≡ journal.limit → before + length journal.entries ≡ total → length room.entries + space ≤ room.limit →
    before + length room.entries + space < 2 ^ 64 → bound ≡ min most space → n ≤ bound →
    (length journal.entries + n ≤ journal.limit) × (total + n < 2 ^ 64)
fits-moves journal room before total most space bound n entries limit count short few least below =
    let same : length room.entries ≡ length journal.entries = ap length entries in (
      omega (arith, same, limit, short, least, below),
      omega (arith, same, count, few, least, below),
    )

-- of a journal only the entries and the limit are seen
same-books : (base world : WorldView) (journal room : JournalView) (before steps_before total : ℕ) (tally : Tally) →
    room.entries ≡ journal.entries → room.limit ≡ journal.limit →
    books_view base world room before steps_before total tally ≡ books_view base world journal before steps_before total tally
same-books base world journal room before steps_before total tally entries limit = λ i. record {
  base = base;
  world = world;
  journal = entries i;
  limit = limit i;
  before = before;
  steps_before = steps_before;
  total = total;
  tally = tally;
}

pub room_in-room-requires : goal.room_in-room-requires
room_in-room-requires g c =
    let count = c.self.invariant.count in
    let fits = c.self.invariant.fits in
    let same : length c.make_room.new.journal.entries ≡ length c.self.inside.journal.entries = ap length c.make_room.ensures.entries in
    omega (arith, count, fits, same)

pub count_moves-requires-clause-unreclaimed : goal.count_moves-requires-clause-unreclaimed
count_moves-requires-clause-unreclaimed g c =
    let old : BooksView = books_view c.self.inside.base c.self.inside.world c.self.inside.journal c.self.inside.before
    c.self.inside.steps_before c.self.inside.book.total c.self.inside.tally in
    let run = c.args.run in
    let number : ℕ = 0 in
    let n = c.run_for-stretch.result.moved in
    let w = c.run_for-stretch.new.self in
    let f = fits-moves c.self.inside.journal c.make_room.new.journal c.self.inside.before c.self.inside.book.total
    c.args.most c.room_in-room.result c.min-bound.result n c.make_room.ensures.entries c.make_room.ensures.limit c.self.invariant.count
    c.room_in-room.ensures.short c.room_in-room.ensures.count c.min-bound.ensures c.run_for-stretch.ensures.most in
    can-unreclaimed old number run n w c.run_for-stretch.ensures.moves c.self.invariant c.is_real.ensures f.0 f.1 c.unreclaimed.result c.unreclaimed.ensures

pub count_moves-requires-clause-steps : goal.count_moves-requires-clause-steps
count_moves-requires-clause-steps g c =
    let old : BooksView = books_view c.self.inside.base c.self.inside.world c.self.inside.journal c.self.inside.before
    c.self.inside.steps_before c.self.inside.book.total c.self.inside.tally in
    let run = c.args.run in
    let number : ℕ = 0 in
    let n = c.run_for-stretch.result.moved in
    let w = c.run_for-stretch.new.self in
    let f = fits-moves c.self.inside.journal c.make_room.new.journal c.self.inside.before c.self.inside.book.total
    c.args.most c.room_in-room.result c.min-bound.result n c.make_room.ensures.entries c.make_room.ensures.limit c.self.invariant.count
    c.room_in-room.ensures.short c.room_in-room.ensures.count c.min-bound.ensures c.run_for-stretch.ensures.most in
    can-steps old number run n w c.run_for-stretch.ensures.moves c.self.invariant c.is_real.ensures f.0 f.1

pub count_moves-requires-clause-unlinked : goal.count_moves-requires-clause-unlinked
count_moves-requires-clause-unlinked g c =
    let old : BooksView = books_view c.self.inside.base c.self.inside.world c.self.inside.journal c.self.inside.before
    c.self.inside.steps_before c.self.inside.book.total c.self.inside.tally in
    let run = c.args.run in
    let number : ℕ = 0 in
    let n = c.run_for-stretch.result.moved in
    let w = c.run_for-stretch.new.self in
    let f = fits-moves c.self.inside.journal c.make_room.new.journal c.self.inside.before c.self.inside.book.total
    c.args.most c.room_in-room.result c.min-bound.result n c.make_room.ensures.entries c.make_room.ensures.limit c.self.invariant.count
    c.room_in-room.ensures.short c.room_in-room.ensures.count c.min-bound.ensures c.run_for-stretch.ensures.most in
    can-unlinked old number run n w c.run_for-stretch.ensures.moves c.self.invariant c.is_real.ensures f.0 f.1 c.unreclaimed.result c.unreclaimed.ensures

pub enter_moves-requires-clause-fits : goal.enter_moves-requires-clause-fits
enter_moves-requires-clause-fits g c =
    let old : BooksView = books_view c.self.inside.base c.self.inside.world c.self.inside.journal c.self.inside.before
    c.self.inside.steps_before c.self.inside.book.total c.self.inside.tally in
    let run = c.args.run in
    let number = c.worker.inside.number in
    let n = c.run_for-stretch.result.moved in
    let w = c.run_for-stretch.new.self in
    let f = fits-moves c.self.inside.journal c.make_room.new.journal c.self.inside.before c.self.inside.book.total
    c.args.most c.room_in-room.result c.min-bound.result n c.make_room.ensures.entries c.make_room.ensures.limit c.self.invariant.count
    c.room_in-room.ensures.short c.room_in-room.ensures.count c.min-bound.ensures c.run_for-stretch.ensures.most in
    let same : length c.make_room.new.journal.entries ≡ length c.self.inside.journal.entries = ap length c.make_room.ensures.entries in
    let limit = c.make_room.ensures.limit in
    let room = f.0 in
    omega (arith, same, limit, room)

pub invariant_of-self-2 : goal.invariant_of-self-2
invariant_of-self-2 g c =
    let old : BooksView = books_view c.self.inside.base c.self.inside.world c.self.inside.journal c.self.inside.before
    c.self.inside.steps_before c.self.inside.book.total c.self.inside.tally in
    let run = c.args.run in
    let number = c.worker.inside.number in
    let n = c.run_for-stretch.result.moved in
    let w = c.run_for-stretch.new.self in
    let f = fits-moves c.self.inside.journal c.make_room.new.journal c.self.inside.before c.self.inside.book.total
    c.args.most c.room_in-room.result c.min-bound.result n c.make_room.ensures.entries c.make_room.ensures.limit c.self.invariant.count
    c.room_in-room.ensures.short c.room_in-room.ensures.count c.min-bound.ensures c.run_for-stretch.ensures.most in
    let new : BooksView = books_view c.self.inside.base w c.enter_moves.new.journal c.self.inside.before
    c.self.inside.steps_before c.add.new.self.total c.count_moves.new.self in
    still-balanced old number run n w c.run_for-stretch.ensures.moves c.self.invariant c.is_real.ensures f.0 f.1
    new refl refl
    (c.enter_moves.ensures.entries ∙ ap (λ (es : List Entry). es ++ replicate n (move-entry number run)) c.make_room.ensures.entries)
    (c.enter_moves.ensures.limit ∙ c.make_room.ensures.limit) refl refl
    (c.add.ensures.total ∙ ap (λ (k : ℕ). k + n) c.audit.ensures.total) c.count_moves.ensures.origin
    (c.count_moves.ensures.unreclaimed ∙ c.unreclaimed.ensures) c.count_moves.ensures.steps c.count_moves.ensures.reclaimed
    (let u = c.count_moves.ensures.unlinked in let same = c.count_moves.ensures.unreclaimed in omega (arith, u, same))

pub returns-clause-moves : goal.returns-clause-moves
returns-clause-moves g c =
    let old : BooksView = books_view c.self.inside.base c.self.inside.world c.self.inside.journal c.self.inside.before
    c.self.inside.steps_before c.self.inside.book.total c.self.inside.tally in
    let run = c.args.run in
    let number = c.worker.inside.number in
    let n = c.run_for-stretch.result.moved in
    let w = c.run_for-stretch.new.self in
    let f = fits-moves c.self.inside.journal c.make_room.new.journal c.self.inside.before c.self.inside.book.total
    c.args.most c.room_in-room.result c.min-bound.result n c.make_room.ensures.entries c.make_room.ensures.limit c.self.invariant.count
    c.room_in-room.ensures.short c.room_in-room.ensures.count c.min-bound.ensures c.run_for-stretch.ensures.most in
    let new : BooksView = books_view c.self.inside.base w c.enter_moves.new.journal c.self.inside.before
    c.self.inside.steps_before c.add.new.self.total c.count_moves.new.self in
    subst (λ (b : BooksView). EntersMoves c.args.worker.now.number run b n new) c.self.view_is
    (subst (λ (v : WorkerView). EntersMoves v.number run old n new) c.worker.view_is
    (moves-entered old number run n w c.run_for-stretch.ensures.moves c.self.invariant c.is_real.ensures f.0 f.1
    new refl refl
    (c.enter_moves.ensures.entries ∙ ap (λ (es : List Entry). es ++ replicate n (move-entry number run)) c.make_room.ensures.entries)
    (c.enter_moves.ensures.limit ∙ c.make_room.ensures.limit) refl refl
    (c.add.ensures.total ∙ ap (λ (k : ℕ). k + n) c.audit.ensures.total) c.count_moves.ensures.origin
    (c.count_moves.ensures.unreclaimed ∙ c.unreclaimed.ensures) c.count_moves.ensures.steps c.count_moves.ensures.reclaimed
    (let u = c.count_moves.ensures.unlinked in let same = c.count_moves.ensures.unreclaimed in omega (arith, u, same))))

pub returns-clause-answered : goal.returns-clause-answered
returns-clause-answered g c =
    let old : BooksView = books_view c.self.inside.base c.self.inside.world c.self.inside.journal c.self.inside.before
    c.self.inside.steps_before c.self.inside.book.total c.self.inside.tally in
    let run = c.args.run in
    let number = c.worker.inside.number in
    let n = c.run_for-stretch.result.moved in
    let w = c.run_for-stretch.new.self in
    let f = fits-moves c.self.inside.journal c.make_room.new.journal c.self.inside.before c.self.inside.book.total
    c.args.most c.room_in-room.result c.min-bound.result n c.make_room.ensures.entries c.make_room.ensures.limit c.self.invariant.count
    c.room_in-room.ensures.short c.room_in-room.ensures.count c.min-bound.ensures c.run_for-stretch.ensures.most in
    machine-move old number run n w c.run_for-stretch.ensures.moves c.self.invariant c.is_real.ensures f.0 f.1

pub returns-clause-rise : goal.returns-clause-rise
returns-clause-rise g c =
    let old : BooksView = books_view c.self.inside.base c.self.inside.world c.self.inside.journal c.self.inside.before
    c.self.inside.steps_before c.self.inside.book.total c.self.inside.tally in
    let run = c.args.run in
    let number = c.worker.inside.number in
    let n = c.run_for-stretch.result.moved in
    let w = c.run_for-stretch.new.self in
    let f = fits-moves c.self.inside.journal c.make_room.new.journal c.self.inside.before c.self.inside.book.total
    c.args.most c.room_in-room.result c.min-bound.result n c.make_room.ensures.entries c.make_room.ensures.limit c.self.invariant.count
    c.room_in-room.ensures.short c.room_in-room.ensures.count c.min-bound.ensures c.run_for-stretch.ensures.most in
    let new : BooksView = books_view c.self.inside.base w c.enter_moves.new.journal c.self.inside.before
    c.self.inside.steps_before c.add.new.self.total c.count_moves.new.self in
    subst (λ (b : BooksView). TotalsRise b.tally.totals c.count_moves.new.self.totals) c.self.view_is
    (totals-rise old number run n w c.run_for-stretch.ensures.moves c.self.invariant c.is_real.ensures f.0 f.1
    new refl refl
    (c.enter_moves.ensures.entries ∙ ap (λ (es : List Entry). es ++ replicate n (move-entry number run)) c.make_room.ensures.entries)
    (c.enter_moves.ensures.limit ∙ c.make_room.ensures.limit) refl refl
    (c.add.ensures.total ∙ ap (λ (k : ℕ). k + n) c.audit.ensures.total) c.count_moves.ensures.origin
    (c.count_moves.ensures.unreclaimed ∙ c.unreclaimed.ensures) c.count_moves.ensures.steps c.count_moves.ensures.reclaimed
    (let u = c.count_moves.ensures.unlinked in let same = c.count_moves.ensures.unreclaimed in omega (arith, u, same)))

pub returns-in-Err-clause-moves : goal.returns-in-Err-clause-moves
returns-in-Err-clause-moves g c =
    subst (EntersMoves c.args.worker.now.number c.args.run c.args.self.now 0)
    (sym (same-books c.self.inside.base c.self.inside.world c.self.inside.journal c.make_room.new.journal
    c.self.inside.before c.self.inside.steps_before c.self.inside.book.total c.self.inside.tally
    c.make_room.ensures.entries c.make_room.ensures.limit ∙ c.self.view_is)) not_yet
