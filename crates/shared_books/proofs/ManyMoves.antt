-- The books stay balanced with many moves of one run more, one after another.
use Rattle.bpf_model.proofs.Prelude.{◌≡◌, ◌∙◌, ℕ, ◌+◌, ◌-◌, ◌^◌, ◌<◌, ◌≤◌, List, [], ◌∷◌, ◌++◌, length, replicate, refl, sym, ap, subst, arith, append_assoc}
use Rattle.bpf_model.proofs.Prelude.{append-nil, length-replicate, WorldView}
use Rattle.model_laws.proofs.Prelude.{Entry}
use Rattle.world.proofs.Prelude.{MakesMoves, WouldMove, not_yet, once_more}
use Rattle.world_laws.proofs.Prelude.{full_reaction}
use Rattle.std.proofs.Common.{length-append}
use Rattle.std.proofs.lemmas.Grind.{replicate_next}
use Rattle.bpf_model.specs.declared.event.Event.TheVariants as events
use Rattle.bpf_model.specs.declared.event.Answer.TheVariants as answers
use Rattle.shared_books.specs.Totals.{unreclaimed_in}
use Rattle.shared_books.proofs.Replaying.{replays_to_world}
use Rattle.shared_books.specs.declared.tally.Tally.{Tally}
use Rattle.shared_books.specs.Books.{BooksView, AreBalanced, Enters, TotalsRise}
use Rattle.shared_books.specs.Receipts.{IsMachineAnswer}
use Rattle.shared_books.specs.Stretches as books
use Rattle.shared_books.specs.Stretches.{EntersMoves}
use Rattle.shared_books.specs.Tally.{CountsOn}
use Rattle.shared_books.proofs.Answered.{answered}
use Rattle.shared_books.proofs.Balance.{counts-on, balanced-push}

abbrev pub move-entry : ℕ → ℕ → Entry
move-entry worker run = record { worker = worker; event = events.Step run; answer = answers.Moved }

-- the books with so many moves more, this world and this tally
abbrev pub books-after : BooksView → ℕ → ℕ → ℕ → WorldView → Tally → BooksView
books-after old worker run n w t = record {
  base = old.base;
  world = w;
  journal = old.journal ++ replicate n (move-entry worker run);
  limit = old.limit;
  before = old.before;
  steps_before = old.steps_before;
  total = old.total + n;
  tally = t;
}

-- some tally fits, and with it the books are reached one entry after another
pub record AreAfter (old : BooksView) (worker run n : ℕ) (w : WorldView) : Type 0 where
  pub tally : Tally
  pub balanced : AreBalanced (books-after old worker run n w tally)
  pub enters : EntersMoves worker run old n (books-after old worker run n w tally)
  pub rise : TotalsRise old.tally.totals tally.totals
  pub origin : tally.origin ≡ old.tally.origin
  pub steps : tally.totals.steps ≡ old.tally.totals.steps + n
  pub reclaimed : tally.totals.reclaimed ≡ old.tally.totals.reclaimed
  pub unlinked : tally.totals.unlinked + old.tally.unreclaimed ≡ old.tally.totals.unlinked + tally.unreclaimed
  pub machine : 0 < n → IsMachineAnswer (events.Step run) answers.Moved

-- no move yet
none-is : (old : BooksView) (worker run : ℕ) → books-after old worker run 0 old.world old.tally ≡ old
none-is old worker run =
    let js : old.journal ++ replicate 0 (move-entry worker run) ≡ old.journal = append-nil old.journal in
    let sum : old.total + 0 ≡ old.total = omega arith in
    λ i. record {
      base = old.base;
      world = old.world;
      journal = js i;
      limit = old.limit;
      before = old.before;
      steps_before = old.steps_before;
      total = sum i;
      tally = old.tally;
    }

after-none : (old : BooksView) (worker run : ℕ) → AreBalanced old → AreAfter old worker run 0 old.world
after-none old worker run b = record {
  tally = old.tally;
  balanced = subst AreBalanced (sym (none-is old worker run)) b;
  enters = subst (EntersMoves worker run old 0) (sym (none-is old worker run)) books.not_yet;
  rise = record { steps = omega arith; unlinked = omega arith; reclaimed = omega arith };
  origin = refl;
  steps = omega arith;
  reclaimed = refl;
  unlinked = omega arith;
  machine = λ some. absurd (let z : ⊥ = omega (arith, some) in z);
}

-- one move more
module _ (old : BooksView) (worker run n : ℕ) (mid : WorldView) (x : AreAfter old worker run n mid)
    (would : WouldMove mid run) (real : run < 2 ^ 64) (room : length old.journal + n < old.limit)
    (fits : old.total + n + 1 < 2 ^ 64) where
  abbrev next : WorldView
  next = (full_reaction mid (events.Step run)).1

  counts : CountsOn answers.Moved x.tally.unreclaimed (unreclaimed_in next)
  counts = counts-on mid next (events.Step run) answers.Moved x.tally.unreclaimed x.balanced.tally.unreclaimed (sym would) refl

  abbrev tally-next : Tally
  tally-next = record {
    origin = x.tally.origin;
    unreclaimed = unreclaimed_in next;
    totals = record {
      steps = x.tally.totals.steps + 1;
      unlinked = x.tally.totals.unlinked + counts.unlinked;
      reclaimed = x.tally.totals.reclaimed;
    };
  }

  abbrev before : BooksView
  before = books-after old worker run n mid x.tally

  abbrev after : BooksView
  after = books-after old worker run (n + 1) next tally-next

  longer : after.journal ≡ before.journal ++ move-entry worker run ∷ []
  longer = ap (λ (es : List Entry). old.journal ++ es) (replicate_next n (move-entry worker run))
      ∙ sym (append_assoc old.journal (replicate n (move-entry worker run)) (move-entry worker run ∷ []))

  enters-next : Enters before worker (events.Step run) answers.Moved after
  enters-next = record {
    journal = longer;
    answers = sym would;
    world = refl;
    base = refl;
    limit = refl;
    before = refl;
    steps_before = refl;
    total = omega arith;
    origin = refl;
    steps = refl;
  }

  room-there : length before.journal < before.limit
  room-there =
      let a = length-append old.journal (replicate n (move-entry worker run)) in
      let b = length-replicate n (move-entry worker run) in
      omega (arith, a, b, room)

  after-once : AreAfter old worker run (n + 1) next
  after-once =
      let sum = counts.sum in
      let unlinked = x.unlinked in
      let steps = x.steps in
      let rise-steps = x.rise.steps in
      let rise-unlinked = x.rise.unlinked in
      record {
        tally = tally-next;
        balanced = balanced-push before after worker (events.Step run) answers.Moved x.balanced (omega (arith, fits)) real
            enters-next room-there refl (omega arith) (omega (arith, sum));
        enters = books.once_more n before after x.enters enters-next;
        rise = record { steps = omega (arith, rise-steps); unlinked = omega (arith, rise-unlinked); reclaimed = x.rise.reclaimed };
        origin = x.origin;
        steps = omega (arith, steps);
        reclaimed = x.reclaimed;
        unlinked = omega (arith, unlinked, sum);
        machine = λ some. answered mid (events.Step run) answers.Moved
            (replays_to_world old.base mid before.journal x.balanced.replays) real (sym would);
      }

pub after-moves : (old : BooksView) (worker run n : ℕ) (w : WorldView) → MakesMoves run old.world n w → AreBalanced old →
    run < 2 ^ 64 → length old.journal + n ≤ old.limit → old.total + n < 2 ^ 64 → AreAfter old worker run n w
after-moves old worker run n w not_yet b real room fits = after-none old worker run b
after-moves old worker run n w (once_more count mid so_far would) b real room fits =
    after-once old worker run count mid
    (after-moves old worker run count mid so_far b real (omega (arith, room)) (omega (arith, fits))) would real
    (omega (arith, room)) (omega (arith, fits))

-- tallies with the same numbers are one
pub same-tally : (a t : Tally) → a.origin ≡ t.origin → a.unreclaimed ≡ t.unreclaimed → a.totals.steps ≡ t.totals.steps →
    a.totals.unlinked ≡ t.totals.unlinked → a.totals.reclaimed ≡ t.totals.reclaimed → a ≡ t
same-tally a t o u s l r = λ i. record {
  origin = o i;
  unreclaimed = u i;
  totals = record { steps = s i; unlinked = l i; reclaimed = r i };
}

-- books with these parts are those after the moves
pub books-are : (old new : BooksView) (worker run n : ℕ) (w : WorldView) (t : Tally) → new.base ≡ old.base → new.world ≡ w →
    new.journal ≡ old.journal ++ replicate n (move-entry worker run) → new.limit ≡ old.limit →
    new.before ≡ old.before → new.steps_before ≡ old.steps_before → new.total ≡ old.total + n → new.tally ≡ t →
    new ≡ books-after old worker run n w t
books-are old new worker run n w t b v j l e s o y = λ i. record {
  base = b i;
  world = v i;
  journal = j i;
  limit = l i;
  before = e i;
  steps_before = s i;
  total = o i;
  tally = y i;
}

-- What a call of `run_for` finds and leaves, where so many moves have led from the world of the books to this one.
module _ (old : BooksView) (worker run n : ℕ) (w : WorldView) (moves : MakesMoves run old.world n w) (b : AreBalanced old)
    (real : run < 2 ^ 64) (room : length old.journal + n ≤ old.limit) (fits : old.total + n < 2 ^ 64) where
  all : AreAfter old worker run n w
  all = after-moves old worker run n w moves b real room fits

  pub can-unreclaimed : (k : ℕ) → k ≡ unreclaimed_in w → old.tally.unreclaimed ≤ k
  can-unreclaimed k e =
      let rise = all.rise.unlinked in
      let unlinked = all.unlinked in
      let now = all.balanced.tally.unreclaimed in
      omega (arith, e, rise, unlinked, now)

  pub can-steps : old.tally.totals.steps + n < 2 ^ 64
  can-steps =
      let steps = all.steps in
      let few = all.balanced.few_steps in
      omega (arith, steps, few, fits)

  pub can-unlinked : (k : ℕ) → k ≡ unreclaimed_in w → old.tally.totals.unlinked + (k - old.tally.unreclaimed) < 2 ^ 64
  can-unlinked k e =
      let rise = all.rise.unlinked in
      let unlinked = all.unlinked in
      let now = all.balanced.tally.unreclaimed in
      let few = all.balanced.few_unlinked in
      omega (arith, e, rise, unlinked, now, few, fits)

  pub machine-move : 0 < n → IsMachineAnswer (events.Step run) answers.Moved
  machine-move some = all.machine some

  -- the books afterwards
  module _ (new : BooksView) (base : new.base ≡ old.base) (world : new.world ≡ w)
      (journal : new.journal ≡ old.journal ++ replicate n (move-entry worker run)) (limit : new.limit ≡ old.limit)
      (before : new.before ≡ old.before) (steps_before : new.steps_before ≡ old.steps_before)
      (total : new.total ≡ old.total + n) (origin : new.tally.origin ≡ old.tally.origin)
      (unreclaimed : new.tally.unreclaimed ≡ unreclaimed_in w)
      (steps : new.tally.totals.steps ≡ old.tally.totals.steps + n)
      (reclaimed : new.tally.totals.reclaimed ≡ old.tally.totals.reclaimed)
      (unlinked : new.tally.totals.unlinked + old.tally.unreclaimed ≡ old.tally.totals.unlinked + new.tally.unreclaimed) where
    tally-is : new.tally ≡ all.tally
    tally-is =
        let now = all.balanced.tally.unreclaimed in
        let sum = all.unlinked in
        same-tally new.tally all.tally (origin ∙ sym all.origin) (unreclaimed ∙ sym now) (steps ∙ sym all.steps)
        (omega (arith, unlinked, sum, unreclaimed, now)) (reclaimed ∙ sym all.reclaimed)

    new-is : new ≡ books-after old worker run n w all.tally
    new-is = books-are old new worker run n w all.tally base world journal limit before steps_before total tally-is

    pub still-balanced : AreBalanced new
    still-balanced = subst AreBalanced (sym new-is) all.balanced

    pub moves-entered : EntersMoves worker run old n new
    moves-entered = subst (EntersMoves worker run old n) (sym new-is) all.enters

    pub totals-rise : TotalsRise old.tally.totals new.tally.totals
    totals-rise = subst (λ (z : BooksView). TotalsRise old.tally.totals z.tally.totals) (sym new-is) all.rise
