-- The books stay balanced: with one entry more, and when the journal is cut.
use Rattle.bpf_model.proofs.Prelude.{none-some, ◌≡◌, ◌∙◌, ℕ, ◌+◌, ◌^◌, ◌<◌, ◌≤◌, List, [], ◌∷◌, ◌++◌, length, refl, sym, ap, subst, arith, IsReal, Loaded}
use Rattle.bpf_model.proofs.Prelude.{WorldView}
use Rattle.model_laws.proofs.Prelude.{Event, Answer, Entry}
use Rattle.world_laws.proofs.Prelude.{with_program, IsWorld, full_reaction}
use Rattle.std.proofs.Common.{length-append}
use Rattle.journal.specs.Entries.{JournalView}
use Rattle.shared_books.specs.Replay.{HasNoRuns, Replays}
use Rattle.shared_books.specs.Totals.{is_step, steps_of, unreclaimed_in}
use Rattle.shared_books.proofs.Replaying.{replays_push}
use Rattle.shared_books.proofs.Sharing.{steps_push}
use Rattle.model_laws.proofs.Tallies.{one-most}
use Rattle.shared_books.specs.declared.tally.Origin.{Origin}
use Rattle.shared_books.specs.declared.tally.Tally.{Tally}
use Rattle.shared_books.specs.Books.{BooksView, AreBalanced, Enters, books_view}
use Rattle.shared_books.specs.Tally.{CountsOn, IsTallyOf, steps_by, reclaimed_by}
use Rattle.shared_books.proofs.Counting.{IsCountedOn, full-counts}

-- what is counted of the reaction that is seen
counted-here : (w new : WorldView) (event : Event) (answer : Answer) → answer ≡ (full_reaction w event).0 →
    new ≡ (full_reaction w event).1 → IsCountedOn w (answer, new)
counted-here w new event answer a n = subst (IsCountedOn w) (λ i. (sym a i, sym n i)) (full-counts w event)

pub counts-on : (w new : WorldView) (event : Event) (answer : Answer) (unreclaimed : ℕ) →
    unreclaimed ≡ unreclaimed_in w → answer ≡ (full_reaction w event).0 → new ≡ (full_reaction w event).1 →
    CountsOn answer unreclaimed (unreclaimed_in new)
counts-on w new event answer unreclaimed same a n = subst (λ (k : ℕ). CountsOn answer k (unreclaimed_in new))
    (sym same) (counted-here w new event answer a n).counts

pub tally-push : (old new : Tally) (w next : WorldView) (event : Event) (answer : Answer) → IsTallyOf old w →
    answer ≡ (full_reaction w event).0 → next ≡ (full_reaction w event).1
    → new.origin ≡ old.origin → new.unreclaimed ≡ unreclaimed_in next
    → new.totals.reclaimed ≡ old.totals.reclaimed + reclaimed_by answer
    → new.totals.unlinked + old.unreclaimed ≡ old.totals.unlinked + new.unreclaimed + reclaimed_by answer
    → IsTallyOf new next × (new.totals.unlinked ≤ old.totals.unlinked + 1) ×
    (old.totals.unlinked ≤ new.totals.unlinked) × (new.totals.reclaimed ≤ old.totals.reclaimed + 1)
tally-push old new w next event answer t a n o unr rec unl =
    let c = counted-here w next event answer a n in
    let given = c.given in
    let one = c.counts.one in
    let sum = c.counts.sum in
    let was = t.unreclaimed in
    let unlinked = t.unlinked in
    let reclaimed = t.reclaimed in
    let r : new.origin.reclaimed ≡ old.origin.reclaimed = ap (λ (z : Origin). z.reclaimed) o in
    let u : new.origin.unreclaimed ≡ old.origin.unreclaimed = ap (λ (z : Origin). z.unreclaimed) o in (
      record { unreclaimed = unr; unlinked = omega (arith, given, was, unlinked, r, u, unr, unl); reclaimed = omega (arith, given, reclaimed, r, rec) },
      omega (arith, one, sum, was, unr, unl),
      omega (arith, one, sum, was, unr, unl),
      omega (arith, one, rec),
    )

pub balanced-push : (old new : BooksView) (worker : ℕ) (event : Event) (answer : Answer) → AreBalanced old
    → old.total + 1 < 2 ^ 64 → IsReal event → Enters old worker event answer new
    → length old.journal < old.limit
    → new.tally.unreclaimed ≡ unreclaimed_in new.world
    → new.tally.totals.reclaimed ≡ old.tally.totals.reclaimed + reclaimed_by answer
    → new.tally.totals.unlinked + old.tally.unreclaimed ≡ old.tally.totals.unlinked + new.tally.unreclaimed + reclaimed_by answer
    → AreBalanced new
balanced-push old new worker event answer b fits real e room unr rec unl =
    let entry : Entry = record { worker = worker; event = event; answer = answer } in
    let r : Replays old.base new.world (old.journal ++ entry ∷ []) =
    replays_push old.base old.world new.world old.journal entry b.replays real e.answers e.world in
    let n : length new.journal ≡ length old.journal + 1 = ap length e.journal ∙ length-append old.journal (entry ∷ []) in
    let s : steps_of new.journal ≡ steps_of old.journal + steps_by answer = ap steps_of e.journal ∙ steps_push old.journal entry in
    let t = tally-push old.tally new.tally old.world new.world event answer b.tally e.answers e.world e.origin unr rec unl in
    let one : steps_by answer ≤ 1 = one-most (is_step answer) in
    let count = b.count in
    let before = e.before in
    let steps = b.steps in
    let steps_before = e.steps_before in
    let steps_now = e.steps in
    let few_steps = b.few_steps in
    let few_unlinked = b.few_unlinked in
    let few_reclaimed = b.few_reclaimed in
    let limit = b.limit in
    let same_limit = e.limit in
    let total = e.total in
    let t1 = t.1 in
    let t3 = t.3 in record {
      replays = subst (λ (z : WorldView × List Entry). Replays z.0 new.world z.1) (λ i. (sym e.base i, sym e.journal i)) r;
      count = omega (arith, n, count, before, total);
      fits = omega (arith, fits, total);
      tally = t.0;
      steps = omega (arith, s, steps, steps_before, steps_now);
      few_steps = omega (arith, few_steps, steps_now, one, total);
      few_unlinked = omega (arith, few_unlinked, t1, total);
      few_reclaimed = omega (arith, few_reclaimed, t3, total);
      limit = omega (arith, limit, same_limit);
      short = omega (arith, n, room, same_limit);
    }

-- A world with one more program is its own new base: its runs and maps are those that it had.
pub balanced-loaded : (b : BooksView) (program : Loaded) (base world : WorldView) (j : JournalView) (entries : ℕ)
    → entries ≡ length b.journal → AreBalanced b → HasNoRuns b.world → IsWorld base → base ≡ with_program program b.world
    → world ≡ base → j.entries ≡ [] → j.limit ≡ b.limit
    → AreBalanced (books_view base world j (b.before + entries) b.tally.totals.steps b.total b.tally)
balanced-loaded b program base world j entries long balanced quiet is e same empty limit =
    let count = balanced.count in
    let none : length j.entries ≡ 0 = ap length empty in
    let no_steps : steps_of j.entries ≡ 0 = ap steps_of empty in
    let most = balanced.limit in
    let r : Replays base base [] = record {
      quiet = subst HasNoRuns (sym e) quiet;
      base_is = is;
      real = λ k event h. absurd (none-some event h);
      answers = refl;
      world_is = refl;
    } in
    record {
      replays = subst (λ (z : WorldView × List Entry). Replays base z.0 z.1) (λ i. (sym same i, sym empty i)) r;
      count = omega (arith, none, count, long);
      fits = balanced.fits;
      tally = subst (IsTallyOf b.tally) (sym (same ∙ e)) (record {
        unreclaimed = balanced.tally.unreclaimed;
        unlinked = balanced.tally.unlinked;
        reclaimed = balanced.tally.reclaimed;
      });
      steps = omega (arith, no_steps);
      few_steps = balanced.few_steps;
      few_unlinked = balanced.few_unlinked;
      few_reclaimed = balanced.few_reclaimed;
      limit = omega (arith, most, limit);
      short = omega (arith, none);
    }
