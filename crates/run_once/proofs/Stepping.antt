-- A step of the run in run slot 0, which has not exited: it moves on, or it exits.
use Rattle.bpf_model.proofs.Prelude.{◌≡◌, ◌∙◌, ◌⊎◌, inl, inr, ℕ, ◌+◌, ◌<◌, List, [], ◌∷◌, length, Option, Some, None, refl, sym, ap, subst, slice_set}
use Rattle.bpf_model.proofs.Prelude.{none-some, same_Some, Loaded, Machine, Run, open_sections, run_at, NeverStuck, StepsRun, Answers, DoesEvent, if_ended}
use Rattle.bpf_model.proofs.Prelude.{refusal, step_refusal, ExitsInTime, moved_by, moves_of, AllStates}
use Rattle.model_laws.proofs.Prelude.{Step, Answer, Moved, Exited}
use Rattle.model_laws.proofs.Moves.{Changes, Ends, Goes, Locks, Unlocks, changed-insn}
use Rattle.plan_laws.proofs.Reaching.{same-insn}
use Rattle.run_once.specs.Going.{IsGoing}

-- The run has made so many moves, and has not exited.
record HasMoved (next : Machine) (count moved : ℕ) : Type 0 where
  run : Run
  there : run_at next.runs 0 ≡ Some run
  of : length run.program.code ≡ count
  has_moved : run.moved ≡ moved
  going : run.exit ≡ None

abbrev ExitsOrMoves : Machine → ℕ → ℕ → Answer → Type 0
ExitsOrMoves next count moved answer = ((value : ℕ) × (answer ≡ Exited value)) ⊎ ((answer ≡ Moved) × HasMoved next count moved)

set-there : (runs : List (Option Run)) (old new : Run) → run_at runs 0 ≡ Some old → run_at (slice_set runs 0 (Some new)) 0 ≡ Some new
set-there [] old new h = absurd (none-some old h)
set-there (x ∷ runs) old new h = refl

module _ (m next : Machine) (count moved : ℕ) (answer : Answer) (g : IsGoing m count moved) where
  allowed : refusal m (Step 0) ≡ None
  allowed = ap step_refusal g.there ∙ ap if_ended g.going

  moves-on : (h : StepsRun m 0 answer next) → h.run ≡ g.run → answer ≡ Moved → h.new_run.exit ≡ h.run.exit →
      h.new_run.moved ≡ h.run.moved + 1 → ExitsOrMoves next count (moved + 1) answer
  moves-on h same told exit more =
      let s = same-insn h.step.0 m.store (open_sections m.runs) h.run answer h.new_store h.new_run h.step.2 in
      inr (
        told,
        record {
          run = h.new_run;
          there = ap (λ (x : Machine). run_at x.runs 0) h.new_is ∙ set-there m.runs h.run h.new_run h.there;
          of = ap (λ (p : Loaded). length p.code) s.program ∙ (ap (λ (x : Run). length x.program.code) same ∙ g.of);
          has_moved = more ∙ (ap (λ (x : Run). x.moved + 1) same ∙ ap (λ n. n + 1) g.has_moved);
          going = exit ∙ h.going;
        },
      )

  changes : (h : StepsRun m 0 answer next) → h.run ≡ g.run → Changes h.run answer h.new_run → ExitsOrMoves next count (moved + 1) answer
  changes h same (Goes s told new) = moves-on h same told (ap (λ (x : Run). x.exit) new) (ap (λ (x : Run). x.moved) new)
  changes h same (Locks s room told new) = moves-on h same told (ap (λ (x : Run). x.exit) new) (ap (λ (x : Run). x.moved) new)
  changes h same (Unlocks s inside told new) = moves-on h same told (ap (λ (x : Run). x.exit) new) (ap (λ (x : Run). x.moved) new)
  changes h same (Ends n out exited new) = inl (n, exited)

  performs : StepsRun m 0 answer next → ExitsOrMoves next count (moved + 1) answer
  performs h =
      let same : h.run ≡ g.run = same_Some h.run g.run (sym h.there ∙ g.there) in
      changes h same (changed-insn h.step.0 m.store (open_sections m.runs) h.run answer h.new_store h.new_run h.step.2)

  goes : (answer ≡ Moved) × HasMoved next count (moved + 1) → ExitsInTime m (Step 0 ∷ []) (answer ∷ []) (next ∷ []) →
      AllStates NeverStuck (m ∷ next ∷ []) → IsGoing next count (moved + 1)
  goes (told, f) time never =
      let stuck = never.1.0 0 f.run f.there f.going in
      let less = time 1 0 next f.run refl f.there in
      let of_answer = subst (λ (a : Answer). moves_of 0 (moved_by (run_at m.runs 0)) (Step 0 ∷ []) (a ∷ []) < length f.run.program.code) told less in
      let of_run = subst (λ (r : Option Run). moved_by r + 1 < length f.run.program.code) g.there of_answer in
      let of_count = subst (λ n. n + 1 < length f.run.program.code) g.has_moved of_run in record {
        run = f.run;
        there = f.there;
        of = f.of;
        has_moved = f.has_moved;
        in_time = subst (λ n. moved + 1 < n) f.of of_count;
        going = f.going;
        insn = stuck.3.0;
        here = stuck.3.1;
      }

  -- It exits, or it moves and goes on.
  pub steps : DoesEvent m (Step 0) answer next → ExitsInTime m (Step 0 ∷ []) (answer ∷ []) (next ∷ []) →
      AllStates NeverStuck (m ∷ next ∷ []) → ((value : ℕ) × (answer ≡ Exited value)) ⊎ ((answer ≡ Moved) × IsGoing next count (moved + 1))
  steps does time never = elim (performs (subst (λ o. Answers o m (Step 0) answer next) allowed does)) [
    | inl x ↦ inl x
    | inr x ↦ inr (x.0, goes x time never)
  ]
