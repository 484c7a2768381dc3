-- The steps of the run in run slot 0 so far, none of which was its exit.
use Rattle.bpf_model.proofs.Prelude.{◌≡◌, ◌∙◌, ◌⊎◌, inl, inr, ℕ, suc, ◌+◌, List, [], ◌∷◌, ◌++◌, replicate, Bool, true, false, sym, ap, subst, arith}
use Rattle.bpf_model.proofs.Prelude.{DoesEvent, AllExitInTime, AnswersAsMachine, AreNeverStuck, IsHistory, last_of, Machine, Tracks, WorldView}
use Rattle.model_laws.proofs.Prelude.{Answer, Moved, Exited, Event, Step, Insn}
use Rattle.run_once.specs.Going.{IsGoing}
use Rattle.run_once.specs.Once.{RunsToExit}
use Rattle.run_once.specs.Told.{AreTold, HasNext, IsStepTold, TellsStep}
use Rattle.run_once.proofs.Histories.{last-longer, longer, replicate-more, told-longer}
use Rattle.run_once.proofs.Nexts.{next_of}
use Rattle.run_once.proofs.Stepping.{steps}

pub record Walked (m : Machine) (count at : ℕ) (tells : Bool) (text : List ℕ) (w : WorldView) : Type 0 where
  pub states : List Machine
  pub history : IsHistory m (replicate at (Step 0)) (replicate at Moved) states
  pub tracked : Tracks w (last_of m states)
  pub going : IsGoing (last_of m states) count at
  pub told : AreTold tells m states text

-- at the beginning there are none
pub begins : (m : Machine) (count : ℕ) (tells : Bool) (text : List ℕ) (w : WorldView) → text ≡ [] → Tracks w m → IsGoing m count 0 →
    Walked m count 0 tells text w
begins m count false text w empty t g = record { states = []; history = tt; tracked = t; going = g; told = empty }
begins m count true text w empty t g = record { states = []; history = tt; tracked = t; going = g; told = empty }

tells_step : (m : Machine) (count at : ℕ) (g : IsGoing m count at) (late : List ℕ) →
    IsStepTold true g.run.state.place g.insn late → TellsStep m late
tells_step m count at g late shown = record { run = g.run; there = g.there; insn = g.insn; here = g.here; shown = shown }

told_more : (m next : Machine) (states : List Machine) (count at : ℕ) (g : IsGoing (last_of m states) count at) (tells : Bool)
    (text late : List ℕ) → AreTold tells m states text → IsStepTold tells g.run.state.place g.insn late →
    AreTold tells m (states ++ next ∷ []) (text ++ late)
told_more m next states count at g false text late told shown = ap (λ t. t ++ late) told ∙ shown
told_more m next states count at g true text late told shown =
    told-longer m next states text late told (tells_step (last_of m states) count at g late shown)

-- so many steps and one more, with this answer
one_more : (m next : Machine) (count at : ℕ) (tells : Bool) (text : List ℕ) (w : WorldView) (answer : Answer)
    (k : Walked m count at tells text w) → DoesEvent (last_of m k.states) (Step 0) answer next →
    IsHistory m (replicate (suc at) (Step 0)) (replicate at Moved ++ answer ∷ []) (k.states ++ next ∷ [])
one_more m next count at tells text w answer k does =
    subst (λ (es : List Event). IsHistory m es (replicate at Moved ++ answer ∷ []) (k.states ++ next ∷ [])) (replicate-more at (Step 0))
    (longer m next (replicate at (Step 0)) (replicate at Moved) k.states (Step 0) answer k.history does)

module _ (m : Machine) (count at : ℕ) (tells : Bool) (text late : List ℕ) (w new : WorldView) (answer : Answer)
    (k : Walked m count at tells text w) (machine : AnswersAsMachine Tracks w (Step 0) answer new)
    (never : AreNeverStuck Tracks w (Step 0 ∷ []) (answer ∷ [])) (time : AllExitInTime Tracks w (Step 0 ∷ []) (answer ∷ []))
    (shown : (slot : ℕ) (insn : Insn) → HasNext w slot insn → IsStepTold tells slot insn late) where
  abbrev next : Machine
  next = (machine (last_of m k.states) k.tracked).0

  does : DoesEvent (last_of m k.states) (Step 0) answer next
  does = (machine (last_of m k.states) k.tracked).1

  tracked : Tracks new (last_of m (k.states ++ next ∷ []))
  tracked = subst (Tracks new) (sym (last-longer m next k.states)) ((machine (last_of m k.states) k.tracked).2)

  told : AreTold tells m (k.states ++ next ∷ []) (text ++ late)
  told =
      let g = k.going in
      told_more m next k.states count at g tells text late k.told
      (shown g.run.state.place g.insn (next_of w (last_of m k.states) count at g k.tracked))

  ways : ((value : ℕ) × (answer ≡ Exited value)) ⊎ ((answer ≡ Moved) × IsGoing next count (at + 1))
  ways = steps (last_of m k.states) next count at answer k.going does
      (time (last_of m k.states) k.tracked (next ∷ []) (does, tt)) (never (last_of m k.states) k.tracked (next ∷ []) (does, tt))

  -- the step was its exit
  pub exited : (value : ℕ) → answer ≡ Exited value → RunsToExit m (record { value = value; steps = at + 1 }) tells (text ++ late) new
  exited value is =
      let sum : at + 1 ≡ suc at = omega arith in
      let h = subst (λ (a : Answer). IsHistory m (replicate (suc at) (Step 0)) (replicate at Moved ++ a ∷ []) (k.states ++ next ∷ [])) is
      (one_more m next count at tells text w answer k does) in record {
        moved = at;
        states = k.states ++ next ∷ [];
        count = sum;
        history = subst (λ n. IsHistory m (replicate n (Step 0)) (replicate at Moved ++ Exited value ∷ []) (k.states ++ next ∷ [])) (sym sum) h;
        tracked = tracked;
        told = told;
      }

  -- or it was not
  pub walked : ((value : ℕ) → answer ≡ Exited value → ⊥) → Walked m count (at + 1) tells (text ++ late) new
  walked other = elim ways [
    | inl x ↦ absurd (other x.0 x.1)
    | inr x ↦
        let more : suc at ≡ at + 1 = omega arith in
        let h = subst (λ (a : Answer). IsHistory m (replicate (suc at) (Step 0)) (replicate at Moved ++ a ∷ []) (k.states ++ next ∷ [])) x.0
        (one_more m next count at tells text w answer k does) in
        let of_moves = subst (λ (xs : List Answer). IsHistory m (replicate (suc at) (Step 0)) xs (k.states ++ next ∷ [])) (replicate-more at Moved) h in
        record {
          states = k.states ++ next ∷ [];
          history = subst (λ n. IsHistory m (replicate n (Step 0)) (replicate n Moved) (k.states ++ next ∷ [])) more of_moves;
          tracked = tracked;
          going = subst (λ (s : Machine). IsGoing s count (at + 1)) (sym (last-longer m next k.states)) x.1;
          told = told;
        }
  ]
