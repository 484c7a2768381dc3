-- A run before its step: what its words stand for, and what the instruction at hand needs.
use Rattle.bpf_model.proofs.Prelude.{◌≡◌, ℕ, ◌<◌, refl, ap, subst, ◌∙◌, arith, Some, List, length, ◌≤◌, slice_get, slice_index, Element, Loaded, Run}
use Rattle.bpf_model.proofs.Prelude.{open_sections, moves, InsnStep, Store, RunRefines, RunSlotRefines, RefinesSchedule, Schedule, State, insn_at, RunView}
use Rattle.bpf_model.proofs.Prelude.{WorldView, WordIs, ByteIs, element_bases, flattened}
use Rattle.model_laws.proofs.Prelude.{FRAME_BYTES, REGISTERS, Insn, Answer, Moved, Matches, Simulates, half, with_run}
use Rattle.plan_laws.proofs.Prelude.{AreNear}
use Rattle.world_laws.proofs.Prelude.{word_in, moved_view, IsSound, IsRunning}
use Rattle.bpf_model.specs.declared.event.Event.TheVariants as events
use Rattle.plan_laws.proofs.Reaching.{surrounds}
use Rattle.model_laws.proofs.Running.{move_simulates}
use Rattle.world_laws.proofs.Sure.{typed, run-near}
use Rattle.world_laws.proofs.Among.{moved-words}
use Rattle.world_laws.proofs.Shown.{shown}

-- the words after a move, over any elements
pub move-refines : (slots : List ℕ) (es : List Element) (programs : List Loaded) (v : RunView) (run : Run) →
    RunRefines slots es programs v run → (registers frame : List ℕ) (place : ℕ) (next : State)
    → length registers ≡ REGISTERS → ((q : ℕ) → q < REGISTERS → WordIs (element_bases slots es) (next.regs q) (slice_index registers q))
    → length frame ≡ FRAME_BYTES → ((j : ℕ) → j < FRAME_BYTES →
    ByteIs (element_bases slots es) (next.frame j) (slice_index frame j)) → place ≡ next.place →
    RunRefines slots es programs (moved_view registers frame place v) (moves run next)
move-refines slots es programs v run h registers frame place next register_count regs cells bytes at = record {
  program = h.program;
  words = moved-words (element_bases slots es) v run h.words registers frame place next register_count regs cells bytes at;
}

module _ (w : WorldView) (s : Schedule) (m : Matches w s) (sound : IsSound w s) (r : ℕ) (run : Run) (v : RunView) (k : IsRunning w s r run v) where
  abbrev pub slots : List ℕ
  slots = m.refines.slots

  abbrev pub es : List Element
  es = s.machine.store.elements

  abbrev pub bases : ℕ → ℕ
  bases = element_bases slots es

  abbrev pub Refines : RunView → Run → Type 0
  Refines new later = RunRefines slots es s.machine.programs new later

  pub refines : Refines v run
  refines = subst (λ o. RunSlotRefines slots es s.machine.programs o (Some (Some run))) k.shown
      (subst (RunSlotRefines slots es s.machine.programs (slice_get w.runs r)) (flattened (slice_get s.machine.runs r) run k.there) (m.refines.runs r))

  pub near : AreNear run.state.regs run.state.frame
  near = run-near s.machine r run sound.well k.there k.going

  pub register-word : (q : ℕ) → q ≤ 10 → WordIs bases (run.state.regs q) (word_in v q)
  register-word q l = refines.words.registers q (omega (arith, l))

  pub byte-stands : (j : ℕ) → j < length v.frame → ByteIs bases (run.state.frame j) (slice_index v.frame j)
  byte-stands j l = let c : length v.frame ≡ FRAME_BYTES = refines.words.cells in refines.words.frame j (omega (arith, l, c))

  -- a step to a later run, which leaves the maps
  pub moves-to : (i : Insn) (later : Run) (new : RunView) (answer : Answer) →
      insn_at run.program.code run.state.place ≡ Some i →
      InsnStep i s.machine.store (open_sections s.machine.runs) run answer s.machine.store later → Refines new later
      → Simulates s (events.Step r) (answer, with_run r (Some new) w)
  moves-to i later new answer here step h = move_simulates w s m r run later v new answer k.there k.shown h
      (record {
        run = run;
        there = k.there;
        going = k.going;
        new_store = s.machine.store;
        new_run = later;
        step =
            (i, here, step);
        new_is = refl;
      })

  -- what the run has after a step is near
  pub near-after : (i : Insn) (next : State) → insn_at run.program.code run.state.place ≡ Some i →
      InsnStep i s.machine.store (open_sections s.machine.runs) run Moved s.machine.store (moves run next) →
      AreNear next.regs next.frame
  near-after i next here step =
      let t = typed s.machine r run sound.well k.there k.going in
      let l = t.safe.verified.closed.leads t.index i s.machine.store (open_sections s.machine.runs) run Moved
      s.machine.store (moves run next) (surrounds s.machine r run sound.well k.there k.going t)
      (t.planned t.safe.verified) here step in
      (l.1 k.going).planned.describes.near

  -- what the run stands for when the maps have changed
  pub half-refines : (store : Store) (u : WorldView) (y : RefinesSchedule u (half s store)) → u.runs ≡ w.runs →
      RunRefines y.slots store.elements s.machine.programs v run
  half-refines store u y same =
      subst (λ o. RunSlotRefines y.slots store.elements s.machine.programs o (Some (Some run))) (ap (λ runs. slice_get runs r) same ∙ k.shown)
      (subst (RunSlotRefines y.slots store.elements s.machine.programs (slice_get u.runs r)) (flattened (slice_get s.machine.runs r) run k.there) (y.runs r))
