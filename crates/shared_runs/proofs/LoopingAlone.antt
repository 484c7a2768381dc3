-- What the loop of a run keeps.
use Rattle.bpf_model.proofs.Prelude.{◌≡◌, ℕ, ◌+◌, ◌-◌, ◌<◌, List, length, Option, Some, None, refl, sym, ap, subst, ◌∙◌, arith, take, same_Some}
use Rattle.bpf_model.proofs.Prelude.{slice_get_within, ExitsWith, slot_count, slot_total, insn_at, RunView}
use Rattle.machine.proofs.Prelude.{request_of, entered_view, resumed_view, run_words, IsLocalStep, TakesStep, CanDo, CanGoOn, DoesAt, HasFreshRegisters}
use Rattle.machine.proofs.Prelude.{HasMoved, IsMove, index_after, moved_on, not_yet, once_more, told, view_after, view_at}
use Rattle.model_laws.proofs.Prelude.{MAX_SLOTS, KernelFunction, ReadLock, ReadUnlock, Insn, fresh_view}
use Rattle.verifier.proofs.Prelude.{Checked, IsJustified}
use Rattle.world_laws.specs.Local as laws
use Rattle.verifier.proofs.Edges.{length_slots}
use Rattle.machine.specs.declared.request.Request.{Request}
use Rattle.machine.specs.declared.request.Next.{Next}
use Rattle.machine.specs.declared.request.Next.TheVariants.{At, Exit, On, Shared}
use Rattle.machine.specs.declared.outcome.Halt.{Halt}
use Rattle.machine.specs.declared.workspace.Workspace.{Workspace}
use Rattle.machine.specs.Workspaces.{HasGoneOn}
use Rattle.machine.proofs.Places.{insn_there, next_place}
use Rattle.machine.proofs.Serving.{can_do}
use Rattle.shared_runs.specs.Lone.{StandsAlone, loaded_alone}
use Rattle.shared_runs.proofs.Going.{AsksSection, exits, moves, moves-below, resumed, shares, steps}

-- With these registers and this frame, before the instruction of an index and after so many moves,
-- the words are so those of a run of the program on the context.
pub record StandsBefore (c : Checked) (context : List ℕ) (index moved : ℕ) (w : Workspace)
    : Type 0 where
  pub view : RunView
  pub stands : StandsAlone c (view_at c.program context index w view)
  pub moved_is : view.moved ≡ moved

pub stands_first : (c : Checked) (context : List ℕ) (w : Workspace) → HasFreshRegisters w
    → StandsAlone c (record (fresh_view 0 context) { frame = w.frame }) → StandsBefore c context 0 0 w
stands_first c context w f s = record {
  view = fresh_view 0 context;
  stands = subst (λ (rs : List ℕ). StandsAlone c (run_words 0 context rs w.frame 0 0 0 None 0).view) (sym f) s;
  moved_is = refl;
}

module _ (c : Checked) (context : List ℕ) (index moved : ℕ) (w : Workspace) (b : StandsBefore c context index moved w) where
  abbrev before : RunView
  before = view_at c.program context index w b.view

  pub loop_can : CanDo c context index w
  loop_can = can_do c context index w b.view (steps c before b.stands)

  -- it has moved less often than the program has instructions
  pub loop_below : moved < length c.program
  loop_below = let l : b.view.moved < length c.program = moves-below c before b.stands in omega (arith, l, b.moved_is)

  pub loop_limit : IsJustified c → moved < MAX_SLOTS
  loop_limit j = let l : moved < length c.program = loop_below in omega (arith, l, length_slots c.program, j.program.limit)

  -- the index is one of the program's, and so within the limit of programs
  pub loop_room : IsJustified c → index < MAX_SLOTS
  loop_room j =
      let can : CanDo c context index w = loop_can in
      let below : index < length c.program = slice_get_within c.program index can.insn can.here in
      omega (arith, below, length_slots c.program, j.program.limit)

  abbrev Did : Workspace → Next → Type 0
  Did new result = (insn : Insn) → DoesAt c.program context insn index w result new

  step_to : (new : Workspace) (result next : Next) → Did new result → result ≡ next →
      TakesStep c before (told next) (view_after c.program context index next new b.view)
  step_to new result next does e =
      let s = steps c before b.stands in (
        s.insn,
        s.here,
        subst (λ (n : Next). IsLocalStep (laws.local_of s.insn before) (request_of s.insn before) before (told n)
            (view_after c.program context index n new b.view)) e
            (does s.insn (insn_there c.program index before.place s.insn s.here refl) b.view).step,
      )

  pub loop_moves : (new : Workspace) (next : Next) → Did new next → IsMove next → StandsBefore c context (index_after index next) (moved + 1) new
  loop_moves new On does m =
      let f = moves c before b.stands (view_after c.program context index On new b.view) (step_to new On On does refl) in
      record { view = moved_on b.view; stands = f.stands; moved_is = ap (λ (n : ℕ). n + 1) b.moved_is }
  loop_moves new (At target) does m =
      let f = moves c before b.stands (view_after c.program context index (At target) new b.view) (step_to new (At target) (At target) does refl) in
      record { view = moved_on b.view; stands = f.stands; moved_is = ap (λ (n : ℕ). n + 1) b.moved_is }
  loop_moves new (Shared request) does m = absurd m
  loop_moves new (Exit n) does m = absurd m

  -- the exit, after so many moves
  pub loop_exits : (new : Workspace) (result : Next) (n : ℕ) → Did new result → result ≡ Exit n → ExitsWith (loaded_alone c) context (moved + 1) n
  loop_exits new result n does e =
      let f = exits c before b.stands n (view_after c.program context index (Exit n) new b.view) (step_to new result (Exit n) does e) in
      subst (λ (m : ℕ). ExitsWith (loaded_alone c) context (m + 1) n) b.moved_is f.0

  -- a lock or an unlock is let through
  entered_at : (f : KernelFunction) (new : Workspace) → slot_total (take (index + 1) c.program) ≡ slot_total (take index c.program) + 1
      → entered_view (Some f) (view_at c.program context index new b.view) ≡ view_at c.program context (index + 1) new (entered_view (Some f) b.view)
  entered_at ReadLock new e = ap (λ (p : ℕ). (run_words b.view.program context new.registers new.frame p
      (b.view.depth + 1) (b.view.moved + 1) b.view.exit 0).view) (sym e)
  entered_at ReadUnlock new e = ap (λ (p : ℕ). (run_words b.view.program context new.registers new.frame p
      (b.view.depth - 1) (b.view.moved + 1) b.view.exit 0).view) (sym e)

  entered_moved : (f : KernelFunction) → (entered_view (Some f) b.view).moved ≡ moved + 1
  entered_moved ReadLock = ap (λ (n : ℕ). n + 1) b.moved_is
  entered_moved ReadUnlock = ap (λ (n : ℕ). n + 1) b.moved_is

  pub loop_passes : (new : Workspace) (result : Next) (request : Request) → Did new result → result ≡ Shared request →
      StandsBefore c context (index + 1) (moved + 1) new
  loop_passes new result request does e =
      let after = view_at c.program context index new b.view in
      let shared = step_to new result (Shared request) does e in
      let a : AsksSection before after shared.0 request = shares c before b.stands request after shared in
      let there = insn_there c.program index before.place shared.0 shared.1 refl in
      let place : slot_total (take (index + 1) c.program) ≡ slot_total (take index c.program) + 1 =
      next_place c.program index shared.0 there ∙ ap (λ (n : ℕ). slot_total (take index c.program) + n) (ap slot_count a.is) in
      let goes : (insn : Insn) → insn_at c.program after.place ≡ Some insn → entered_view (Some a.function) after ≡ resumed_view insn 0 after =
      λ insn here.
      let same : shared.0 ≡ insn = same_Some shared.0 insn (sym shared.1 ∙ here) in
      ap (λ (o : Option KernelFunction). entered_view o after) (sym a.known) ∙ ap (λ (i : Insn). resumed_view i 0 after) (sym a.is ∙ same) in
      let f = resumed c before b.stands request after shared (entered_view (Some a.function) after) 0 goes in
      record {
        view = entered_view (Some a.function) b.view;
        stands = subst (StandsAlone c) (entered_at a.function new place) f.stands;
        moved_is = entered_moved a.function;
      }

-- after further moves, one after another
pub along : (c : Checked) (context : List ℕ) (from before : ℕ) (start : Workspace) →
    StandsBefore c context from before start → (moved index : ℕ) (w : Workspace)
    → HasMoved c.program context from start moved index w → StandsBefore c context index (before + moved) w
along c context from before start b moved index w not_yet = subst (λ (n : ℕ). StandsBefore c context from n start) (omega arith) b
along c context from before start b moved index w (once_more so_far at mid new next h m does) =
    subst (λ (n : ℕ). StandsBefore c context (index_after at next) n new) (omega arith)
    (loop_moves c context at (before + so_far) mid (along c context from before start b so_far at mid h) new next does m)

module _ (c : Checked) (context : List ℕ) (from before : ℕ) (start : Workspace) (b : StandsBefore c context from before start) where
  pub loop_can_go_on : CanGoOn c context from start
  loop_can_go_on = λ moved index w h. loop_can c context index (before + moved) w (along c context from before start b moved index w h)

  module _ (halt : Halt Next) (new : Workspace) (h : HasGoneOn c.program context from start halt new) where
    abbrev last : StandsBefore c context halt.index (before + halt.moved) h.mid
    last = along c context from before start b halt.moved halt.index h.mid h.moves

    behind : (index : ℕ) → StandsBefore c context index (before + halt.moved + 1) new →
        StandsBefore c context index (before + (halt.moved + 1)) new
    behind index s = subst (λ (n : ℕ). StandsBefore c context index n new) (omega arith) s

    pub halts_shared : (request : Request) → halt.end ≡ Shared request → StandsBefore c context (halt.index + 1) (before + (halt.moved + 1)) new
    halts_shared request e = behind (halt.index + 1) (loop_passes c context halt.index (before + halt.moved) h.mid last new halt.end request h.last e)

    pub halts_exited : (n : ℕ) → halt.end ≡ Exit n → ExitsWith (loaded_alone c) context (before + halt.moved + 1) n
    halts_exited n e = loop_exits c context halt.index (before + halt.moved) h.mid last new halt.end n h.last e

    -- so often it has moved, and so far it has come
    pub halts_below : before + halt.moved < length c.program
    halts_below = loop_below c context halt.index (before + halt.moved) h.mid last

    pub halts_limit : IsJustified c → before + halt.moved < MAX_SLOTS
    halts_limit = loop_limit c context halt.index (before + halt.moved) h.mid last

    pub halts_room : IsJustified c → halt.index < MAX_SLOTS
    halts_room = loop_room c context halt.index (before + halt.moved) h.mid last
