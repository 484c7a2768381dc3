-- A register that the instruction at hand needs has something in it for sure: a number of 64 bits, or a reference, to an element only inside
-- a section that guards it.
use Rattle.bpf_model.proofs.Prelude.{◌≡◌, ℕ, ◌^◌, ◌<◌, refl, sym, subst, ◌∙◌, arith, Option, Some, None, Bool, true, false, ◌==◌, if◌then◌else◌, eqb-true}
use Rattle.bpf_model.proofs.Prelude.{same_Some, State, put, insn_at, Run, Machine, open_sections, run_at, found_value}
use Rattle.model_laws.proofs.Prelude.{Insn, Value, Nothing, Number, Pointer, Elem, IsNear}
use Rattle.plan_laws.proofs.Prelude.{Kind, Blank, Mixed, Ended, Num, CtxAt, FrameAt, MapAt, ValueAt, MaybeNull, AbsState, Scene, scene_of, IsHeld, Naming}
use Rattle.plan_laws.proofs.Prelude.{IsNullOrHeld, IsOf, AreNear, Describes, HasStep, IsPlanned, IsTyped, IsWell}
use Rattle.plan_laws.proofs.Reaching.{surrounds}

abbrev pub IsSure : Scene → Value → Type 0
IsSure c (Number n) = n < 2 ^ 64
IsSure c (Pointer (Elem n o)) = (map : ℕ) × IsHeld c map n
IsSure c v = Unit {0}

-- kinds that nothing may be of
abbrev pub IsLoose : Kind → Type 0
IsLoose Blank = Unit {0}
IsLoose Mixed = Unit {0}
IsLoose Ended = Unit {0}
IsLoose kind = ⊥

loose-of : (c : Scene) (ρ : Naming) (k : Kind) (v : Value) → IsLoose k → IsOf c ρ k v
loose-of c ρ Blank v l = tt
loose-of c ρ Mixed v l = tt
loose-of c ρ Ended v l = tt
loose-of c ρ k v l = absurd l

sure-found : (c : Scene) (map : ℕ) (o : Option ℕ) → IsNullOrHeld c map o → IsSure c (found_value o)
sure-found c map None h = omega arith
sure-found c map (Some n) h = (map, h)

pub sure-of : (c : Scene) (ρ : Naming) (k : Kind) (v : Value) → IsOf c ρ k v → (IsLoose k → ⊥) → IsSure c v
sure-of c ρ Blank v h l = absurd (l tt)
sure-of c ρ Mixed v h l = absurd (l tt)
sure-of c ρ Ended v h l = absurd (l tt)
sure-of c ρ (Num s) v h l = subst (IsSure c) (sym h.1) h.2
sure-of c ρ (CtxAt s) v h l = subst (IsSure c) (sym h.is) tt
sure-of c ρ (FrameAt o) v h l = subst (IsSure c) (sym h) tt
sure-of c ρ (MapAt map) v h l = subst (IsSure c) (sym h) tt
sure-of c ρ (ValueAt map s) v h l = subst (IsSure c) (sym h.is) (map, h.held)
sure-of c ρ (MaybeNull map id) v h l = subst (IsSure c) (sym h.0) (sure-found c map (ρ id) h.1)

-- the state without what a register has, and the run
abbrev pub emptied : ℕ → State → State
emptied q m = record { regs = put q Nothing m.regs; frame = m.frame; place = m.place }

abbrev pub emptied_run : ℕ → Run → Run
emptied_run q run = record {
  name = run.name;
  program = run.program;
  context = run.context;
  state =
      emptied q run.state;
  depth = run.depth;
  sections = run.sections;
  moved = run.moved;
  exit = run.exit;
}

near-emptied : (b : Bool) (v : Value) → IsNear v → IsNear (if b then Nothing else v)
near-emptied true v n = tt
near-emptied false v n = n

of-emptied : (c : Scene) (ρ : Naming) (kinds : ℕ → Kind) (values : ℕ → Value) (q j : ℕ) (b : Bool) → (j == q) ≡ b →
    IsLoose (kinds q) → IsOf c ρ (kinds j) (values j) → IsOf c ρ (kinds j) (if b then Nothing else values j)
of-emptied c ρ kinds values q j true e l h = loose-of c ρ (kinds j) Nothing (subst (λ j. IsLoose (kinds j)) (sym (eqb-true j q e)) l)
of-emptied c ρ kinds values q j false e l h = h

pub describes-emptied : (a : AbsState) (c : Scene) (m : State) (q : ℕ) → IsLoose (a.regs q) → Describes a c m → Describes a c (emptied q m)
describes-emptied a c m q l d = record {
  naming = d.naming;
  stored = d.stored;
  depth = d.depth;
  near = record { regs_near = λ j. near-emptied (j == q) (m.regs j) (d.near.regs_near j); cells_near = d.near.cells_near };
  regs = λ j. of-emptied c d.naming a.regs m.regs q j (j == q) refl l (d.regs j);
  cells = d.cells;
}

module _ (m : Machine) (r : ℕ) (run : Run) (w : IsWell m) (at : run_at m.runs r ≡ Some run) (going : run.exit ≡ None) where
  abbrev pub typed : IsTyped m.store run
  typed = w.runs r run at going

  -- what its own verification says of it
  abbrev described : IsPlanned run.program.code typed.safe.verified.plan typed.index (scene_of m.store run) run.state
  described = typed.planned typed.safe.verified

  pub run-near : AreNear run.state.regs run.state.frame
  run-near = described.describes.near

  -- a loose register is emptied, and there is a step all the same
  steps-emptied : (q : ℕ) → IsLoose (described.known.regs q) → (i : Insn) ×
      (insn_at run.program.code run.state.place ≡ Some i) ×
      HasStep i m.store (open_sections m.runs) (emptied_run q run)
  steps-emptied q l =
      let s = surrounds m r run w at going typed in
      typed.safe.verified.closed.goes typed.index m.store (open_sections m.runs) (emptied_run q run) (record {
        going = s.going;
        section = s.section;
        single = s.single;
        lengths = s.lengths;
        arrays = s.arrays;
        bytes = s.bytes;
        bound = s.bound;
        long = s.long;
        context = s.context;
      }) (record {
        at = described.at;
        known = described.known;
        planned = described.planned;
        describes = describes-emptied described.known (scene_of m.store run) run.state q l described.describes;
      })

  -- where there is none, the register is sure
  pub sure : (i : Insn) (q : ℕ) → insn_at run.program.code run.state.place ≡ Some i →
      (HasStep i m.store (open_sections m.runs) (emptied_run q run) → ⊥) →
      IsSure (scene_of m.store run) (run.state.regs q)
  sure i q here stuck =
      sure-of (scene_of m.store run) described.describes.naming (described.known.regs q) (run.state.regs q) (described.describes.regs q)
      (λ l. let s = steps-emptied q l in stuck (subst (λ j.
      HasStep j m.store (open_sections m.runs) (emptied_run q run)) (same_Some s.0 i (sym s.1 ∙ here)) s.2))
