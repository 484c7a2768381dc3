-- What is held stays held, whatever the store does in a step: the run's section is open, so that an element that it guards isn't reclaimed.
use Rattle.bpf_model.proofs.Prelude.{◌≡◌, ℕ, ◌<◌, ◌/◌, List, Option, Some, None, inl, inr, refl, sym, ap, subst, ◌∙◌, Bool, slice_get, State, Section, Has}
use Rattle.bpf_model.proofs.Prelude.{Element, Life, Store, with_elements, Run, Machine, open_sections, section_of, run_at, InsnStep, DoesEvent}
use Rattle.model_laws.proofs.Prelude.{Insn, Event, Answer, Value, Cell, IsConsistent, IsSingle}
use Rattle.plan_laws.proofs.Prelude.{Kind, Blank, Mixed, Ended, Num, CtxAt, FrameAt, MapAt, ValueAt, MaybeNull, CellKind, BlankCell, MixedCell, EndedCell}
use Rattle.plan_laws.proofs.Prelude.{ByteCell, PartCell, AbsState, Scene, scene_of, IsGuarded, IsHeld, Naming, IsNullOrHeld, IsOf, Stored, IsOfCell}
use Rattle.plan_laws.proofs.Prelude.{Describes}
use Rattle.model_laws.proofs.Sections.{has_open}
use Rattle.model_laws.proofs.Changing.{is_reap}
use Rattle.model_laws.proofs.Stores.{LifeMoves, Stays, Unlinks, Ends, Alters, Touches, KeepsShapes, AllLengths, StoreMoves, does-moves, moves-insn}
use Rattle.plan_laws.proofs.Arrays.{array-kept}

guarded-later : (reap : Bool) (opened : List Section) (old new : Life) (s : Section) → Has opened s →
    LifeMoves reap opened old new → IsGuarded old s → IsGuarded new s
guarded-later reap opened old new s h (Stays e) g = subst (λ l. IsGuarded l s) (sym e) g
guarded-later reap opened old new s h (Unlinks l e) g = subst (λ x. IsGuarded x s) (sym e) h
guarded-later reap opened old new s h (Ends since r l ended e) g = absurd (ended s (subst (λ x. IsGuarded x s) l g) h)

-- what is held in the first scene is held in the second
abbrev pub HoldsOn : Scene → Scene → Type 0
HoldsOn c d = (map n : ℕ) → IsHeld c map n → IsHeld d map n

pub record Keeps (c d : Scene) : Type 0 where
  pub held : HoldsOn c d
  pub depth : d.depth ≡ c.depth

-- What is held stays held: elements alter alone, and arrays stay arrays.
module _ (reap : Bool) (opened : List Section) (s new : Store) (run : Run) (in_section : 0 < run.depth → Has opened (section_of run)) where
  abbrev Forth : Type 0
  Forth = (n : ℕ) (e : Element) → slice_get s.elements n ≡ Some e → (f : Element) × (slice_get new.elements n ≡ Some f) × Alters reap opened e f

  held-forth : Forth → KeepsShapes s.maps new.maps → HoldsOn (scene_of s run) (scene_of new run)
  held-forth forth shapes map n h =
      let f = forth n h.element h.born in
      let e : Element = h.element in record {
        element = f.0;
        born = f.1;
        in_map = h.in_map ∙ ap Some (sym f.2.in_map);
        allowed = elim h.allowed [
          | inl g ↦ inl (g.0, guarded-later reap opened e.life f.0.life (section_of run) (in_section g.0) f.2.life g.1)
          | inr a ↦ inr (array-kept s new run shapes map a)
        ];
      }

  pub keeps-moves : StoreMoves reap opened s new → Keeps (scene_of s run) (scene_of new run)
  keeps-moves mv = record { held = held-forth mv.forth mv.shapes; depth = refl }

pub keeps-touches : (reap : Bool) (opened : List Section) (s : Store) (es : List Element) (run : Run) →
    (0 < run.depth → Has opened (section_of run)) → Touches reap opened s.elements es →
    Keeps (scene_of s run) (scene_of (with_elements es s) run)
keeps-touches reap opened s es run in_section t = record {
  held =
      held-forth reap opened s (with_elements es s) run in_section t.forth (λ k state at. (state, at, refl));
  depth =
      refl;
}

module _ (c d : Scene) (k : HoldsOn c d) where
  null-kept : (map : ℕ) (o : Option ℕ) → IsNullOrHeld c map o → IsNullOrHeld d map o
  null-kept map None h = tt
  null-kept map (Some n) h = k map n h

  pub of-kept : (ρ : Naming) (kind : Kind) (v : Value) → IsOf c ρ kind v → IsOf d ρ kind v
  of-kept ρ Blank v h = tt
  of-kept ρ Mixed v h = tt
  of-kept ρ Ended v h = tt
  of-kept ρ (Num s) v h = h
  of-kept ρ (CtxAt o) v h = h
  of-kept ρ (FrameAt o) v h = h
  of-kept ρ (MapAt map) v h = h
  of-kept ρ (ValueAt map s) v h = record { n = h.n; offset = h.offset; is = h.is; there = h.there; held = k map h.n h.held }
  of-kept ρ (MaybeNull map id) v h = (h.0, null-kept map (ρ id) h.1)

  pub cell-kept : (ρ : Naming) (σ : Stored) (i : ℕ) (cell : CellKind) (x : Cell) → IsOfCell c ρ σ i cell x → IsOfCell d ρ σ i cell x
  cell-kept ρ σ i BlankCell x h = tt
  cell-kept ρ σ i MixedCell x h = tt
  cell-kept ρ σ i EndedCell x h = tt
  cell-kept ρ σ i ByteCell x h = h
  cell-kept ρ σ i (PartCell kind) x h = (h.0, of-kept ρ kind (σ (i / 8)) h.1)

pub describes-kept : (c d : Scene) → Keeps c d → (a : AbsState) (m : State) → Describes a c m → Describes a d m
describes-kept c d k a m h = record {
  naming = h.naming;
  stored = h.stored;
  depth = k.depth ∙ h.depth;
  near = h.near;
  regs = λ r. of-kept c d k.held h.naming (a.regs r) (m.regs r) (h.regs r);
  cells = λ i. cell-kept c d k.held h.naming h.stored i (a.cells i) (m.frame i) (h.cells i);
}

-- whatever event comes, its own step too: what describes the run describes it among the elements after it
pub stays_described : (m new : Machine) (event : Event) (answer : Answer) (r : ℕ) (run : Run) (a : AbsState) →
    IsConsistent m → DoesEvent m event answer new → run_at m.runs r ≡ Some run →
    Describes a (scene_of m.store run) run.state → Describes a (scene_of new.store run) run.state
stays_described m new event answer r run a w h at d =
    describes-kept (scene_of m.store run) (scene_of new.store run)
    (keeps-moves (is_reap event) (open_sections m.runs) m.store new.store run
    (λ inside. has_open m.runs r run at inside) (does-moves m new event answer w.single w.lengths h)) a run.state
    d

-- an instruction's step keeps what the run's scene holds, and its depth
pub insn-keeps : (i : Insn) (s : Store) (opened : List Section) (run : Run) (answer : Answer) (new : Store)
    (new_run : Run) → IsSingle s.elements → AllLengths s → (0 < run.depth → Has opened (section_of run)) →
    InsnStep i s opened run answer new new_run → Keeps (scene_of s run) (scene_of new run)
insn-keeps i s opened run answer new new_run single lengths in_section h =
    keeps-moves _ opened s new run in_section (moves-insn i s opened run answer new new_run single lengths h)
