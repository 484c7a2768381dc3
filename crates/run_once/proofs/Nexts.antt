-- The next instruction of the run in run slot 0, as the world has it and as the machine has it.
use Rattle.bpf_model.proofs.Prelude.{◌≡◌, ◌∙◌, ℕ, List, Option, Some, None, refl, sym, ap, subst, slice_get, option_flatten, none-some, same_Some, Element}
use Rattle.bpf_model.proofs.Prelude.{Loaded, Machine, Run, RunRefines, RunSlotRefines, Tracks, TracksSchedule, Schedule, insn_at, RunView, WorldView}
use Rattle.model_laws.proofs.Prelude.{Insn}
use Rattle.run_once.specs.Going.{IsGoing}
use Rattle.run_once.specs.Told.{HasNext}

-- what is found of the next instruction is that
pub same_next : (w : WorldView) (slot : ℕ) (insn : Insn) (view : RunView) (place : ℕ) (found : Option Insn) (it : Insn) →
    HasNext w slot insn → slice_get w.runs 0 ≡ Some (Some view) → place ≡ view.place →
    ((l : Loaded) → slice_get w.programs view.program ≡ Some l → found ≡ insn_at l.code view.place) → found ≡ Some it →
    (place ≡ slot) × (it ≡ insn)
same_next w slot insn view place found it n there placed finds is =
    let same : n.run ≡ view = same_Some n.run view (same_Some (Some n.run) (Some view) (sym n.there ∙ there)) in
    let at : view.place ≡ slot = ap (λ (r : RunView). r.place) (sym same) ∙ n.place in
    let of : slice_get w.programs view.program ≡ Some n.loaded = subst (λ (r : RunView). slice_get w.programs r.program ≡ Some n.loaded) same n.of in
    (placed ∙ at, same_Some it insn (sym is ∙ (finds n.loaded of ∙ (ap (insn_at n.loaded.code) at ∙ n.here))))

-- The run slot of a world has a run where that of the machine has one.
record Has (slots : List ℕ) (es : List Element) (programs : List Loaded) (x : Option (Option RunView)) (run : Run) : Type 0 where
  pub view : RunView
  pub there : x ≡ Some (Some view)
  pub refines : RunRefines slots es programs view run

has : (slots : List ℕ) (es : List Element) (programs : List Loaded) (x : Option (Option RunView)) (y : Option (Option Run)) (run : Run) →
    RunSlotRefines slots es programs x y → option_flatten y ≡ Some run → Has slots es programs x run
has slots es programs (Some (Some view)) (Some (Some r)) run h is =
    record { view = view; there = refl; refines = subst (RunRefines slots es programs view) (same_Some r run is) h }
has slots es programs (Some None) (Some None) run h is = absurd (none-some run is)
has slots es programs None None run h is = absurd (none-some run is)
has slots es programs x y run h is = absurd h

next_in : (w : WorldView) (s : Schedule) (count moved : ℕ) (g : IsGoing s.machine count moved) →
    TracksSchedule w s → HasNext w g.run.state.place g.insn
next_in w s count moved g t =
    let r = t.refines in
    let x = has r.slots s.machine.store.elements s.machine.programs (slice_get w.runs 0) (slice_get s.machine.runs 0) g.run (r.runs 0) g.there in
    record {
      run = x.view;
      there = x.there;
      place = x.refines.words.place;
      loaded = g.run.program;
      of = ap (λ l. slice_get l x.view.program) r.programs ∙ x.refines.program;
      here = g.here;
    }

pub next_of : (w : WorldView) (m : Machine) (count moved : ℕ) (g : IsGoing m count moved) → Tracks w m → HasNext w g.run.state.place g.insn
next_of w m count moved g (s, same, t) =
    subst (λ (k : Machine). (h : IsGoing k count moved) → HasNext w h.run.state.place h.insn) same (λ h. next_in w s count moved h t) g
