-- How far a shared run has come: each step of its words takes it further.
use Rattle.bpf_model.proofs.Prelude.{◌≡◌, ℕ, ◌+◌, ◌<◌, ◌≤◌, sym, ap, subst, ◌∙◌, arith, List, [], ◌++◌, Some, length, slice_get_within, AreBytes, insn_at}
use Rattle.bpf_model.proofs.Prelude.{RunView}
use Rattle.machine.proofs.Prelude.{resumed_view, IsAt, RunWords, Awaits, IsReplyTo, IsValidRun, TakesStep}
use Rattle.model_laws.proofs.Prelude.{Insn, FRAME_BYTES, fresh_view}
use Rattle.verifier.proofs.Prelude.{Checked, IsJustified}
use Rattle.world_laws.proofs.Prelude.{regions}
use Rattle.machine.specs.declared.request.Request.{Request}
use Rattle.machine.specs.declared.request.Local.TheVariants.{Exit, Moved, Shared}
use Rattle.machine.proofs.Places.{insn_there}
use Rattle.shared_runs.specs.Tables.{Table, IsTable}
use Rattle.shared_runs.specs.Serving.{CanAnswer, IsServable, Serves}
use Rattle.shared_runs.specs.Sharing.{HasCome, IsSharing, flag_of}
use Rattle.shared_runs.specs.SharedRuns.{IsSharedRun}
use Rattle.shared_runs.specs.Words.{FitsTable, StoresSubWords, loaded_of}
use Rattle.shared_runs.proofs.Asked.{can-serve}
use Rattle.shared_runs.proofs.Starting.{starts}
use Rattle.shared_runs.proofs.Steps.{exits, moves, standing, steps}

pub has-started : (k : Table) → IsTable k → (c : Checked) (context : List ℕ) (r : RunWords) → k.elements ≤ regions →
    IsJustified c → FitsTable k c.shapes → (StoresSubWords c → ⊥) → length context ≡ c.ctx_len → AreBytes context
    → IsAt c.program r → length r.view.frame ≡ FRAME_BYTES → r.view ≡ record (fresh_view 0 context) { frame = r.view.frame } → HasCome k c context [] r
has-started k keeps c context r few j fits words long bytes at cells view = record {
  at = at;
  sharing = subst (λ (v : RunView). IsSharing k c context [] v) (sym view)
      (starts k keeps c j fits few words context long bytes r.view.frame cells);
}

module _ (k : Table) (keeps : IsTable k) (c : Checked) (context : List ℕ) (ms : List k.Move) (r : RunWords)
    (h : HasCome k c context ms r) where
  pub stands : IsValidRun c r
  stands = record { at = h.at; stands = standing k c context ms r.view h.sharing }

  -- it has moved less often than its program has instructions
  pub below : r.view.moved < length c.program
  below =
      let s = steps k c context ms r.view h.sharing in
      let within = slice_get_within c.program r.index s.insn (insn_there c.program r.index r.view.place s.insn s.here h.at.place) in
      let paced = h.at.paced in
      omega (arith, within, paced)

  module _ (new : RunWords) (at : IsAt c.program new) where
    -- it has moved on by itself
    pub moved-on : TakesStep c r.view Moved new.view → HasCome k c context ms new × (r.view.moved < new.view.moved)
    moved-on t =
        let f = moves k c context ms r.view h.sharing new.view t in
        (record { at = at; sharing = f.sharing }, omega (arith, f.counts))

    -- it has exited
    pub exited : (n : ℕ) → TakesStep c r.view (Exit n) new.view →
        IsSharedRun k c.shapes (loaded_of c) context ms (new.view.moved + 1) n
        × (new.view.moved + 1 ≤ length c.program) × (k.inside ms ≡ 0)
    exited n t =
        let e = exits k c context ms r.view h.sharing n new.view t in
        let within = slice_get_within c.program new.index e.insn (insn_there c.program new.index new.view.place e.insn e.here at.place) in
        let paced = at.paced in
        (e.exit, omega (arith, within, paced), e.outside)

    -- it asks
    module _ (request : Request) (t : TakesStep c r.view (Shared request) new.view) where
      asks : CanAnswer k c context ms r.view request × (new.view ≡ r.view)
      asks = can-serve k keeps c context ms r.view h.sharing request new.view t

      sharing-now : IsSharing k c context ms new.view
      sharing-now = subst (λ (v : RunView). IsSharing k c context ms v) (sym asks.1) h.sharing

      can-now : CanAnswer k c context ms new.view request
      can-now = subst (λ (v : RunView). CanAnswer k c context ms v request) (sym asks.1) asks.0

      pub servable : (mine start : List k.Move) → mine ≡ ms ++ start → IsServable k mine new.view request
      servable mine start list = record { checked = c; context = context; moves = ms; before = start; list = list; can = can-now }

      pub section : (mine start : List k.Move) → mine ≡ ms ++ start → k.inside start ≡ 0 → k.inside mine ≡ flag_of new.view.depth
      section mine start list outside = ap (λ (l : List k.Move). k.inside l) list ∙ (keeps.inside_over ms start outside ∙ sharing-now.section)

      module _ (ns : List k.Move) (word : ℕ) (served : Serves k new.view request ns word) where
        pub answered : Awaits c request new → IsReplyTo c request new word
        answered a = (a, (served c context ms can-now).1)

        pub resumed-on : (last : RunWords) → IsAt c.program last →
            ((insn : Insn) → insn_at c.program new.view.place ≡ Some insn →
            last.view ≡ resumed_view insn word new.view)
            → HasCome k c context (ns ++ ms) last × (r.view.moved < last.view.moved)
        resumed-on last there view =
            let on = (served c context ms can-now).0 in
            let f = on.2 in
            let e = view on.0 on.1 in
            let more : last.view.moved ≡ new.view.moved + 1 = ap (λ (v : RunView). v.moved) e ∙ f.counts in
            let same : new.view.moved ≡ r.view.moved = ap (λ (v : RunView). v.moved) asks.1 in (
              record { at = there; sharing = subst (λ (v : RunView). IsSharing k c context (ns ++ ms) v) (sym e) f.sharing },
              omega (arith, more, same),
            )
