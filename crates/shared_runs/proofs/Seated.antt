-- How far a seat has come with a shared run: each step of the run's words takes it further.
use Rattle.bpf_model.proofs.Prelude.{◌≡◌, ℕ, ◌+◌, ◌<◌, ap, ◌∙◌, List, [], ◌++◌, Some, length, AreBytes, insn_at}
use Rattle.machine.proofs.Prelude.{resumed_view, RunWords, Awaits, IsReplyTo, IsValidRun, TakesStep}
use Rattle.model_laws.proofs.Prelude.{Insn, FRAME_BYTES, fresh_view}
use Rattle.verifier.proofs.Prelude.{Checked, IsJustified}
use Rattle.machine.specs.declared.request.Request.{Request}
use Rattle.machine.specs.declared.request.Local.TheVariants.{Exit, Moved, Shared}
use Rattle.machine.specs.RunWords.{IsAt as StandsAt}
use Rattle.shared_runs.specs.Running.{HasComeTo, RunsOver}
use Rattle.shared_runs.specs.Serving.{IsServable, Serves}
use Rattle.shared_runs.specs.Sharing.{flag_of}
use Rattle.shared_runs.specs.Tables.{AreSteps, IsSmall, IsTable, Table}
use Rattle.shared_runs.specs.Words.{FitsTable, StoresSubWords}
use Rattle.shared_runs.proofs.Coming as coming

module _ {Seat : Type 0} (k : Table) (IsAt : Seat → Type 0) (mine : Seat → List k.Move) (Goes : Seat → List k.Move → Seat → Type 0)
    (keeps : IsTable k) (steps : AreSteps k IsAt mine Goes) (c : Checked) (context : List ℕ) (start : Seat) (at_start : IsAt start) where
  pub has-started : (r : RunWords) → IsSmall k → IsJustified c → FitsTable k c.shapes → (StoresSubWords c → ⊥) →
      length context ≡ c.ctx_len → AreBytes context → StandsAt c.program r → length r.view.frame ≡ FRAME_BYTES →
      r.view ≡ record (fresh_view 0 context) { frame = r.view.frame } → HasComeTo k Goes c context start start r
  has-started r small j maps words long bytes at cells view = record {
    moves = [];
    goes = steps.none start at_start;
    come = coming.has-started k keeps c context r small.few j maps words long bytes at cells view;
  }

  module _ (now : Seat) (r : RunWords) (outside : k.inside (mine start) ≡ 0) (h : HasComeTo k Goes c context start now r) where
    pub stands : IsValidRun c r
    stands = coming.stands k keeps c context h.moves r h.come

    -- it has moved less often than its program has instructions
    pub below : r.view.moved < length c.program
    below = coming.below k keeps c context h.moves r h.come

    pub at-now : IsAt now
    at-now = steps.stays start now h.moves at_start h.goes

    list : mine now ≡ h.moves ++ mine start
    list = steps.listed start now h.moves h.goes

    module _ (new : RunWords) (at : StandsAt c.program new) where
      -- it has moved on by itself
      pub moved-on : TakesStep c r.view Moved new.view → HasComeTo k Goes c context start now new × (r.view.moved < new.view.moved)
      moved-on t =
          let m = coming.moved-on k keeps c context h.moves r h.come new at t in
          (record { moves = h.moves; goes = h.goes; come = m.0 }, m.1)

      -- it has exited
      pub exited : (n : ℕ) → TakesStep c r.view (Exit n) new.view → RunsOver k Goes c context start now n × (k.inside (mine now) ≡ 0)
      exited n t =
          let e = coming.exited k keeps c context h.moves r h.come new at n t in (
            record { moves = h.moves; steps = new.view.moved + 1; list = h.goes; exit = e.0; bounded = e.1 },
            ap (λ (l : List k.Move). k.inside l) list ∙ (keeps.inside_over h.moves (mine start) outside ∙ e.2),
          )

      -- it asks
      module _ (request : Request) (t : TakesStep c r.view (Shared request) new.view) where
        pub servable : IsServable k (mine now) new.view request
        servable = coming.servable k keeps c context h.moves r h.come new at request t (mine now) (mine start) list

        pub section : k.inside (mine now) ≡ flag_of new.view.depth
        section = coming.section k keeps c context h.moves r h.come new at request t (mine now) (mine start) list outside

        module _ (ns : List k.Move) (word : ℕ) (served : Serves k new.view request ns word) where
          pub answered : Awaits c request new → IsReplyTo c request new word
          answered a = coming.answered k keeps c context h.moves r h.come new at request t ns word served a

          pub resumed-on : (later : Seat) (last : RunWords) → Goes now ns later → StandsAt c.program last →
              ((insn : Insn) → insn_at c.program new.view.place ≡ Some insn →
              last.view ≡ resumed_view insn word new.view)
              → HasComeTo k Goes c context start later last × (r.view.moved < last.view.moved)
          resumed-on later last goes there view =
              let f = coming.resumed-on k keeps c context h.moves r h.come new at request t ns word served last there view in
              (record { moves = ns ++ h.moves; goes = steps.then start now later h.moves ns h.goes goes; come = f.0 }, f.1)
