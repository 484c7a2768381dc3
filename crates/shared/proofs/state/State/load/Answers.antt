use Rattle.bpf_model.proofs.Prelude.{◌≡◌, subst, ◌↔◌, Err}
use Rattle.shared_books.specs.Replay.{HasNoRuns}
use Rattle.shared.specs.State.{StateView}
use Rattle.shared_books.specs.declared.fault.LoadFault.TheVariants as load_fault
use Rattle.shared.proofs.state.State.load.Goals as goal

pub returns-clause-quiet : goal.returns-clause-quiet
returns-clause-quiet g c =
    subst (λ (s : StateView). (c.load.result ≡ Err load_fault.NotQuiet) ↔ (HasNoRuns s.books.world → ⊥)) c.self.view_is c.load.ensures.quiet
