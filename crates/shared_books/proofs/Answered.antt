-- The reaction of a world is an answer of the abstract machine.
use Rattle.bpf_model.proofs.Prelude.{◌≡◌, refl, sym, subst, IsReal, DoesEvent, WorldView}
use Rattle.model_laws.proofs.Prelude.{Event, Answer}
use Rattle.world_laws.proofs.Prelude.{IsWorld, full_reaction}
use Rattle.world_laws.proofs.Worlds.{simulates}
use Rattle.shared_books.specs.Receipts.{IsMachineAnswer}

pub answered : (w : WorldView) (event : Event) (answer : Answer) → IsWorld w → IsReal event → answer ≡ (full_reaction w event).0 → IsMachineAnswer event answer
answered w event answer is real e =
    let d = simulates w is.schedule event is.tracks is.ready real in record {
      world = w;
      is_world = is;
      old = is.schedule.machine;
      tracked = (is.schedule, refl, is.tracks);
      new = d.0.machine;
      step = subst (λ (a : Answer). DoesEvent is.schedule.machine event a d.0.machine) (sym e) d.1.step;
    }
