-- A world has one answer to an event.
use mir.Syntax.{w32}
use mir.Val.{to_z, of_z}
use Rattle.std.proofs.Common.{◌≡◌, Option, Some, None, refl, sym, ◌∙◌}
use Rattle.std.specs.Prelude.{pos, neg_ℤ}
use Rattle.bpf_model.specs.View.{WorldView}
use Rattle.bpf_model.specs.declared.event.Answer.{Answer}
use Rattle.bpf_model.specs.declared.event.Event.{Event}
use Rattle.bpf_model.specs.declared.event.EventRefusal.{EventRefusal}
use Rattle.bpf_model.specs.declared.event.EventRefusal.TheVariants as refusals
use Rattle.bpfrt_c.specs.Worlds.{IsAnswer, refusal_error}

pub one_answer : (event : Event) (held : Option WorldView) (a b : Answer) → IsAnswer event held a → IsAnswer event held b → a ≡ b
one_answer event None a b h g = absurd h
one_answer event (Some w) a b h g = sym h ∙ g

-- The number of a refusal has 32 bits.
pub small_error : (why : EventRefusal) → to_z w32 (of_z w32 (neg_ℤ (pos (refusal_error why)))) ≡ neg_ℤ (pos (refusal_error why))
small_error refusals.NoRun = refl
small_error refusals.Ended = refl
small_error refusals.NoProgram = refl
small_error refusals.BadContext = refl
small_error refusals.RunsFull = refl
small_error refusals.NoMap = refl
small_error refusals.BadLength = refl
small_error refusals.StillRunning = refl
