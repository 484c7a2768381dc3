use Rattle.bpf_model.proofs.Prelude.{ℕ, subst, IfNone, WorldView}
use Rattle.world_laws.proofs.Prelude.{HasExited}
use Rattle.world_laws.proofs.Asked.{asked_may, asked_alone}
use Rattle.world.proofs.world.World.exit_of.Goals as goal

pub returns-clause-none : goal.returns-clause-none
returns-clause-none c =
    subst (λ (w : WorldView). IfNone c.exit_of.result ((n : ℕ) →
    HasExited w c.args.run c.args.program.now.program c.args.program.now.shapes c.args.program.now.ctx_len
    c.args.ctx.now.items n → ⊥)) c.self.view_is c.exit_of.ensures.none

pub returns-clause-may : goal.returns-clause-may
returns-clause-may c = asked_may c.self.inside.parts c.args.run c.args.program.now.program c.args.program.now.shapes
    c.args.program.now.ctx_len c.args.ctx.now.items c.exit_of.result c.self.invariant c.exit_of.ensures.some

pub returns-clause-alone : goal.returns-clause-alone
returns-clause-alone c = asked_alone c.self.inside.parts c.args.run c.args.program.now.program
    c.args.program.now.shapes c.args.program.now.ctx_len c.args.ctx.now.items c.exit_of.result c.self.invariant
    c.exit_of.ensures.some
