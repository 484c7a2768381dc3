use Rattle.bpf_model.proofs.Prelude.{◌≡◌, ◌<◌, ◌^◌, ℕ, Option, Some, None, subst, sym, rules, IfNone, IfSome, WorldView}
use Rattle.machine.specs.declared.walk.WalkEnd.{WalkEnd}
use Rattle.world.proofs.Prelude.{Walk, MakesMoves}
use Rattle.world_laws.proofs.Prelude.{IsWorld}
use Rattle.world.proofs.OwnMoves.{moves-to-world}
use Rattle.world.proofs.world.World.walk.Goals as goal

walked-world : (r : ℕ) (w new : WorldView) (o : Option (Walk WalkEnd)) → IsWorld w → r < 2 ^ 64 → IfNone o (new ≡ w) →
    IfSome o (λ walk. MakesMoves r w walk.moved new) → IsWorld new
walked-world r w new None is real kept moves = subst IsWorld (sym kept) is
walked-world r w new (Some walk) is real kept moves = moves-to-world r w walk.moved new moves is real

pub invariant_of-self : goal.invariant_of-self
invariant_of-self c =
    let real : c.args.run < 2 ^ 64 = search rules in
    walked-world c.args.run c.self.inside.parts c.walk.new.self c.walk.result c.self.invariant real c.walk.ensures.kept c.walk.ensures.moves
