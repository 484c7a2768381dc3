use Rattle.world.proofs.SlotFlags.{free-slot, lowest-flag}
use Rattle.world.proofs.kept.flags.lowest_free.Goals as goal

pub returns-clause-slot : goal.returns-clause-slot
returns-clause-slot c = λ runs h. lowest-flag runs c.args.flags.now c.memchr.result c.memchr.ensures h

pub returns-clause-free : goal.returns-clause-free
returns-clause-free c = λ runs h. free-slot runs c.args.flags.now c.memchr.result c.memchr.ensures h
