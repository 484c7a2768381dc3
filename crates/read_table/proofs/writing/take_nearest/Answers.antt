use Rattle.bpf_model.proofs.Prelude.{rules, ◌<◌, length, sym, subst}
use Rattle.read_table.proofs.Prelude.{Leaves}
use Rattle.read_table.proofs.Slots.{leaves_remove}
use Rattle.read_table.proofs.writing.take_nearest.Goals as goal

pub returns-clause-leaves : goal.returns-clause-leaves
returns-clause-leaves c =
    let within : c.nearest-at.result < length c.args.free.now.items = search rules in
    subst (Leaves c.remove.result c.args.free.now.items) (sym c.remove.ensures.items)
    (leaves_remove c.args.free.now.items c.nearest-at.result c.remove.result within (sym c.remove.ensures.value))
