use Rattle.bpf_model.proofs.Prelude.{rules, ◌≡◌, ◌<◌, length, get_or, sym, subst}
use Rattle.read_table.proofs.Prelude.{Leaves}
use Rattle.read_table.proofs.Slots.{leaves_remove}
use Rattle.read_table.proofs.writing.take_out.Goals as goal

pub returns-clause-leaves : goal.returns-clause-leaves
returns-clause-leaves c =
    let within : c.position_of-at.result < length c.args.list.now.items = search rules in
    let is : get_or c.args.list.now.items c.position_of-at.result c.args.slot ≡ c.args.slot = search rules in
    subst (Leaves c.args.slot c.args.list.now.items) (sym c.remove.ensures.items)
    (leaves_remove c.args.list.now.items c.position_of-at.result c.args.slot within is)
