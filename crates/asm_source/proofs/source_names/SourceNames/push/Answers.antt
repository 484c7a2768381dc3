use Rattle.bpf_model.proofs.Prelude.{rules}
use Rattle.asm_source.proofs.IndexLaws.{index_grown}
use Rattle.asm_source.proofs.source_names.SourceNames.push.Goals as goal

pub invariant_of-self-2 : goal.invariant_of-self-2
invariant_of-self-2 c =
    rw (c.in_ok-push.ensures.items, c.reserve.ensures.items)
    (index_grown c.self.inside.list.items c.args.named c.name.result c.self.inside.index c.insert.new.self c.len.result
    (rw c.self.view_is c.requires) c.name.ensures (search rules) c.self.invariant c.in_ok-insert.ensures.updates)
