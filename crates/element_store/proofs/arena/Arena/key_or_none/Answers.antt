use Rattle.bpf_model.proofs.Prelude.{◌<◌, ◌≤◌, sym, length, rules}
use Rattle.element_store.proofs.Slots.{inside_to, past_to}
use Rattle.element_store.proofs.arena.Arena.key_or_none.Goals as goal

pub key-requires : goal.key-requires
key-requires c =
    let s = c.self.inside in
    let w : c.args.slot < length s.cells.items = search rules in
    inside_to s.key_len s.value_len s.limit s.cells.items s.first s.keys.items s.values.items c.args.slot c.args.self.now c.self.view_is w

pub returns-else-slot-len : goal.returns-else-slot-len
returns-else-slot-len c =
    let s = c.self.inside in
    let w : length s.cells.items ≤ c.args.slot = search rules in
    sym (past_to s.key_len s.value_len s.limit s.cells.items s.first s.keys.items s.values.items c.args.slot
    c.args.self.now c.self.view_is w)
