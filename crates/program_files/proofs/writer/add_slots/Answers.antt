use Rattle.bpf_model.proofs.Prelude.{rules, slots_of}
use Rattle.std.proofs.Common.{flat_map}
use Rattle.program_files.proofs.SlotLines.{has_room, next_line, from_digits, all_written}
use Rattle.program_files.proofs.writer.add_slots.Goals as goal

pub loop-rest-init : goal.loop-rest-init
loop-rest-init c =
    from_digits c.args.file.now.items c.as_bytes-rest.result.now c.in_ok-code.code.items c.args.program.now c.in_ok-code.ensures.text (search rules)

pub split_at-requires : goal.split_at-requires
split_at-requires c =
    has_room c.args.file.now.items c.loop-rest.file.items c.loop-rest.rest.now (flat_map slots_of c.args.program.now) c.loop-rest.invariant (search rules)

pub loop-rest-preserved : goal.loop-rest-preserved
loop-rest-preserved c =
    next_line c.args.file.now.items c.loop-rest.file.items c.loop-rest.rest.now c.split_at.result.0.now c.split_at.result.1.now c.push.new.self.items
    (flat_map slots_of c.args.program.now) c.loop-rest.invariant (search rules) c.split_at.ensures.front c.split_at.ensures.back (search rules)

pub returns : goal.returns
returns c =
    all_written c.args.file.now.items c.loop-rest.file.items c.loop-rest.rest.now (flat_map slots_of c.args.program.now) c.loop-rest.invariant (search rules)
