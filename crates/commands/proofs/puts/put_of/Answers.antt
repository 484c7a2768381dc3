use Rattle.bpf_model.proofs.Prelude.{rules, arith, ap, length}
use Rattle.commands.proofs.PutFirst.{short_enough}
use Rattle.commands.proofs.puts.put_of.Goals as goal

-- the element's key has the length of the map's, and its value has
pub array_of-requires : goal.array_of-requires
array_of-requires c =
    let short = short_enough c.args.registry.now.maps c.in-Some.map c.in-Some-shape.shape c.have_shapes.ensures (search rules) in
    omega (arith, short.0, c.if-len-shape.false, c.len.ensures, ap length c.deref.ensures.value)

pub array_of-requires-2 : goal.array_of-requires-2
array_of-requires-2 c =
    let short = short_enough c.args.registry.now.maps c.in-Some.map c.in-Some-shape.shape c.have_shapes.ensures (search rules) in
    omega (arith, short.1, c.if-len-shape-2.false, c.len-2.ensures, ap length c.deref-2.ensures.value)
