use Rattle.asm_source.specs.Maps.{maps_in}
use Rattle.asm_source.proofs.MapLaws.{name_added, names_end}
use Rattle.asm_source.proofs.maps.maps_of.Goals as goal

pub loop-line-preserved : goal.loop-line-preserved
loop-line-preserved c =
    name_added c.loop-line.names.items c.add_name.new.names.items c.in-Some.line.now c.next.new.self c.loop-line.lines
    (maps_in c.args.head.now) c.in-Some.ensures.some c.in_ok-add_name.ensures c.loop-line.invariant

pub returns : goal.returns
returns c = names_end c.loop-line.names.items c.loop-line.lines (maps_in c.args.head.now) c.in_default.ensures.none c.loop-line.invariant
