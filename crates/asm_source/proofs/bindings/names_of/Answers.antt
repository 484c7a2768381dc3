use Rattle.bpf_model.proofs.Prelude.{arith, ap, length, err_from_is_err_and}
use Rattle.asm_source.specs.Names.{names_in}
use Rattle.asm_source.proofs.NameLaws.{line_named, names_end, name_fault}
use Rattle.asm_source.proofs.bindings.names_of.Goals as goal

pub returns-in_err-add_line-clause-fault : goal.returns-in_err-add_line-clause-fault
returns-in_err-add_line-clause-fault c =
    let p = err_from_is_err_and c.from_residual.result c.from_residual.ensures.1 in
    rw (p.1, p.2) (name_fault c.loop-line.names c.loop-line.number c.loop-line.slot c.in-Some.line.now c.next.new.self
    c.loop-line.lines (names_in c.args.source.now) c.in_err-add_line.field-0.0 c.in-Some.ensures.some c.loop-line.invariant.names
    c.in_err-add_line.ensures.fault)

pub loop-line-preserved : goal.loop-line-preserved
loop-line-preserved c = record {
  names = line_named c.loop-line.names c.add_line.new.names c.loop-line.number c.loop-line.slot
      c.slots_after-slot.result c.in-Some.line.now c.next.new.self c.loop-line.lines (names_in c.args.source.now)
      c.in-Some.ensures.some c.slots_after-slot.ensures.slots c.loop-line.invariant.names c.in_ok-add_line.ensures.added;
  lines = omega (arith, ap length c.in-Some.ensures.some);
  slots = omega arith;
}

pub returns-clause-found : goal.returns-clause-found
returns-clause-found c =
    names_end c.loop-line.names c.loop-line.number c.loop-line.slot c.loop-line.lines (names_in c.args.source.now)
    c.in_default.ensures.none c.loop-line.invariant.names
