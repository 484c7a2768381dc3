use Rattle.bpf_model.proofs.Prelude.{rules, ◌+◌, err_from_is_err_and}
use Rattle.asm.proofs.LinesRead.{next_read, next_fault, last_read, last_fault, all_read, only_read, next_room}
use Rattle.asm.proofs.assembling.read_lines.Goals as goal

pub returns-in_err-add_line-clause-fault : goal.returns-in_err-add_line-clause-fault
returns-in_err-add_line-clause-fault c =
    let p = err_from_is_err_and c.from_residual.result c.from_residual.ensures.1 in
    rw (p.1, p.2) (next_fault c.args.text.now c.loop-line.rest.now c.in-Some.line.now c.in-Some.more.now
    c.loop-line.instructions.items c.loop-line.index c.in_err-add_line.field-0.0 c.loop-line.invariant.read
    c.in-Some.ensures.parts c.in-Some.ensures.first c.in_err-add_line.ensures.fault)

pub loop-line-preserved : goal.loop-line-preserved
loop-line-preserved c = record {
  read = next_read c.args.text.now c.loop-line.rest.now c.in-Some.line.now c.in-Some.more.now
      c.loop-line.instructions.items c.add_line.new.instructions.items c.loop-line.index c.loop-line.invariant.read
      c.in-Some.ensures.parts c.in-Some.ensures.first c.in_ok-add_line.ensures.added;
  room = next_room c.args.text.now c.loop-line.rest.now c.in-Some.line.now c.in-Some.more.now c.loop-line.index
      c.loop-line.invariant.room c.in-Some.ensures.parts;
  utf8 = search rules;
}

pub returns-in_err-add_line-2-clause-fault : goal.returns-in_err-add_line-2-clause-fault
returns-in_err-add_line-2-clause-fault c =
    let p = err_from_is_err_and c.from_residual-in_err-add_line-2.result c.from_residual-in_err-add_line-2.ensures.1 in
    rw (p.1, p.2) (last_fault c.args.text.now c.loop-line.rest.now c.loop-line.instructions.items c.loop-line.index
    c.in_err-add_line-2.field-0.0 c.loop-line.invariant.read c.in_default.ensures.none
    c.in_err-add_line-2.ensures.fault)

pub returns-clause-fits : goal.returns-clause-fits
returns-clause-fits c = (last_read c.args.text.now c.loop-line.rest.now c.loop-line.instructions.items
    c.add_line-2.new.instructions.items c.loop-line.index c.loop-line.invariant.read c.in_default.ensures.none
    c.in_ok-add_line-2.ensures.added).fits

pub returns-clause-found : goal.returns-clause-found
returns-clause-found c =
    all_read c.args.text.now c.add_line-2.new.instructions.items (c.loop-line.index + 1)
    (last_read c.args.text.now c.loop-line.rest.now c.loop-line.instructions.items
    c.add_line-2.new.instructions.items c.loop-line.index c.loop-line.invariant.read c.in_default.ensures.none
    c.in_ok-add_line-2.ensures.added)

pub returns-clause-only : goal.returns-clause-only
returns-clause-only c =
    only_read c.args.text.now c.add_line-2.new.instructions.items (c.loop-line.index + 1)
    (last_read c.args.text.now c.loop-line.rest.now c.loop-line.instructions.items
    c.add_line-2.new.instructions.items c.loop-line.index c.loop-line.invariant.read c.in_default.ensures.none
    c.in_ok-add_line-2.ensures.added)
