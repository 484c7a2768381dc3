use Rattle.bpf_model.proofs.Prelude.{arith, ap, length, err_from_is_err_and}
use Rattle.asm_source.specs.Tokens.{lines_of}
use Rattle.asm_source.specs.Maps.{meanings_of}
use Rattle.asm_source.specs.Plain.{lines_text}
use Rattle.asm_source.proofs.TextLaws.{line_pushed, lines_end, line_fault}
use Rattle.asm_source.proofs.plain.text_of.Goals as goal

pub returns-in_err-push_line-clause-fault : goal.returns-in_err-push_line-clause-fault
returns-in_err-push_line-clause-fault c =
    let p = err_from_is_err_and c.from_residual.result c.from_residual.ensures.1 in
    rw (p.1, p.2) (line_fault (meanings_of c.args.given.now) c.loop-line.number c.loop-line.slot c.in-Some.line.now
    c.next.new.self c.loop-line.lines c.loop-line.out.items
    (lines_text (meanings_of c.args.given.now) 0 0 (lines_of c.args.source.now)) c.in_err-push_line.field-0.0
    c.in-Some.ensures.some c.loop-line.invariant.text c.in_err-push_line.ensures.fault)

pub loop-line-preserved : goal.loop-line-preserved
loop-line-preserved c = record {
  text = line_pushed (meanings_of c.args.given.now) c.loop-line.number c.loop-line.slot c.slots_after-slot.result
      c.in-Some.line.now c.next.new.self c.loop-line.lines c.loop-line.out.items c.push_line.new.out.items
      (lines_text (meanings_of c.args.given.now) 0 0 (lines_of c.args.source.now)) c.in-Some.ensures.some
      c.slots_after-slot.ensures.slots c.loop-line.invariant.text c.in_ok-push_line.ensures.added;
  lines = omega (arith, ap length c.in-Some.ensures.some);
  slots = omega arith;
}

pub returns-clause-found : goal.returns-clause-found
returns-clause-found c =
    lines_end (meanings_of c.args.given.now) c.loop-line.number c.loop-line.slot c.loop-line.lines c.loop-line.out.items
    (lines_text (meanings_of c.args.given.now) 0 0 (lines_of c.args.source.now)) c.in_default.ensures.none
    c.loop-line.invariant.text
