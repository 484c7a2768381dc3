use Rattle.bpf_model.proofs.Prelude.{suc, ◌≡◌, ◌+◌, ◌-◌, ◌∙◌, refl, arith, ap, sym, subst, length}
use Rattle.asm_source.specs.Tokens.{lines_of}
use Rattle.asm_source.specs.Labels.{BeginsAt}
use Rattle.asm_source.proofs.PlaceLaws.{line_slots, line_here, lines_behind, slots_more, none_more, none_past}
use Rattle.asm_source.proofs.places.line_at.Goals as goal

pub returns-then-begins_here-clause-line : goal.returns-then-begins_here-clause-line
returns-then-begins_here-clause-line c =
    let rest = c.loop-line.invariant.rest ∙ c.in-Some.ensures.some in
    let here = line_here (lines_of c.args.source.now) c.next.new.self c.loop-line.number c.in-Some.line.now rest in
    let same : (c.loop-line.number + 1) - 1 ≡ c.loop-line.number = omega arith in
    let is = c.if-begins_here.ensures.here refl in (
      omega arith,
      subst (λ n. BeginsAt c.args.source.now n c.args.slot) (sym same) (record {
        line = c.in-Some.line.now;
        line_is = here;
        instruction = is.1;
        slot_is = c.loop-line.invariant.above ∙ is.0;
      }),
    )

pub loop-line-preserved : goal.loop-line-preserved
loop-line-preserved c =
    let next : c.loop-line.number + 1 ≡ suc c.loop-line.number = omega arith in
    let rest = c.loop-line.invariant.rest ∙ c.in-Some.ensures.some in
    let here = line_here (lines_of c.args.source.now) c.next.new.self c.loop-line.number c.in-Some.line.now rest in
    record {
      rest = rw next (lines_behind (lines_of c.args.source.now) c.next.new.self c.loop-line.number c.in-Some.line.now rest);
      above = rw next (slots_more c.args.source.now c.in-Some.line.now c.loop-line.number here
          ∙ ap (λ n. n + line_slots c.in-Some.line.now) c.loop-line.invariant.above ∙ sym c.slots_after-before.ensures.slots);
      none = none_more c.args.source.now c.in-Some.line.now c.loop-line.number c.args.slot here c.loop-line.invariant.none
          (λ e. c.if-begins_here.ensures.elsewhere refl (sym c.loop-line.invariant.above ∙ e));
      lines = omega (arith, ap length c.in-Some.ensures.some, c.loop-line.invariant.lines);
      slots = omega (arith, c.slots_after-before.ensures.limit, c.loop-line.invariant.slots);
    }

pub returns-clause-no_line : goal.returns-clause-no_line
returns-clause-no_line c = none_past c.args.source.now c.loop-line.number c.args.slot
    (c.loop-line.invariant.rest ∙ c.in_default.ensures.none) c.loop-line.invariant.none
