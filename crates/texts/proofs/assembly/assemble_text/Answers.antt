use Rattle.bpf_model.proofs.Prelude.{rules, refl, ap, sym, subst, ◌∙◌, text}
use Rattle.std.specs.Option.{option_copied}
use Rattle.asm.specs.Faults.{statements_in}
use Rattle.texts.specs.Assembled.{HasProgram, IsSplit}
use Rattle.texts.proofs.TextHeads.{file_made}
use Rattle.texts.proofs.assembly.assemble_text.Goals as goal

pub returns-in-Err-BadFile-clause-fault : goal.returns-in-Err-BadFile-clause-fault
returns-in-Err-BadFile-clause-fault c =
    let parts = c.parts_of-parts.result in
    let split = subst (λ z. IsSplit z (option_copied parts.head) parts.body.now) c.in-Ok.ensures.cases.0 c.parts_of-parts.ensures in
    let program = c.in-Ok-program_of.program in
    let found : HasProgram c.args.bytes.now = record {
      head = option_copied parts.head;
      body = parts.body.now;
      split = split;
      lines = _;
      plain_is = c.in-Ok-plain_text.ensures.found;
      code = text program;
      code_of = record {
        program = program;
        is = c.in-Ok-program_of.ensures.program;
        lines_are = ap statements_in (sym c.deref.ensures.value) ∙ c.in-Ok-program_of.ensures.found;
        code_is = refl;
      };
    } in
    (search rules, found, rw c.in-Err-BadFile.field-0-is at (c.in-Err-BadFile.ensures.fault c.args.bytes.now split))

pub returns-clause-made : goal.returns-clause-made
returns-clause-made c =
    let parts = c.parts_of-parts.result in
    let program = c.in-Ok-program_of.program in
    record {
      head = option_copied parts.head;
      body = parts.body.now;
      split = subst (λ z. IsSplit z (option_copied parts.head) parts.body.now) c.in-Ok.ensures.cases.0 c.parts_of-parts.ensures;
      plain_is = c.in-Ok-plain_text.ensures.found;
      code_of = record {
        program = program;
        is = c.in-Ok-program_of.ensures.program;
        lines_are = ap statements_in (sym c.deref.ensures.value) ∙ c.in-Ok-program_of.ensures.found;
        code_is = refl;
      };
      file_of = file_made (option_copied parts.head) c.in-Ok-head_of.head program c.in-Ok-head_of.ensures.text c.says.ensures.says;
    }
