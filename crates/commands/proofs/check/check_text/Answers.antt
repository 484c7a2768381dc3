use Rattle.bpf_model.proofs.Prelude.{◌∙◌, refl, subst, inl, inr, IfSome_then, text}
use Rattle.program_files.specs.Heads.{file_text}
use Rattle.texts.specs.Assembled.{IsAssembled, IsTextFault}
use Rattle.commands.specs.Sources.{IsRead}
use Rattle.commands.proofs.check.check_text.Goals as goal

pub returns-clause-refused : goal.returns-clause-refused
returns-clause-refused g c =
    let why = c.in-Err-assemble_text.why in
    let read = c.in-Ok-source_of.source.read.items in
    λ is. IfSome_then (g.R.Read.remaining c.args.input.now) c.in-Ok.ensures
    (λ bytes same. inl (
      (
        read,
        subst (λ z. IsRead z read) (c.deref.ensures.value ∙ same) c.in-Ok-source_of.ensures,
        (why, c.report_text_fault.ensures.refused is, subst (λ z. IsTextFault z why) c.deref-2.ensures.value c.in-Err-assemble_text.ensures.fault),
      ),
      refl,
    ))

pub returns-in-Ok-assemble_text-clause-accepted : goal.returns-in-Ok-assemble_text-clause-accepted
returns-in-Ok-assemble_text-clause-accepted g c =
    let made = c.in-Ok-assemble_text.made in
    let read = c.in-Ok-source_of.source.read.items in
    λ is. IfSome_then (g.R.Read.remaining c.args.input.now) c.in-Ok.ensures
    (λ bytes same. (
      read,
      subst (λ z. IsRead z read) (c.deref.ensures.value ∙ same) c.in-Ok-source_of.ensures,
      (
        made.lines.items,
        text made.program,
        file_text made.head.text made.program,
        subst (λ z. IsAssembled z made.lines.items (text made.program) (file_text made.head.text made.program))
            c.deref-2.ensures.value c.in-Ok-assemble_text.ensures.made,
        c.check_made.ensures.accepted is,
      ),
    ))

pub returns-in-Ok-assemble_text-clause-refused : goal.returns-in-Ok-assemble_text-clause-refused
returns-in-Ok-assemble_text-clause-refused g c =
    let made = c.in-Ok-assemble_text.made in
    let read = c.in-Ok-source_of.source.read.items in
    λ is. IfSome_then (g.R.Read.remaining c.args.input.now) c.in-Ok.ensures
    (λ bytes same. inr (
      read,
      subst (λ z. IsRead z read) (c.deref.ensures.value ∙ same) c.in-Ok-source_of.ensures,
      (
        made.lines.items,
        text made.program,
        file_text made.head.text made.program,
        subst (λ z. IsAssembled z made.lines.items (text made.program) (file_text made.head.text made.program))
            c.deref-2.ensures.value c.in-Ok-assemble_text.ensures.made,
        c.check_made.ensures.refused is,
      ),
    ))
