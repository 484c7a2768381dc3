use Rattle.bpf_model.proofs.Prelude.{ap, ◌∙◌, sym, inl, refl}
use Rattle.classic_program.proofs.Prelude.{parts_at, parts_left}
use Rattle.classic_program.proofs.Wrong.{in-lines}
use Rattle.classic_program.proofs.Lines.{listing-lines}
use Rattle.classic_program.proofs.reading.read_listing.Goals as goal

pub returns-clause-only : goal.returns-clause-only
returns-clause-only c = λ filters h.
    c.read_lines.ensures.only filters
    (listing-lines c.args.text.now c.as_bytes.result.now c.cut.result.0.now
    (parts_left 10 c.cut.result.1) c.in-Some.count filters c.as_bytes.ensures.value c.cut.ensures c.in-Some.ensures h)

pub returns-in_default-clause-fault : goal.returns-in_default-clause-fault
returns-in_default-clause-fault c =
    record {
      head = c.cut.result.0.now;
      behind = parts_left 10 c.cut.result.1;
      parts = sym (ap (parts_at 10) c.as_bytes.ensures.value) ∙ c.cut.ensures;
      why = inl (sym c.in_default.ensures, refl);
    }

pub returns-clause-fault : goal.returns-clause-fault
returns-clause-fault c =
    in-lines c.args.text.now c.cut.result.0.now (parts_left 10 c.cut.result.1) c.in-Some.count c.read_lines.result
    (sym (ap (parts_at 10) c.as_bytes.ensures.value) ∙ c.cut.ensures) (sym c.in-Some.ensures) c.read_lines.ensures.fault
