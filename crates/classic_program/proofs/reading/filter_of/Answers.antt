use Rattle.bpf_model.proofs.Prelude.{sym, ◌∙◌}
use Rattle.classic_program.proofs.Splits.{five-words}
use Rattle.classic_program.proofs.reading.filter_of.Goals as goal

pub returns-then-is_some : goal.returns-then-is_some
returns-then-is_some c =
    sym (five-words c.args.line.now c.cut.result.0.now c.cut-2.result.0.now c.cut-3.result.0.now c.cut-4.result.0.now c.cut.result.1 c.cut-2.result.1
    c.cut-3.result.1 c.cut-4.result.1
    c.in_ok-rest.field-0 c.in_ok-rest-2.field-0 c.in_ok-rest-3.field-0 c.cut.ensures c.in_ok-rest.was c.cut-2.ensures c.in_ok-rest-2.was c.cut-3.ensures
    c.in_ok-rest-3.was c.cut-4.ensures
    (sym c.is_some.ensures ∙ c.if-is_some.true))
