use Rattle.bpf_model.proofs.Prelude.{rules}
use Rattle.program_files.proofs.Texts.{wrong_line, read_line, all_read, number_behind, empty_is}
use Rattle.program_files.proofs.loader.program_file.read_lines.Goals as goal

pub returns-in-Err-Wrong-clause-wrong : goal.returns-in-Err-Wrong-clause-wrong
returns-in-Err-Wrong-clause-wrong c =
    wrong_line c.args.text.now c.loop-rest.rest.now c.first_line.result.0.now c.first_line.result.1.now
    c.loop-rest.loading c.loop-rest.number c.loop-rest.invariant
    (c.first_line.ensures.lines, c.first_line.ensures.shorter) c.begins.ensures
    (λ lines h. c.in-Err-Wrong.ensures.wrong lines h (search rules))

pub loop-rest-preserved : goal.loop-rest-preserved
loop-rest-preserved c =
    read_line c.args.text.now c.loop-rest.rest.now c.first_line.result.0.now c.first_line.result.1.now
    c.loop-rest.loading c.line.new.self c.loop-rest.number c.loop-rest.invariant
    (c.first_line.ensures.lines, c.first_line.ensures.shorter) (λ lines h. c.in-Ok.ensures.taken lines h)

pub returns-clause-read : goal.returns-clause-read
returns-clause-read c =
    all_read c.args.text.now c.loop-rest.rest.now c.loop-rest.loading c.loop-rest.number c.loop-rest.invariant
    (empty_is c.loop-rest.rest.now c.is_empty.result c.is_empty.ensures (search rules))

pub returns-clause-next : goal.returns-clause-next
returns-clause-next c =
    number_behind c.args.text.now c.loop-rest.rest.now c.loop-rest.loading c.loop-rest.number c.loop-rest.invariant
    (empty_is c.loop-rest.rest.now c.is_empty.result c.is_empty.ensures (search rules))
