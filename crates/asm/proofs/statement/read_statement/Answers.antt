use Rattle.asm.proofs.StatementLaws.{bare_only, both_only, both_found}
use Rattle.asm.proofs.statement.read_statement.Goals as goal

pub returns-in-None-clause-only : goal.returns-in-None-clause-only
returns-in-None-clause-only c w = bare_only c.args.line.now c.read_bare.result c.in-None.ensures.none c.read_bare.ensures.only w.mnemonic w.arguments

pub returns-in-Some-clause-found : goal.returns-in-Some-clause-found
returns-in-Some-clause-found c = both_found c.args.line.now c.in-Some.name.now c.in-Some.text.now c.read_both.result
    c.in-Some.ensures.parts c.read_both.ensures.found

pub returns-in-Some-clause-only : goal.returns-in-Some-clause-only
returns-in-Some-clause-only c w = both_only c.args.line.now c.in-Some.name.now c.in-Some.text.now c.read_both.result
    c.in-Some.ensures.parts c.in-Some.ensures.only c.read_both.ensures.only w.mnemonic w.arguments
