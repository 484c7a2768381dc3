use Rattle.asm.proofs.StatementLaws.{one_only, two_only, three_only, one_found, two_found, three_found}
use Rattle.asm.proofs.statement.read_arguments.Goals as goal

pub returns-in_default-clause-found : goal.returns-in_default-clause-found
returns-in_default-clause-found c = one_found c.args.text.now c.read_one.result c.read_one.ensures.found

pub returns-in_default-clause-only : goal.returns-in_default-clause-only
returns-in_default-clause-only c = one_only c.args.text.now c.read_one.result c.in_default.ensures.only c.read_one.ensures.only

pub returns-in-None-clause-found : goal.returns-in-None-clause-found
returns-in-None-clause-found c = two_found c.args.text.now c.in-Some.first.now c.in-Some.rest.now c.read_two.result
    c.in-Some.ensures.parts c.read_two.ensures.found

pub returns-in-None-clause-only : goal.returns-in-None-clause-only
returns-in-None-clause-only c = two_only c.args.text.now c.in-Some.first.now c.in-Some.rest.now c.read_two.result
    c.in-Some.ensures.parts c.in-Some.ensures.only c.in-None.ensures.only c.read_two.ensures.only

pub returns-in-Some-cut_comma-clause-found : goal.returns-in-Some-cut_comma-clause-found
returns-in-Some-cut_comma-clause-found c = three_found c.args.text.now c.in-Some.first.now c.in-Some.rest.now
    c.in-Some-cut_comma.second.now c.in-Some-cut_comma.third.now c.read_three.result c.in-Some.ensures.parts
    c.in-Some-cut_comma.ensures.parts c.read_three.ensures.found

pub returns-in-Some-cut_comma-clause-only : goal.returns-in-Some-cut_comma-clause-only
returns-in-Some-cut_comma-clause-only c = three_only c.args.text.now c.in-Some.first.now c.in-Some.rest.now
    c.in-Some-cut_comma.second.now c.in-Some-cut_comma.third.now c.read_three.result c.in-Some.ensures.parts
    c.in-Some.ensures.only c.in-Some-cut_comma.ensures.parts c.in-Some-cut_comma.ensures.only
    c.read_three.ensures.only
