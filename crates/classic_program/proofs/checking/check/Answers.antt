use Rattle.bpf_model.proofs.Prelude.{◌≤◌, length, arith, err_from_is_err_and}
use Rattle.classic_program.proofs.Checks.{decode-fault, decode-only, none-flawed, leads-inside, none-unstored, well-formed}
use Rattle.classic_program.proofs.checking.check.Goals as goal

pub returns-in_err-program-clause-only : goal.returns-in_err-program-clause-only
returns-in_err-program-clause-only c = λ program are wf.
    let p = err_from_is_err_and c.from_residual.result c.from_residual.ensures.1 in
    rw (p.1, p.2) (decode-only c.args.filter.now program c.in_err-program.field-0.0 are c.in_err-program.ensures.fault)

pub returns-in_err-program-clause-fault : goal.returns-in_err-program-clause-fault
returns-in_err-program-clause-fault c =
    let p = err_from_is_err_and c.from_residual.result c.from_residual.ensures.1 in
    rw (p.1, p.2) (decode-fault c.args.kind c.args.filter.now c.in_err-program.field-0.0 c.in_err-program.ensures.fault)

pub returns-in-Some-clause-only : goal.returns-in-Some-clause-only
returns-in-Some-clause-only c = λ program are wf.
    none-flawed c.args.kind c.args.filter.now c.in_ok-program.program.items program c.deref.result.now c.in-Some.fault c.in_ok-program.ensures.found
    c.in_ok-program.ensures.only are wf
    c.deref.ensures.value c.in-Some.ensures.some

pub check_memory-requires-clause-inside : goal.check_memory-requires-clause-inside
check_memory-requires-clause-inside c =
    leads-inside c.args.kind c.deref.result.now c.deref-2.result.now c.in_ok-program.program.items c.deref.ensures.value c.deref-2.ensures.value
    c.in_default.ensures.none

pub returns-in_err-check_memory-clause-only : goal.returns-in_err-check_memory-clause-only
returns-in_err-check_memory-clause-only c = λ program are wf.
    let p = err_from_is_err_and c.from_residual-in_err-check_memory.result c.from_residual-in_err-check_memory.ensures.1 in
    rw (p.1, p.2) (none-unstored c.args.kind c.args.filter.now c.in_ok-program.program.items program c.deref-2.result.now c.in_err-check_memory.field-0.0
    c.in_ok-program.ensures.found
    c.in_ok-program.ensures.only are wf c.deref-2.ensures.value c.in_err-check_memory.ensures.fault)

pub from_checked-requires : goal.from_checked-requires
from_checked-requires c =
    let e = c.is_empty.ensures in
    let f = c.if-is_empty.false in
    let some : 1 ≤ length c.args.filter.now = grind arith in
    well-formed c.args.kind c.args.filter.now c.in_ok-program.program.items c.deref.result.now c.deref-2.result.now c.in_ok-program.ensures.found
    c.deref.ensures.value
    c.deref-2.ensures.value some c.if-filter-gt-MOST_INSTRUCTIONS.false c.in_default.ensures.none c.in_ok-check_memory.ensures.stored
