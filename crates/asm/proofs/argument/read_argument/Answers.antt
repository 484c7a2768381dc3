use Rattle.bpf_model.proofs.Prelude.{ap, get_or, arith}
use Rattle.disasm.specs.declared.statement.Sign.TheVariants.{Plus, Minus}
use Rattle.asm.proofs.ArgumentLaws.{register_only, memory_only, plus_only, minus_only, register_found, memory_found, signed_found, number_found}
use Rattle.asm.proofs.argument.read_argument.Goals as goal

pub returns-in-114-clause-found : goal.returns-in-114-clause-found
returns-in-114-clause-found c = register_found c.args.text.now c.read_register.result c.read_register.ensures.found

pub returns-in-114-clause-only : goal.returns-in-114-clause-only
returns-in-114-clause-only c = register_only c.args.text.now c.read_register.result
    (let p = ap (λ t. get_or t 0 0) c.as_bytes.ensures.value in omega arith) c.read_register.ensures.only

pub returns-in-91-clause-found : goal.returns-in-91-clause-found
returns-in-91-clause-found c = memory_found c.args.text.now c.read_memory.result c.read_memory.ensures.found

pub returns-in-91-clause-only : goal.returns-in-91-clause-only
returns-in-91-clause-only c = memory_only c.args.text.now c.read_memory.result
    (let p = ap (λ t. get_or t 0 0) c.as_bytes.ensures.value in omega arith) c.read_memory.ensures.only

pub returns-in-43-clause-found : goal.returns-in-43-clause-found
returns-in-43-clause-found c = signed_found c.args.text.now Plus c.read_signed.result c.read_signed.ensures.found

pub returns-in-43-clause-only : goal.returns-in-43-clause-only
returns-in-43-clause-only c = plus_only c.args.text.now c.read_signed.result
    (let p = ap (λ t. get_or t 0 0) c.as_bytes.ensures.value in omega arith) c.read_signed.ensures.only

pub returns-in-45-clause-found : goal.returns-in-45-clause-found
returns-in-45-clause-found c = signed_found c.args.text.now Minus c.read_signed-in-45.result c.read_signed-in-45.ensures.found

pub returns-in-45-clause-only : goal.returns-in-45-clause-only
returns-in-45-clause-only c = minus_only c.args.text.now c.read_signed-in-45.result
    (let p = ap (λ t. get_or t 0 0) c.as_bytes.ensures.value in omega arith) c.read_signed-in-45.ensures.only

pub returns-in_default-clause-found : goal.returns-in_default-clause-found
returns-in_default-clause-found c = number_found c.args.text.now c.read_number.result c.read_number.ensures.found
