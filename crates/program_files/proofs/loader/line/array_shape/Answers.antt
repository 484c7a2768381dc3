use Rattle.program_files.proofs.Numbers.{if_none, no_array_entries}
use Rattle.program_files.proofs.loader.line.array_shape.Goals as goal

pub returns-in_err-entries-clause-none : goal.returns-in_err-entries-clause-none
returns-in_err-entries-clause-none c =
    let value = c.in_ok-value_len.ensures.some in
    if_none c.from_residual-in_err-entries.result
    (λ s h. no_array_entries _ _ _ c.in_ok-word.field-0.now value.0 s c.in_ok-word.ensures.some value.1 c.in_err-entries.ensures.none h)
