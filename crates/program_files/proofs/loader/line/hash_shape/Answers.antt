use Rattle.program_files.proofs.Numbers.{if_none, no_value, no_entries, no_spare, no_reuse}
use Rattle.program_files.proofs.loader.line.hash_shape.Goals as goal

pub returns-in_err-value_len-clause-none : goal.returns-in_err-value_len-clause-none
returns-in_err-value_len-clause-none c =
    let key = c.in_ok-key_len.ensures.some in
    if_none c.from_residual-in_err-value_len.result (λ s h. no_value _ _ key.0 s key.1 c.in_err-value_len.ensures.none h)

pub returns-in_err-entries-clause-none : goal.returns-in_err-entries-clause-none
returns-in_err-entries-clause-none c =
    let key = c.in_ok-key_len.ensures.some in
    let value = c.in_ok-value_len.ensures.some in
    if_none c.from_residual-in_err-entries.result (λ s h. no_entries _ _ _ key.0 value.0 s key.1 value.1 c.in_err-entries.ensures.none h)

pub returns-in_err-spare-clause-none : goal.returns-in_err-spare-clause-none
returns-in_err-spare-clause-none c =
    let key = c.in_ok-key_len.ensures.some in
    let value = c.in_ok-value_len.ensures.some in
    let entries = c.in_ok-entries.ensures.some in
    if_none c.from_residual-in_err-spare.result (λ s h. no_spare _ _ _ _ key.0 value.0 entries.0 s key.1 value.1 entries.1 c.in_err-spare.ensures.none h)

pub returns-in_err-reuse_limit-clause-none : goal.returns-in_err-reuse_limit-clause-none
returns-in_err-reuse_limit-clause-none c =
    let key = c.in_ok-key_len.ensures.some in
    let value = c.in_ok-value_len.ensures.some in
    let entries = c.in_ok-entries.ensures.some in
    let spare = c.in_ok-spare.ensures.some in
    if_none c.from_residual-in_err-reuse_limit.result (λ s h.
    no_reuse _ _ _ _ _ key.0 value.0 entries.0 spare.0 s key.1 value.1 entries.1 spare.1
    c.in_err-reuse_limit.ensures.none h)
