use Rattle.bpf_model.proofs.Prelude.{ℕ, map, rules, ◌∙◌, length-map}
use Rattle.arrayvec.specs.ArrayVec.{ArrayVec}
use Rattle.program_files.proofs.ContextLists.{no_bytes, no_line}
use Rattle.program_files.proofs.contexts.contexts_in_lines.Goals as goal

pub returns-in_default-clause-fault : goal.returns-in_default-clause-fault
returns-in_default-clause-fault c = λ known contexts are.
    no_line c.args.len c.args.bytes.now c.loop-rest.rest.now c.first_line.result.0.now c.first_line.result.1.now
    (map (λ (x : ArrayVec ℕ). x.items) c.loop-rest.contexts.items) contexts c.loop-rest.invariant c.first_line.ensures.lines
    c.in_default.ensures.none are

pub returns-then-is_empty-clause-which : goal.returns-then-is_empty-clause-which
returns-then-is_empty-clause-which c =
    let items = λ (x : ArrayVec ℕ). x.items in
    no_bytes c.args.len c.args.bytes.now c.loop-rest.rest.now (map items c.loop-rest.contexts.items) c.loop-rest.invariant (search rules)
    (length-map c.loop-rest.contexts.items items ∙ search rules)
