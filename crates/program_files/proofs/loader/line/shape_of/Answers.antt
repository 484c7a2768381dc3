use Rattle.bpf_model.proofs.Prelude.{inl, inr, Option, Some, None, IfNone}
use Rattle.program_files.proofs.loader.line.shape_of.Goals as goal

by_none : {X P Q : Type 0} (r : Option X) → (P → Q) → IfNone r P → IfNone r Q
by_none None f p = f p
by_none (Some x) f p = tt

pub returns-in-None-clause-none : goal.returns-in-None-clause-none
returns-in-None-clause-none c =
    by_none c.hash_shape.result (λ none s words. elim words
    [ inl hash ↦ none s hash | inr array ↦ absurd (c.in-None.ensures.none s array) ]) c.hash_shape.ensures.none
