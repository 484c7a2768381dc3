use Rattle.bpf_model.proofs.Prelude.{◌≡◌, ◌∙◌, List, Result, Ok, Err, ◌⊎◌, inl, inr, IfOk, IfErr}
use Rattle.bpf_model.specs.declared.insn.Insn.{Insn}
use Rattle.insn_codec.specs.declared.fault.DecodeFault.{DecodeFault}
use Rattle.insn_codec.specs.declared.fault.DecodeFault.TheVariants.{Memory}
use Rattle.insn_codec.proofs.law.decode_undoes_encode.Goals as goal

same : (r : Result (List Insn) DecodeFault) (p : List Insn) → (r ≡ Ok p) ⊎ (r ≡ Err Memory) → IfOk r (λ q. q ≡ p)
same (Ok q) p (inl e) = cc
same (Ok q) p (inr e) = absurd cc
same (Err f) p h = tt

only_memory : (r : Result (List Insn) DecodeFault) (p : List Insn) → (r ≡ Ok p) ⊎ (r ≡ Err Memory) → IfErr r (λ f. f ≡ Memory)
only_memory (Ok q) p h = tt
only_memory (Err f) p (inl e) = absurd cc
only_memory (Err f) p (inr e) = cc

pub returns-clause-same : goal.returns-clause-same
returns-clause-same c = same c.decode.result c.args.program.now
    (c.decode.ensures.only c.args.program.now c.encode.ensures.program
    (c.deref.ensures.value ∙ c.in_ok-bytes.ensures.text))

pub returns-clause-fault : goal.returns-clause-fault
returns-clause-fault c = only_memory c.decode.result c.args.program.now
    (c.decode.ensures.only c.args.program.now c.encode.ensures.program
    (c.deref.ensures.value ∙ c.in_ok-bytes.ensures.text))
