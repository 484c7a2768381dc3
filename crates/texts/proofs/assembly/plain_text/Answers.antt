use Rattle.bpf_model.proofs.Prelude.{◌≡◌, ◌∙◌, ap, subst, List, ℕ, Result, Ok, IfOk, IfErr}
use Rattle.std.specs.Option.{option_copied}
use Rattle.asm_source.specs.Faulty.{IsFaultOf}
use Rattle.asm_source.specs.Maps.{index_in, maps_in, texts}
use Rattle.asm_source.specs.Plain.{plain}
use Rattle.asm_source.specs.declared.fault.SourceFault.{SourceFault}
use Rattle.texts.specs.Assembled.{head_or_none}
use Rattle.texts.proofs.assembly.plain_text.Goals as goal

-- the maps that are given are those of the head
below : (given : List (List ℕ)) (head source body : List ℕ) → given ≡ maps_in head → source ≡ body →
    plain (index_in given) source ≡ plain (index_in (maps_in head)) body
below given head source body e f = ap (λ (ns : List (List ℕ)). plain (index_in ns) source) e ∙ ap (plain (index_in (maps_in head))) f

pub returns-clause-found : goal.returns-clause-found
returns-clause-found c =
    let given = ap texts c.deref.ensures.value ∙ c.in_ok-maps.ensures ∙ ap maps_in (c.as_bytes.ensures.value ∙ c.lines_of.ensures) in
    subst (λ (t : Result (List ℕ) SourceFault). IfOk c.plain_of.result (λ lines. t ≡ Ok lines.items))
    (below (texts c.deref.result.now) (head_or_none (option_copied c.args.parts.now.head)) c.as_bytes-2.result.now
    c.args.parts.now.body.now given c.as_bytes-2.ensures.value)
    c.plain_of.ensures.found

pub returns-clause-fault : goal.returns-clause-fault
returns-clause-fault c =
    let given = ap texts c.deref.ensures.value ∙ c.in_ok-maps.ensures ∙ ap maps_in (c.as_bytes.ensures.value ∙ c.lines_of.ensures) in
    subst (λ (t : Result (List ℕ) SourceFault). IfErr c.plain_of.result (IsFaultOf t))
    (below (texts c.deref.result.now) (head_or_none (option_copied c.args.parts.now.head)) c.as_bytes-2.result.now
    c.args.parts.now.body.now given c.as_bytes-2.ensures.value)
    c.plain_of.ensures.fault
