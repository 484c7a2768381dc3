use Rattle.bpf_model.proofs.Prelude.{List, ℕ, Option, Bor, [], ◌∷◌, ◌++◌, ap, sym, subst, ◌∙◌, IfErr, option_copied}
use Rattle.program_files.specs.Heads.{HeadView, IsHeadFault}
use Rattle.program_files.proofs.ContextLine.{none_is}
use Rattle.texts.specs.Assembled.{IsSplit, head_or_none}
use Rattle.texts.proofs.TextHeads.{refused}
use Rattle.texts.proofs.heads.head_of.Goals as goal

pub returns-in-Some-clause-fault : goal.returns-in-Some-clause-fault
returns-in-Some-clause-fault c bytes split =
    let body = c.args.parts.now.body.now in
    let here = subst (λ (o : Option (Bor (List ℕ))). IsSplit bytes (option_copied o) body) c.in-Some.is split in
    let fault = subst (λ (h : List ℕ). IfErr c.read_head.result (IsHeadFault h)) c.as_bytes.ensures.value c.read_head.ensures.fault in
    refused bytes c.in-Some.head.now body c.read_head.result here fault

pub returns-in_ok-without_maps-in-None-clause-text : goal.returns-in_ok-without_maps-in-None-clause-text
returns-in_ok-without_maps-in-None-clause-text c =
    ap (λ (h : HeadView). h.text) c.in_ok-without_maps-in-None.ensures ∙ none_is
    ∙ ap (λ (o : Option (Bor (List ℕ))). head_or_none (option_copied o) ++ 10 ∷ []) (sym c.in-None.is)
