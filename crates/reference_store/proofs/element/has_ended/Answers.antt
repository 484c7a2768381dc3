use Rattle.bpf_model.proofs.Prelude.{ap, subst, sym, ◌∙◌, same-since, AllEnded}
use Rattle.reference_store.specs.State.{life_of, sections_of}
use Rattle.reference_store.proofs.element.has_ended.Goals as goal

pub returns-in-Unlinked : goal.returns-in-Unlinked
returns-in-Unlinked c =
    let opened = sections_of c.args.opened.now in
    let since = sections_of c.in-Unlinked.since.items in (
      λ t. (since, ap life_of c.in-Unlinked.is, subst (λ l. AllEnded (sections_of l) opened) c.as_slice.ensures.value (c.are_apart.ensures.0 t)),
      λ m. c.are_apart.ensures.1 (subst (λ l. AllEnded (sections_of l) opened) (sym c.as_slice.ensures.value)
          (subst (λ l. AllEnded l opened) (same-since m.0 since (sym m.1 ∙ ap life_of c.in-Unlinked.is)) m.2)),
    )
