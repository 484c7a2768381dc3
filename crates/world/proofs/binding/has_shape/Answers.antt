use Rattle.bpf_model.proofs.Prelude.{◌∙◌, Some, sym, ap, none-some, same_Some, slice_get-map}
use Rattle.bpf_model.specs.View.{shape_of_view as shape_of}
use Rattle.world.proofs.Same.{shapes-decides}
use Rattle.world.proofs.binding.has_shape.Goals as goal

pub returns-in-Some : goal.returns-in-Some
returns-in-Some c =
    let here = slice_get-map shape_of c.args.registry.now.maps c.args.number in
    let found = here ∙ sym c.in-Some.ensures in
    let same = shapes-decides c.in-Some.shape c.args.asked in
    (λ t. found ∙ ap Some (same.0 (sym c.eq.ensures ∙ t)), λ e. c.eq.ensures ∙ same.1 (same_Some c.in-Some.shape c.args.asked (sym found ∙ e)))

pub returns-in-None : goal.returns-in-None
returns-in-None c =
    let here = slice_get-map shape_of c.args.registry.now.maps c.args.number in
    (λ e. absurd (cc), λ e. absurd (none-some c.args.asked (c.in-None.ensures ∙ (sym here ∙ e))))
