use Rattle.bpf_model.proofs.Prelude.{Some, refl, sym, ap, ◌∙◌, subst, w32, to_z-of_z, SFits, Store}
use Rattle.model_laws.proofs.Prelude.{Value, HelperStep}
use Rattle.reference_store.specs.State.{store_of, sections_of}
use Rattle.reference_model.specs.RunState.{run_with, loaded_of}
use Rattle.reference_store.specs.Telling.{TellsResult}
use Rattle.reference_store.proofs.Telling.{tells-map}
use Rattle.reference_model.proofs.call.helper_value.Goals as goal

pub returns-in-Some-Lookup-clause-tells : goal.returns-in-Some-Lookup-clause-tells
returns-in-Some-Lookup-clause-tells c =
    let s = store_of c.args.store.now in
    let opened = sections_of c.args.opened.now in
    let run = run_with (loaded_of c.args.program.now) c.args.run.now in
    let g : SFits w32 c.args.imm = c.ranges.imm in
    let e = simp to_z-of_z at c.from_number.ensures in
    subst (λ f. TellsResult (λ ret. HelperStep f s opened run ret s)
    ((ret : Value) (t : Store) → HelperStep f s opened run ret t → ⊥) c.lookup.result)
    (ap Some (sym c.in-Some-Lookup.field-0-is) ∙ sym c.in-Some-Lookup.is ∙ e)
    (tells-map _ _ _ _ c.lookup.result (λ a h. (h, refl)) (λ none ret t h. none ret h.0) c.lookup.ensures)
