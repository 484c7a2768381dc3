use Rattle.bpf_model.proofs.Prelude.{rules, ◌≡◌, Some, sym, subst, w16, w64, to_z-of_z, SFits, environment_of}
use Rattle.reference_interpreter.specs.Plain.{plain_state_of}
use Rattle.reference_store.specs.State.{elements_of}
use Rattle.reference_model.specs.Acting.{base_element, ActsAs}
use Rattle.reference_model.proofs.Acting.{loaded-acts, extended-acts}
use Rattle.reference_model.proofs.access.access_element.Goals as goal

pub returns-in-Load-clause-acts : goal.returns-in-Load-clause-acts
returns-in-Load-clause-acts c = λ context maps.
    let es = elements_of c.args.store.now.elements.items in
    let base = subst (λ i. base_element i (plain_state_of c.args.run.now) ≡ Some (c.args.n, c.args.o)) c.in-Load.is c.requires.base in
    let g : SFits w16 c.in-Load.offset = search rules in
    let h : SFits w64 c.args.o = c.ranges.o in
    let loads = simp to_z-of_z at c.load.ensures in
    subst (λ i. ActsAs i (environment_of context maps) es c.args.run.now c.load.result es c.load.new.run) (sym c.in-Load.is)
    (loaded-acts c.in-Load.width c.in-Load.dst c.in-Load.src c.in-Load.offset (environment_of context maps) es
    c.args.run.now c.load.new.run c.load.result c.args.n c.args.o base loads)

pub returns-in-LoadSigned-clause-acts : goal.returns-in-LoadSigned-clause-acts
returns-in-LoadSigned-clause-acts c = λ context maps.
    let es = elements_of c.args.store.now.elements.items in
    let base = subst (λ i. base_element i (plain_state_of c.args.run.now) ≡ Some (c.args.n, c.args.o)) c.in-LoadSigned.is c.requires.base in
    let g : SFits w16 c.in-LoadSigned.offset = search rules in
    let h : SFits w64 c.args.o = c.ranges.o in
    let loads = simp to_z-of_z at c.load_extended.ensures in
    subst (λ i. ActsAs i (environment_of context maps) es c.args.run.now c.load_extended.result es c.load_extended.new.run) (sym c.in-LoadSigned.is)
    (extended-acts c.in-LoadSigned.width c.in-LoadSigned.dst c.in-LoadSigned.src c.in-LoadSigned.offset
    (environment_of context maps) es c.args.run.now c.load_extended.new.run c.load_extended.result c.args.n
    c.args.o base loads)
