use Rattle.bpf_model.proofs.Prelude.{◌≡◌, None, refl, sym, ap, ◌∙◌, subst, length, key_refusal, shape_of}
use Rattle.std.specs.Option.{option_map}
use Rattle.reference_model.specs.State.{machine_of}
use Rattle.reference_store.specs.State.{store_of, elements_of}
use Rattle.reference_store.specs.Births.{Finds}
use Rattle.reference_model.proofs.Events.{read-does, bytes_of}
use Rattle.reference_model.proofs.machine.Machine.read.Goals as goal

pub returns-clause-machine : goal.returns-clause-machine
returns-clause-machine c =
    let self = c.args.self.now in
    let s = store_of self.store in
    let free : key_refusal (shape_of s c.args.map) (length c.args.key.items) ≡ None =
    ap (λ k. key_refusal (shape_of s k) (length c.args.key.items)) (sym c.index.ensures) ∙
    ap (key_refusal (shape_of s c.index.result)) (sym c.len.ensures.value) ∙ sym (c.key_refusal.ensures.key refl)
    ∙ c.in_default.is in
    let found = c.in_ok-found.found in
    let by_key = subst (λ k. Finds (elements_of self.store.elements.items) c.index-2.result k
    (option_map bytes_of found)) c.as_slice.ensures.value c.in_ok-found.ensures in
    let finds = subst (λ k. Finds (elements_of self.store.elements.items) k c.args.key.items (option_map bytes_of found)) c.index-2.ensures by_key in
    read-does (machine_of self) c.args.map c.args.key found free finds
