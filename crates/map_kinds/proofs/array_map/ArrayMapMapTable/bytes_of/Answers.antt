use Rattle.bpf_model.proofs.Prelude.{◌≡◌, ◌∙◌, ℕ, ◌+◌, ◌*◌, ◌<◌, ◌≤◌, List, length, Option, Some, sym, ap, subst, get, MapView, index_below}
use Rattle.element_store.proofs.Prelude.{block}
use Rattle.model_laws.proofs.Prelude.{value_shown}
use Rattle.arrayvec.specs.ArrayVec.{ArrayVec}
use Rattle.model_laws.specs.Views.{value_read}
use Rattle.map_kinds.specs.Arrays.{array_view}
use Rattle.model_laws.proofs.Indices.{index-got}
use Rattle.map_kinds.proofs.Arrays.{room-at, value-at}
use Rattle.map_kinds.proofs.array_map.ArrayMapMapTable.bytes_of.Goals as goal

pub block-requires : goal.block-requires
block-requires c =
    let s = c.self.inside in
    let less : c.in-Some.index < s.shape.entries = (index-got s.shape.entries c.args.key.now c.in-Some.index (sym c.index_of.ensures ∙ c.in-Some.is)).0 in
    subst (λ (l : List ℕ). c.in-Some.index * s.shape.value_len + s.shape.value_len ≤ length l)
    (sym c.deref.ensures.value) (room-at s.shape s.values.items c.self.invariant c.in-Some.index less)

pub returns-in-Some-clause-bytes : goal.returns-in-Some-clause-bytes
returns-in-Some-clause-bytes c =
    let s = c.self.inside in
    let found : get (index_below s.shape.entries) c.args.key.now ≡ Some c.in-Some.index = sym c.index_of.ensures ∙ c.in-Some.is in
    let less : c.in-Some.index < s.shape.entries = (index-got s.shape.entries c.args.key.now c.in-Some.index found).0 in
    let bytes = c.block.ensures ∙ (ap (block s.shape.value_len c.in-Some.index) c.deref.ensures.value ∙
    sym (value-at s.shape s.values.items c.in-Some.index less)) in
    ap (λ (l : List ℕ). let o : Option (ArrayVec ℕ) = Some (record { items = l }) in o) bytes
    ∙ (ap (value_shown (array_view s.shape s.values.items)) (sym found)
    ∙ ap (λ (v : MapView). value_read v c.args.key.now) c.self.view_is)
