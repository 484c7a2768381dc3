use Rattle.bpf_model.proofs.Prelude.{◌≡◌, ◌∙◌, ℕ, List, Some, refl, sym, ap, subst, get, index_key, MapView, index_below}
use Rattle.element_store.proofs.Prelude.{key_at, value_at}
use Rattle.std.specs.Option.{option_copied}
use Rattle.map_kinds.specs.Arrays.{array_view}
use Rattle.map_kinds.specs.Shown.{IsNext}
use Rattle.model_laws.proofs.Indices.{index-gets}
use Rattle.map_kinds.proofs.Arrays.{key-is}
use Rattle.map_kinds.proofs.array_map.ArrayMapMapTable.next_above.Goals as goal

pub element-requires : goal.element-requires
element-requires c =
    let s = c.self.inside in
    let i = c.in-Some.index in
    subst (λ (v : MapView). get v.index (key_at v.slots i) ≡ Some i) c.self.view_is
    (ap (get (index_below s.shape.entries)) (key-is s.shape s.values.items i c.in-Some.ensures.some)
    ∙ index-gets s.shape.entries i c.self.invariant.valid.entries.1 c.in-Some.ensures.some)

pub returns-in-Some-clause-some : goal.returns-in-Some-clause-some
returns-in-Some-clause-some c =
    let s = c.self.inside in
    let i = c.in-Some.index in
    let view : MapView = array_view s.shape s.values.items in
    let next : IsNext view (option_copied c.args.bound) (index_key i) (value_at view.slots i) = record {
      slot = i;
      linked = index-gets s.shape.entries i c.self.invariant.valid.entries.1 c.in-Some.ensures.some;
      value_is = refl;
      above = c.in-Some.ensures.above;
      least = c.in-Some.ensures.least;
    } in
    let shown : key_at c.args.self.now.slots i ≡ index_key i =
    subst (λ (v : MapView). key_at v.slots i ≡ index_key i) c.self.view_is (key-is s.shape s.values.items i c.in-Some.ensures.some) in
    subst (λ (x : List ℕ). IsNext c.args.self.now (option_copied c.args.bound) c.element.result.0.items x) (sym c.element.ensures.value)
    (subst (λ (k : List ℕ). IsNext c.args.self.now (option_copied c.args.bound) k (value_at c.args.self.now.slots i))
    (sym (c.element.ensures.key ∙ shown))
    (subst (λ (v : MapView). IsNext v (option_copied c.args.bound) (index_key i) (value_at v.slots i)) c.self.view_is next))
