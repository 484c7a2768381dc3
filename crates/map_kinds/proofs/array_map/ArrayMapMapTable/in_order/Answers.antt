use Rattle.bpf_model.proofs.Prelude.{None, subst, IfOk, Ok, Err, index_key, MapView, index_below}
use Rattle.element_store.proofs.Prelude.{key_at}
use Rattle.hash_index.specs.Order.{AreInOrder}
use Rattle.model_laws.proofs.Indices.{index-got}
use Rattle.map_kinds.specs.Arrays.{array_view}
use Rattle.map_kinds.proofs.Arrays.{key-is}
use Rattle.map_kinds.proofs.InOrder.{in-order-as}
use Rattle.map_kinds.proofs.array_map.ArrayMapMapTable.in_order.Goals as goal

pub returns : goal.returns
returns c =
    let s = c.self.inside in
    let view : MapView = array_view s.shape s.values.items in
    elim c.indices_in_order.result as (λ r. IfOk r (λ v. AreInOrder (index_below s.shape.entries) index_key None v.items) →
    IfOk r (λ v. AreInOrder c.args.self.now.index (key_at c.args.self.now.slots) None v.items)) [
      | Ok v ↦ λ h. subst (λ (w : MapView). AreInOrder w.index (key_at w.slots) None v.items) c.self.view_is
          (in-order-as (index_below s.shape.entries) index_key (key_at view.slots)
          (λ i g. key-is s.shape s.values.items i (index-got s.shape.entries (index_key i) i g).0) v.items None h)
      | Err u ↦ λ h. tt
    ] c.indices_in_order.ensures
