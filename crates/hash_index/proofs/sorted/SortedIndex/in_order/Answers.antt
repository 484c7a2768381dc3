use Rattle.bpf_model.proofs.Prelude.{◌≡◌, ℕ, List, None, refl, sym, subst, IfOk, Ok, Err}
use Rattle.element_store.proofs.Prelude.{key_at}
use Rattle.hash_index.specs.Order.{AreInOrder}
use Rattle.hash_index.specs.Sorted.{sorted_contents}
use Rattle.hash_index.proofs.Gathered.{contents_ordered}
use Rattle.hash_index.proofs.sorted.SortedIndex.in_order.Goals as goal

pub returns : goal.returns
returns c = elim c.copy_of.result as (λ r. IfOk r (λ v. v.items ≡ c.args.self.now.slots.items) →
    IfOk r (λ v. AreInOrder (sorted_contents c.args.self.now c.args._arena.now) (key_at c.args._arena.now.slots) None v.items)) [
      | Ok v ↦ λ e. subst (λ (l : List ℕ). AreInOrder (sorted_contents c.args.self.now c.args._arena.now) (key_at c.args._arena.now.slots) None l)
          (sym e) (contents_ordered (key_at c.args._arena.now.slots) c.args.self.now.slots.items c.args.self.now.slots.items
          (λ j. refl) c.requires.unique c.requires.order)
      | Err u ↦ λ e. tt
    ] c.copy_of.ensures.items
