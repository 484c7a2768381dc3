use Rattle.bpf_model.proofs.Prelude.{ℕ, List, subst, option_copied}
use Rattle.element_store.proofs.Prelude.{key_at}
use Rattle.hash_index.specs.Order.{IsLeastOf}
use Rattle.hash_index.proofs.Least.{least_some, least_is_above, least_between, least_none}
use Rattle.hash_index.proofs.sorted.SortedIndex.next_above.Goals as goal

pub returns-clause-some : goal.returns-clause-some
returns-clause-some c = least_some (key_at c.args.arena.now.slots) c.args.self.now.slots.items
    (option_copied c.args.bound) c.requires.unique c.least_above.result
    (subst (λ (l : List ℕ). IsLeastOf (key_at c.args.arena.now.slots) (option_copied c.args.bound) l
    c.least_above.result) c.deref.ensures.value c.least_above.ensures)

pub returns-clause-above : goal.returns-clause-above
returns-clause-above c = least_is_above (key_at c.args.arena.now.slots) c.args.self.now.slots.items
    (option_copied c.args.bound) c.least_above.result (subst
    (λ (l : List ℕ). IsLeastOf (key_at c.args.arena.now.slots) (option_copied c.args.bound) l c.least_above.result)
    c.deref.ensures.value c.least_above.ensures)

pub returns-clause-least : goal.returns-clause-least
returns-clause-least c = least_between (key_at c.args.arena.now.slots) c.args.self.now.slots.items
    (option_copied c.args.bound) c.least_above.result (subst
    (λ (l : List ℕ). IsLeastOf (key_at c.args.arena.now.slots) (option_copied c.args.bound) l c.least_above.result)
    c.deref.ensures.value c.least_above.ensures)

pub returns-clause-none : goal.returns-clause-none
returns-clause-none c = least_none (key_at c.args.arena.now.slots) c.args.self.now.slots.items
    (option_copied c.args.bound) c.least_above.result (subst
    (λ (l : List ℕ). IsLeastOf (key_at c.args.arena.now.slots) (option_copied c.args.bound) l c.least_above.result)
    c.deref.ensures.value c.least_above.ensures)
