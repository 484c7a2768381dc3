use Rattle.bpf_model.proofs.Prelude.{ℕ, List, Option, subst, option_copied}
use Rattle.element_store.proofs.Prelude.{key_at}
use Rattle.hash_index.specs.Order.{IsLeastOf}
use Rattle.hash_index.specs.Buckets.{chained_slots}
use Rattle.hash_index.proofs.Least.{least_some, least_is_above, least_between, least_none}
use Rattle.hash_index.proofs.buckets.BucketsIndex.next_above.Goals as goal

pub returns-clause-some : goal.returns-clause-some
returns-clause-some c = least_some (key_at c.args.arena.now.slots)
    (chained_slots c.args.self.now.heads.items c.args.arena.now) (option_copied c.args.bound) c.requires.unique
    c.least_in.result (subst (λ (l : List (Option ℕ)).
    IsLeastOf (key_at c.args.arena.now.slots) (option_copied c.args.bound) (chained_slots l c.args.arena.now)
    c.least_in.result) c.deref.ensures.value c.least_in.ensures)

pub returns-clause-above : goal.returns-clause-above
returns-clause-above c = least_is_above (key_at c.args.arena.now.slots)
    (chained_slots c.args.self.now.heads.items c.args.arena.now) (option_copied c.args.bound) c.least_in.result
    (subst (λ (l : List (Option ℕ)). IsLeastOf (key_at c.args.arena.now.slots) (option_copied c.args.bound)
    (chained_slots l c.args.arena.now) c.least_in.result) c.deref.ensures.value c.least_in.ensures)

pub returns-clause-least : goal.returns-clause-least
returns-clause-least c = least_between (key_at c.args.arena.now.slots)
    (chained_slots c.args.self.now.heads.items c.args.arena.now) (option_copied c.args.bound) c.least_in.result
    (subst (λ (l : List (Option ℕ)). IsLeastOf (key_at c.args.arena.now.slots) (option_copied c.args.bound)
    (chained_slots l c.args.arena.now) c.least_in.result) c.deref.ensures.value c.least_in.ensures)

pub returns-clause-none : goal.returns-clause-none
returns-clause-none c = least_none (key_at c.args.arena.now.slots)
    (chained_slots c.args.self.now.heads.items c.args.arena.now) (option_copied c.args.bound) c.least_in.result
    (subst (λ (l : List (Option ℕ)). IsLeastOf (key_at c.args.arena.now.slots) (option_copied c.args.bound)
    (chained_slots l c.args.arena.now) c.least_in.result) c.deref.ensures.value c.least_in.ensures)
