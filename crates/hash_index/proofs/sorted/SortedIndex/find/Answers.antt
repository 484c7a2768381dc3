use Rattle.bpf_model.proofs.Prelude.{◌∙◌, ℕ, List, sym, ap, subst}
use Rattle.element_store.proofs.Prelude.{slot_of, key_at}
use Rattle.element_store.proofs.Indexing.{get-contents}
use Rattle.hash_index.specs.Sorted.{IsPosition}
use Rattle.hash_index.proofs.sorted.SortedIndex.find.Goals as goal

pub returns-clause-slot : goal.returns-clause-slot
returns-clause-slot c = c.find_in.ensures.slot ∙ (ap
    (λ (xs : List ℕ). slot_of (key_at c.args.arena.now.slots) xs c.args.key.now) c.deref.ensures.value ∙
    sym (get-contents (key_at c.args.arena.now.slots) c.args.self.now.slots.items c.args.key.now))

pub returns-clause-place : goal.returns-clause-place
returns-clause-place c = subst (λ (xs : List ℕ). IsPosition (key_at c.args.arena.now.slots) xs c.args.key.now
    c.find_in.result.home) c.deref.ensures.value c.find_in.ensures.place
