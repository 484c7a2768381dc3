use Rattle.bpf_model.proofs.Prelude.{◌≡◌, ◌∙◌, ◌<◌, ◌≤◌, ℕ, List, Option, sym, ap, subst}
use Rattle.element_store.proofs.Prelude.{key_at, times_in}
use Rattle.hash_index.specs.Buckets.{chained_slots}
use Rattle.hash_index.proofs.Gathered.{ascends, contents_ordered, times-moved}
use Rattle.hash_index.proofs.buckets.BucketsIndex.in_order.Goals as goal

pub returns : goal.returns
returns c =
    let key = key_at c.args.arena.now.slots in
    let all = chained_slots c.args.self.now.heads.items c.args.arena.now in
    let xs = c.sort_slots.new.slots.items in
    let gathered = c.in_ok-slots.ensures ∙ ap (λ (l : List (Option ℕ)). chained_slots l c.args.arena.now) c.deref.ensures.value in
    let moved : (j : ℕ) → times_in j xs ≡ times_in j all = λ j. times-moved j _ _ c.sort_slots.ensures.same ∙ ap (times_in j) gathered in
    contents_ordered key all xs moved c.requires.unique
    (ascends key xs c.sort_slots.ensures.order (λ j. subst (λ n. n ≤ 1) (sym (moved j)) (c.requires.once j))
    (λ i j hi hj e. c.requires.unique i j (subst (λ n. 0 < n) (moved i) hi) (subst (λ n. 0 < n) (moved j) hj) e))
