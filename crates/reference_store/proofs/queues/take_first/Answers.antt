use Rattle.bpf_model.proofs.Prelude.{◌≡◌, ◌<◌, ◌++◌, ◌+◌, length, Some, None, map, sym, ap, ◌∙◌, subst, arith, true, false, List, ℕ, refl, slice_get}
use Rattle.bpf_model.proofs.Prelude.{slice_set, is_some, take, drop, without_first, slice_get_read, map-set, get-map, both}
use Rattle.bpf_model.specs.Schedule as schedule
use Rattle.reference_store.specs.State.{queues_of}
use Rattle.reference_store.specs.declared.queues.Queues.{Queues}
use Rattle.reference_store.proofs.Queueing.{without-here, without-later, is-first, not-first}
use Rattle.reference_store.proofs.queues.take_first.Goals as goal

abbrev shorter : Queues → schedule.Queues
shorter q = record { next = (queues_of q).next; waiting = (queues_of q).waiting; ready = drop 1 (queues_of q).ready }

found : (items xs : List Queues) (k : ℕ) (y new : Queues) → xs ≡ items →
    without_first (map queues_of items) ≡ take k (map queues_of items) ++ without_first (drop k (map queues_of items))
    →
    slice_get xs k ≡ Some y → 0 < length (queues_of y).ready → queues_of new ≡ shorter y →
    map queues_of (slice_set xs k new) ≡ without_first (map queues_of items)
found items xs k y new same left h pos e =
    let qs = map queues_of xs in
    let here : without_first qs ≡ take k qs ++ without_first (drop k qs) =
    subst (λ l. without_first (map queues_of l) ≡ take k (map queues_of l) ++ without_first
    (drop k (map queues_of l))) (sym same) left in
    map-set queues_of xs k new ∙ ap (slice_set qs k) e ∙
    sym (here ∙ without-here qs k (queues_of y) (get-map queues_of xs k y h) pos) ∙
    ap (λ l. without_first (map queues_of l)) same

pub returns-then-is_some : goal.returns-then-is_some
returns-then-is_some c =
    let items = c.args.queues.now in
    let xs = c.loop-k.queues in
    let k = c.loop-k.k in
    let x = c.index-queues-k.result in
    let y = c.index-queues-k-then-is_some.result in
    let bound : k < length xs = omega (arith, c.loop-k-test.true, c.loop-k.auto.queues) in
    let at_x = slice_get_read xs (length xs) k x refl bound c.index-queues-k.is in
    let at_y = slice_get_read xs (length xs) k y refl bound c.index-queues-k-then-is_some.is in
    let same : x ≡ y = both (slice_get xs k) x y at_x at_y in
    let some : is_some (slice_get (queues_of x).ready 0) ≡ true =
    ap (λ q. is_some (slice_get (queues_of q).ready 0)) c.index-queues-k.is ∙ ap is_some (sym c.first_of.ensures)
    ∙ sym c.is_some.ensures ∙ c.if-is_some.true in
    let pos : 0 < length (queues_of y).ready = subst (λ q. 0 < length (queues_of q).ready) same (is-first (queues_of x).ready some) in
    found items xs k y c.drop_first.new.queues c.loop-k.invariant.same c.loop-k.invariant.left at_y pos
    (c.drop_first.ensures ∙ ap shorter (sym c.index-queues-k-then-is_some.is))

later : (items xs : List Queues) (k : ℕ) (x : Queues) → xs ≡ items → slice_get xs k ≡ Some x →
    slice_get (queues_of x).ready 0 ≡ None → without_first (map queues_of items) ≡ take k (map queues_of items) ++
    without_first (drop k (map queues_of items)) →
    without_first (map queues_of items) ≡ take (k + 1) (map queues_of items) ++ without_first (drop (k + 1) (map queues_of items))
later items xs k x same h none left =
    let there : slice_get items k ≡ Some x = subst (λ l. slice_get l k ≡ Some x) same h in
    left ∙ without-later (map queues_of items) k (queues_of x) (get-map queues_of items k x there) none

pub loop-k-preserved : goal.loop-k-preserved
loop-k-preserved c =
    let xs = c.loop-k.queues in
    let k = c.loop-k.k in
    let x = c.index-queues-k.result in
    let bound : k < length xs = omega (arith, c.loop-k-test.true, c.loop-k.auto.queues) in
    let some : is_some (slice_get (queues_of x).ready 0) ≡ false =
    ap (λ q. is_some (slice_get (queues_of q).ready 0)) c.index-queues-k.is ∙ ap is_some (sym c.first_of.ensures)
    ∙ sym c.is_some.ensures ∙ c.if-is_some.false in
    record {
      same = c.loop-k.invariant.same;
      left = later c.args.queues.now xs k x c.loop-k.invariant.same
          (slice_get_read xs (length xs) k x refl bound c.index-queues-k.is) (not-first (queues_of x).ready some)
          c.loop-k.invariant.left;
    }
