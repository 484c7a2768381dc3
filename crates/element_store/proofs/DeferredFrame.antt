-- The lists read nothing but their own slots.
use Rattle.bpf_model.proofs.Prelude.{◌≡◌, ℕ, ◌<◌, ◌≤◌, List, Option, sym, subst, arith, length, Queues}
use Rattle.element_store.proofs.Prelude.{ArenaState, IsTaken, SameAt, link_at, times_in, queued, deferred_lists, IsLine, FitsAs, DeferredFits}
use Rattle.element_store.proofs.Counts.{length_once}
use Rattle.element_store.proofs.Threading.{walk-thread, thread-agree}
use Rattle.element_store.specs.declared.deferred.Line.{Line}
use Rattle.element_store.specs.declared.deferred.DeferredSlots.{DeferredSlots}
use Rattle.element_store.specs.Lines.{line_slots}

line_is : (a : ArenaState) (l : Line) (xs : List ℕ) → IsLine (link_at a.links) l xs →
    ((j : ℕ) → times_in j xs ≤ 1) → ((j : ℕ) → 0 < times_in j xs → IsTaken a j) →
    line_slots a l ≡ xs
line_is a l xs t once taken =
    walk-thread (link_at a.links) l.first xs (length a.slots) t.thread
    (length_once (length a.slots) xs once (λ j h. (taken j h).inside))

same_lists : (n n' w w' r r' : List ℕ) → n ≡ n' → w ≡ w' → r ≡ r' → let a : Queues =
    record { next = n; waiting = w; ready = r } in let b : Queues =
    record { next = n'; waiting = w'; ready = r' } in a ≡ b
same_lists n n' w w' r r' p q s = cc

pub lists-are : (x : DeferredSlots) (a : ArenaState) (q : Queues) → FitsAs x a q → deferred_lists x a ≡ q
lists-are x a q f =
    same_lists _ q.next _ q.waiting _ q.ready
    (line_is a x.next q.next f.next (λ j. let o : queued q j ≤ 1 = f.once j in
    omega arith) (λ j h. f.taken j (omega arith)))
    (line_is a x.waiting q.waiting f.waiting (λ j. let o : queued q j ≤ 1 = f.once j in
    omega arith) (λ j h. f.taken j (omega arith)))
    (line_is a x.ready q.ready f.ready (λ j. let o : queued q j ≤ 1 = f.once j in
    omega arith) (λ j h. f.taken j (omega arith)))

pub fits_from : (x : DeferredSlots) (a : ArenaState) (q : Queues) → FitsAs x a q → DeferredFits x a
fits_from x a q f = subst (FitsAs x a) (sym (lists-are x a q f)) f

pub line_agree : (f g : ℕ → Option ℕ) (l : Line) (xs : List ℕ) → IsLine f l xs →
    ((j : ℕ) → 0 < times_in j xs → g j ≡ f j) → IsLine g l xs
line_agree f g l xs t h =
    record { thread = thread-agree f g l.first xs h t.thread; ends = t.ends }

agreed : (x : DeferredSlots) (a b : ArenaState) → DeferredFits x a →
    SameAt (queued (deferred_lists x a)) a b → FitsAs x b (deferred_lists x a)
agreed x a b f s = record {
  next = line_agree (link_at a.links) (link_at b.links) x.next (deferred_lists x a).next f.next
      (λ j h. s.link j (omega arith));
  waiting = line_agree (link_at a.links) (link_at b.links) x.waiting (deferred_lists x a).waiting
      f.waiting
      (λ j h. s.link j (omega arith));
  ready = line_agree (link_at a.links) (link_at b.links) x.ready (deferred_lists x a).ready f.ready
      (λ j h. s.link j (omega arith));
  once = f.once;
  taken = s.taken;
}

pub deferred-frame : (x : DeferredSlots) (a b : ArenaState) → DeferredFits x a →
    SameAt (queued (deferred_lists x a)) a b →
    DeferredFits x b × (deferred_lists x b ≡ deferred_lists x a)
deferred-frame x a b f s = let g : FitsAs x b (deferred_lists x a) = agreed x a b f s in
    (fits_from x b (deferred_lists x a) g, lists-are x b (deferred_lists x a) g)
