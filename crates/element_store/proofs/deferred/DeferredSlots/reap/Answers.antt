use Rattle.bpf_model.proofs.Prelude.{◌≡◌, ℕ, Option, Some, sym, subst}
use Rattle.element_store.proofs.Prelude.{ArenaState, link_at, reaped_lists, last_left, deferred_lists, FitsAs, DeferredFits}
use Rattle.element_store.specs.declared.deferred.DeferredSlots.{DeferredSlots}
use Rattle.element_store.proofs.DeferredFrame.{lists-are, fits_from}
use Rattle.element_store.proofs.DeferredMoves.{reaped_fits}
use Rattle.element_store.proofs.deferred.DeferredSlots.reap.Goals as goal

pub next_of-rest-requires : goal.next_of-rest-requires
next_of-rest-requires c =
    let k = reaped_fits c.args.self.now c.args.arena.now c.in-Some.slot c.requires.fits c.in-Some.is in
    c.requires.fits.taken c.in-Some.slot k.1

left : (a : ArenaState) (x : DeferredSlots) (slot : ℕ) (rest last : Option ℕ) → rest ≡ link_at a.links slot →
    last ≡ last_left rest x.ready.last → DeferredFits x a → x.ready.first ≡ Some slot →
    FitsAs (record { next = x.next; waiting = x.waiting; ready = record { first = rest; last = last } }) a (reaped_lists (deferred_lists x a))
left a x slot rest last r l f e =
    let k = reaped_fits x a slot f e in
    subst (λ (z : Option ℕ). FitsAs (record {
      next = x.next;
      waiting = x.waiting;
      ready =
          record { first = rest; last = z };
    }) a (reaped_lists (deferred_lists x a))) (sym l)
    (subst (λ (z : Option ℕ). FitsAs (record {
      next = x.next;
      waiting = x.waiting;
      ready =
          record { first = z; last = last_left z x.ready.last };
    }) a (reaped_lists (deferred_lists x a))) (sym r) k.0)

pub returns-in-Some-clause-lists : goal.returns-in-Some-clause-lists
returns-in-Some-clause-lists c = lists-are _ c.args.arena.now _
    (left c.args.arena.now c.args.self.now c.in-Some.slot c.next_of-rest.result c.last_after-last.result
    c.next_of-rest.ensures c.last_after-last.ensures c.requires.fits c.in-Some.is)

pub returns-in-Some-clause-fits : goal.returns-in-Some-clause-fits
returns-in-Some-clause-fits c = fits_from _ c.args.arena.now _
    (left c.args.arena.now c.args.self.now c.in-Some.slot c.next_of-rest.result c.last_after-last.result
    c.next_of-rest.ensures c.last_after-last.ensures c.requires.fits c.in-Some.is)
