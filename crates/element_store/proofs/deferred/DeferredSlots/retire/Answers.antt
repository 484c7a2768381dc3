use Rattle.bpf_model.proofs.Prelude.{◌∙◌, sym, ap, subst, Queues}
use Rattle.element_store.proofs.Prelude.{ArenaState, LinksOf, queued, retired_lists, deferred_lists, FitsAs}
use Rattle.element_store.specs.declared.deferred.Line.{Line}
use Rattle.element_store.proofs.DeferredFrame.{lists-are, fits_from}
use Rattle.element_store.proofs.DeferredMoves.{retired_fits, lasts_taken}
use Rattle.element_store.proofs.deferred.DeferredSlots.retire.Goals.{After-join-self}
use Rattle.element_store.proofs.deferred.DeferredSlots.retire.Goals as goal

-- whichever list it joins
pub join-self-requires : goal.join-self-requires
join-self-requires c =
    let h = lasts_taken c.args.self.now c.args.arena.now c.set_next.new.self c.requires.fits
    (c.set_next.ensures.new ∙ ap (λ (z : ArenaState). let r : ArenaState =
    record c.args.arena.now { links = z.links } in r) (sym c.set_next.ensures.new)) in
    search (h.next, h.waiting)

-- what the lists are once the slot has joined
fits : (c : After-join-self) → FitsAs (record {
  next = c.join-self.result;
  waiting = c.args.self.now.waiting;
  ready = c.args.self.now.ready;
}) c.join-self.new.arena (retired_lists (deferred_lists c.args.self.now c.args.arena.now) c.args.slot)
    × LinksOf (queued (retired_lists (deferred_lists c.args.self.now c.args.arena.now) c.args.slot)) c.args.arena.now c.join-self.new.arena
fits c =
    let k = retired_fits c.args.self.now c.args.arena.now c.set_next.new.self c.join-self.new.arena c.args.slot
    c.requires.fits c.requires.taken c.requires.apart c.set_next.ensures.new c.set_next.ensures.linked
    c.join-self.ensures.links in (
      subst (λ (l : Line). FitsAs (record {
        next = l;
        waiting = c.args.self.now.waiting;
        ready = c.args.self.now.ready;
      }) c.join-self.new.arena
          (retired_lists (deferred_lists c.args.self.now c.args.arena.now) c.args.slot)) (sym c.join-self.ensures.line) k.0,
      k.1,
    )

pub returns-clause-lists : goal.returns-clause-lists
returns-clause-lists c = lists-are _ c.join-self.new.arena _ (fits (goal.at.returns-clause-lists c).After-join-self).0

pub returns-clause-fits : goal.returns-clause-fits
returns-clause-fits c = fits_from _ c.join-self.new.arena _ (fits (goal.at.returns-clause-fits c).After-join-self).0

pub returns-clause-links : goal.returns-clause-links
returns-clause-links c =
    let k = fits (goal.at.returns-clause-links c).After-join-self in
    subst (λ (q : Queues). LinksOf (queued q) c.args.arena.now c.join-self.new.arena) (sym (lists-are _ c.join-self.new.arena _ k.0)) k.1
