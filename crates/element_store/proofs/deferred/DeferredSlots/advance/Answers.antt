use Rattle.bpf_model.proofs.Prelude.{None, sym, subst, refl, turned}
use Rattle.element_store.proofs.Prelude.{deferred_lists, FitsAs}
use Rattle.element_store.specs.declared.deferred.Line.{Line}
use Rattle.element_store.proofs.DeferredFrame.{lists-are, fits_from}
use Rattle.element_store.proofs.DeferredMoves.{turned_fits, lasts_taken}
use Rattle.element_store.proofs.deferred.DeferredSlots.advance.Goals.{After-join-self}
use Rattle.element_store.proofs.deferred.DeferredSlots.advance.Goals as goal

pub join-self-requires : goal.join-self-requires
join-self-requires c = (lasts_taken c.args.self.now c.args.arena.now c.args.arena.now c.requires.fits refl).ready

-- what the lists are once what waits has joined what is ready
fits : (c : After-join-self) → FitsAs (record {
  next = record { first = None; last = None };
  waiting = c.args.self.now.next;
  ready = c.join-self.result;
}) c.join-self.new.arena (turned (deferred_lists c.args.self.now c.args.arena.now))
fits c = subst (λ (l : Line). FitsAs (record {
  next = record { first = None; last = None };
  waiting = c.args.self.now.next;
  ready = l;
}) c.join-self.new.arena (turned (deferred_lists c.args.self.now c.args.arena.now))) (sym c.join-self.ensures.line)
    (turned_fits c.args.self.now c.args.arena.now c.join-self.new.arena c.requires.fits c.join-self.ensures.links).0

pub returns-clause-lists : goal.returns-clause-lists
returns-clause-lists c = lists-are _ c.join-self.new.arena _ (fits (goal.at.returns-clause-lists c).After-join-self)

pub returns-clause-fits : goal.returns-clause-fits
returns-clause-fits c = fits_from _ c.join-self.new.arena _ (fits (goal.at.returns-clause-fits c).After-join-self)

pub returns-clause-links : goal.returns-clause-links
returns-clause-links c = (turned_fits c.args.self.now c.args.arena.now c.join-self.new.arena c.requires.fits c.join-self.ensures.links).1
