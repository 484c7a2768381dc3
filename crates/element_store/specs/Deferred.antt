-- What the three lists of unlinked slots are over an arena.
use Rattle.std.specs.Prelude.{◌≡◌, ℕ, ◌<◌, ◌≤◌, List, Option}
use Rattle.bpf_model.specs.Schedule.{Queues}
use Rattle.element_store.specs.State.{ArenaState, IsTaken, link_at}
use Rattle.element_store.specs.Queued.{queued}
use Rattle.element_store.specs.Threads.{IsThread, last_slot_of}
use Rattle.element_store.specs.declared.deferred.Line.{Line}
use Rattle.element_store.specs.declared.deferred.DeferredSlots.{DeferredSlots}
use Rattle.element_store.specs.Lines.{line_slots}

abbrev pub deferred_lists : DeferredSlots → ArenaState → Queues
deferred_lists x a = record {
  next = line_slots a x.next;
  waiting = line_slots a x.waiting;
  ready = line_slots a x.ready;
}

-- the line is that of the list: the links lead from its first slot through the list's to its last
pub record IsLine (links : ℕ → Option ℕ) (l : Line) (xs : List ℕ) : Type 0 where
  pub thread : IsThread links l.first xs
  pub ends : l.last ≡ last_slot_of xs

-- The three lines are those of these lists; a slot stands in them once at most, and is taken.
pub record FitsAs (x : DeferredSlots) (a : ArenaState) (q : Queues) : Type 0 where
  pub next : IsLine (link_at a.links) x.next q.next
  pub waiting : IsLine (link_at a.links) x.waiting q.waiting
  pub ready : IsLine (link_at a.links) x.ready q.ready
  pub once : (j : ℕ) → queued q j ≤ 1
  pub taken : (j : ℕ) → 0 < queued q j → IsTaken a j

abbrev pub DeferredFits : DeferredSlots → ArenaState → Type 0
DeferredFits x a = FitsAs x a (deferred_lists x a)
