-- What a world makes of an advance is a step of the schedule.
use Rattle.bpf_model.proofs.Prelude.{◌≡◌, ◌∙◌, ℕ, map, length, refl, sym, ap, Bool, true, false, subst, length-map, Queues, Schedule, open_flags, is_any}
use Rattle.bpf_model.proofs.Prelude.{turned, advanced, DoesScheduled, MapState, MapView, WorldView, MapRefines, RefinesSchedule, oldest-none}
use Rattle.model_laws.proofs.Prelude.{Done, turned_view, advanced_by, advance_reaction, Matches, Simulates}
use Rattle.bpf_model.specs.declared.event.Event.TheVariants as events
use Rattle.model_laws.proofs.Counting.{map-back}
use Rattle.model_laws.proofs.Listing.{named-turned}
use Rattle.model_laws.proofs.ViewedWorlds.{steps}

stands-turned : (w : WorldView) (s : Schedule) (x : RefinesSchedule w s) (k : ℕ) (v : MapView) (m : MapState)
    (q : Queues) → MapRefines x.slots k s.machine.store.elements q v m →
    MapRefines x.slots k s.machine.store.elements (turned q) (turned_view v) m
stands-turned w s x k v m q h = record {
  state = h.state;
  lists = ap turned h.lists ∙ named-turned x.slots q;
  free = record { room = h.free.room; once = h.free.once; inside = h.free.inside };
  elements = record {
    occupied = h.elements.occupied;
    single = h.elements.single;
    apart = h.elements.apart;
    found =
        h.elements.found;
    finds = h.elements.finds;
    counted = h.elements.counted;
  };
}

abbrev later : Schedule → Schedule
later s = record { machine = s.machine; queues = map turned s.queues; awaited = open_flags s.machine.runs }

world-turned : (w : WorldView) (s : Schedule) → RefinesSchedule w s → RefinesSchedule (advanced_by false w) (later s)
world-turned w s x = record {
  slots = x.slots;
  named = x.named;
  maps = (length-map w.maps turned_view ∙ x.maps.0, length-map s.queues turned ∙ x.maps.1);
  map = λ k v m q at there listed.
      let a = map-back turned_view w.maps k v at in
      let b = map-back turned s.queues k q listed in
      subst (λ z. MapRefines x.slots k s.machine.store.elements z v m) b.2
      (subst (λ z. MapRefines x.slots k s.machine.store.elements (turned b.0) z m) a.2
      (stands-turned w s x k a.0 m b.0 (x.map k a.0 m b.0 a.1 there b.1)));
  runs = x.runs;
  opened = x.opened;
  awaited = x.opened;
  flags = refl;
  programs = x.programs;
  given = x.given;
}

module _ (w : WorldView) (s : Schedule) (sim : Matches w s) where
  does : (t : Schedule) → t.machine ≡ s.machine → t ≡ advanced s t.machine (is_any s.awaited) → DoesScheduled s events.Advance Done t
  does t m is = record { step = m; first = tt; oldest = oldest-none s.machine.store t.machine.store (ap (λ z. length z.store.elements) m); lists = is }

  by : (b : Bool) → is_any s.awaited ≡ b → Simulates s events.Advance (Done, advanced_by b w)
  by true e = record { next = s; does = does s refl (ap (advanced s s.machine) (sym e)); matches = sim }
  by false e =
      let d : DoesScheduled s events.Advance Done (later s) = does (later s) refl (ap (advanced s s.machine) (sym e)) in
      record { next = later s; does = d; matches = steps (advanced_by false w) s (later s) events.Advance Done sim.scheduled d (world-turned w s sim.refines) }

  pub advance_simulates : Simulates s events.Advance (advance_reaction w)
  advance_simulates = by (is_any w.awaited) (ap is_any (sym sim.refines.awaited))
