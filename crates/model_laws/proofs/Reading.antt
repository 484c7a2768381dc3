-- What a world makes of a read is a step of the schedule.
use Rattle.bpf_model.proofs.Prelude.{◌≡◌, ◌∙◌, ℕ, length, Option, Some, None, refl, sym, ap, subst, slice_get, get, none-some, is_reclaimed, Answers}
use Rattle.bpf_model.proofs.Prelude.{key_refusal, Schedule, MapView, WorldView, value_in, oldest-none}
use Rattle.model_laws.proofs.Prelude.{Found, EventRefusal, NoMap, value_shown, shape_shown, read_at, read_reaction, Matches, Simulates}
use Rattle.arrayvec.specs.ArrayVec.{ArrayVec}
use Rattle.bpf_model.specs.declared.event.Event.TheVariants as events
use Rattle.model_laws.proofs.ViewedWorlds.{here, key-refusal-is, unchanged, refuses}

module _ (w : WorldView) (s : Schedule) (sim : Matches w s) (k : ℕ) (key : ArrayVec ℕ) where
  does-at : (v : MapView) → slice_get w.maps k ≡ Some v → (o : Option ℕ) → get v.index key.items ≡ o →
      Answers None s.machine (events.Read k key) (Found (value_shown v o)) s.machine
  does-at v at None e = (λ n g. none-some _ (sym e ∙ (here w s sim.refines k v at).stands.elements.finds key.items n g), refl)
  does-at v at (Some i) e =
      let h = here w s sim.refines k v at in
      let x = h.stands.elements.found key.items i e in
      let there = h.stands.elements.occupied x.0 x.1.element (record { born = x.1.born; in_map = x.1.in_map; kept = ap is_reclaimed x.1.linked }) in
      (record { n = x.0; linked = x.1; value_is = ap value_in (ap (slice_get v.slots) (sym x.2) ∙ there) }, refl)

  read-cases : (r : Option EventRefusal) (o : Option MapView) →
      key_refusal (shape_shown (slice_get w.maps k)) (length key.items) ≡ r → slice_get w.maps k ≡ o →
      Simulates s (events.Read k key) (read_at r o w key.items)
  read-cases (Some r) o e at = record {
    next = s;
    does =
        refuses w s sim.refines sim.scheduled r (events.Read k key)
        (key-refusal-is w s sim.refines k (length key.items) (Some r) e);
    matches = sim;
  }
  read-cases None None e at = absurd (none-some NoMap (sym e ∙ ap (λ z. key_refusal (shape_shown z) (length key.items)) at))
  read-cases None (Some v) e at = record {
    next = s;
    does = record {
      step = subst (λ z. Answers z s.machine (events.Read k key) (Found (value_shown v (get v.index key.items)))
          s.machine) (sym (key-refusal-is w s sim.refines k (length key.items) None e))
          (does-at v at (get v.index key.items) refl);
      first = tt;
      oldest = oldest-none s.machine.store s.machine.store refl;
      lists = unchanged w s sim.refines sim.scheduled;
    };
    matches = sim;
  }

  pub read_simulates : Simulates s (events.Read k key) (read_reaction w k key.items)
  read_simulates = read-cases (key_refusal (shape_shown (slice_get w.maps k)) (length key.items)) (slice_get w.maps k) refl refl
