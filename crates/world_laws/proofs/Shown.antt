-- What a world's view shows of an element that a run may access, and of words near its map slot.
use Rattle.bpf_model.proofs.Prelude.{◌≡◌, ℕ, ◌+◌, ◌<◌, ◌≤◌, refl, ap, ◌∙◌, arith, false, Some, length, slice_get, slice_index, slice_get-map}
use Rattle.bpf_model.proofs.Prelude.{slice_get_within, Element, is_reclaimed, IsShape, AreShapes, Schedule, MapView, WorldView, shapes_of, slot_view}
use Rattle.bpf_model.proofs.Prelude.{RefinesSchedule, element_bases, map_in, slot_base, most_map_slots, Machine, Run, get-below}
use Rattle.model_laws.proofs.Prelude.{MAX_ENTRIES, MAX_MAPS, MAX_SPARE}
use Rattle.plan_laws.proofs.Prelude.{scene_of, IsHeld, IsWell}
use Rattle.std.specs.Option.{option_map}
use Rattle.model_laws.proofs.ViewedWorlds.{here}
use Rattle.plan_laws.proofs.Arrays.{held-unreclaimed, linked-kept}

-- An element that is kept stands in a map slot of its map, and its first byte has that map slot's word.
pub record Shown (w : WorldView) (s : Schedule) (x : RefinesSchedule w s) (n : ℕ) (e : Element) : Type 0 where
  pub view : MapView
  pub there : slice_get w.maps e.map ≡ Some view
  pub slot : slice_get view.slots (slice_index x.slots n) ≡ Some (slot_view e)
  pub few_maps : e.map < MAX_MAPS
  pub few_slots : slice_index x.slots n < most_map_slots
  pub base : element_bases x.slots s.machine.store.elements n ≡ slot_base e.map (slice_index x.slots n)

module _ (w : WorldView) (s : Schedule) (x : RefinesSchedule w s) (well : IsWell s.machine)
    (limits : AreShapes (shapes_of w)) (maps : length w.maps ≤ MAX_MAPS) where
  pub shape-of : (k : ℕ) (v : MapView) → slice_get w.maps k ≡ Some v → IsShape v.shape
  shape-of k v at = limits k v.shape (slice_get-map (λ v. v.shape) w.maps k ∙ ap (option_map (λ v. v.shape)) at)

  pub shown : (n : ℕ) (e : Element) → slice_get s.machine.store.elements n ≡ Some e → is_reclaimed e.life ≡ false → Shown w s x n e
  shown n e born kept =
      let l = well.consistent.lengths n e born in
      let within : e.map < length s.machine.store.maps = slice_get_within s.machine.store.maps e.map l.0 l.1 in
      let same : length w.maps ≡ length s.machine.store.maps = x.maps.0 in
      let v = get-below w.maps e.map (omega (arith, within, same)) in
      let h = here w s x e.map v.0 v.1 in
      let slot = h.stands.elements.occupied n e (record { born = born; in_map = refl; kept = kept }) in
      let inside : slice_index x.slots n < length v.0.slots = slice_get_within v.0.slots (slice_index x.slots n) (slot_view e) slot in
      let room : length v.0.slots ≡ v.0.shape.entries + v.0.shape.spare = h.stands.free.room in
      let shape = shape-of e.map v.0 v.1 in
      let entries : v.0.shape.entries ≤ MAX_ENTRIES = shape.entries.1 in
      let spare : v.0.shape.spare ≤ MAX_SPARE = shape.spare in
      record {
        view = v.0;
        there = v.1;
        slot = slot;
        few_maps = omega (arith, within, same, maps);
        few_slots = omega (arith, inside, room, entries, spare);
        base = ap (λ o. slot_base (map_in o) (slice_index x.slots n)) born;
      }

pub held-kept : (m : Machine) → IsWell m → (run : Run) (map n : ℕ) (h : IsHeld (scene_of m.store run) map n) → is_reclaimed h.element.life ≡ false
held-kept m well run map n h = held-unreclaimed m.store run map n (λ k e born. linked-kept m.store.maps e (well.consistent.arrays k e born)) h
