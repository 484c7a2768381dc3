-- The parts of a map over their arena, and what a call makes of them.
use Rattle.bpf_model.proofs.Prelude.{◌≡◌, KeyMap}
use Rattle.element_store.proofs.Prelude.{ArenaState, DeferredFits, deferred_lists}
use Rattle.element_store.specs.declared.deferred.DeferredSlots.{DeferredSlots}
use Rattle.map_kinds.specs.Parted.{PartsView, IsParted}

module _ (X : Type 0) (contents : X → ArenaState → KeyMap) (fits_index : X → ArenaState → Type 0) where
  -- the parts, as they are read over the arena
  abbrev pub parts_over : X → DeferredSlots → ArenaState → PartsView
  parts_over x y a = record { index = contents x a; lists = deferred_lists y a; arena = a }

  -- they fit the arena, each slot stands once, and they read as these
  abbrev pub Become : X → DeferredSlots → ArenaState → PartsView → Type 0
  Become x y a s = ((fits_index x a × DeferredFits y a) × IsParted (parts_over x y a)) × (parts_over x y a ≡ s)
