-- The names of this crate that most proofs cite, passed on from one place.
pub use Rattle.element_store.specs.Blocks.{block, with_block}
pub use Rattle.element_store.specs.Deferred.{deferred_lists, DeferredFits, FitsAs, IsLine}
pub use Rattle.element_store.specs.Fresh.{fresh_cells, fresh_cell}
pub use Rattle.element_store.specs.Kept.{arena_state_of, last_left, IsThreaded, slots_shown, AreCellsKept, free_of, state_with, linked_behind, free_count}
pub use Rattle.element_store.specs.Kept.{taken_count, link_view, given_cell, is_worn, IsLaidOut, relinked, shown_link, raw, raw_of, first_with}
pub use Rattle.element_store.specs.Queued.{reaped_lists, retired_lists, queued}
pub use Rattle.element_store.specs.Sections.{GraceState, depth_at, is_open_depth, opened_in, IsGrace, grace_state_of}
pub use Rattle.element_store.specs.State.{key_at, ArenaState, times_in, IsTaken, link_at, value_at, given_back, is_at, slot_of, with_link, contents_of}
pub use Rattle.element_store.specs.State.{worn_at, taken, LinksOf, is_last_use, with_slot_value, indexed, new_arena, flag_in, SameAt}
pub use Rattle.element_store.specs.Threads.{chain_of, IsThread, last_slot_of, walk}
