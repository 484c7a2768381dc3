-- The names of this crate that most proofs cite, passed on from one place.
pub use Rattle.world_laws.specs.Around.{store_of, regions, elements_around, element_in_region, element_of, births, region_of, key_length, map_of}
pub use Rattle.world_laws.specs.Around.{value_length, elements_by, MayReply}
pub use Rattle.world_laws.specs.Binding.{IsBoundTo}
pub use Rattle.world_laws.specs.Calling.{returned_view, bytes_in, helper_called, serves, helper_called_on, found_word, bound_number, kernel_called}
pub use Rattle.world_laws.specs.Described.{IsShownBy, region_bases, IsDescribed}
pub use Rattle.world_laws.specs.Exited.{HasExited}
pub use Rattle.world_laws.specs.Exits.{MayExitAs, ExitsAs}
pub use Rattle.world_laws.specs.Invariant.{IsWorld}
pub use Rattle.world_laws.specs.Loads.{with_program, loads, schedule_loads}
pub use Rattle.world_laws.specs.Local.{local_of, Goes, Asks, local_load, local_store, LocalStep, Ends, AsksNothing, Agrees}
pub use Rattle.world_laws.specs.Locating.{location_of, number_from, bytes_of, offset_at, loaded_word, word_offset}
pub use Rattle.world_laws.specs.Moving.{word_in, operand_word, with_word, moves_on, moved_view, stored_at, branched, jumped_to, stored_frame, ended_view}
pub use Rattle.world_laws.specs.Moving.{stored_slot, advanced_view, jumped_by, map_word}
pub use Rattle.world_laws.specs.Reaching.{IsInside, IsCall, Reaches, IsInFrame, IsAllowed, IsWritable}
pub use Rattle.world_laws.specs.Reacting.{full_reaction, insn_step, full_reactions, or_step, step_at, step_in, run_step_of, word_step}
pub use Rattle.world_laws.specs.Standing.{IsNumbered, IsSlotWord, MapsAnswer, IsRunOf}
pub use Rattle.world_laws.specs.Typed.{IsSound, IsRunning, IsRealProgram, AreRealPrograms, IsListed, IsReadyWorld}
pub use Rattle.world_laws.specs.WorldExample.{example_world}
