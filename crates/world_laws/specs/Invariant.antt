-- What is so of each world, at its start and after any events.
use Rattle.bpf_model.specs.Refines.{TracksSchedule, IsBounded}
use Rattle.bpf_model.specs.Schedule.{Schedule}
use Rattle.bpf_model.specs.View.{WorldView}
use Rattle.world_laws.specs.Typed.{IsReadyWorld}

-- A world tracks a state of the machine with the runtime's choices, its programs are verified for
-- its maps and values of their types, and its counts have room.
pub record IsWorld (w : WorldView) : Type 0 where
  pub schedule : Schedule
  pub tracks : TracksSchedule w schedule
  pub ready : IsReadyWorld w
  pub bounded : IsBounded w
