-- What a handle owns.
use Rattle.std.specs.Coded.{Coded}
use Rattle.std.specs.Prelude.{Option, Some, None}
use base.Fml.{Fml, ftrue}
use denote.RawPtr.{Ptr}
use Rattle.std.specs.Box.Ownership.{box_owns}
use Rattle.std.specs.contracts.impls.GlobalAllocator.TheImpl.{ghosts}
use Rattle.host_handle.specs.declared.held.Held.{Held}
use Rattle.host_handle.specs.contracts.held.Held.{the_row}

unfoldable pub holds : Ptr → Option Held → Fml
holds p None = ftrue
holds p (Some v) = box_owns (ghosts.dealloc_token (record { memory = record { seal = tt } })) the_row p v

-- how a proof tells what is held apart
abbrev pub held_code : Coded Held
held_code = the_row.coded
