use Rattle.bpf_model.proofs.Prelude.{Option, Some, None, Global}
use mir.Raw.{raw}
use base.Fraction.{full_share}
use base.Shift.{Keyless}
use denote.Memory.{lone}
use denote.RawPtr.{Ptr, block_ptr, null_ptr}
use denote.Param.Send.{IsSend, part_keyless, owning_send, sendable}
use Rattle.std.proofs.Crossing.{frees}
use Rattle.host_handle.specs.declared.held.Held.{Held}
use Rattle.host_handle.specs.contracts.held.Held as value
use Rattle.host_handle.proofs.held.Held.TheSendSync.{the_send}
use Rattle.host_handle.specs.Held.{holds}
use Rattle.host_handle.specs.contracts.raw_box.Handle.{the_row, the_type}

abbrev heap : Global
heap = record { memory = record { seal = tt } }

holds_keyless : (p : Ptr) (x : Option Held) → Keyless (holds p x)
unfolding holds
holds_keyless p None = tt
holds_keyless null_ptr (Some v) = (tt, frees.frees heap (raw (lone value.the_row.mir)) null_ptr)
holds_keyless (block_ptr b o) (Some v) =
    (part_keyless value.the_row the_send full_share v b o, frees.frees heap (raw (lone value.the_row.mir)) (block_ptr b o))

pub send : IsSend the_row
send = owning_send the_type (search sendable, tt) (λ d. holds_keyless d.at d.held) (λ k x w. tt)
