-- The numbers of helpers, kernel functions and errors (bpf-helpers(7); bpf(2); Linux BPF
-- documentation, "BPF Kernel Functions"; the BTF numbers are this runtime's own).
use Rattle.std.specs.Prelude.{ℕ, ◌-◌, ◌^◌, ℤ, pos, Option, Some, None, Result, Ok, Err}
use Rattle.std.specs.Prelude.{if◌then◌else◌}
use Rattle.std.specs.Ordering.{int_eq}
use Rattle.bpf_model.specs.declared.call.Errno.{Errno}
use Rattle.bpf_model.specs.declared.call.Errno.TheVariants.{NoEntry, TooBig, NoMemory, Exists}
use Rattle.bpf_model.specs.declared.call.Errno.TheVariants.{InvalidArgument}
use Rattle.bpf_model.specs.declared.call.Helper.{Helper}
use Rattle.bpf_model.specs.declared.call.Helper.TheVariants.{Lookup, Update, Delete}
use Rattle.bpf_model.specs.declared.call.KernelFunction.{KernelFunction}
use Rattle.bpf_model.specs.declared.call.KernelFunction.TheVariants.{ReadLock, ReadUnlock}

-- bpf_map_lookup_elem, bpf_map_update_elem and bpf_map_delete_elem
abbrev pub helper_of : ℤ → Option Helper
helper_of imm = if int_eq imm (pos 1) then Some Lookup else if int_eq imm (pos 2) then Some Update
    else if int_eq imm (pos 3) then Some Delete else None

-- bpf_rcu_read_lock and bpf_rcu_read_unlock
abbrev pub kernel_function_of : ℤ → Option KernelFunction
kernel_function_of imm =
    if int_eq imm (pos 1) then Some ReadLock else if int_eq imm (pos 2) then Some ReadUnlock
    else None

abbrev pub errno_number : Errno → ℕ
errno_number NoEntry = 2
errno_number TooBig = 7
errno_number NoMemory = 12
errno_number Exists = 17
errno_number InvalidArgument = 22

-- What a helper leaves in r0: 0, or the error as a negative number of 64 bits.
abbrev pub ret_word : Result (Unit {0}) Errno → ℕ
ret_word (Ok done) = 0
ret_word (Err e) = 2 ^ 64 - errno_number e
