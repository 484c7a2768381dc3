-- What the calls on worlds say of the values that handles hold.
use Rattle.std.specs.Prelude.{◌≡◌, ℕ, ℤ, pos, neg_ℤ, ◌<ℤ◌, List, [], length, Option, Some, None, Ok, Err}
use Rattle.bpf_model.specs.Call.{errno_number}
use Rattle.bpf_model.specs.declared.event.Answer.{Answer}
use Rattle.bpf_model.specs.declared.event.Answer.TheVariants as answers
use Rattle.bpf_model.specs.declared.event.Event.{Event}
use Rattle.bpf_model.specs.declared.event.EventRefusal.{EventRefusal}
use Rattle.bpf_model.specs.declared.event.EventRefusal.TheVariants as refusals
use Rattle.bpf_model.specs.Machine.{Loaded}
use Rattle.bpf_model.specs.View.{WorldView, start_view}
use Rattle.bpf_model.specs.declared.limits.MapShape.{MapShape}
use Rattle.world.specs.Through.{RunsThrough}
use Rattle.world_laws.specs.Reacting.{full_reaction}
use Rattle.world_laws.specs.Loads.{with_program}
use Rattle.host_programs.specs.Opened.{OpenProgram}

-- The number of errno.h for a refusal: ESRCH for a run that is none or has ended, ENXIO for a program or a map that is none, EAGAIN
-- where no run slot is free, EBUSY for a run that has not ended, EINVAL for a length.
abbrev pub refusal_error : EventRefusal → ℕ
refusal_error refusals.NoRun = 3
refusal_error refusals.Ended = 3
refusal_error refusals.NoProgram = 6
refusal_error refusals.BadContext = 22
refusal_error refusals.RunsFull = 11
refusal_error refusals.NoMap = 6
refusal_error refusals.BadLength = 22
refusal_error refusals.StillRunning = 16

-- The number that C is given for an answer: of a step whether it is the exit, of a reap whether an element was reclaimed. (Of a
-- start it is the run: its call says so.)
abbrev pub answer_number : Answer → ℤ
answer_number (answers.Started run) = pos 0
answer_number answers.Moved = pos 0
answer_number (answers.Exited value) = pos 1
answer_number (answers.Ret (Ok done)) = pos 0
answer_number (answers.Ret (Err errno)) = neg_ℤ (pos (errno_number errno))
answer_number (answers.Found None) = neg_ℤ (pos 2)
answer_number (answers.Found (Some value)) = pos 0
answer_number answers.Done = pos 0
answer_number (answers.Reaped None) = pos 0
answer_number (answers.Reaped (Some element)) = pos 1
answer_number (answers.Refused refusal) = neg_ℤ (pos (refusal_error refusal))

-- Where a world is held, it makes its one step on the event. Else nothing happens.
abbrev pub Reacts : Event → Option WorldView → Option WorldView → Type 0
Reacts event None new = new ≡ None
Reacts event (Some w) new = new ≡ Some (full_reaction w event).1

-- The number is that of the world's answer to the event, or -EBADF where none is held.
abbrev pub IsNumberOf : Event → Option WorldView → ℤ → Type 0
IsNumberOf event None number = number ≡ neg_ℤ (pos 9)
IsNumberOf event (Some w) number = number ≡ answer_number (full_reaction w event).0

-- The answer is the world's to the event.
abbrev pub IsAnswer : Event → Option WorldView → Answer → Type 0
IsAnswer event None answer = ⊥
IsAnswer event (Some w) answer = (full_reaction w event).0 ≡ answer

-- The answer is that a key has these bytes.
abbrev pub FindsBytes : Answer → List ℕ → Type 0
FindsBytes (answers.Found (Some value)) bytes = bytes ≡ value.items
FindsBytes answer bytes = ⊥

-- The answer is that a key has so many bytes.
abbrev pub FindsLength : Answer → ℕ → Type 0
FindsLength (answers.Found (Some value)) count = count ≡ length value.items
FindsLength answer count = ⊥

-- a world of new maps of these shapes, without programs
pub record IsNewWorld (shapes : List MapShape) (w : WorldView) : Type 0 where
  pub names : List (List ℕ)
  pub new : w ≡ start_view names shapes []

-- In the world that is held the run goes through.
abbrev pub RunsThroughIn : Option WorldView → ℕ → List ℕ → ℕ → Option WorldView → Type 0
RunsThroughIn None prog context value new = ⊥
RunsThroughIn (Some old) prog context value new =
    (w : WorldView) × (new ≡ Some w) × RunsThrough old prog context value w

-- a number below 0
abbrev pub IsNegative : ℤ → Type 0
IsNegative n = n <ℤ pos 0

-- The world that is held has the program behind its others, and the number is that of its place.
abbrev pub LoadsInto : Option WorldView → Loaded → Option WorldView → ℤ → Type 0
LoadsInto None program new number = ⊥
LoadsInto (Some w) program new number =
    (new ≡ Some (with_program program w)) × (number ≡ pos (length w.programs))

-- The same of the program that another handle holds, bound to these maps.
abbrev pub LoadsProgram : Option OpenProgram → List ℕ → Option WorldView → Option WorldView → ℤ → Type 0
LoadsProgram None maps old new number = ⊥
LoadsProgram (Some p) maps old new number =
    LoadsInto old (record { code = p.checked.program; maps = maps; context_len = p.checked.ctx_len }) new number
