-- The runtime's reaction to each event, as a function of what a world keeps, and that to a list of
-- events.
use Rattle.std.specs.Prelude.{ℕ, List, [], ◌∷◌, Option, Some, None, slice_get}
use Rattle.bpf_model.specs.declared.event.Event.{Event}
use Rattle.bpf_model.specs.declared.event.Event.TheVariants.{Step}
use Rattle.bpf_model.specs.declared.event.Answer.{Answer}
use Rattle.bpf_model.specs.declared.insn.Insn.{Insn}
use Rattle.bpf_model.specs.declared.insn.Insn.TheVariants.{Alu, Unary, LoadNumber, LoadMap, Jump}
use Rattle.bpf_model.specs.declared.insn.Insn.TheVariants.{JumpLong, JumpIf, Call, Exit, Load}
use Rattle.bpf_model.specs.declared.insn.Insn.TheVariants.{LoadSigned, Store}
use Rattle.bpf_model.specs.declared.insn.CallKind.TheVariants.{Helper, Kernel}
use Rattle.bpf_model.specs.Access.{byte_count, unsigned_width}
use Rattle.bpf_model.specs.Arithmetic.{alu, unary, compares, loaded_signed}
use Rattle.bpf_model.specs.Call.{helper_of, kernel_function_of}
use Rattle.bpf_model.specs.Machine.{Loaded, run_at}
use Rattle.bpf_model.specs.Operand.{unary_source}
use Rattle.bpf_model.specs.Step.{insn_at}
use Rattle.bpf_model.specs.View.{RunView, WorldView}
use Rattle.model_laws.specs.Reactions.{reaction}
use Rattle.world_laws.specs.Locating.{loaded_word}
use Rattle.world_laws.specs.Moving.{word_in, operand_word, with_word, jumped_by, branched, map_word}
use Rattle.world_laws.specs.Moving.{moves_on, ends_with, stored_word}
use Rattle.world_laws.specs.Calling.{idle, helper_called, kernel_called}

-- What an instruction does to a run's words, in run slot r of a world.
abbrev pub insn_step : Insn → Loaded → ℕ → RunView → WorldView → Answer × WorldView
insn_step (Alu op size dst src) program r v w =
    moves_on r (with_word 1 dst (alu size op (word_in v dst) (operand_word v src)) v) w
insn_step (Unary op dst) program r v w =
    moves_on r (with_word 1 dst (unary op (word_in v (unary_source op dst))) v) w
insn_step (LoadNumber dst n) program r v w = moves_on r (with_word 2 dst n v) w
insn_step (LoadMap dst map) program r v w = moves_on r (with_word 2 dst (map_word map) v) w
insn_step (Jump offset) program r v w = moves_on r (jumped_by offset v) w
insn_step (JumpLong imm) program r v w = moves_on r (jumped_by imm v) w
insn_step (JumpIf condition size dst src offset) program r v w =
    moves_on r (branched (compares size condition (word_in v dst) (operand_word v src)) offset v) w
insn_step (Call Helper imm) program r v w = helper_called (helper_of imm) program r v w
insn_step (Call Kernel imm) program r v w = kernel_called (kernel_function_of imm) r v w
insn_step Exit program r v w = ends_with r v (word_in v 0) w
insn_step (Load width dst src offset) program r v w =
    moves_on r (with_word 1 dst (loaded_word w v (byte_count width) offset (word_in v src)) v) w
insn_step (LoadSigned width dst src offset) program r v w =
    moves_on r (with_word 1 dst (loaded_signed width
    (loaded_word w v (byte_count (unsigned_width width)) offset (word_in v src))) v) w
insn_step (Store width dst offset src) program r v w =
    stored_word (byte_count width) offset (word_in v dst) (operand_word v src) r v w

-- the step of an instruction, where one begins at the run's place
abbrev pub step_at : Option Insn → Loaded → ℕ → RunView → WorldView → Answer × WorldView
step_at (Some i) program r v w = insn_step i program r v w
step_at None program r v w = idle w

abbrev pub step_in : Option Loaded → ℕ → RunView → WorldView → Answer × WorldView
step_in (Some program) r v w = step_at (insn_at program.code v.place) program r v w
step_in None r v w = idle w

abbrev pub run_step_of : Option RunView → ℕ → WorldView → Answer × WorldView
run_step_of (Some v) r w = step_in (slice_get w.programs v.program) r v w
run_step_of None r w = idle w

-- A step of the run in a run slot: the step of the instruction at its place.
abbrev pub word_step : WorldView → ℕ → Answer × WorldView
word_step w r = run_step_of (run_at w.runs r) r w

-- The reaction to any event: where `reaction` leaves it to an instruction, the step of that.
abbrev pub or_step : Option (Answer × WorldView) → WorldView → Event → Answer × WorldView
or_step (Some x) w event = x
or_step None w (Step run) = word_step w run
or_step None w event = idle w

-- The runtime's own step on each event: the answer, and what the world keeps after it.
abbrev pub full_reaction : WorldView → Event → Answer × WorldView
full_reaction w event = or_step (reaction w event) w event

-- an answer before the later ones
abbrev pub with_first_answer : Answer → List Answer × WorldView → List Answer × WorldView
with_first_answer answer rest = (answer ∷ rest.0, rest.1)

-- the answers to events one after another, and the view after them
abbrev pub full_reactions : WorldView → List Event → List Answer × WorldView
full_reactions w [] = ([], w)
full_reactions w (event ∷ events) =
    with_first_answer (full_reaction w event).0 (full_reactions (full_reaction w event).1 events)
