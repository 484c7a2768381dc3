-- The numbers of faults (docs/REFUSALS.md), and where each is.
use Rattle.std.specs.Prelude.{ℕ, Option, Some, None, option_map}
use Rattle.classic.specs.Faults.{translate_fault_number, translate_fault_instruction}
use Rattle.classic_program.specs.Faults.{classic_fault_number, classic_fault_instruction}
use Rattle.classic_program.specs.ReadFaults.{read_fault_number, read_fault_line}
use Rattle.insn_codec.specs.Faults.{decode_fault_number, decode_fault_slot}
use Rattle.program_files.specs.ProgramFile.{load_fault_number, load_fault_line}
use Rattle.verifier.specs.Numbers.{refusal_number, refusal_slot}
use Rattle.host_programs.specs.declared.fault.OpenFault.{OpenFault}
use Rattle.host_programs.specs.declared.fault.OpenFault.TheVariants.{ContextLength, TooManyMaps, BadShape, File, Bytes}
use Rattle.host_programs.specs.declared.fault.OpenFault.TheVariants.{Program, NotUtf8, Unread, Flawed, Untranslated}
use Rattle.host_programs.specs.declared.fault.Place.{Place}
use Rattle.host_programs.specs.declared.fault.Place.TheVariants as places

abbrev pub open_fault_number : OpenFault → ℕ
open_fault_number ContextLength = 63
open_fault_number TooManyMaps = 53
open_fault_number (BadShape map) = 52
open_fault_number (File fault) = load_fault_number fault
open_fault_number (Bytes fault) = decode_fault_number fault
open_fault_number (Program refusal) = refusal_number refusal
open_fault_number (NotUtf8 line) = 101
open_fault_number (Unread fault) = read_fault_number fault
open_fault_number (Flawed fault) = classic_fault_number fault
open_fault_number (Untranslated fault) = translate_fault_number fault

abbrev pub open_fault_place : OpenFault → Option Place
open_fault_place ContextLength = None
open_fault_place TooManyMaps = None
open_fault_place (BadShape map) = Some (places.Map map)
open_fault_place (File fault) = option_map places.Line (load_fault_line fault)
open_fault_place (Bytes fault) = option_map places.Slot (decode_fault_slot fault)
open_fault_place (Program refusal) = option_map places.Slot (refusal_slot refusal)
open_fault_place (NotUtf8 line) = Some (places.Line line)
open_fault_place (Unread fault) = option_map places.Line (read_fault_line fault)
open_fault_place (Flawed fault) = option_map places.Instruction (classic_fault_instruction fault)
open_fault_place (Untranslated fault) = option_map places.Instruction (translate_fault_instruction fault)
