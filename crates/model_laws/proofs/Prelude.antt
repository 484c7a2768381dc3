-- The names of this crate that most proofs cite, passed on from one place.
pub use Rattle.bpf_model.specs.declared.call.ArgumentKind.{ArgumentKind}
pub use Rattle.bpf_model.specs.declared.call.ArgumentKind.TheVariants.{MapOfProgram, KeyOfMap, ValueOfMap, AnyNumber}
pub use Rattle.bpf_model.specs.declared.call.Errno.{Errno}
pub use Rattle.bpf_model.specs.declared.call.Errno.TheVariants.{NoEntry, NoMemory, TooBig, InvalidArgument, Exists}
pub use Rattle.bpf_model.specs.declared.call.Helper.{Helper}
pub use Rattle.bpf_model.specs.declared.call.Helper.TheVariants.{Lookup, Update, Delete}
pub use Rattle.bpf_model.specs.declared.call.KernelFunction.{KernelFunction}
pub use Rattle.bpf_model.specs.declared.call.KernelFunction.TheVariants.{ReadUnlock, ReadLock}
pub use Rattle.bpf_model.specs.declared.call.ResultKind.{ResultKind}
pub use Rattle.bpf_model.specs.declared.call.ResultKind.TheVariants.{ElementOrNull, Integer}
pub use Rattle.bpf_model.specs.declared.entry.Entry.{Entry}
pub use Rattle.bpf_model.specs.declared.event.Answer.{Answer}
pub use Rattle.bpf_model.specs.declared.event.Answer.TheVariants.{Moved, Exited, Done, Started, Ret, Found, Refused, Reaped}
pub use Rattle.bpf_model.specs.declared.event.Event.{Event}
pub use Rattle.bpf_model.specs.declared.event.Event.TheVariants.{Step, Advance, Start, Reap, Drop}
pub use Rattle.bpf_model.specs.declared.event.EventRefusal.{EventRefusal}
pub use Rattle.bpf_model.specs.declared.event.EventRefusal.TheVariants.{BadContext, NoMap, BadLength, NoProgram}
pub use Rattle.bpf_model.specs.declared.event.Given.{Given}
pub use Rattle.bpf_model.specs.declared.event.Given.TheVariants.{Free, Worn}
pub use Rattle.bpf_model.specs.declared.event.ReapedElement.{ReapedElement}
pub use Rattle.bpf_model.specs.declared.insn.AluOp.{AluOp}
pub use Rattle.bpf_model.specs.declared.insn.AluOp.TheVariants.{Move, Add, Sub}
pub use Rattle.bpf_model.specs.declared.insn.CallKind.{CallKind}
pub use Rattle.bpf_model.specs.declared.insn.CallKind.TheVariants.{Kernel}
pub use Rattle.bpf_model.specs.declared.insn.Insn.{Insn}
pub use Rattle.bpf_model.specs.declared.insn.Insn.TheVariants.{Call, Store, Load, LoadSigned, JumpIf, Exit, Alu, LoadMap, Jump, JumpLong, Unary, LoadNumber}
pub use Rattle.bpf_model.specs.declared.insn.Operand.{Operand}
pub use Rattle.bpf_model.specs.declared.insn.Operand.TheVariants.{Immediate, Register}
pub use Rattle.bpf_model.specs.declared.insn.UnaryOp.{UnaryOp}
pub use Rattle.bpf_model.specs.declared.insn.UnaryOp.TheVariants.{Negate, ByteSwap, MoveSigned}
pub use Rattle.bpf_model.specs.declared.limits.MapKind.{MapKind}
pub use Rattle.bpf_model.specs.declared.limits.MapKind.TheVariants.{Hash, Array}
pub use Rattle.bpf_model.specs.declared.limits.MapShape.{MapShape}
pub use Rattle.bpf_model.specs.declared.limits.TheConstants.{FRAME_BYTES, MAX_ENTRIES, MAX_DEPTH, MAX_MAPS, MAX_RUNS, MAX_PROGRAMS, REGISTERS, MAX_SPARE}
pub use Rattle.bpf_model.specs.declared.limits.TheConstants.{MAX_SLOTS, CTX_BYTES, MAX_REUSE}
pub use Rattle.bpf_model.specs.declared.opcode.Condition.{Condition}
pub use Rattle.bpf_model.specs.declared.opcode.Condition.TheVariants.{Equal, NotEqual}
pub use Rattle.bpf_model.specs.declared.opcode.SignedWidth.{SignedWidth}
pub use Rattle.bpf_model.specs.declared.opcode.Size.{Size}
pub use Rattle.bpf_model.specs.declared.opcode.Size.TheVariants.{Word64, Word32}
pub use Rattle.bpf_model.specs.declared.opcode.Width.{Width}
pub use Rattle.bpf_model.specs.declared.opcode.Width.TheVariants.{Eight}
pub use Rattle.bpf_model.specs.declared.slot.Slot.{Slot}
pub use Rattle.bpf_model.specs.declared.value.Cell.{Cell}
pub use Rattle.bpf_model.specs.declared.value.Cell.TheVariants.{Byte, Unwritten, Part}
pub use Rattle.bpf_model.specs.declared.value.Reference.{Reference}
pub use Rattle.bpf_model.specs.declared.value.Reference.TheVariants.{Elem, Frame, MapRef, Ctx}
pub use Rattle.bpf_model.specs.declared.value.Value.{Value}
pub use Rattle.bpf_model.specs.declared.value.Value.TheVariants.{Number, Pointer, Nothing}
pub use Rattle.model_laws.specs.Accounted.{born_count, kept_count, IsFull}
pub use Rattle.model_laws.specs.Alone.{IsOwn, SharesNothing}
pub use Rattle.model_laws.specs.ByKind.{StepsByKind, HelperStep, AccessesElement, element_load, element_store, Acts, KernelStep, value_argument, bound_map}
pub use Rattle.model_laws.specs.ByKind.{key_argument, LookupStep, UpdateStep, DeleteStep, map_argument}
pub use Rattle.model_laws.specs.Consistent.{IsSingle, IsConsistent, AllBegun, StaysLinked, IsBornValue, HasLengths, IsBorn, IsBornCell}
pub use Rattle.model_laws.specs.Example.{example_shape, lookup_and_load, lookup_program}
pub use Rattle.model_laws.specs.Growth.{ElementsGrow, IsLaterLife, IsLaterElement}
pub use Rattle.model_laws.specs.Holds.{HoldsValue, HoldsState, HoldsCell}
pub use Rattle.model_laws.specs.Locations.{Location, InSlot, InContext, InFrame, AtMap, named_location, IsNearLocation}
pub use Rattle.model_laws.specs.Matching.{Matches, Simulates, half, ChangesHalf}
pub use Rattle.model_laws.specs.Near.{IsNear, IsNearOffset, IsNearReference, IsNearCell}
pub use Rattle.model_laws.specs.Plain.{WritesByte, Names, WritesRegister, without_entry, without_next, WithoutByte, IsSimple, TakesByte}
pub use Rattle.model_laws.specs.PlainMaps.{IsPlainWithMaps, GuardedLookup, LookupPart, LookupCall, lookup_call, FrameCopy, KeyAddress, MapLoad, NullTest}
pub use Rattle.model_laws.specs.PlainMaps.{ValueLoad, part_insn, IsGuardedLookup, IsLookupPart, LacksRegister, lacks_call, lacks_next, lock_call, unlock_call}
pub use Rattle.model_laws.specs.PlainMaps.{part_slot, HasForm, InSection, section_entry, section_lock, section_unlock, section_next, lacks_entry, IsValueLoad}
pub use Rattle.model_laws.specs.Reactions.{fresh_view, with_map, with_run, step_refused, shape_shown, step_by, Pick, first_pick, delete_at, reap_by, start_by}
pub use Rattle.model_laws.specs.Reactions.{start_reaction, reaction, locked_view, unlocked_view, or_pick, delete_reaction, update_at, update_reaction}
pub use Rattle.model_laws.specs.Reactions.{read_at, read_reaction, advanced_by, advance_reaction, reap_reaction, drop_by, refused_as, drop_refused}
pub use Rattle.model_laws.specs.Reactions.{drop_reaction}
pub use Rattle.model_laws.specs.Replies.{IsOfKind}
pub use Rattle.model_laws.specs.Scheduled.{IsScheduled, queued_in, Waits}
pub use Rattle.model_laws.specs.Steps.{AreSteps}
pub use Rattle.model_laws.specs.Views.{updated, updated_by, retired_slot, given_at, reaped_view, turned_view, written_by, written, slot_given_back}
pub use Rattle.model_laws.specs.Views.{filled_from, retired_key, shown_error, overwritten_slot, filled, deleted_from, deleted, value_shown, delete_result}
