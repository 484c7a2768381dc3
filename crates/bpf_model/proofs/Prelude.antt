-- The names that most proofs cite, of this crate and of the library, passed on from one place.
pub use Rattle.std.specs.Bool.{Decides}
pub use Rattle.std.specs.Box.Ownership.{box_owns}
pub use Rattle.std.specs.Cmp.Lexicographic.{slice_cmp, texts_ties}
pub use Rattle.std.specs.FinMap.{get, insert, remove, len, get-empty, empty, len-empty, same_map, entries, get-insert, get-remove, get-entries}
pub use Rattle.std.specs.Fmt.{decimal, option_append}
pub use Rattle.std.specs.Global.{Vec}
pub use Rattle.std.specs.Int.{w32, w64, w16, swap_bytes, bit_at, IsInRange, cast_signed, Width, bit_not, trailing_zeros, to_le_bytes, byte_at, leading_zeros}
pub use Rattle.std.specs.Int.{from_le_bytes}
pub use Rattle.std.specs.Int.Bits.{and_self, and_zero_l}
pub use Rattle.std.specs.Int.Digits.{digits_of, AllBelowBase}
pub use Rattle.std.specs.Io.KnownBytes.{Appends, Consumes}
pub use Rattle.std.specs.List.{range_with_len, AllByRecursion, flat_map, onto_first, sum_by, prefix_len, find, Contains, filter, position_or_len, list_all}
pub use Rattle.std.specs.List.{list_any}
pub use Rattle.std.specs.Option.{option_flatten}
pub use Rattle.std.specs.Ordering.{nat_cmp, is_lt, int_eq}
pub use Rattle.std.specs.Prelude.{slice_get, slice_set, if◌then◌else◌, ◌==◌, slice_index, ◌+ℤ◌, IfSome, ◌&&◌, pos, nat_lt, Result, Ok, nat_le, Err}
pub use Rattle.std.specs.Prelude.{option_map, is_some, slice_index_or, count_by, All, replicate, negsuc, IfNone, not, bytes_eq, IfOk, bit_and, codes}
pub use Rattle.std.specs.Prelude.{option_copied, ◌-ℤ◌, max, IfErr, bit_or, OnOk, unwrap_or, FitsSigned, bit_xor, ◌↔◌, string_bytes, IsSome, min, MatchOption}
pub use Rattle.std.specs.Prelude.{position, neg_ℤ, unsigned_abs, MatchResult, IsOk, MatchBool, ltb, nat_eq, OnErr, option_to_list, IsTrue, int_lt, int_le}
pub use Rattle.std.specs.Prelude.{int_div, int_rem}
pub use Rattle.std.specs.Result.{result_ok}
pub use Rattle.std.specs.Str.{all_ascii_digits, IsUtf8, IsAscii}
pub use Rattle.std.specs.Str.Parse.{digits_value}
pub use Rattle.std.specs.Vec.{with_items}
pub use Rattle.std.specs.contracts.impls.GlobalAllocator.TheImpl.{ghosts}
pub use Rattle.std.specs.declared.alloc.Global.{Global}
pub use Rattle.std.specs.declared.cmp.Ordering.{Ordering}
pub use Rattle.std.specs.declared.cmp.Ordering.TheVariants.{Less, Equal, Greater}
pub use Rattle.std.proofs.BoxSteps.Steps.{box_out, box_in}
pub use Rattle.std.proofs.ByRecursion.{All-push}
pub use Rattle.std.proofs.Common.{◌≡◌, ◌∙◌, sym, ap, ℕ, subst, List, arith, refl, ◌<◌, length, ◌+◌, Some, [], ◌∷◌, ◌≤◌, ◌++◌, None, inl, inr, Option, suc}
pub use Rattle.std.proofs.Common.{false, true, Bool, rules, zero, ◌^◌, ◌≢◌, ◌-◌, map, ◌*◌, ◌%◌, ◌/◌, get_or, drop, take, cond, ◌⊎◌, ℤ, append_assoc, eqb, ap₂}
pub use Rattle.std.proofs.Common.{vec_len, ⊎_elim, vec_capacity, lit<, Bor, ◌||◌, set, add-one, below_more, true≢false, of_z}
pub use Rattle.std.proofs.KnownBytes.{Appends-trans}
pub use Rattle.std.proofs.Math.Dec.{eqb-suc-zero}
pub use Rattle.std.proofs.Math.Decide.{dec_lt}
pub use Rattle.std.proofs.Math.Nat.{mod-eq_of_lt, pow-suc, div-le_self, div-div-eq-div-mul, le-max_left, max-le, eq-zero-or-pos, mod-le, mul-mod_left}
pub use Rattle.std.proofs.Math.Nat.{le-max_right, zero-add, one-le-pow, pow-le-pow_right, add-mul, mul-add-div_right, add-mod, div-eq_of_lt, mul-le-mul_right}
pub use Rattle.std.proofs.Math.Nat.{mod-lt}
pub use Rattle.std.proofs.Math.Path.{fun_ext}
pub use Rattle.std.proofs.Math.Pow.{shr_mono}
pub use Rattle.std.proofs.Math.Seq.{drop-append_seam, take-append_seam, drop-cons}
pub use Rattle.std.proofs.alloc.Calls.{Goes-blank, handle_tells}
pub use Rattle.std.proofs.cell.Inside.{Good}
pub use Rattle.std.proofs.lemmas.Bool.{false≢true, cases_eq, eq-eqb, cases_lt, ne_eqb, eqb-true, cond-false, and_parts, false_from_ne_true, lt-ltb, cond-true}
pub use Rattle.std.proofs.lemmas.Bool.{le-ltb, cases_Bool, le-leb, lt-leb, eqb-false, leb-true, ltb-true, and_right, ltb-false, not_from_true}
pub use Rattle.std.proofs.lemmas.Bool.Decides.{nat_tests, Decides-int_eq, Decides-eqb, eqb_tells}
pub use Rattle.std.proofs.lemmas.Cmp.{nat_list_cmp_total}
pub use Rattle.std.proofs.lemmas.Fmt.{digits_decimal, decimal_digit}
pub use Rattle.std.proofs.lemmas.Int.{to_z-of_z, ints, to_z_pos, int_rem_euclid_is, of_z-to_z}
pub use Rattle.std.proofs.lemmas.Int.Digits.{first_digits_of, all_below_base_digits_of, same_from_digits_of}
pub use Rattle.std.proofs.lemmas.List.{length-set, length-map, length-append, length-replicate, append-nil, map-set, map-append, take_more, get_or-set_same}
pub use Rattle.std.proofs.lemmas.List.{get_or-set_other, length-drop, drop_all, get_or_past, get_or_default, take_all, length-take, get_or_read}
pub use Rattle.std.proofs.lemmas.List.{with_items_is, get_or-replicate, drop_more, take-append-drop, length-take-le, same_lists, append_cancel_left, map_push}
pub use Rattle.std.proofs.lemmas.List.{drop-drop, take-replicate, take_min, get_or-take, take-append-le, nil_from_length, append_cancel_right}
pub use Rattle.std.proofs.lemmas.List.{replicate-append-replicate}
pub use Rattle.std.proofs.lemmas.List.Concat.{flat_map-append}
pub use Rattle.std.proofs.lemmas.List.Elements.{All-nil, All-cons, All-append, All-tail, All-head, filter-append}
pub use Rattle.std.proofs.lemmas.List.Folds.{sum_by-replicate}
pub use Rattle.std.proofs.lemmas.List.FromFn.{length-map-range_with_len, length-range_with_len, get_or-map-range_with_len, map-range_with_len_more}
pub use Rattle.std.proofs.lemmas.List.FromFn.{get_or-range_with_len}
pub use Rattle.std.proofs.lemmas.List.Sorted.{ranks_by}
pub use Rattle.std.proofs.lemmas.List.Splits.{slice_split_none, slice_split_at, slice_split-cons_yes, slice_split-cons_no}
pub use Rattle.std.proofs.lemmas.List.Sums.{sum_by-cons, sum_by_push, sum_by-append}
pub use Rattle.std.proofs.lemmas.Map.Lookups.{exact_bytes}
pub use Rattle.std.proofs.lemmas.Nat.{pow_pos, mod_below, and_le_l, xor_lt, shr_le, and_mod, and_comm, shr_split, or_lt, and_le_r, and_mask, and_shr}
pub use Rattle.std.proofs.lemmas.Nat.{le_bytes_4, from_le_bytes-to_le_bytes_4, mul-le, and_block, leading_top, and-not, pow-add}
pub use Rattle.std.proofs.lemmas.Nat.Bits.{bit_at-trailing_zeros, bit_at_or, bit_at_xor, bit_at-lt, ones_shr, bit_at_and, same_from_bits}
pub use Rattle.std.proofs.lemmas.Nat.Bits.{same_from_bits_below, bit_at-zero}
pub use Rattle.std.proofs.lemmas.Option.{same_Some, none-some, slice_get_within, slice_get_read, slice_get-get_or, get_or_from_slice_get, IfSome_then}
pub use Rattle.std.proofs.lemmas.Option.{slice_get_past, slice_get-map, cond_some, slice_get_cases}
pub use Rattle.std.proofs.lemmas.Result.{err_from_is_err_and, IfOk-weaker, on_ok_weaker}
pub use Rattle.std.proofs.lemmas.Slice.Eq.{bytes_eq-Decides, slice_eq-Decides}
pub use Rattle.std.proofs.lemmas.Str.{IsUtf8-from_ascii}
pub use Rattle.std.proofs.lemmas.Str.Parse.{IsNumeralModel, numerals_by_value, tells_all_ascii_digits}
pub use Rattle.std.proofs.raw_atomic.Walks.{proved_at, leaves}
pub use Rattle.bpf_model.proofs.Bytes.{length-with_bytes, within, before, behind}
pub use Rattle.bpf_model.proofs.Cases.{oldest-none, option_cases, choice, both, none-without, flattened, run-behind, same-pos, same-since}
pub use Rattle.bpf_model.proofs.Keys.{same_key-true, same_key, same-same_key, other-same_key, same_key-false}
pub use Rattle.bpf_model.proofs.Lists.{get-below, get-map, get-set_other, get-set_cases, get-set_there, get-append_cases, tails, heads, get-append, set-same}
pub use Rattle.bpf_model.proofs.Lists.{drop-next, cons-nil, get-set_same, get-replicate, key_cases, get-append_last, take-next, cloned, map-take}
pub use Rattle.bpf_model.proofs.Places.{starts_apart, slot_count_some, length-starts_from, start-insn, start-inside, start-insn_at, start_of-insn}
pub use Rattle.bpf_model.proofs.Places.{starts_ordered, insn_at-beyond, starts-next, start-entry, starts_inside, starts_increase, insn_of-start}
pub use Rattle.bpf_model.specs.Access.{byte_count, region_offset, number_at, unsigned_width, with_bytes}
pub use Rattle.bpf_model.specs.Arithmetic.{loaded_signed, immediate, compares, alu, signed, unary, operate, word, reordered, negated}
pub use Rattle.bpf_model.specs.Call.{helper_of, kernel_function_of, ret_word}
pub use Rattle.bpf_model.specs.Drain.{AnswersAsScheduled, AreScheduledAnswers, machines}
pub use Rattle.bpf_model.specs.Element.{Element, Unlinked, is_reclaimed, Linked, Reclaimed, with_life, accessible, Life, with_value, is_linked, IsLinkedAt}
pub use Rattle.bpf_model.specs.Element.{unlinked, linked_count, set_to, changed, stored_in, overwritten, loaded_from, newborn, unless_reclaimed, HasLife}
pub use Rattle.bpf_model.specs.Element.{IsAbsent}
pub use Rattle.bpf_model.specs.Event.{DoesEvent, refusal, Answers, PerformsEvent, key_refusal, start_refusal, if_ended, Starts, step_refusal, update_refusal}
pub use Rattle.bpf_model.specs.Event.{if_full, if_running, drop_refusal}
pub use Rattle.bpf_model.specs.Exit.{ExitsWith, ExitsFrom, HasNoMaps, exits_now, exits_later, names_map}
pub use Rattle.bpf_model.specs.Frame.{byte_of, is_within, bytes_at, frame_bytes, read, found, with_number, are_parts, bytes_from, with_reference}
pub use Rattle.bpf_model.specs.Frame.{is_same_reference, is_part}
pub use Rattle.bpf_model.specs.Graph.{distance, falls, LeadsTo, JumpsTo, GoesTo, Reached, EndsWithExit, reached_entry, reached_next}
pub use Rattle.bpf_model.specs.Headline.{AnswersAsMachine, AreNeverStuck, AllExitInTime, AreMachineAnswers, AreReclaimedLate, moved_once, moves_of, moved_by}
pub use Rattle.bpf_model.specs.Headline.{ExitsInTime, moves_after}
pub use Rattle.bpf_model.specs.Helper.{LooksUp, Updates, Settles, RemovesFrom, Writes, Deletes, Removes, error_of_kind, update_error, Replaces, hash_error}
pub use Rattle.bpf_model.specs.Helper.{array_error}
pub use Rattle.bpf_model.specs.History.{IsHistory, last_of, AllStates}
pub use Rattle.bpf_model.specs.Machine.{Run, Loaded, open_sections, Machine, environment, moves, section_of, run_at, fresh_run, lowest_free, with_store}
pub use Rattle.bpf_model.specs.Machine.{locked, unlocked, with_runs, exits, start_machine, is_inside, begins}
pub use Rattle.bpf_model.specs.MachineStep.{InsnStep, OutcomeStep, StepsRun, RunStep, StepsServed, Resumes, StepsAlone, NeverStuck}
pub use Rattle.bpf_model.specs.MapState.{Store, MapState, new_map, index_key, with_elements, all_new_elements, with_bag, given_of, slots_of_shape, returned}
pub use Rattle.bpf_model.specs.MapState.{array_element, shape_of, new_bag, shape_in, with_given, new_elements}
pub use Rattle.bpf_model.specs.Opcode.{opcode_byte}
pub use Rattle.bpf_model.specs.Operand.{operand_value, computed, decided, unary_source, offset_by, sum_of, difference_of, of_numbers, null_test, is_zero}
pub use Rattle.bpf_model.specs.Places.{slot_total, StartsAt, starts_from}
pub use Rattle.bpf_model.specs.Real.{AreBytes, IsReal, AreReal, AllBytes}
pub use Rattle.bpf_model.specs.Reclaim.{Reclaims}
pub use Rattle.bpf_model.specs.Refines.{Tracks, TracksSchedule, RefinesSchedule, times, RunSlotRefines, IsReachedSchedule, RunRefines, slot_view, AreWords}
pub use Rattle.bpf_model.specs.Refines.{named, SlotsStand, MapRefines, lists_of, ElementsStand, IsElementKept}
pub use Rattle.bpf_model.specs.Replay.{HasHistoryTo}
pub use Rattle.bpf_model.specs.Request.{signature_of, found_value, CallHelper, bound_shape, MapArgument, Request, asks, arguments_of, Argument, BytesArgument}
pub use Rattle.bpf_model.specs.Request.{LoadElement, StoreElement, Enter, Leave, resumed, ServesRequest, named_map, argument_of, section_request}
pub use Rattle.bpf_model.specs.Request.{load_request, store_request, called_shape, loads, extended_reply, NumberArgument}
pub use Rattle.bpf_model.specs.Schedule.{Schedule, Queues, start_schedule, still_open, turned, DoesScheduled, is_any, open_flags, is_unlinked, retired}
pub use Rattle.bpf_model.specs.Schedule.{first_ready, IsScheduledHistory, retired_in, unlinked_between, without_first, no_queues, advanced, is_open}
pub use Rattle.bpf_model.specs.Schedule.{scheduled, TakesFirst, TakesOldest, or_first, reaped}
pub use Rattle.bpf_model.specs.Section.{Section, AllEnded, Has}
pub use Rattle.bpf_model.specs.Shapes.{AreShapes, IsShape, most_births}
pub use Rattle.bpf_model.specs.Spelling.{FitsInsn, text, IsProgram, FitsOperand, slots_of, spelling, slot_bytes, opcode_of, first_slot, tail_slot, slot_at}
pub use Rattle.bpf_model.specs.Spelling.{extension_bits, call_source, next_slot_at, alu_offset, swap_bits, FitsSlot, operand_src, FitsUnary}
pub use Rattle.bpf_model.specs.Step.{insn_at, State, Moves, Outcome, after, sets, slot_count, Exits, put, load_from, Environment, environment_of, returns}
pub use Rattle.bpf_model.specs.Step.{store_to, forward, frame_after, entry, jumps_to, jumps_by, map_value, stored, returned_value, entry_value}
pub use Rattle.bpf_model.specs.Value.{◌>>=◌, number, reference, held}
pub use Rattle.bpf_model.specs.View.{WorldView, RunView, MapView, shapes_of, shapes_of_maps, KeyMap, index_below, uses_at, SlotView, new_map_view, key_in}
pub use Rattle.bpf_model.specs.View.{map_state_of, AreNewMaps, start_view, value_in, unused_slot, uses_in, new_view_of, array_slot}
pub use Rattle.bpf_model.specs.Word.{WordIs, frame_base, element_bases, most_map_slots, slot_base, ByteIs, IsReferenceWord, ctx_base, map_base, map_in}
pub use mathlib.Core.Logic.{dite}
pub use mathlib.Core.Option.{none, some, some-injective, some-ne-none}
pub use mir.MapTy.{inst_fn}
pub use mir.Syntax.{dnil, impl, tnil, a_type, dcons}
pub use mir.Val.{SFits, Val, bits, vptr, vstruct, of_list, hbits, sel, vcons, vnil}
pub use native.Mathlib.Decide.{ℕ_discrete}
