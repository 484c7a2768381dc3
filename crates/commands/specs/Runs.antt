-- What `run` writes, of which files, contexts and elements, and how it refuses the others.
use Rattle.std.specs.Prelude.{◌≡◌, ◌≢◌, ◌⊎◌, ℕ, List, [], ◌∷◌, ◌++◌, length, map, All, codes, Bool}
use Rattle.std.specs.Prelude.{true, false, Option, Some, None, slice_get, option_and_then, unwrap_or}
use Rattle.std.specs.Prelude.{option_map, string_bytes, bytes_eq, position}
use Rattle.std.specs.List.{flat_map}
use Rattle.std.specs.Fmt.{decimal}
use Rattle.std.specs.Io.KnownBytes.{Appends}
use Rattle.bpf_model.specs.declared.event.Event.{Event}
use Rattle.bpf_model.specs.declared.event.Event.TheVariants.{Update}
use Rattle.bpf_model.specs.declared.event.EventRefusal.{EventRefusal}
use Rattle.bpf_model.specs.declared.event.EventRefusal.TheVariants.{BadContext}
use Rattle.bpf_model.specs.declared.insn.Insn.{Insn}
use Rattle.bpf_model.specs.declared.limits.MapShape.{MapShape}
use Rattle.bpf_model.specs.Event.{update_refusal}
use Rattle.bpf_model.specs.View.{MapView, WorldView, shapes_of_maps}
use Rattle.maps.specs.Registry.{RegistryView}
use Rattle.script_lines.specs.declared.reply.Reply.{Reply}
use Rattle.script_lines.specs.declared.reply.Reply.TheVariants.{End}
use Rattle.script_lines.specs.ReplyText.{reply_text}
use Rattle.control.specs.Replies.{AreElements}
use Rattle.commands.specs.declared.refusal.CommandRefusal.{CommandRefusal}
use Rattle.commands.specs.declared.refusal.CommandRefusal.TheVariants.{Event as OfEvent, NoPlace}
use Rattle.commands.specs.Refusals.{IsFileRefusal, command_number}
use Rattle.program_files.specs.Verdicts.{memory_number}
use Rattle.program_files.specs.Checks.{IsVerifiedFile}
use Rattle.program_files.specs.ProgramFile.{FileContent}
use Rattle.run_once.specs.declared.once.RunEnd.{RunEnd}
use Rattle.run_once.specs.declared.once.RunEnd.TheVariants.{Exited, NotDone}
use Rattle.run_once.specs.Once.{ComesTo, Ended}
use Rattle.command_words.specs.declared.request.MapElement.{MapElement}
use Rattle.command_words.specs.declared.request.SingleRun.{SingleRun}
use Rattle.commands.specs.Json.{ended_json, traced_json}
use Rattle.commands.specs.Outputs.{TellsVerdict}

-- the number of the map that has the name
abbrev pub map_named : RegistryView → List ℕ → Option ℕ
map_named maps name = position (bytes_eq name) maps.names

abbrev pub shape_named : RegistryView → List ℕ → Option MapShape
shape_named maps name =
    option_and_then (λ number. option_map (λ m. m.shape) (slice_get maps.maps number))
    (map_named maps name)

-- the first test of an update that the element fails: of its map, then of its lengths
abbrev pub element_refusal : RegistryView → MapElement → Option EventRefusal
element_refusal maps e =
    update_refusal (shape_named maps (string_bytes e.map)) (length e.key.items)
    (length e.value.items)

-- each element has a map and its lengths
abbrev pub AllFit : RegistryView → List MapElement → Type 0
AllFit maps elements = All (λ e. element_refusal maps e ≡ None) elements

-- the element is put into its map, whether or not the key has an element
abbrev pub put_event : RegistryView → MapElement → Event
put_event maps e =
    Update (unwrap_or (map_named maps (string_bytes e.map)) 0) (record { items = e.key.items })
    (record { items = e.value.items }) 0

-- The program's one run comes to this end, in a world of new maps of the file's shapes into which
-- the elements were put first, one after another. A text tells its steps, where that is asked for.
abbrev pub RunComesTo : SingleRun → FileContent → List Insn → RunEnd → Bool → List ℕ → WorldView → Type 0
RunComesTo single content program outcome tells steps last =
    ComesTo (shapes_of_maps content.registry.maps) program
    (map (put_event content.registry) single.elements.items) single.context.items outcome tells steps last

-- The file says a program that is verified with its maps and context, the context has the length
-- that the file tells, each element has a map of the file and its lengths, and the program's one
-- run exits so. A text tells its steps, where that is asked for.
pub record HasEnded (bytes : List ℕ) (single : SingleRun) (e : Ended) (tells : Bool) (steps : List ℕ) (last : WorldView)
    : Type 0 where
  pub program : List Insn
  pub file : IsVerifiedFile bytes program
  pub len : length single.context.items ≡ file.content.ctx_len
  pub fit : AllFit file.content.registry single.elements.items
  pub runs : RunComesTo single file.content program (Exited e) tells steps last

-- what `run` says of a run that exits with the value by its n-th step
abbrev pub ended_line : ℕ → ℕ → List ℕ
ended_line value n =
    codes "exit " ++ (decimal value ++ (codes " steps " ++ (decimal n ++ codes "\n")))

-- what a script's `dump` writes of each of the maps, in their order
abbrev pub AreDumps : List MapView → List ℕ → Type 0
AreDumps [] text = text ≡ []
AreDumps (m ∷ maps) text =
    (elements : List Reply) × (rest : List ℕ) × AreElements (Some m) None elements
    × AreDumps maps rest × (text ≡ flat_map reply_text (elements ++ End ∷ []) ++ rest)

-- what is written of the maps behind the exit
abbrev pub IsDumped : Bool → List MapView → List ℕ → Type 0
IsDumped true maps text = AreDumps maps text
IsDumped false maps text = text ≡ []

-- the same with what is written of the maps, as lines or as a JSON object
abbrev pub ended_text : Bool → ℕ → ℕ → List ℕ → List ℕ
ended_text false value n dumped = ended_line value n ++ dumped
ended_text true value n dumped = ended_json value n dumped

-- what tells a run's exit alone, or its steps above that, as lines or as a JSON object
abbrev pub told_text : Bool → Bool → List ℕ → List ℕ → List ℕ
told_text false json steps end = end
told_text true false steps end = steps ++ end
told_text true true steps end = traced_json steps end

-- the text that tells the run: its steps, where that is asked for, how it has exited, and what is in its maps
abbrev pub IsToldText : Bool → SingleRun → List ℕ → List ℕ → Type 0
IsToldText tells single bytes text =
    (e : Ended) × (steps : List ℕ) × (last : WorldView) × (dumped : List ℕ) × HasEnded bytes single e tells steps last
    × IsDumped single.dump last.maps dumped
    × (text ≡ told_text tells single.json steps (ended_text single.json e.value e.steps dumped))

-- what `run` adds to the output, and with its steps `trace`
abbrev pub WritesRun : Bool → SingleRun → Option (List ℕ) → Option (List ℕ) → List ℕ → Type 0
WritesRun tells single old new bytes =
    (text : List ℕ) × IsToldText tells single bytes text × Appends old new text

-- the first element that fails a test fails this one
abbrev pub HasBadElement : RegistryView → List MapElement → EventRefusal → Type 0
HasBadElement maps elements r =
    (good : List MapElement) × (bad : MapElement) × (others : List MapElement)
    × (elements ≡ good ++ bad ∷ others) × AllFit maps good × (element_refusal maps bad ≡ Some r)

-- What this refusal tells of a run: the context has another length than the file tells; or it has
-- that, and the first element that fails a test fails this one; or all fit, and one isn't put, since
-- its map has no place for it.
abbrev pub IsRunFault : SingleRun → FileContent → List Insn → CommandRefusal → Type 0
IsRunFault single content program v =
    ((length single.context.items ≢ content.ctx_len) × (v ≡ OfEvent BadContext))
    ⊎ ((length single.context.items ≡ content.ctx_len)
    × (((r : EventRefusal) × HasBadElement content.registry single.elements.items r
    × (v ≡ OfEvent r))
    ⊎ (AllFit content.registry single.elements.items
    × ((k : ℕ) × (last : WorldView) × RunComesTo single content program (NotDone k) false [] last)
    × (v ≡ NoPlace))))

-- The file says a program that is verified with its maps and context, and its run has a fault.
pub record IsRunVerdict (single : SingleRun) (bytes : List ℕ) (v : CommandRefusal) : Type 0 where
  pub program : List Insn
  pub file : IsVerifiedFile bytes program
  pub fault : IsRunFault single file.content program v

-- The refusal is what `check` says of the file, or else of the run.
abbrev pub IsRunRefusal : SingleRun → List ℕ → CommandRefusal → Type 0
IsRunRefusal single bytes v = IsFileRefusal bytes v ⊎ IsRunVerdict single bytes v

-- `run` refuses the file, the context or an element, for what is not want of memory, and the output has it.
abbrev pub RefusesRun : SingleRun → Option (List ℕ) → Option (List ℕ) → List ℕ → Type 0
RefusesRun single old new bytes =
    (v : CommandRefusal) × (command_number v ≢ memory_number) × IsRunRefusal single bytes v × TellsVerdict single.json v old new
