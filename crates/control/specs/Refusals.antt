-- Why lines are refused, and how that is replied.
use Rattle.std.specs.Prelude.{◌≡◌, ℕ, List, [], ◌∷◌, ◌++◌, ⊤, Option, Some, None, Result, Ok, Err}
use Rattle.std.specs.List.{AllByRecursion}
use Rattle.bpf_model.specs.EventNumbers.{event_refusal_number}
use Rattle.insn_codec.specs.Faults.{decode_fault_number, decode_fault_slot}
use Rattle.maps.specs.Registry.{map_fault_number}
use Rattle.verifier.specs.Numbers.{refusal_number, refusal_slot}
use Rattle.world.specs.declared.fault.WorldFault.TheVariants as faults
use Rattle.world.specs.Numbers.{world_fault_number}
use Rattle.script_lines.specs.declared.reply.Reply.{Reply}
use Rattle.script_lines.specs.declared.reply.Reply.TheVariants as replies
use Rattle.script_lines.specs.ReplyText.{reply_text}
use Rattle.control.specs.declared.refusal.LineRefusal.{LineRefusal}
use Rattle.control.specs.declared.refusal.LineRefusal.TheVariants as refusals
use Rattle.control.specs.Replies.{too_late_number}

-- the number of a refusal
abbrev pub line_refusal_number : LineRefusal → ℕ
line_refusal_number (refusals.Map fault) = map_fault_number fault
line_refusal_number refusals.TooManyPrograms = world_fault_number faults.TooManyPrograms
line_refusal_number (refusals.Decode fault) = decode_fault_number fault
line_refusal_number (refusals.Program refusal) = refusal_number refusal
line_refusal_number (refusals.Event refusal) = event_refusal_number refusal
line_refusal_number refusals.TooLate = too_late_number

-- the slot of its program that a refusal is told of
abbrev pub line_refusal_slot : LineRefusal → Option ℕ
line_refusal_slot (refusals.Map fault) = None
line_refusal_slot refusals.TooManyPrograms = None
line_refusal_slot (refusals.Decode fault) = decode_fault_slot fault
line_refusal_slot (refusals.Program refusal) = refusal_slot refusal
line_refusal_slot (refusals.Event refusal) = None
line_refusal_slot refusals.TooLate = None

-- the reply that tells a refusal
abbrev pub refusal_reply : LineRefusal → Reply
refusal_reply refusal =
    replies.Refused (line_refusal_number refusal) (line_refusal_slot refusal)

-- what is replied where a map is made, or is refused
abbrev pub map_reply : Result ℕ LineRefusal → Reply
map_reply (Ok map) = replies.Map map
map_reply (Err refusal) = refusal_reply refusal

-- what is replied where a program is loaded, or is refused
abbrev pub program_reply : Result ℕ LineRefusal → Reply
program_reply (Ok program) = replies.Prog program
program_reply (Err refusal) = refusal_reply refusal

abbrev pub IsNoRefusal : Reply → Type 0
IsNoRefusal (replies.Refused code slot) = ⊥
IsNoRefusal _ = ⊤

-- The replies tell this refusal; or none, and no reply is a refusal.
abbrev pub AreTold : Option LineRefusal → List Reply → Type 0
AreTold (Some refusal) told = told ≡ refusal_reply refusal ∷ []
AreTold None told = AllByRecursion IsNoRefusal told

-- The text of one reply is added, which tells this refusal.
abbrev pub IsAdded : Reply → List ℕ → Option LineRefusal → List ℕ → Type 0
IsAdded reply before refusal after =
    AreTold refusal (reply ∷ []) × (after ≡ before ++ reply_text reply)
