-- What `map` and `load` are replied.
use Rattle.std.specs.Prelude.{◌≡◌, ◌≢◌, ℕ, ◌⊎◌, nat_le, nat_lt, if◌then◌else◌, List, ◌∷◌, ◌++◌}
use Rattle.std.specs.Prelude.{length, map, Option, Some, None, slice_get}
use Rattle.bpf_model.specs.declared.event.EventRefusal.TheVariants.{BadContext, NoMap}
use Rattle.bpf_model.specs.declared.insn.Insn.{Insn}
use Rattle.bpf_model.specs.declared.limits.MapShape.{MapShape}
use Rattle.bpf_model.specs.declared.limits.TheConstants.{MAX_PROGRAMS, CTX_BYTES}
use Rattle.bpf_model.specs.EventNumbers.{event_refusal_number}
use Rattle.model_laws.specs.PlainMaps.{IsPlainWithMaps}
use Rattle.bpf_model.specs.Spelling.{IsProgram, text}
use Rattle.maps.specs.declared.fault.MapFault.{MapFault}
use Rattle.maps.specs.Registry.{creation_fault, map_fault_number}
use Rattle.insn_codec.specs.declared.fault.DecodeFault.{DecodeFault}
use Rattle.insn_codec.specs.declared.fault.DecodeFault.TheVariants as decode_faults
use Rattle.insn_codec.specs.Faults.{IsDecodeFault, decode_fault_number, decode_fault_slot}
use Rattle.verifier.specs.GraphFlaws.{HasGoodGraph}
use Rattle.plan_laws.specs.Verified.{IsVerified}
use Rattle.verifier.specs.declared.refusal.ProgramRefusal.{ProgramRefusal}
use Rattle.verifier.specs.declared.refusal.ProgramRefusal.TheVariants as refusals
use Rattle.verifier.specs.Numbers.{refusal_number, refusal_slot}
use Rattle.verifier.specs.Verdict.{IsToldOf}
use Rattle.world.specs.declared.fault.WorldFault.TheVariants.{TooManyPrograms}
use Rattle.world.specs.Numbers.{world_fault_number}
use Rattle.world_laws.specs.Binding.{IsBoundTo}
use Rattle.script_lines.specs.declared.command.ShapeNumbers.{ShapeNumbers}
use Rattle.script_lines.specs.declared.reply.Reply.{Reply}
use Rattle.script_lines.specs.declared.reply.Reply.TheVariants as replies
use Rattle.control.specs.Names.{IsMapOf}
use Rattle.control.specs.AnswerReplies.{refused}
use Rattle.control.specs.Setups.{SetupView, shapes_made, with_new_map, with_program}

-- the shape of a line's numbers
abbrev pub shape_of_numbers : ShapeNumbers → MapShape
shape_of_numbers numbers = record {
  kind = numbers.kind;
  key_len = numbers.key_len;
  value_len = numbers.value_len;
  entries = numbers.entries;
  spare = numbers.spare;
  reuse_limit = numbers.reuse_limit;
}

-- `map`: the first test that fails is told, or the next number.
abbrev pub MapReplied : Option MapFault → SetupView → List ℕ → MapShape → Reply → SetupView → Type 0
MapReplied (Some fault) s name shape reply new =
    (reply ≡ refused (map_fault_number fault)) × (new ≡ s)
MapReplied None s name shape reply new =
    (reply ≡ replies.Map (length s.registry.maps)) × (new ≡ with_new_map s name shape)

abbrev pub MapReplies : SetupView → List ℕ → MapShape → Reply → SetupView → Type 0
MapReplies s name shape = MapReplied (creation_fault s.registry name shape) s name shape

-- These are the numbers of the maps of these names, one after another.
abbrev pub AreMapsNamed : List (List ℕ) → List (List ℕ) → List ℕ → Type 0
AreMapsNamed names wanted maps = map (slice_get names) maps ≡ map Some wanted

-- One of the names is no map's.
pub record HasUnknown (names wanted : List (List ℕ)) : Type 0 where
  pub front : List (List ℕ)
  pub name : List ℕ
  pub rest : List (List ℕ)
  pub wanted_is : wanted ≡ front ++ name ∷ rest
  pub unknown : IsMapOf names name None

-- `load`: the tests before the names are looked up, in their order.
abbrev pub limit_refusal : SetupView → ℕ → Option ℕ
limit_refusal s ctx_len =
    if nat_le MAX_PROGRAMS (length s.programs) then Some (world_fault_number TooManyPrograms) else
    if nat_lt CTX_BYTES ctx_len then Some (event_refusal_number BadContext) else
    None

-- The bytes are no program, for the fault that decoding tells.
pub record IsUndecoded (code : List ℕ) (reply : Reply) : Type 0 where
  pub fault : DecodeFault
  pub is : IsDecodeFault code fault
  pub known : fault ≢ decode_faults.Memory
  pub reply_is : reply ≡ replies.Refused (decode_fault_number fault) (decode_fault_slot fault)

-- The bytes are a program that the verifier refuses, and none that it must accept.
pub record IsUnverified (code : List ℕ) (shapes : List MapShape) (reply : Reply) : Type 0 where
  pub program : List Insn
  pub is : IsProgram program
  pub text_is : code ≡ text program
  pub refusal : ProgramRefusal
  pub told : IsToldOf program refusal
  pub known : refusal ≢ refusals.Memory
  pub not_plain_with_maps : IsPlainWithMaps program shapes → ⊥
  pub reply_is : reply ≡ replies.Refused (refusal_number refusal) (refusal_slot refusal)

-- The bytes are a program whose jump graph has no flaw, and which is verified for its maps' shapes
-- and its context's length: it has the next number.
pub record IsLoaded (s : SetupView) (code : List ℕ) (shapes : List MapShape) (maps : List ℕ)
    (ctx_len : ℕ) (reply : Reply) (new : SetupView) : Type 0 where
  pub program : List Insn
  pub is : IsProgram program
  pub text_is : code ≡ text program
  pub graph : HasGoodGraph program
  pub verified : IsVerified program shapes ctx_len
  pub reply_is : reply ≡ replies.Prog (length s.programs)
  pub new_is : new ≡ with_program s program maps ctx_len

abbrev pub ReadReplies : SetupView → List ℕ → List MapShape → List ℕ → ℕ → Reply → SetupView
    → Type 0
ReadReplies s code shapes maps ctx_len reply new =
    (IsUndecoded code reply × (new ≡ s))
    ⊎ ((IsUnverified code shapes reply × (new ≡ s))
    ⊎ IsLoaded s code shapes maps ctx_len reply new)

-- The names are those of maps of these numbers and shapes, for which the code is read.
pub record IsCodeRead (s : SetupView) (ctx_len : ℕ) (code : List ℕ) (wanted : List (List ℕ))
    (reply : Reply) (new : SetupView) : Type 0 where
  pub maps : List ℕ
  pub named : AreMapsNamed s.registry.names wanted maps
  pub shapes : List MapShape
  pub bound : IsBoundTo (shapes_made s) shapes maps
  pub read : ReadReplies s code shapes maps ctx_len reply new

abbrev pub LoadReplied : Option ℕ → SetupView → ℕ → List ℕ → List (List ℕ) → Reply → SetupView
    → Type 0
LoadReplied (Some number) s ctx_len code wanted reply new = (reply ≡ refused number) × (new ≡ s)
LoadReplied None s ctx_len code wanted reply new =
    (HasUnknown s.registry.names wanted
    × ((reply ≡ refused (event_refusal_number NoMap)) × (new ≡ s)))
    ⊎ IsCodeRead s ctx_len code wanted reply new

abbrev pub LoadReplies : SetupView → ℕ → List ℕ → List (List ℕ) → Reply → SetupView → Type 0
LoadReplies s ctx_len = LoadReplied (limit_refusal s ctx_len) s ctx_len
