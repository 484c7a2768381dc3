-- A run that refers to its own context and frame alone can ask for a section, and for nothing else.
use Rattle.bpf_model.proofs.Prelude.{◌≡◌, ℕ, List, [], ◌∷◌, Option, Some, None, Bool, true, false, refl, ℤ, ◌==◌, if◌then◌else◌, none-some, same_Some}
use Rattle.bpf_model.proofs.Prelude.{byte_count, unsigned_width, helper_of, kernel_function_of, operand_value, Argument, MapArgument, Request, argument_of}
use Rattle.bpf_model.proofs.Prelude.{arguments_of, asks, load_request, named_map, section_request, signature_of, store_request, CallHelper, State, ◌>>=◌}
use Rattle.bpf_model.proofs.Prelude.{reference}
use Rattle.model_laws.proofs.Prelude.{Helper, KernelFunction, Insn, Call, Load, LoadSigned, Store, MapShape, Value, Nothing, Number, Pointer, Ctx, Frame}
use Rattle.model_laws.proofs.Prelude.{MapRef, Elem, HoldsState, HoldsValue, AnyNumber, KeyOfMap, MapOfProgram, ValueOfMap, ArgumentKind, IsOwn}
use Rattle.bpf_model.specs.declared.call.Helper.TheVariants as helpers
use Rattle.bpf_model.specs.declared.insn.CallKind.TheVariants as kinds
use Rattle.model_laws.proofs.Computations.{first-step}

-- The instruction is a lock or an unlock, and that is what it asks.
pub record IsSectionCall (i : Insn) (request : Request) : Type 0 where
  pub imm : ℤ
  pub is : i ≡ Call kinds.Kernel imm
  pub function : KernelFunction
  pub known : kernel_function_of imm ≡ Some function
  pub asks_is : section_request function ≡ request

load-none : (width : ℕ) (offset : ℤ) (b : Bool) (base : Value) (request : Request) → HoldsValue IsOwn base →
    (if b then None else load_request width offset base) ≡ Some request → ⊥
load-none width offset true base request p h = none-some request h
load-none width offset false Nothing request p h = none-some request h
load-none width offset false (Number x) request p h = none-some request h
load-none width offset false (Pointer (Ctx o)) request p h = none-some request h
load-none width offset false (Pointer (Frame o)) request p h = none-some request h
load-none width offset false (Pointer (MapRef m)) request p h = p
load-none width offset false (Pointer (Elem n o)) request p h = p

store-none : (width : ℕ) (offset : ℤ) (v base : Value) (request : Request) → HoldsValue IsOwn base → store_request width offset v base ≡ Some request → ⊥
store-none width offset Nothing base request p h = none-some request h
store-none width offset (Pointer r) base request p h = none-some request h
store-none width offset (Number v) Nothing request p h = none-some request h
store-none width offset (Number v) (Number x) request p h = none-some request h
store-none width offset (Number v) (Pointer (Ctx o)) request p h = none-some request h
store-none width offset (Number v) (Pointer (Frame o)) request p h = none-some request h
store-none width offset (Number v) (Pointer (MapRef m)) request p h = p
store-none width offset (Number v) (Pointer (Elem n o)) request p h = p

map-none : (v : Value) (a : Argument) → HoldsValue IsOwn v → (reference v >>= named_map >>= λ map. Some (MapArgument map)) ≡ Some a → ⊥
map-none Nothing a p h = none-some a h
map-none (Number x) a p h = none-some a h
map-none (Pointer (Ctx o)) a p h = none-some a h
map-none (Pointer (Frame o)) a p h = none-some a h
map-none (Pointer (MapRef m)) a p h = p
map-none (Pointer (Elem n o)) a p h = p

-- each helper is called with a map first
arguments-none : (more : List ArgumentKind) (shapes : ℕ → Option MapShape) (m : State) (arguments : List Argument) →
    HoldsState IsOwn m → arguments_of (MapOfProgram ∷ more) shapes m 1 ≡ Some arguments → ⊥
arguments-none more shapes m arguments p h =
    let f = first-step (argument_of shapes m MapOfProgram 1) (λ argument. arguments_of more shapes m 2 >>= λ rest. Some (argument ∷ rest)) arguments h in
    map-none (m.regs 1) f.0 (p.0 1) f.1

helper-none : (helper : Helper) (shapes : ℕ → Option MapShape) (m : State) (arguments : List Argument) →
    HoldsState IsOwn m → arguments_of (signature_of helper).arguments shapes m 1 ≡ Some arguments → ⊥
helper-none helpers.Lookup shapes m arguments p h = arguments-none (KeyOfMap ∷ []) shapes m arguments p h
helper-none helpers.Update shapes m arguments p h = arguments-none (KeyOfMap ∷ ValueOfMap ∷ AnyNumber ∷ []) shapes m arguments p h
helper-none helpers.Delete shapes m arguments p h = arguments-none (KeyOfMap ∷ []) shapes m arguments p h

pub asks_section : (i : Insn) (shapes : ℕ → Option MapShape) (m : State) (request : Request) → HoldsState IsOwn m →
    asks i shapes m ≡ Some request → IsSectionCall i request
asks_section (Load width dst src offset) shapes m request p h = absurd (load-none (byte_count width) offset (dst == 10) (m.regs src) request (p.0 src) h)
asks_section (LoadSigned width dst src offset) shapes m request p h =
    absurd (load-none (byte_count (unsigned_width width)) offset (dst == 10) (m.regs src) request (p.0 src) h)
asks_section (Store width dst offset src) shapes m request p h =
    absurd (store-none (byte_count width) offset (operand_value src m.regs) (m.regs dst) request (p.0 dst) h)
asks_section (Call kinds.Kernel imm) shapes m request p h =
    let f = first-step (kernel_function_of imm) (λ function. Some (section_request function)) request h in
    record { imm = imm; is = refl; function = f.0; known = f.1; asks_is = same_Some (section_request f.0) request f.2 }
asks_section (Call kinds.Helper imm) shapes m request p h =
    let f = first-step (helper_of imm) (λ helper. arguments_of (signature_of helper).arguments shapes m 1
    >>= λ arguments. Some (CallHelper helper arguments)) request h in
    let g = first-step (arguments_of (signature_of f.0).arguments shapes m 1) (λ arguments. Some (CallHelper f.0 arguments)) request f.2 in
    absurd (helper-none f.0 shapes m g.0 p g.1)
asks_section i shapes m request p h = absurd (none-some request h)
