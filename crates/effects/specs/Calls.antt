-- Calls and tests for null in words of the laws.
use Rattle.std.specs.Prelude.{◌≡◌, ℕ, suc, ◌^◌, ◌<◌, List, [], ◌∷◌, Option, Some, None, Result, Ok, Err}
use Rattle.std.specs.Prelude.{ℤ, slice_get, nat_lt, if◌then◌else◌, ◌⊎◌, ◌||◌, Bool, true, false}
use Rattle.bpf_model.specs.declared.limits.TheConstants.{MAX_DEPTH}
use Rattle.bpf_model.specs.declared.limits.MapShape.{MapShape}
use Rattle.bpf_model.specs.declared.insn.CallKind.{CallKind}
use Rattle.bpf_model.specs.declared.insn.CallKind.TheVariants as callee
use Rattle.bpf_model.specs.declared.call.Helper.{Helper}
use Rattle.bpf_model.specs.declared.call.Helper.TheVariants.{Lookup, Update, Delete}
use Rattle.bpf_model.specs.declared.call.KernelFunction.{KernelFunction}
use Rattle.bpf_model.specs.declared.call.KernelFunction.TheVariants.{ReadLock, ReadUnlock}
use Rattle.bpf_model.specs.Call.{helper_of, kernel_function_of}
use Rattle.bpf_model.specs.declared.call.ArgumentKind.{ArgumentKind}
use Rattle.bpf_model.specs.declared.call.ArgumentKind.TheVariants.{MapOfProgram, KeyOfMap, ValueOfMap, AnyNumber}
use Rattle.bpf_model.specs.declared.call.ResultKind.{ResultKind}
use Rattle.bpf_model.specs.declared.call.ResultKind.TheVariants.{ElementOrNull, Integer}
use Rattle.bpf_model.specs.Request.{signature_of}
use Rattle.scalar_domain.specs.Scalar.{Holds}
use Rattle.scalar_domain.specs.declared.scalar.Scalar.{Scalar}
use Rattle.register_kinds.specs.declared.fault.InsnFault.{InsnFault}
use Rattle.register_kinds.specs.declared.fault.InsnFault.TheVariants.{UnknownCall, OutsideSection}
use Rattle.register_kinds.specs.declared.fault.InsnFault.TheVariants.{UnpairedSection}
use Rattle.bpf_model.specs.declared.insn.Insn.TheVariants.{Call}
use Rattle.plan_laws.specs.Kinds.{Kind, Num, MapAt, MaybeNull, AbsState as Known}
use Rattle.plan_laws.specs.Effects.{HasBytes, HasNumber, after_call, after_lock, after_unlock}
use Rattle.plan_laws.specs.Effects.{is_array_in}
use Rattle.plan_laws.specs.Planned.{AreAlike}
use Rattle.register_kinds.specs.declared.kind.RegKind.{RegKind}
use Rattle.register_kinds.specs.declared.kind.RegKind.TheVariants as kinds
use Rattle.register_kinds.specs.declared.learn.Lesson.TheVariants.{IsNull, IsThere}
use Rattle.register_kinds.specs.Changes.{learnt}
use Rattle.register_kinds.specs.declared.state.AbsState.{AbsState}
use Rattle.register_kinds.specs.States.{state_of}
use Rattle.effects.specs.Performs.{Performs}

-- a call performs so, whatever the length of the context
abbrev pub PerformsCall : CallKind → ℤ → List MapShape → AbsState → AbsState → Type 0
PerformsCall kind imm shapes old new =
    (ctx_len : ℕ) → Performs (Call kind imm) ctx_len shapes old new

-- a lookup may be made: inside a section, or where r1 is known to be an array of the list
abbrev pub MayLookUp : List MapShape → Known → Type 0
MayLookUp shapes a =
    (0 < a.depth) ⊎ ((map : ℕ) × (a.regs 1 ≡ MapAt map) × (is_array_in shapes map ≡ true))

-- what is of this kind is an array of the list
abbrev pub is_array_of : List MapShape → Kind → Bool
is_array_of shapes (MapAt map) = is_array_in shapes map
is_array_of shapes kind = false

-- The first tests of a call, of its number and of how many locks are open: the first that fails, if
-- one does. A lookup in an array asks for no lock.
abbrev pub helper_fault : Option Helper → List MapShape → Known → Option InsnFault
helper_fault None shapes a = Some UnknownCall
helper_fault (Some Lookup) shapes a =
    if nat_lt 0 a.depth || is_array_of shapes (a.regs 1) then None else Some OutsideSection
helper_fault (Some Update) shapes a = None
helper_fault (Some Delete) shapes a = None

abbrev pub kernel_fault : Option KernelFunction → ℕ → Option InsnFault
kernel_fault None depth = Some UnknownCall
kernel_fault (Some ReadLock) depth =
    if nat_lt depth MAX_DEPTH then None else Some UnpairedSection
kernel_fault (Some ReadUnlock) depth = if nat_lt 0 depth then None else Some UnpairedSection

abbrev pub section_fault : CallKind → ℤ → List MapShape → Known → Option InsnFault
section_fault callee.Helper imm shapes a = helper_fault (helper_of imm) shapes a
section_fault callee.Kernel imm shapes a = kernel_fault (kernel_function_of imm) a.depth

abbrev pub outcome_of : Option InsnFault → Result (Unit {0}) InsnFault
outcome_of None = Ok tt
outcome_of (Some e) = Err e

-- After the call r0 may be null, or an element of the map, by an identity; r1 to r5 hold nothing.
pub record FindsIn (map : ℕ) (a b : AbsState) : Type 0 where
  pub id : ℕ
  pub alike : AreAlike (after_call (MaybeNull map id) (state_of a)) (state_of b)

-- What is known of an argument in a register, of a helper that is called with a map of this shape:
-- a map of the list, so many bytes of the frame, or a number.
abbrev pub IsArgument : List MapShape → Known → MapShape → ArgumentKind → ℕ → Type 0
IsArgument shapes a shape MapOfProgram r =
    (map : ℕ) × (a.regs r ≡ MapAt map) × (slice_get shapes map ≡ Some shape)
IsArgument shapes a shape KeyOfMap r = HasBytes a r shape.key_len
IsArgument shapes a shape ValueOfMap r = HasBytes a r shape.value_len
IsArgument shapes a shape AnyNumber r = HasNumber a r

-- the arguments of a signature, the first of them in register r
abbrev pub AreArguments : List MapShape → Known → MapShape → List ArgumentKind → ℕ → Type 0
AreArguments shapes a shape [] r = Unit {0}
AreArguments shapes a shape (kind ∷ kinds) r =
    IsArgument shapes a shape kind r × AreArguments shapes a shape kinds (suc r)

-- what is known of r0 after a call of a helper whose result is of this kind
abbrev pub IsResult : ResultKind → Kind → Type 0
IsResult ElementOrNull k = (map : ℕ) × (id : ℕ) × (k ≡ MaybeNull map id)
IsResult Integer k = (s : Scalar) × (k ≡ Num s)

-- What a call leaves in r0 for a result of this kind: a reference to an element of the map or null,
-- by an identity, or any number.
abbrev pub IsLeft : ResultKind → ℕ → ℕ → RegKind → Type 0
IsLeft ElementOrNull map id k = k ≡ kinds.MaybeNull map id
IsLeft Integer map id k =
    (s : Scalar) × (k ≡ kinds.Num s) × ((n : ℕ) → n < 2 ^ 64 → Holds s n)

-- Before the call the arguments are known to be those of the helper's signature; after it r0 has a
-- result of its kind.
pub record GoesBySignature (helper : Helper) (shapes : List MapShape) (a b : Known) : Type 0 where
  pub shape : MapShape
  pub arguments : AreArguments shapes a shape (signature_of helper).arguments 1
  pub result : IsResult (signature_of helper).result (b.regs 0)

-- what a kernel function makes of what is known
abbrev pub Called : Option KernelFunction → List MapShape → Known → Known → Type 0
Called None shapes a b = ⊥
Called (Some ReadLock) shapes a b = AreAlike (after_lock a) b
Called (Some ReadUnlock) shapes a b = AreAlike (after_unlock shapes a) b

-- Of a test for null both edges are as the test tells: where the identity is null all of it becomes
-- the number 0, elsewhere a reference to the element's value.
pub record Splits (id : ℕ) (a null there : AbsState) : Type 0 where
  pub is_null : AreAlike (learnt (IsNull id) (state_of a)) (state_of null)
  pub is_there : AreAlike (learnt (IsThere id) (state_of a)) (state_of there)

-- Numbers in the registers that have the property stay as they are.
abbrev pub KeepsNumbersIn : (ℕ → Type 0) → Known → Known → Type 0
KeepsNumbersIn P a b = (r : ℕ) (s : Scalar) → P r → a.regs r ≡ Num s → b.regs r ≡ Num s

-- numbers in the registers from r6 on, which calls leave alone, stay as they are
abbrev pub KeepsOwnNumbers : Known → Known → Type 0
KeepsOwnNumbers a b = KeepsNumbersIn (λ r. 5 < r) a b
