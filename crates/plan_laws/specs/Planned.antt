-- A plan that is kept instruction by instruction: what the verifier's pass builds.
use Rattle.std.specs.Prelude.{◌≡◌, ℕ, suc, ◌^◌, ◌==◌, ◌<◌, List, length, slice_get, Option, Some}
use Rattle.std.specs.Prelude.{true, ℤ, pos, unwrap_or, if◌then◌else◌}
use Rattle.bpf_model.specs.declared.limits.TheConstants.{FRAME_BYTES}
use Rattle.bpf_model.specs.declared.insn.Insn.{Insn}
use Rattle.bpf_model.specs.declared.limits.MapShape.{MapShape}
use Rattle.bpf_model.specs.Graph.{falls, distance}
use Rattle.bpf_model.specs.Graph.{LeadsTo}
use Rattle.bpf_model.specs.Step.{State}
use Rattle.scalar_domain.specs.declared.scalar.Scalar.{Scalar}
use Rattle.scalar_domain.specs.Constant.{constant_of}
use Rattle.plan_laws.specs.Kinds.{Kind, Blank, CtxAt, FrameAt, BlankCell, AbsState}
use Rattle.plan_laws.specs.Describes.{Scene, Describes}
use Rattle.plan_laws.specs.Effects.{IsWider}
use Rattle.plan_laws.specs.Verified.{Plan, Transfers}

-- each run that the one describes the other describes too
abbrev pub Wider : AbsState → AbsState → Type 0
Wider a b = (c : Scene) (m : State) → Describes a c m → Describes b c m

-- the same kinds, index by index: what an array holds after it was written
pub record AreAlike (a b : AbsState) : Type 0 where
  pub regs : (r : ℕ) → b.regs r ≡ a.regs r
  pub cells : (k : ℕ) → b.cells k ≡ a.cells k
  pub depth : b.depth ≡ a.depth

-- A join: each identity of the joined state stands for a pair, one identity of either side. An old
-- one may stand for itself and itself; for each pair of different ones that meets the join takes a
-- new one.
pub record Joins (pair : ℕ → ℕ × ℕ) (a b c : AbsState) : Type 0 where
  pub left : IsWider (λ id. (pair id).0) a c
  pub right : IsWider (λ id. (pair id).1) b c

-- the number 0 alone
abbrev pub number_zero : Scalar
number_zero = constant_of 0

-- the offset 0 alone
abbrev pub origin : Scalar
origin = constant_of (2 ^ 29)

-- what is known at a program's entry
abbrev pub entry_kind : ℕ → Kind
entry_kind r = if r == 1 then CtxAt origin else if r == 10 then FrameAt (pos FRAME_BYTES) else Blank

abbrev pub entry_state : AbsState
entry_state = record { regs = entry_kind; cells = λ k. BlankCell; depth = 0 }

-- the plan has a wider state at the index
abbrev pub Covers : Plan → ℕ → AbsState → Type 0
Covers plan k a = (b : AbsState) × (plan k ≡ Some b) × Wider a b

-- what the pass does with one instruction
pub record IsCovered (code : List Insn) (shapes : List MapShape) (ctx_len : ℕ) (plan : Plan) (k : ℕ)
    (a : AbsState) : Type 0 where
  pub insn : Insn
  pub there : slice_get code k ≡ Some insn
  pub new : AbsState
  pub taken : Option AbsState
  pub transfers : Transfers insn shapes ctx_len a new taken
  pub falls_on : falls insn ≡ true → Covers plan (suc k) new
  pub jumps_on : (by : ℤ) → distance insn ≡ Some by →
      (t : ℕ) × LeadsTo code k insn t × Covers plan t (unwrap_or taken new)

-- The plan covers the entry, and where it says something of an instruction, what that leads to.
pub record IsPlanKept (code : List Insn) (shapes : List MapShape) (ctx_len : ℕ) (plan : Plan)
    : Type 0 where
  pub start : Covers plan 0 entry_state
  pub inside : (k : ℕ) (a : AbsState) → plan k ≡ Some a → k < length code
  pub each : (k : ℕ) (a : AbsState) → plan k ≡ Some a → IsCovered code shapes ctx_len plan k a
