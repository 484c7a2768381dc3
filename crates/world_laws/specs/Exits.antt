-- Exit values by the instructions alone, where the program of a world is not at hand.
use Rattle.std.specs.Prelude.{◌≡◌, ℕ, List}
use Rattle.bpf_model.specs.declared.insn.Insn.{Insn}
use Rattle.bpf_model.specs.declared.limits.MapShape.{MapShape}
use Rattle.bpf_model.specs.Exit.{ExitsWith}
use Rattle.bpf_model.specs.Machine.{Loaded}
use Rattle.plan_laws.specs.MayExit.{MayExitWith}

-- A program of these instructions that runs on this context may exit with this value, among maps of
-- these shapes, for which it was verified.
pub record MayExitAs (code : List Insn) (shapes : List MapShape) (context : List ℕ) (n : ℕ)
    : Type 0 where
  pub program : Loaded
  pub code_is : program.code ≡ code
  pub steps : ℕ
  pub exits : MayExitWith shapes program context steps n

-- A program of these instructions, on this context, exits with this value, whatever other actors
-- do (and so with no other: law `one_exit`).
pub record ExitsAs (code : List Insn) (context : List ℕ) (n : ℕ) : Type 0 where
  pub program : Loaded
  pub code_is : program.code ≡ code
  pub steps : ℕ
  pub exits : ExitsWith program context steps n
