-- Plain programs without maps: forward jumps, every instruction reached, and on every path each
-- register and each byte of the frame written as a number before it is read. Each is plain with maps
-- too, of any shapes (`plain_with_maps`), which is the form that the verifier's clause has.
use Rattle.std.specs.Prelude.{◌≡◌, ℕ, List, Some}
use Rattle.bpf_model.specs.declared.insn.Insn.{Insn}
use Rattle.bpf_model.specs.Graph.{HasForwardGraph}
use Rattle.model_laws.specs.Plain.{ReadsRegister, WritesRegister, ReadsByte, IsSimple, WithoutWrite}
use Rattle.model_laws.specs.Plain.{WithoutByte}
use Rattle.bpf_model.specs.Step.{insn_at}

-- a path leads to the slot on which the register isn't written
abbrev pub WithoutRegister : List Insn → ℕ → ℕ → Type 0
WithoutRegister program r place = WithoutWrite program (λ i. WritesRegister i r) place

pub record IsPlain (program : List Insn) : Type 0 where
  pub graph : HasForwardGraph program
  pub simple : (place : ℕ) (i : Insn) → insn_at program place ≡ Some i → IsSimple i
  -- r10 isn't written, and only the accesses to the frame read it
  pub frame_pointer : (place : ℕ) (i : Insn) → insn_at program place ≡ Some i →
      (WritesRegister i 10 → ⊥) × (ReadsRegister i 10 → ⊥)
  pub registers : (place : ℕ) (i : Insn) (r : ℕ) → insn_at program place ≡ Some i →
      ReadsRegister i r
      → WithoutRegister program r place → ⊥
  pub bytes : (place : ℕ) (i : Insn) (k : ℕ) → insn_at program place ≡ Some i → ReadsByte i k →
      WithoutByte program k place → ⊥
