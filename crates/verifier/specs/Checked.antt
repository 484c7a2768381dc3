-- A verified program, as contracts see it.
use Rattle.std.specs.Prelude.{ℕ, List, Option}
use Rattle.bpf_model.specs.declared.insn.Insn.{Insn}
use Rattle.bpf_model.specs.declared.limits.MapShape.{MapShape}
use Rattle.effects.specs.declared.region.Region.{Region}

pub record Checked : Type 0 where
  pub program : List Insn
  -- for each instruction the region that it reaches, and the index to which it jumps
  pub regions : List Region
  pub targets : List (Option ℕ)
  pub shapes : List MapShape
  pub ctx_len : ℕ
  -- the most states that waited at once while it was verified
  pub peak_states : ℕ

abbrev pub checked : List Insn → List Region → List (Option ℕ) → List MapShape → ℕ → ℕ → Checked
checked program regions targets shapes ctx_len peak_states =
    record {
      program = program;
      regions = regions;
      targets = targets;
      shapes = shapes;
      ctx_len = ctx_len;
      peak_states = peak_states;
    }
