-- A run that a plan describes among such elements, and words for which it stands.
use Rattle.std.specs.Prelude.{◌≡◌, ℕ, List, length, map, None}
use Rattle.bpf_model.specs.declared.insn.Insn.{Insn}
use Rattle.bpf_model.specs.declared.limits.MapShape.{MapShape}
use Rattle.bpf_model.specs.Real.{AreBytes}
use Rattle.model_laws.specs.Holds.{HoldsState}
use Rattle.bpf_model.specs.Machine.{Run, section_of}
use Rattle.bpf_model.specs.MapState.{new_map}
use Rattle.bpf_model.specs.View.{RunView}
use Rattle.plan_laws.specs.Describes.{scene_of}
use Rattle.plan_laws.specs.Verified.{AreMapsBound, IsPlanned, Plan}
use Rattle.world_laws.specs.Around.{elements_around, region_of, region_word, store_of}
use Rattle.bpf_model.specs.Refines.{AreWords}
use Rattle.world_laws.specs.Standing.{IsNumbered}

pub record IsDescribed (code : List Insn) (shapes : List MapShape) (ctx_len : ℕ) (plan : Plan)
    (around : List MapShape) (run : Run) : Type 0 where
  pub going : run.exit ≡ None
  pub bound : AreMapsBound shapes run.program.maps (map new_map around)
  pub long : length run.context ≡ ctx_len
  pub context : AreBytes run.context
  pub index : ℕ
  pub planned : IsPlanned code plan index
      (scene_of (store_of around (elements_around around (section_of run))) run) run.state

-- where elements lie by their numbers
abbrev pub region_bases : ℕ → ℕ
region_bases n = region_word (region_of n)

pub record IsShownBy (code : List Insn) (shapes : List MapShape) (ctx_len : ℕ) (plan : Plan)
    (around : List MapShape) (run : Run) (v : RunView) : Type 0 where
  pub described : IsDescribed code shapes ctx_len plan around run
  pub numbered : HoldsState IsNumbered run.state
  pub words : AreWords region_bases v run
