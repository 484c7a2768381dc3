-- The maps and programs of a script before its world is made.
use Rattle.std.specs.Prelude.{◌≡◌, ℕ, ◌≤◌, List, [], ◌∷◌, ◌++◌, length, refl}
use Rattle.std.specs.Coded.{Coded, code_by, coded×, coded_list}
use Rattle.bpf_model.specs.declared.insn.Insn.{Insn}
use Rattle.bpf_model.specs.declared.limits.MapShape.{MapShape}
use Rattle.bpf_model.specs.declared.limits.TheConstants.{MAX_PROGRAMS}
use Rattle.bpf_model.specs.Machine as machine
use Rattle.bpf_model.specs.View.{AreNewMaps, new_map_view, shapes_of_maps}
use Rattle.maps.specs.Registry.{RegistryView, no_maps, registry_code}
use Rattle.world.specs.BoundTo.{AreProgramsBound}
use Rattle.model_laws.specs.Codes.{program_code}
use Rattle.world.specs.declared.kept.loaded.Loaded.{Loaded}

-- the maps and the programs that are made so far
pub record SetupView : Type 0 where
  pub registry : RegistryView
  pub programs : List machine.Loaded

abbrev pub setup_code : Coded SetupView
setup_code = code_by (RegistryView × List machine.Loaded)
    (coded× registry_code (coded_list program_code))
    (λ s. (s.registry, s.programs))
    (λ p. record { registry = p.0; programs = p.1 })
    (λ _. refl)

-- The maps are new, each has a name, and each program is bound to maps that are there.
pub record IsSetup (registry : RegistryView) (loaded : List Loaded) : Type 0 where
  pub one_name_each : length registry.names ≡ length registry.maps
  pub new_maps : AreNewMaps registry.maps
  pub bound : AreProgramsBound (shapes_of_maps registry.maps) loaded
  pub few : length loaded ≤ MAX_PROGRAMS

abbrev pub no_maps_or_programs : SetupView
no_maps_or_programs = record { registry = no_maps; programs = [] }

abbrev pub shapes_made : SetupView → List MapShape
shapes_made s = shapes_of_maps s.registry.maps

-- one more map
abbrev pub with_new_map : SetupView → List ℕ → MapShape → SetupView
with_new_map s name shape = record {
  registry = record {
    names = s.registry.names ++ name ∷ [];
    maps = s.registry.maps ++ new_map_view shape ∷ [];
  };
  programs = s.programs;
}

-- one more program
abbrev pub with_program : SetupView → List Insn → List ℕ → ℕ → SetupView
with_program s code maps context_len = record {
  registry = s.registry;
  programs = s.programs ++ record { code = code; maps = maps; context_len = context_len } ∷ [];
}
