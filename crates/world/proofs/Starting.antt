-- A world of new maps, and programs that are bound to them.
use Rattle.bpf_model.proofs.Prelude.{◌≡◌, ◌∙◌, ℕ, ◌≤◌, List, map, length, Some, sym, ap, subst, arith, slice_get, length-map, AreShapes, new_map}
use Rattle.bpf_model.proofs.Prelude.{TracksSchedule, start_schedule, AreNewMaps, MapView, WorldView, start_view, shapes_of_maps}
use Rattle.model_laws.proofs.Prelude.{MAX_MAPS, MAX_PROGRAMS}
use Rattle.plan_laws.proofs.Prelude.{IsVerified, IsVerifiedFor, AreVerified}
use Rattle.world.proofs.Prelude.{program_of, programs_in, AreProgramsBound}
use Rattle.world_laws.proofs.Prelude.{IsRealProgram, AreRealPrograms, IsWorld}
use Rattle.bpf_model.specs.View.{unused_world}
use Rattle.model_laws.proofs.Counting.{map-back}
use Rattle.model_laws.proofs.Starting.{start_tracked}
use Rattle.world.specs.declared.kept.loaded.Loaded.{Loaded}
use Rattle.world_laws.proofs.BindingOf.{bound_is_verified}
use Rattle.world_laws.proofs.KeepingWorlds.{start_is_world}

-- What is known of the parts of a new world before it is made.
pub record IsSafe (maps : List MapView) (loaded : List Loaded) : Type 0 where
  pub new_maps : AreNewMaps maps
  pub shapes : AreShapes (shapes_of_maps maps)
  pub maps_limit : length maps ≤ MAX_MAPS
  pub programs_limit : length loaded ≤ MAX_PROGRAMS
  pub bound : AreProgramsBound (shapes_of_maps maps) loaded
  pub verified : (p : ℕ) (x : Loaded) → slice_get loaded p ≡ Some x → IsVerified x.verified.program x.verified.shapes x.verified.ctx_len
  pub real : (p : ℕ) (x : Loaded) → slice_get loaded p ≡ Some x → IsRealProgram (program_of x)

pub made-is-start : {names : List (List ℕ)} {maps : List MapView} {loaded : List Loaded} → IsSafe maps loaded →
    (w : WorldView) → w ≡ unused_world names maps (programs_in loaded) →
    w ≡ start_view names (shapes_of_maps maps) (programs_in loaded)
made-is-start {names} {maps} {loaded} safe w e = e ∙ ap (λ (ms : List MapView). unused_world names ms (programs_in loaded)) safe.new_maps

are_verified : (maps : List MapView) (loaded : List Loaded) → IsSafe maps loaded → AreVerified (shapes_of_maps maps) (programs_in loaded)
are_verified maps loaded safe p program at =
    let of_loaded = map-back program_of loaded p program at in
    let x = of_loaded.0 in
    let one = bound_is_verified (shapes_of_maps maps) x.verified.shapes (program_of x) (safe.bound p x of_loaded.1) (safe.verified p x of_loaded.1) in
    subst (IsVerifiedFor (map new_map (shapes_of_maps maps))) of_loaded.2 one

are_programs : (maps : List MapView) (loaded : List Loaded) → IsSafe maps loaded → AreRealPrograms (programs_in loaded)
are_programs maps loaded safe p program at =
    let of_loaded = map-back program_of loaded p program at in
    subst IsRealProgram of_loaded.2 (safe.real p of_loaded.0 of_loaded.1)

pub start-is-world : (names : List (List ℕ)) {maps : List MapView} {loaded : List Loaded} → IsSafe maps loaded →
    IsWorld (start_view names (shapes_of_maps maps) (programs_in loaded))
start-is-world names {maps} {loaded} safe =
    let shape = λ (v : MapView). v.shape in
    let few : length (shapes_of_maps maps) ≤ MAX_MAPS = let count : length (shapes_of_maps maps) ≡ length maps =
    length-map maps shape in let limit : length maps ≤ MAX_MAPS = safe.maps_limit in omega arith in
    let few_programs : length (programs_in loaded) ≤ MAX_PROGRAMS =
    let count : length (programs_in loaded) ≡ length loaded =
    length-map loaded program_of in let limit : length loaded ≤ MAX_PROGRAMS =
    safe.programs_limit in omega arith in
    start_is_world names (shapes_of_maps maps) (programs_in loaded) safe.shapes few few_programs (are_verified maps loaded safe) (are_programs maps loaded safe)

pub made-is-world : {names : List (List ℕ)} {maps : List MapView} {loaded : List Loaded} → IsSafe maps loaded →
    (w : WorldView) → w ≡ unused_world names maps (programs_in loaded) → IsWorld w
made-is-world {names} {maps} {loaded} safe w e = subst IsWorld (sym (made-is-start safe w e)) (start-is-world names safe)

pub made-tracks-start : {names : List (List ℕ)} {maps : List MapView} {loaded : List Loaded} → IsSafe maps loaded →
    (w : WorldView) → w ≡ unused_world names maps (programs_in loaded) →
    TracksSchedule w (start_schedule (shapes_of_maps maps) (programs_in loaded))
made-tracks-start {names} {maps} {loaded} safe w e =
    subst (λ (v : WorldView). TracksSchedule v (start_schedule (shapes_of_maps maps) (programs_in loaded)))
    (sym (made-is-start safe w e)) (start_tracked names (shapes_of_maps maps) (programs_in loaded) safe.shapes)
