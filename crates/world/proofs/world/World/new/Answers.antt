use Rattle.bpf_model.proofs.Prelude.{◌≡◌, ℕ, ◌≤◌, List, Some, refl, subst, arith, rules, length, slice_get, vec_len, shapes_of_maps, start_schedule}
use Rattle.model_laws.proofs.Prelude.{MAX_PROGRAMS}
use Rattle.plan_laws.proofs.Prelude.{IsVerified}
use Rattle.world.proofs.Prelude.{program_of, programs_in, AreProgramsBound}
use Rattle.world_laws.proofs.Prelude.{IsRealProgram}
use Rattle.world.specs.declared.kept.loaded.Loaded.{Loaded}
use Rattle.world.proofs.Starting.{IsSafe, made-is-world, made-tracks-start}
use Rattle.world.proofs.world.World.new.Goals as goal

few : (loaded : List Loaded) (count : ℕ) → length loaded ≡ count → count ≤ MAX_PROGRAMS → length loaded ≤ MAX_PROGRAMS
few loaded count e h = omega arith

pub invariant_of-result : goal.invariant_of-result
invariant_of-result c =
    let maps = c.args.registry.maps in
    let loaded = c.args.loaded.items in
    let same = c.deref-2.ensures.value in
    let count : length loaded ≡ vec_len c.args.loaded = search rules in
    let limit : vec_len c.args.loaded ≤ MAX_PROGRAMS = omega (arith, c.if-len-gt-MAX_PROGRAMS.false, c.len.ensures) in
    let bound : AreProgramsBound (shapes_of_maps maps) loaded = search rules in
    let safe : IsSafe maps loaded = record {
      new_maps = c.requires.new_maps;
      shapes = c.certify_maps.ensures.shapes;
      maps_limit = c.certify_maps.ensures.limit;
      programs_limit = few loaded (vec_len c.args.loaded) count limit;
      bound = bound;
      verified = subst (λ (xs : List Loaded). (p : ℕ) (x : Loaded) → slice_get xs p ≡ Some x →
          IsVerified x.verified.program x.verified.shapes x.verified.ctx_len) same
          c.certify_programs.ensures.verified;
      real = subst (λ (xs : List Loaded). (p : ℕ) (x : Loaded) → slice_get xs p ≡ Some x → IsRealProgram (program_of x)) same c.certify_programs.ensures.real;
    } in
    made-is-world safe c.in-Ok.parts c.in-Ok.ensures

pub returns-in-Ok-clause-start : goal.returns-in-Ok-clause-start
returns-in-Ok-clause-start c =
    let maps = c.args.registry.maps in
    let loaded = c.args.loaded.items in
    let same = c.deref-2.ensures.value in
    let count : length loaded ≡ vec_len c.args.loaded = search rules in
    let limit : vec_len c.args.loaded ≤ MAX_PROGRAMS = omega (arith, c.if-len-gt-MAX_PROGRAMS.false, c.len.ensures) in
    let bound : AreProgramsBound (shapes_of_maps maps) loaded = search rules in
    let safe : IsSafe maps loaded = record {
      new_maps = c.requires.new_maps;
      shapes = c.certify_maps.ensures.shapes;
      maps_limit = c.certify_maps.ensures.limit;
      programs_limit = few loaded (vec_len c.args.loaded) count limit;
      bound = bound;
      verified = subst (λ (xs : List Loaded). (p : ℕ) (x : Loaded) → slice_get xs p ≡ Some x →
          IsVerified x.verified.program x.verified.shapes x.verified.ctx_len) same
          c.certify_programs.ensures.verified;
      real = subst (λ (xs : List Loaded). (p : ℕ) (x : Loaded) → slice_get xs p ≡ Some x → IsRealProgram (program_of x)) same c.certify_programs.ensures.real;
    } in
    made-tracks-start safe c.in-Ok.parts c.in-Ok.ensures

pub returns-in-Ok-clause-machine : goal.returns-in-Ok-clause-machine
returns-in-Ok-clause-machine c =
    (start_schedule (shapes_of_maps c.args.registry.maps) (programs_in c.args.loaded.items), refl, returns-in-Ok-clause-start c)
