-- A world with one program more.
use Rattle.bpf_model.proofs.Prelude.{◌≡◌, ℕ, ◌<◌, List, [], ◌∷◌, ◌++◌, length, Option, inl, inr, sym, subst, Machine, TracksSchedule, Tracks, Schedule}
use Rattle.bpf_model.proofs.Prelude.{MapView, WorldView, shapes_of, shapes_of_maps, get-append, get-append_cases}
use Rattle.element_store.proofs.Prelude.{GraceState}
use Rattle.machine.proofs.Prelude.{RunWords}
use Rattle.model_laws.proofs.Prelude.{MAX_PROGRAMS}
use Rattle.plan_laws.proofs.Prelude.{IsVerified}
use Rattle.world.proofs.Prelude.{AreProgramsBound, IsBound, ArePartsKept, program_of}
use Rattle.world_laws.proofs.Prelude.{loads, schedule_loads, with_program, IsWorld, IsRealProgram}
use Rattle.world_laws.proofs.OneMore.{tracked_with_one_more, machine_with_one_more, loaded_is_world}
use Rattle.world.specs.declared.kept.loaded.Loaded.{Loaded}

more-bound : (maps : List MapView) (programs : List Loaded) (l : Loaded) → AreProgramsBound (shapes_of_maps maps) programs →
    IsBound (shapes_of_maps maps) l → AreProgramsBound (shapes_of_maps maps) (programs ++ l ∷ [])
more-bound maps programs l bound last p x at = elim (get-append_cases programs l p x at) [
  | inl h ↦ bound p x h
  | inr h ↦ subst (IsBound (shapes_of_maps maps)) h.1 last
]

pub more-kept : {maps : List MapView} {runs : List (Option RunWords)} {flags : List ℕ} {grace : GraceState}
    {programs : List Loaded} (l : Loaded) → ArePartsKept maps runs flags grace programs → IsBound (shapes_of_maps maps) l →
    ArePartsKept maps runs flags grace (programs ++ l ∷ [])
more-kept {maps} {programs = programs} l kept last = record {
  kept = record {
    of_runs = record {
      slots = kept.kept.of_runs.slots;
      depths = kept.kept.of_runs.depths;
      of_program = λ r run at.
          let of = kept.kept.of_runs.of_program r run at in
          record {
            program = of.program;
            there = get-append programs (l ∷ []) run.view.program of.program of.there;
            stands = of.stands;
          };
    };
    bound = more-bound maps programs l kept.kept.bound last;
  };
  flagged = kept.flagged;
}

-- what is known when a program is added
pub record IsAdded (w : WorldView) (l : Loaded) (new : WorldView) : Type 0 where
  pub is : IsWorld w
  pub room : length w.programs < MAX_PROGRAMS
  pub bound : IsBound (shapes_of w) l
  pub verified : IsVerified l.verified.program l.verified.shapes l.verified.ctx_len
  pub real : IsRealProgram (program_of l)
  pub new_is : new ≡ with_program (program_of l) w

-- the same, as the calls before it say it
pub added : {w now new : WorldView} {l : Loaded} {maps : List MapView} (count : ℕ) → w ≡ now → IsWorld w →
    count ≡ length w.programs → count < MAX_PROGRAMS → maps ≡ w.maps → IsBound (shapes_of_maps maps) l →
    IsVerified l.verified.program l.verified.shapes l.verified.ctx_len → IsRealProgram (program_of l) →
    new ≡ with_program (program_of l) w → IsAdded now l new
added {w} {new = new} {l = l} count now_is is count_is room maps_are bound verified real new_is =
    subst (λ (v : WorldView). IsAdded v l new) now_is (record {
      is = is;
      room = subst (λ (k : ℕ). k < MAX_PROGRAMS) count_is room;
      bound = subst (λ (ms : List MapView). IsBound (shapes_of_maps ms) l) maps_are bound;
      verified = verified;
      real = real;
      new_is = new_is;
    })

pub added-is-world : {w new : WorldView} {l : Loaded} → IsAdded w l new → IsWorld new
added-is-world {w} {l = l} a =
    subst IsWorld (sym a.new_is) (loaded_is_world (program_of l) l.verified.shapes w a.is a.room a.bound a.verified a.real)

pub added-schedule : {w new : WorldView} {l : Loaded} → IsAdded w l new → (s : Schedule) → TracksSchedule w s →
    TracksSchedule new (schedule_loads (program_of l) s)
added-schedule {w} {l = l} a s t = subst (λ (v : WorldView). TracksSchedule v (schedule_loads (program_of l) s)) (sym a.new_is)
    (tracked_with_one_more (program_of l) w s a.room t)

pub added-machine : {w new : WorldView} {l : Loaded} → IsAdded w l new → (m : Machine) → Tracks w m → Tracks new (loads (program_of l) m)
added-machine {w} {l = l} a m t = subst (λ (v : WorldView). Tracks v (loads (program_of l) m)) (sym a.new_is)
    (machine_with_one_more (program_of l) w m a.room t)
