use Rattle.bpf_model.proofs.Prelude.{ℕ, refl, sym, subst, Result, OnOk, Machine, TracksSchedule, Tracks, Schedule}
use Rattle.world.proofs.Prelude.{program_of}
use Rattle.world_laws.proofs.Prelude.{loads, schedule_loads, IsWorld}
use Rattle.world.specs.declared.fault.WorldFault.{WorldFault}
use Rattle.world.proofs.Adding.{added, added-is-world, added-schedule, added-machine}
use Rattle.world.proofs.world.World.load.Goals as goal
use Rattle.world.proofs.world.World.load.Goals.{in-Ok, in-Err}

pub invariant_of-self : goal.invariant_of-self
invariant_of-self c = elim c.match-load.branch [
  | in-Ok w ↦ added-is-world (added {l = c.args.loaded} c.program_count-count.result refl c.self.invariant c.program_count-count.ensures
      c.if-count-ge-MAX_PROGRAMS.false c.registry.ensures.maps (c.if-not-is_bound.ensures.0 refl)
      c.certify.ensures.verified c.certify.ensures.real w.in-Ok.ensures.ok)
  | in-Err w ↦ subst IsWorld (sym w.in-Err.ensures.err) c.self.invariant
]

pub returns-clause-schedule : goal.returns-clause-schedule
returns-clause-schedule c =
    let told : Result ℕ WorldFault → Type 0 = λ r. OnOk r ((s : Schedule) → TracksSchedule c.args.self.now s →
    TracksSchedule c.load.new.self (schedule_loads (program_of c.args.loaded) s)) in
    elim c.match-load.branch [
      | in-Ok w ↦ subst told (sym w.result-is) (added-schedule (added {l = c.args.loaded} c.program_count-count.result c.self.view_is
          c.self.invariant c.program_count-count.ensures c.if-count-ge-MAX_PROGRAMS.false c.registry.ensures.maps
          (c.if-not-is_bound.ensures.0 refl) c.certify.ensures.verified c.certify.ensures.real w.in-Ok.ensures.ok))
      | in-Err w ↦ subst told (sym w.result-is) tt
    ]

pub returns-clause-machine : goal.returns-clause-machine
returns-clause-machine c =
    let told : Result ℕ WorldFault → Type 0 = λ r. OnOk r ((m : Machine) → Tracks c.args.self.now m →
    Tracks c.load.new.self (loads (program_of c.args.loaded) m)) in
    elim c.match-load.branch [
      | in-Ok w ↦ subst told (sym w.result-is) (added-machine (added {l = c.args.loaded} c.program_count-count.result c.self.view_is
          c.self.invariant c.program_count-count.ensures c.if-count-ge-MAX_PROGRAMS.false c.registry.ensures.maps
          (c.if-not-is_bound.ensures.0 refl) c.certify.ensures.verified c.certify.ensures.real w.in-Ok.ensures.ok))
      | in-Err w ↦ subst told (sym w.result-is) tt
    ]
