use Rattle.bpf_model.proofs.Prelude.{◌≡◌, length, arith, ap, sym, refl, subst, slice_index_or, slice_get, Some, Ok, slice_get_read, distance}
use Rattle.bpf_model.proofs.Prelude.{length-starts_from, start-insn, StartsAt}
use Rattle.verifier.proofs.Prelude.{target_of, HasTargets, HasGraphFlaw}
use Rattle.verifier.proofs.Edges.{start_read, start_below, flaw_found, bad_jump, jumps_before, jumps_all, targets_more, is_target, jumps_more}
use Rattle.verifier.proofs.Flaws.{good_has_none}
use Rattle.verifier.proofs.graph.targets_of.Goals as goal
use Rattle.verifier.proofs.graph.targets_of.Goals.{After-drop-targets}

pub bounds-starts-index : goal.bounds-starts-index
bounds-starts-index c = omega (arith, ap length c.requires.starts, length-starts_from 0 c.args.instructions.now)

pub bounds-starts-index-in-Err : goal.bounds-starts-index-in-Err
bounds-starts-index-in-Err c = omega (arith, ap length c.requires.starts, length-starts_from 0 c.args.instructions.now)

pub target_of-requires : goal.target_of-requires
target_of-requires c =
    let at : StartsAt c.args.instructions.now c.loop-index.index
    (slice_index_or c.args.starts.now c.loop-index.index 0) =
    start_read c.args.instructions.now c.args.starts.now c.loop-index.index c.requires.starts (omega arith) in
    omega (arith, start_below c.args.instructions.now c.loop-index.index (slice_index_or c.args.starts.now c.loop-index.index 0) at, c.requires.small)

-- the jump at hand is the first bad one
bad_here : (c : After-drop-targets) → HasGraphFlaw c.args.instructions.now c.in-Err.flaw (slice_index_or c.args.starts.now c.loop-index.index 0)
bad_here c =
    let at : StartsAt c.args.instructions.now c.loop-index.index
    (slice_index_or c.args.starts.now c.loop-index.index 0) =
    start_read c.args.instructions.now c.args.starts.now c.loop-index.index c.requires.starts (omega arith) in
    let here : slice_get c.args.instructions.now c.loop-index.index ≡ Some c.index-instructions-index.result =
    slice_get_read c.args.instructions.now (length c.args.instructions.now) c.loop-index.index
    c.index-instructions-index.result refl (omega arith) c.index-instructions-index.is in
    bad_jump c.args.instructions.now c.in-Err.flaw (slice_index_or c.args.starts.now c.loop-index.index 0) (record {
      insn = c.index-instructions-index.result;
      at = start-insn c.args.instructions.now c.loop-index.index
          (slice_index_or c.args.starts.now c.loop-index.index 0) c.index-instructions-index.result here at;
      bad = flaw_found c.args.instructions.now c.args.indexes.now c.requires.indexes
          (slice_index_or c.args.starts.now c.loop-index.index 0) c.index-instructions-index.result c.in-Err.flaw
          (sym c.in-Err.ensures);
      first = jumps_before c.args.instructions.now c.loop-index.index (slice_index_or c.args.starts.now c.loop-index.index 0) at c.loop-index.invariant.jumps;
    })

pub returns-in-Err-clause-told : goal.returns-in-Err-clause-told
returns-in-Err-clause-told c = bad_here (goal.at.returns-in-Err-clause-told c).After-drop-targets

pub loop-index-preserved : goal.loop-index-preserved
loop-index-preserved c =
    let at : StartsAt c.args.instructions.now c.loop-index.index
    (slice_index_or c.args.starts.now c.loop-index.index 0) =
    start_read c.args.instructions.now c.args.starts.now c.loop-index.index c.requires.starts (omega arith) in
    let here : slice_get c.args.instructions.now c.loop-index.index ≡ Some c.index-instructions-index.result =
    slice_get_read c.args.instructions.now (length c.args.instructions.now) c.loop-index.index
    c.index-instructions-index.result refl (omega arith) c.index-instructions-index.is in
    let found : target_of c.args.indexes.now (slice_index_or c.args.starts.now c.loop-index.index 0)
    (distance c.index-instructions-index.result) ≡ Ok c.in-Ok.target = sym c.in-Ok.ensures in
    record {
      long = omega (arith, c.push_reserved.ensures.len, c.loop-index.invariant.long);
      room = omega (arith, c.push_reserved.ensures.capacity, c.loop-index.invariant.room);
      targets = subst (HasTargets c.args.instructions.now) (sym c.push_reserved.ensures.items)
          (targets_more c.args.instructions.now c.loop-index.targets.items c.loop-index.index
          c.index-instructions-index.result c.in-Ok.target c.loop-index.invariant.long here
          c.loop-index.invariant.targets
          (is_target c.args.instructions.now c.args.indexes.now c.requires.indexes c.loop-index.index
          (slice_index_or c.args.starts.now c.loop-index.index 0) c.index-instructions-index.result c.in-Ok.target
          at found));
      jumps = jumps_more c.args.instructions.now c.args.indexes.now c.requires.indexes c.loop-index.index
          (slice_index_or c.args.starts.now c.loop-index.index 0) c.index-instructions-index.result c.in-Ok.target
          here at found c.loop-index.invariant.jumps;
    }

pub returns-clause-jumps : goal.returns-clause-jumps
returns-clause-jumps c = jumps_all c.args.instructions.now (λ j p i h e f. c.loop-index.invariant.jumps j p i (omega arith) e f)

pub returns-in-Err-clause-accepts : goal.returns-in-Err-clause-accepts
returns-in-Err-clause-accepts c = λ good.
    absurd (good_has_none c.args.instructions.now c.in-Err.flaw
    (slice_index_or c.args.starts.now c.loop-index.index 0) good
    (bad_here (goal.at.returns-in-Err-clause-accepts c).After-drop-targets))
