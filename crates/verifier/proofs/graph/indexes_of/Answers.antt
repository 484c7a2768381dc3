use Rattle.bpf_model.proofs.Prelude.{ℕ, ◌<◌, length, arith, ap, slice_index_or, length-starts_from, start-inside, StartsAt, length-set, Option}
use Rattle.verifier.proofs.Edges.{start_read, start_below, index_found, index_only, length_slots}
use Rattle.verifier.proofs.graph.indexes_of.Goals as goal

pub index_mut-requires : goal.index_mut-requires
index_mut-requires c =
    let long : c.loop-index.index < length c.args.instructions.now = omega (arith, ap length c.requires.starts, length-starts_from 0 c.args.instructions.now) in
    let at : StartsAt c.args.instructions.now c.loop-index.index
    (slice_index_or c.args.starts.now c.loop-index.index 0) =
    start_read c.args.instructions.now c.args.starts.now c.loop-index.index c.requires.starts long in
    omega (
      arith,
      start_below c.args.instructions.now c.loop-index.index
          (slice_index_or c.args.starts.now c.loop-index.index 0) at,
      c.requires.slots,
      c.loop-index.invariant.long,
    )

pub overflow_cast-index : goal.overflow_cast-index
overflow_cast-index c = omega (
  arith,
  ap length c.requires.starts,
  length-starts_from 0 c.args.instructions.now,
  length_slots c.args.instructions.now,
  c.requires.small,
  c.loop-index-test.true,
)

pub loop-index-preserved : goal.loop-index-preserved
loop-index-preserved c =
    let long : c.loop-index.index < length c.args.instructions.now = omega (arith, ap length c.requires.starts, length-starts_from 0 c.args.instructions.now) in
    let at : StartsAt c.args.instructions.now c.loop-index.index
    (slice_index_or c.args.starts.now c.loop-index.index 0) =
    start_read c.args.instructions.now c.args.starts.now c.loop-index.index c.requires.starts long in
    let inside : slice_index_or c.args.starts.now c.loop-index.index 0 < length c.loop-index.indexes.items =
    omega (
      arith,
      start_below c.args.instructions.now c.loop-index.index
          (slice_index_or c.args.starts.now c.loop-index.index 0) at,
      c.requires.slots,
      c.loop-index.invariant.long,
    ) in
    record {
      long = omega (arith, length-set {A = Option ℕ}, c.loop-index.invariant.long);
      found = index_found c.args.instructions.now c.loop-index.indexes.items c.loop-index.index
          (slice_index_or c.args.starts.now c.loop-index.index 0) at inside c.loop-index.invariant.found;
      only = index_only c.args.instructions.now c.loop-index.indexes.items c.loop-index.index
          (slice_index_or c.args.starts.now c.loop-index.index 0) at inside c.loop-index.invariant.only;
    }

pub returns : goal.returns
returns c = record {
  found = λ k p e. c.loop-index.invariant.found k p (omega (
    arith,
    start-inside c.args.instructions.now k p e,
    ap length c.requires.starts,
    length-starts_from 0 c.args.instructions.now,
  )) e;
  only = c.loop-index.invariant.only;
}
