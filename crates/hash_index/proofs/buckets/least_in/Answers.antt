use Rattle.bpf_model.proofs.Prelude.{◌+◌, ℕ, List, Option, None, subst, drop, option_copied, slice_index_or, slice_get-get_or, drop_more}
use Rattle.hash_index.proofs.Changes.{home_chain}
use Rattle.hash_index.proofs.Least.{IsGathered, gather_step}
use Rattle.hash_index.proofs.buckets.least_in.Goals as goal

pub least_with-least-requires-clause-chain : goal.least_with-least-requires-clause-chain
least_with-least-requires-clause-chain c = home_chain c.args.heads.now c.args.arena.now c.loop-head.head-index
    (slice_index_or c.args.heads.now c.loop-head.head-index None) c.requires
    (slice_get-get_or c.args.heads.now c.loop-head.head-index None c.loop-head-test.true)

pub loop-head-preserved : goal.loop-head-preserved
loop-head-preserved c = record {
  gathered = gather_step c.args.arena.now (option_copied c.args.bound) c.args.heads.now
      (slice_index_or c.args.heads.now c.loop-head.head-index None)
      (drop (c.loop-head.head-index + 1) c.args.heads.now) c.loop-head.least c.least_with-least.result
      (subst (λ (l : List (Option ℕ)). IsGathered c.args.arena.now (option_copied c.args.bound) c.args.heads.now l
      c.loop-head.least) (drop_more c.args.heads.now c.loop-head.head-index None c.loop-head-test.true)
      c.loop-head.invariant.gathered)
      c.least_with-least.ensures.least;
  inside = c.least_with-least.ensures.inside;
}
