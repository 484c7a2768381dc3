use Rattle.bpf_model.proofs.Prelude.{subst}
use Rattle.hash_index.specs.Buckets.{IsLeastPowerOfTwo}
use Rattle.hash_index.proofs.Powers.{no_lesser}
use Rattle.hash_index.proofs.buckets.chain_count.Goals as goal

pub returns : goal.returns
returns c = subst (λ n. IsLeastPowerOfTwo n c.next_power_of_two.result) c.min.ensures (record {
  power = c.next_power_of_two.ensures.power;
  enough = c.next_power_of_two.ensures.lower_bound;
  least = λ k. no_lesser _ c.next_power_of_two.result c.next_power_of_two.ensures.power.0 k
      c.next_power_of_two.ensures.power.1 c.next_power_of_two.ensures.upper_bound;
})
