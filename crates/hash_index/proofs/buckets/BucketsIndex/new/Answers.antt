use Rattle.bpf_model.proofs.Prelude.{◌≡◌, ◌∙◌, ℕ, List, Option, None, length, sym, ap, subst, min, length-replicate}
use Rattle.bpf_model.specs.declared.limits.TheConstants.{MAX_ENTRIES}
use Rattle.hash_index.specs.Buckets.{IsLeastPowerOfTwo}
use Rattle.hash_index.proofs.Least.{fits_none, contents_none}
use Rattle.hash_index.proofs.Powers.{some_power}
use Rattle.hash_index.proofs.buckets.BucketsIndex.new.Goals as goal

pub returns-clause-fits : goal.returns-clause-fits
returns-clause-fits c a l = fits_none c.in_ok-empty_heads.field-0.items c.chain_count.result a
    c.in_ok-empty_heads.ensures (some_power _ c.chain_count.result c.chain_count.ensures)

pub returns-clause-empty : goal.returns-clause-empty
returns-clause-empty c a l = contents_none c.in_ok-empty_heads.field-0.items c.chain_count.result a c.in_ok-empty_heads.ensures

pub returns-clause-made : goal.returns-clause-made
returns-clause-made c =
    let long : length c.in_ok-empty_heads.field-0.items ≡ c.chain_count.result =
    ap (λ (l : List (Option ℕ)). length l) c.in_ok-empty_heads.ensures ∙
    length-replicate c.chain_count.result None in
    subst (IsLeastPowerOfTwo (min c.args.entries MAX_ENTRIES)) (sym long) c.chain_count.ensures
