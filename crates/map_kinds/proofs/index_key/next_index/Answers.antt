use Rattle.bpf_model.proofs.Prelude.{ℕ, List, Option, Some, None, [], sym, ap, subst, IfSome, IfNone, index_key, index_below}
use Rattle.std.specs.Option.{option_copied}
use Rattle.hash_index.specs.Order.{NoneAbove, NoneBetween}
use Rattle.map_kinds.proofs.IndexOrder.{between-any, above-any}
use Rattle.map_kinds.proofs.index_key.next_index.Goals as goal

least : (limit : ℕ) (o : Option ℕ) → IfSome o (λ i. NoneBetween (index_below limit) (Some []) (index_key i)) →
    IfSome o (λ i. NoneBetween (index_below limit) None (index_key i))
least limit None h = tt
least limit (Some i) h = between-any limit (index_key i) h

none : (limit : ℕ) (o : Option ℕ) → IfNone o (NoneAbove (index_below limit) (Some [])) → IfNone o (NoneAbove (index_below limit) None)
none limit None h = above-any limit h
none limit (Some i) h = tt

pub returns-in-None-clause-least : goal.returns-in-None-clause-least
returns-in-None-clause-least c =
    subst (λ (b : Option (List ℕ)). IfSome c.index_above.result
    (λ i. NoneBetween (index_below c.args.limit) b (index_key i))) (sym (ap option_copied c.in-None.is))
    (least c.args.limit c.index_above.result c.index_above.ensures.least)

pub returns-in-None-clause-none : goal.returns-in-None-clause-none
returns-in-None-clause-none c =
    subst (λ (b : Option (List ℕ)). IfNone c.index_above.result (NoneAbove (index_below c.args.limit) b)) (sym (ap option_copied c.in-None.is))
    (none c.args.limit c.index_above.result c.index_above.ensures.none)
