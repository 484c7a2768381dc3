use Rattle.bpf_model.proofs.Prelude.{refl, false≢true}
use Rattle.map_kinds.proofs.IndexOrder.{least-first, least-second, least-third, none-left}
use Rattle.map_kinds.proofs.index_key.index_above.Goals as goal

pub returns-then-is_index_above-clause-least : goal.returns-then-is_index_above-clause-least
returns-then-is_index_above-clause-least c = least-first c.args.bound.now c.args.limit c.byte_or_zero-low.result
    c.byte_or_zero.result c.requires c.byte_or_zero-low.ensures.byte c.byte_or_zero.ensures.byte
    c.byte_or_zero-low.ensures.small (c.if-is_index_above.ensures.0 refl).0

pub returns-then-is_index_above-2-clause-least : goal.returns-then-is_index_above-2-clause-least
returns-then-is_index_above-2-clause-least c =
    least-second c.args.bound.now c.args.limit c.byte_or_zero-low.result c.byte_or_zero.result c.requires
    c.byte_or_zero-low.ensures.byte c.byte_or_zero.ensures.byte c.byte_or_zero-low.ensures.small
    (λ x. false≢true (c.if-is_index_above.ensures.1 x))
    (c.if-is_index_above-2.ensures.0 refl).0

pub returns-then-is_index_above-3-clause-least : goal.returns-then-is_index_above-3-clause-least
returns-then-is_index_above-3-clause-least c =
    least-third c.args.bound.now c.args.limit c.byte_or_zero-low.result c.byte_or_zero.result c.requires
    c.byte_or_zero-low.ensures.byte c.byte_or_zero.ensures.byte c.byte_or_zero-low.ensures.small
    (λ x. false≢true (c.if-is_index_above.ensures.1 x))
    (λ x. false≢true (c.if-is_index_above-2.ensures.1 x))
    (c.if-is_index_above-3.ensures.0 refl).0

pub returns-else-is_index_above-3-clause-none : goal.returns-else-is_index_above-3-clause-none
returns-else-is_index_above-3-clause-none c =
    none-left c.args.bound.now c.args.limit c.byte_or_zero-low.result c.byte_or_zero.result c.requires
    c.byte_or_zero-low.ensures.byte c.byte_or_zero.ensures.byte c.byte_or_zero-low.ensures.small
    (λ x. false≢true (c.if-is_index_above.ensures.1 x))
    (λ x. false≢true (c.if-is_index_above-2.ensures.1 x))
    (λ x. false≢true (c.if-is_index_above-3.ensures.1 x))
