use Rattle.bpf_model.proofs.Prelude.{◌+◌, ◌-◌, ◌/◌, arith, sym, ◌∙◌, slice_get-get_or, false≢true}
use Rattle.element_store.proofs.Prelude.{key_at}
use Rattle.hash_index.specs.Held.{held_at}
use Rattle.hash_index.proofs.Orders.{halved_below, halved_above}
use Rattle.hash_index.proofs.position.position.Goals as goal

pub is_less-requires : goal.is_less-requires
is_less-requires c =
    c.requires.within _ (held_at c.args.slots.now _ _ (slice_get-get_or c.args.slots.now
    (c.loop-low.low + (c.loop-low.high - c.loop-low.low) / 2) 0
    (omega (arith, c.loop-low-test.true, c.loop-low.invariant.within))))

pub loop-low-preserved-then-is_less : goal.loop-low-preserved-then-is_less
loop-low-preserved-then-is_less c = record {
  order = omega (arith, c.loop-low-test.true);
  within = c.loop-low.invariant.within;
  below = halved_below (key_at c.args.arena.now.slots) c.args.slots.now c.args.key.now _ _ c.requires.ascending
      (slice_get-get_or c.args.slots.now (c.loop-low.low + (c.loop-low.high - c.loop-low.low) / 2) 0
      (omega (arith, c.loop-low-test.true, c.loop-low.invariant.within))) (c.is_less.ensures.0 c.if-is_less.true);
  above = c.loop-low.invariant.above;
}

pub loop-low-preserved : goal.loop-low-preserved
loop-low-preserved c = record {
  order = omega (arith, c.loop-low-test.true);
  within = omega (arith, c.loop-low-test.true, c.loop-low.invariant.within);
  below = c.loop-low.invariant.below;
  above = halved_above (key_at c.args.arena.now.slots) c.args.slots.now c.args.key.now _ _ c.requires.ascending
      (slice_get-get_or c.args.slots.now (c.loop-low.low + (c.loop-low.high - c.loop-low.low) / 2) 0
      (omega (arith, c.loop-low-test.true, c.loop-low.invariant.within)))
      (λ l. false≢true (sym c.if-is_less.false ∙ c.is_less.ensures.1 l));
}
