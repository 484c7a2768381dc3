use Rattle.bpf_model.proofs.Prelude.{◌≡◌, [], subst, drop, arith, drop_all, drop_more}
use Rattle.control.proofs.Elements.{AreBegun, all-written, begun, goes-on}
use Rattle.control.proofs.dump.write_slots.Goals as goal

pub loop-slot-init : goal.loop-slot-init
loop-slot-init c = begun c.args.map.now c.args.out.now.items c.args.slots.now c.requires

pub element-key-requires : goal.element-key-requires
element-key-requires c =
    let here = subst (λ l. AreBegun c.args.map.now l c.args.out.now.items c.loop-slot.out.items)
    (drop_more c.args.slots.now c.loop-slot.slot-index 0 c.loop-slot-test.true) c.loop-slot.invariant in
    here.order.0.linked

pub loop-slot-preserved : goal.loop-slot-preserved
loop-slot-preserved c =
    let here = subst (λ l. AreBegun c.args.map.now l c.args.out.now.items c.loop-slot.out.items)
    (drop_more c.args.slots.now c.loop-slot.slot-index 0 c.loop-slot-test.true) c.loop-slot.invariant in
    goes-on c.args.map.now c.args.out.now.items _ _ _ _ c.element-key.result.0 c.element-key.result.1 here c.element-key.ensures.key
    c.element-key.ensures.value c.in_ok-write_reply.ensures.ok

pub returns-clause-ok : goal.returns-clause-ok
returns-clause-ok c =
    let end : drop c.loop-slot.slot-index c.args.slots.now ≡ [] = drop_all c.loop-slot.slot-index c.args.slots.now (omega (arith, c.loop-slot-test.false)) in
    all-written c.args.map.now c.args.out.now.items c.loop-slot.out.items
    (subst (λ l. AreBegun c.args.map.now l c.args.out.now.items c.loop-slot.out.items) end c.loop-slot.invariant)
