use Rattle.bpf_model.proofs.Prelude.{arith}
use Rattle.system_tests.specs.declared.indexes.TheConstants.{MANY}
use Rattle.system_tests.proofs.Stocking.{filled_new, stocked_when}
use Rattle.system_tests.proofs.indexes.stocked.Goals as goal

pub loop-count-init : goal.loop-count-init
loop-count-init c = filled_new MANY 1 c.in_ok-arena.arena c.in_ok-arena.ensures.new

pub returns : goal.returns
returns c =
    let s = stocked_when MANY c.loop-count.count c.loop-count.arena c.loop-count.invariant in
    record { long = s.long; taken = λ j h. s.taken j (omega (arith, h, c.loop-count-test.false)) }
