use Rattle.bpf_model.proofs.Prelude.{refl, ap, Ok}
use Rattle.effects.proofs.Combining.{low_combines}
use Rattle.effects.proofs.kinds.copied.Goals as goal
use Rattle.effects.proofs.Known.{copied_known, moved_known}

pub returns-in_ok-low-in-Word32-clause-sound : goal.returns-in_ok-low-in-Word32-clause-sound
returns-in_ok-low-in-Word32-clause-sound c = low_combines c.args.size c.args.kind c.constant-zero.result
    c.in_ok-low-in-Word32.low c.apply.result c.in-Word32.is c.in_ok-low-in-Word32.ensures.value
    c.constant-zero.ensures.sound c.apply.ensures.sound

pub returns-in-Word64-clause-numbers : goal.returns-in-Word64-clause-numbers
returns-in-Word64-clause-numbers c = λ s e. (s, ap Ok e)

pub returns-in_ok-low-in-Word32-clause-numbers : goal.returns-in_ok-low-in-Word32-clause-numbers
returns-in_ok-low-in-Word32-clause-numbers c = λ s e. (c.apply.result, refl)

pub returns-in-Word64-clause-floor : goal.returns-in-Word64-clause-floor
returns-in-Word64-clause-floor c = λ a b e. copied_known c.args.size c.args.kind a b c.in-Word64.is e

pub returns-in_ok-low-in-Word32-clause-floor : goal.returns-in_ok-low-in-Word32-clause-floor
returns-in_ok-low-in-Word32-clause-floor c = λ a b e. moved_known c.args.size c.args.kind a b
    c.in_ok-low-in-Word32.low c.constant-zero.result c.apply.result c.in-Word32.is c.in_ok-low-in-Word32.ensures.value
    c.constant-zero.ensures.exact c.apply.ensures.floor e
