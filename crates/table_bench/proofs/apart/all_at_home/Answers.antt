use Rattle.bpf_model.proofs.Prelude.{[], sym, subst, All, All-append, All-cons, All-nil}
use Rattle.table_bench.specs.Reads.{IsAtHome}
use Rattle.table_bench.proofs.Lists.{all-either}
use Rattle.table_bench.proofs.apart.all_at_home.Goals as goal

pub loop-preserved : goal.loop-preserved
loop-preserved g c =
    let home = IsAtHome g.S.Measured.IsSet g.S.Measured.IsReader in
    let pushed = All-append home c.loop.all.items _ c.loop.invariant
    (All-cons home _ [] c.in_ok-at_home.ensures (All-nil home)) in
    subst (All home) (sym c.push.ensures.items) (all-either home _ _ _ pushed c.loop.invariant)
