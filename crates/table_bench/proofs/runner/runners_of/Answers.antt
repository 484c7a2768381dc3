use Rattle.bpf_model.proofs.Prelude.{[], sym, subst, All, All-append, All-cons, All-head, All-nil, All-tail}
use Rattle.table_bench.specs.declared.runner.Runner.{Runner}
use Rattle.table_bench.proofs.Lists.{all-either}
use Rattle.table_bench.proofs.runner.runners_of.Goals as goal

pub loop-reader-preserved : goal.loop-reader-preserved
loop-reader-preserved g c =
    let ready = g.S.Measured.IsReader c.args.table.now in
    let fresh = λ (r : Runner _). g.S.Measured.IsReader c.args.table.now r.reader in
    let i = c.loop-reader.invariant in
    let all = subst (All ready) c.in-Some.ensures.steps.0 i.0 in
    let pushed = All-append fresh c.loop-reader.runners.items _ i.1
    (All-cons fresh _ [] (All-head ready c.in-Some.reader c.next.new.self.rest.items all) (All-nil fresh)) in (
      All-tail ready c.in-Some.reader c.next.new.self.rest.items all,
      subst (All fresh) (sym c.push.ensures.items) (all-either fresh _ _ _ pushed i.1),
    )
