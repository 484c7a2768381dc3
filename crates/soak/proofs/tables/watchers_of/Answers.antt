use Rattle.bpf_model.proofs.Prelude.{[], List, Bool, true, false, sym, subst, All, if◌then◌else◌, All-append, All-cons, All-head, All-nil, All-tail}
use Rattle.map_table.proofs.Prelude.{IsReady}
use Rattle.soak.specs.Tables.{IsReadyWatcher}
use Rattle.soak.proofs.tables.watchers_of.Goals as goal

all-either : {A : Type 0} → (P : A → Type 0) → (b : Bool) → (xs ys : List A) → All P xs → All P ys → All P (if b then xs else ys)
all-either P true xs ys p q = p
all-either P false xs ys p q = q

pub loop-seat-preserved : goal.loop-seat-preserved
loop-seat-preserved c =
    let ready = IsReady c.args.here.now in
    let fresh = IsReadyWatcher c.args.here.now in
    let i = c.loop-seat.invariant in
    let all = subst (All ready) c.in-Some.ensures.steps.0 i.0 in
    let pushed = All-append fresh c.loop-seat.watchers.items _ i.1
    (All-cons fresh _ [] (All-head ready c.in-Some.seat c.next.new.self.rest.items all) (All-nil fresh)) in (
      All-tail ready c.in-Some.seat c.next.new.self.rest.items all,
      subst (All fresh) (sym c.push.ensures.items) (all-either fresh _ _ _ pushed i.1),
    )
