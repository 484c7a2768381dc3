use Rattle.bpf_model.proofs.Prelude.{◌∙◌, ◌++◌, [], refl, set, sym, subst, arith, add-one, length-set}
use Rattle.map_table.proofs.Prelude.{as_holder}
use Rattle.map_table.proofs.Going.{goes_none, goes_then}
use Rattle.host_tables.specs.Tables.{SumsUp}
use Rattle.host_tables.proofs.Summing.{sums_next}
use Rattle.host_tables.proofs.Tidy.{same_tidy, sums_leave}
use Rattle.host_tables.proofs.writing.read_sums.Goals as goal

pub loop-place-init : goal.loop-place-init
loop-place-init c = (refl, refl, refl, refl, ([], goes_none (as_holder c.args.writer.now) c.is_writers.ensures.known, refl))

pub loop-place-preserved : goal.loop-place-preserved
loop-place-preserved c =
    let i = c.loop-place.invariant in
    let s = i.4 in
    let t = c.sum.ensures.total in
    let k = c.args.table.now.shape in
    let at = c.loop-place.place in (
      c.sum.ensures.table ∙ i.0,
      c.sum.ensures.free ∙ i.1,
      c.sum.ensures.unlinked ∙ i.2,
      length-set c.loop-place.sums at c.sum.result ∙ i.3,
      (
        t.0 ++ s.0,
        goes_then (as_holder c.args.writer.now) (as_holder c.loop-place.writer) (as_holder c.sum.new.self) s.0 t.0 s.1 t.1,
        subst (λ z. SumsUp k c.args.element z (set c.loop-place.sums at c.sum.result) (t.0 ++ s.0)) (sym (add-one at))
            (sums_next k c.args.element at c.sum.result c.loop-place.sums s.0 t.0 (omega (arith, c.loop-place-test.true)) t.2 s.2),
      ),
    )

pub returns-clause-tidy : goal.returns-clause-tidy
returns-clause-tidy c =
    let s = c.is_writers.ensures in
    let i = c.loop-place.invariant in
    same_tidy c.args.writer.now c.loop-place.writer i.4.0 s.me s.shape s.known i.4.1
    (sums_leave c.args.table.now.shape c.args.element c.loop-place.place c.loop-place.sums i.4.0 i.4.2) i.1 i.2
