use Rattle.bpf_model.proofs.Prelude.{sym, subst}
use Rattle.bpf_model.specs.declared.event.Event.{Event}
use Rattle.journal.specs.declared.row.Row.TheVariants as rows
use Rattle.journal.specs.Rows.{IsRowOf, entry_from}
use Rattle.journal.proofs.Storing.{updated-row}
use Rattle.journal.proofs.making.row_of.Goals as goal

pub returns-in-Update : goal.returns-in-Update
returns-in-Update c =
    let e = c.in-Update in
    let row = rows.Updated c.args.worker c.outcome_of.result c.len.result c.len-in-Update.result e.map e.flags c.args.start in
    subst (λ (event : Event). IsRowOf c.args.start (entry_from c.args.worker event c.args.answer.now) row) (sym e.is)
    (updated-row c.args.worker c.args.start e.map e.flags c.len.result c.len-in-Update.result e.key e.value
    c.args.answer.now c.outcome_of.result c.outcome_of.ensures c.len.ensures.value c.len-in-Update.ensures.value
    c.len.ensures.fits c.len-in-Update.ensures.fits)
