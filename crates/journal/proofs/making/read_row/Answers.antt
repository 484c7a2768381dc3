use Rattle.bpf_model.proofs.Prelude.{◌≡◌, Some, sym, subst, rules}
use Rattle.bpf_model.specs.declared.event.Answer.{Answer}
use Rattle.bpf_model.specs.declared.event.Answer.TheVariants as answers
use Rattle.bpf_model.specs.declared.event.Event.TheVariants as events
use Rattle.journal.specs.declared.row.Row.TheVariants as rows
use Rattle.journal.specs.Rows.{IsRowOf, entry_from}
use Rattle.journal.proofs.Storing.{found-row}
use Rattle.journal.proofs.making.read_row.Goals as goal

pub returns-in-Found-Some : goal.returns-in-Found-Some
returns-in-Found-Some c =
    let value = c.in-Found-Some.value in
    let row = rows.Found c.args.worker c.len-key_len.result c.len.result c.args.map c.args.start in
    let is : c.args.answer.now ≡ answers.Found (Some value) = search rules in
    subst (λ (answer : Answer). IsRowOf c.args.start (entry_from c.args.worker (events.Read c.args.map c.args.key.now) answer) row) (sym is)
    (found-row c.args.worker c.args.start c.args.map c.len-key_len.result c.len.result c.args.key.now value
    c.len-key_len.ensures.value c.len.ensures.value c.len-key_len.ensures.fits c.len.ensures.fits)
