use Rattle.bpf_model.proofs.Prelude.{◌≡◌, ◌++◌, ◌∷◌, [], List, length, ap, subst, ◌∙◌, rules, arith, ℕ}
use Rattle.journal.specs.Rows.{IsRowOf, entry_from}
use Rattle.bpf_model.specs.declared.entry.Entry.{Entry}
use Rattle.journal.proofs.Counting.{counted-push, entries-pushed}
use Rattle.journal.proofs.journal.Journal.push_answer.Goals as goal

pub invariant_of-self : goal.invariant_of-self
invariant_of-self c =
    let rows = c.self.inside.rows.items in
    let bytes = c.self.inside.bytes.items in
    let e = entry_from c.args.worker c.args.event.now c.args.answer.now in
    let row = c.row_of-row.result in
    let at : c.len.result ≡ length bytes = search rules in
    let is : IsRowOf (length bytes) e row = subst (λ (n : ℕ). IsRowOf n e row) at c.row_of-row.ensures in
    counted-push rows c.push_reserved.new.self.items bytes c.append.new.bytes.items e row c.self.inside.total
    c.self.inside.limit c.self.invariant is c.push_reserved.ensures.items c.append.ensures (grind arith)

pub returns-clause-entries : goal.returns-clause-entries
returns-clause-entries c =
    let rows = c.self.inside.rows.items in
    let bytes = c.self.inside.bytes.items in
    let e = entry_from c.args.worker c.args.event.now c.args.answer.now in
    let row = c.row_of-row.result in
    let at : c.len.result ≡ length bytes = search rules in
    let is : IsRowOf (length bytes) e row = subst (λ (n : ℕ). IsRowOf n e row) at c.row_of-row.ensures in
    entries-pushed rows c.push_reserved.new.self.items bytes c.append.new.bytes.items e row c.self.invariant.stored is
    c.push_reserved.ensures.items c.append.ensures
    ∙ ap (λ (es : List Entry). es ++ e ∷ []) (search rules)
