use Rattle.table_words.proofs.Prelude.{rules, sym, ap, ◌∙◌, ◌+◌, ◌++◌, ◌∷◌, []}
use Rattle.map_table.proofs.Members.{range_more}
use Rattle.map_table.proofs.setup.numbers.Goals as goal

pub loop-i-preserved : goal.loop-i-preserved
loop-i-preserved c =
    let i = c.loop-i.invariant in
    let e = c.push_reserved.ensures in
    (e.len ∙ ap (λ z. z + 1) i.0, search rules, e.items ∙ (ap (λ xs. xs ++ c.loop-i.i ∷ []) i.2 ∙ sym (range_more c.loop-i.i)))
