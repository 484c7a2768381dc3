use Rattle.bpf_model.proofs.Prelude.{◌≡◌, ◌∙◌, Some, None, length, refl, sym, ap, arith, slice_get, option_map, slice_get_past, slice_get_read}
use Rattle.journal.specs.Rows.{all_entries, entry_of}
use Rattle.journal.proofs.Indexing.{entry-of-row}
use Rattle.journal.proofs.finding.entry_at.Goals as goal

pub returns-then-index-rows : goal.returns-then-index-rows
returns-then-index-rows c =
    let all = c.args.rows.now in
    let bytes = c.args.bytes.now in
    let there : slice_get all c.args.index ≡ Some c.index-rows-index.result =
    slice_get_read all (length all) c.args.index c.index-rows-index.result refl c.if-index-rows.true c.index-rows-index.is in
    let count = c.requires.count in
    let as-many = c.if-rows-total.false in
    let same : length all ≡ length (all_entries bytes all) = grind arith in
    ap Some c.entry.ensures
    ∙ sym (entry-of-row bytes all c.args.index c.requires.stored same ∙ ap (option_map (entry_of bytes)) there)

pub returns-else-index-rows : goal.returns-else-index-rows
returns-else-index-rows c =
    let all = c.args.rows.now in
    let bytes = c.args.bytes.now in
    let none : slice_get all c.args.index ≡ None = slice_get_past all c.args.index c.if-index-rows.false in
    let count = c.requires.count in
    let as-many = c.if-rows-total.false in
    let same : length all ≡ length (all_entries bytes all) = grind arith in
    sym (entry-of-row bytes all c.args.index c.requires.stored same ∙ ap (option_map (entry_of bytes)) none)
