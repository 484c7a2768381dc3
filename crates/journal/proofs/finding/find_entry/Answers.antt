use Rattle.bpf_model.proofs.Prelude.{◌≡◌, ◌∙◌, ℕ, suc, ◌+◌, ◌-◌, ◌∷◌, List, Some, drop, length, refl, sym, ap, arith, slice_get, slice_get_read, drop-next}
use Rattle.journal.specs.declared.row.Row.{Row}
use Rattle.journal.specs.Rows.{all_entries, span_of}
use Rattle.journal.proofs.Indexing.{entry-here, entry-later}
use Rattle.journal.proofs.finding.find_entry.Goals as goal

-- the row that is looked at, and those behind it
dropped : (all : List Row) (i : ℕ) (row : Row) → slice_get all i ≡ Some row → drop i all ≡ row ∷ drop (i + 1) all
dropped all i row at = let e : suc i ≡ i + 1 = omega arith in drop-next all i row at ∙ ap (λ (n : ℕ). row ∷ drop n all) e

pub loop-row-preserved : goal.loop-row-preserved
loop-row-preserved c =
    let all = c.args.rows.now in
    let bytes = c.args.bytes.now in
    let i = c.loop-row.row-index in
    let row = c.row-item.result in
    let at : slice_get all i ≡ Some row = slice_get_read all (length all) i row refl c.loop-row-test.true c.row-item.is in
    let span = c.span-span.ensures in
    let more = c.if-left-span.false in
    let left : c.loop-row.left ≡ span_of row + (c.loop-row.left - c.span-span.result) = omega (arith, span, more) in
    c.loop-row.invariant
    ∙ (ap (λ (rs : List Row). slice_get (all_entries bytes rs) c.loop-row.left) (dropped all i row at)
    ∙ entry-later bytes row (drop (i + 1) all) c.loop-row.left (c.loop-row.left - c.span-span.result) left)

pub returns-then-left-span : goal.returns-then-left-span
returns-then-left-span c =
    let all = c.args.rows.now in
    let bytes = c.args.bytes.now in
    let i = c.loop-row.row-index in
    let row = c.row-item.result in
    let at : slice_get all i ≡ Some row = slice_get_read all (length all) i row refl c.loop-row-test.true c.row-item.is in
    let span = c.span-span.ensures in
    let less = c.if-left-span.true in
    ap Some c.entry.ensures
    ∙ sym (c.loop-row.invariant
    ∙ (ap (λ (rs : List Row). slice_get (all_entries bytes rs) c.loop-row.left) (dropped all i row at)
    ∙ entry-here bytes row (drop (i + 1) all) c.loop-row.left (omega (arith, span, less))))
