use Rattle.bpf_model.proofs.Prelude.{◌≡◌, ◌<◌, ℕ, ◌+◌, length, ap, ◌∙◌, subst, arith}
use Rattle.classic_program.proofs.Prelude.{parts_left}
use Rattle.classic_program.proofs.Lines.{IsReadingLines, lines-next, none-wrong, none-more}
use Rattle.classic_program.proofs.Wrong.{too-few, too-many, first-wrong}
use Rattle.classic_program.proofs.reading.read_lines.Goals as goal

pub returns-in_default-filter_of-clause-only : goal.returns-in_default-filter_of-clause-only
returns-in_default-filter_of-clause-only c = λ filters has.
    absurd (none-wrong c.args.count c.loop.counter (parts_left 10 c.args.lines) (parts_left 10 c.loop.rest)
    (parts_left 10 c.cut.result.1) c.cut.result.0.now c.loop.filters.items
    filters c.loop.invariant (ap (parts_left 10) c.in-Some.is ∙ c.cut.ensures) c.in_default-filter_of.ensures c.loop-test.true has)

pub returns-in_default-filter_of-clause-fault : goal.returns-in_default-filter_of-clause-fault
returns-in_default-filter_of-clause-fault c =
    first-wrong c.args.count c.loop.counter (parts_left 10 c.args.lines) (parts_left 10 c.loop.rest)
    (parts_left 10 c.cut.result.1) c.cut.result.0.now c.loop.filters.items (c.len.result + 2)
    c.loop.invariant (ap (parts_left 10) c.in-Some.is ∙ c.cut.ensures)
    c.in_default-filter_of.ensures c.loop-test.true (ap (λ (n : ℕ). n + 2) (c.len.ensures ∙ c.loop.filters.ok.0))

pub returns-in_default-clause-fault : goal.returns-in_default-clause-fault
returns-in_default-clause-fault c =
    too-few c.args.count c.loop.counter (parts_left 10 c.args.lines) (parts_left 10 c.loop.rest) c.loop.filters.items
    c.loop.invariant (ap (parts_left 10) c.in_default.is) c.loop-test.true

pub loop-preserved : goal.loop-preserved
loop-preserved c =
    lines-next (parts_left 10 c.args.lines) (parts_left 10 c.loop.rest)
    (parts_left 10 c.cut.result.1) c.cut.result.0.now c.loop.filters.items c.extend_from_slice.new.self.items
    c.in-Some-filter_of.filter c.loop.counter c.loop.invariant (ap (parts_left 10) c.in-Some.is ∙ c.cut.ensures) c.in-Some-filter_of.ensures
    c.in_ok-extend_from_slice.ensures.items

pub returns-then-not-is_empty-clause-only : goal.returns-then-not-is_empty-clause-only
returns-then-not-is_empty-clause-only c = λ filters has.
    let end = c.loop.auto.counter-end in
    let test = c.loop-test.false in
    let same : c.loop.counter ≡ c.args.count = omega arith in
    let e = c.is_empty.ensures in
    let f = c.if-not-is_empty.true in
    let some : 0 < length c.in-Some-rest.bytes.now = grind arith in
    absurd (none-more c.args.count (parts_left 10 c.args.lines) (parts_left 10 c.loop.rest) c.in-Some-rest.bytes.now c.loop.filters.items filters
    (subst (λ (n : ℕ). IsReadingLines (parts_left 10 c.args.lines) (parts_left 10 c.loop.rest) c.loop.filters.items n) same c.loop.invariant)
    (ap (parts_left 10) c.in-Some-rest.is) some has)

pub returns-then-not-is_empty-clause-fault : goal.returns-then-not-is_empty-clause-fault
returns-then-not-is_empty-clause-fault c =
    let end = c.loop.auto.counter-end in
    let test = c.loop-test.false in
    let same : c.loop.counter ≡ c.args.count = omega arith in
    let e = c.is_empty.ensures in
    let f = c.if-not-is_empty.true in
    let some : 0 < length c.in-Some-rest.bytes.now = grind arith in
    too-many c.args.count (parts_left 10 c.args.lines) (parts_left 10 c.loop.rest) c.in-Some-rest.bytes.now c.loop.filters.items
    (subst (λ (n : ℕ). IsReadingLines (parts_left 10 c.args.lines) (parts_left 10 c.loop.rest) c.loop.filters.items n) same c.loop.invariant)
    (ap (parts_left 10) c.in-Some-rest.is) some
