use Rattle.bpf_model.proofs.Prelude.{◌≡◌, refl, ◌∙◌, subst, arith}
use Rattle.table_words.proofs.Prelude.{word_in}
use Rattle.map_table.proofs.Prelude.{layout_of, WriterView}
use Rattle.host_tables.proofs.Meeting.{empty_next}
use Rattle.host_tables.proofs.Tidy.{searched_tidy}
use Rattle.host_tables.proofs.walking.load_first.Goals as goal

pub loop-way-init : goal.loop-way-init
loop-way-init c = (refl, refl, omega arith, λ way l m. absurd (omega (arith, l, m)))

pub loop-way-preserved : goal.loop-way-preserved
loop-way-preserved c =
    let i = c.loop-way.invariant in
    let e = c.key_at.ensures in
    let no = c.if-key_at.false in
    let at = c.loop-way.way in
    let low = i.2 in (
      e.unchanged no ∙ i.0,
      e.unwritten no ∙ i.1,
      omega (arith, low),
      empty_next c.args.from at c.args.writer.now.view.mine
          (subst (λ (w : WriterView). word_in at w.view.mine ≡ 0) i.0 (e.none.0 no)) i.3,
    )

pub returns-then-key_at-clause-tidy : goal.returns-then-key_at-clause-tidy
returns-then-key_at-clause-tidy c =
    let s = c.is_writers.ensures in
    let e = c.key_at.ensures in
    searched_tidy (layout_of c.args.table.now.shape) c.args.writer.now c.loop-way.writer c.key_at.new.self e.steps.0 c.loop-way.invariant.0
    s.me s.shape s.known e.steps.1 e.steps.2 e.free e.unlinked
