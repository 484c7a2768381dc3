use Rattle.bpf_model.proofs.Prelude.{◌≡◌, ap, ◌∙◌, ◌/◌, arith, get_or_read}
use Rattle.register_kinds.proofs.Prelude.{kind_in, class_in, learnt_class}
use Rattle.register_kinds.specs.declared.kind.RegKind.TheVariants as kinds
use Rattle.register_kinds.specs.declared.kind.CellKind.{CellKind}
use Rattle.register_kinds.specs.declared.kind.CellKind.TheVariants.{Unwritten}
use Rattle.register_kinds.proofs.Changes.{mapped_more, mapped_kept}
use Rattle.register_kinds.proofs.learn.learn_cells.Goals as goal

pub loop-i-preserved : goal.loop-i-preserved
loop-i-preserved c =
    let i = c.loop-i.i in
    let e = get_or_read c.args.spills.now (i / 8) c.index-spills-i.result (omega arith) c.index-spills-i.is kinds.Unwritten in
    record {
      done = mapped_more CellKind Unwritten i c.loop-i.cells c.learn_cell.result
          (λ k x. x ≡ learnt_class c.args.lesson (kind_in c.args.spills.now (k / 8)) (class_in c.args.cells.now k))
          (omega arith) c.loop-i.invariant.done
          (c.learn_cell.ensures ∙ (ap (learnt_class c.args.lesson c.index-spills-i.result)
          (c.loop-i.invariant.rest i (omega arith)) ∙
          ap (λ s. learnt_class c.args.lesson s (class_in c.args.cells.now i)) e));
      rest = mapped_kept CellKind Unwritten i c.loop-i.cells c.args.cells.now c.learn_cell.result c.loop-i.invariant.rest;
    }
