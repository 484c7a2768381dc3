use Rattle.bpf_model.proofs.Prelude.{◌≡◌, ◌≢◌, ap, ◌∙◌, arith, ◌≤◌, get_or-set_other}
use Rattle.register_kinds.proofs.Prelude.{class_in, is_pointer, joined_class}
use Rattle.register_kinds.specs.declared.kind.CellKind.{CellKind}
use Rattle.register_kinds.specs.declared.kind.CellKind.TheVariants.{Unwritten}
use Rattle.register_kinds.proofs.Changes.{mapped_more, mapped_kept}
use Rattle.register_kinds.proofs.join.join_group.Goals as goal

pub loop-i-preserved : goal.loop-i-preserved
loop-i-preserved c =
    let i = c.loop-i.i in
    record {
      done = mapped_more CellKind Unwritten i c.loop-i.cells c.join_cell.result
          (λ k x. c.args.at ≤ k → x ≡ joined_class (class_in c.args.cells.now k) (class_in c.args.others.now k)
          (is_pointer c.args.spill.now)) (omega arith) c.loop-i.invariant.done
          (λ h. c.join_cell.ensures ∙ ap (λ a. joined_class a (class_in c.args.others.now i)
          (is_pointer c.args.spill.now)) (c.loop-i.invariant.rest i (omega arith)));
      before = λ k h. let ne : k ≢ i = omega arith in get_or-set_other c.loop-i.cells i k c.join_cell.result Unwritten ne ∙ c.loop-i.invariant.before k h;
      rest = mapped_kept CellKind Unwritten i c.loop-i.cells c.args.cells.now c.join_cell.result c.loop-i.invariant.rest;
    }
