use Rattle.bpf_model.proofs.Prelude.{◌≡◌, ap, ◌∙◌, arith, inl, inr, ◌*◌, ◌/◌, cases_lt, get_or_read}
use Rattle.register_kinds.proofs.Prelude.{kind_in, class_in, is_pointer, joined_class}
use Rattle.register_kinds.specs.declared.kind.RegKind.TheVariants as kinds
use Rattle.register_kinds.proofs.Cells.{joined_all}
use Rattle.register_kinds.proofs.join.join_cells.Goals as goal

pub loop-g-preserved : goal.loop-g-preserved
loop-g-preserved c =
    let g = c.loop-g.g in
    let spill = get_or_read c.args.spills.now g c.index-spills-g.result (omega arith) c.index-spills-g.is kinds.Unwritten in
    record {
      done = λ k h. elim (cases_lt k (8 * g)) [
        | inl l ↦ c.join_group.ensures.before k l ∙ c.loop-g.invariant.done k l
        | inr l ↦
            let here : g ≡ k / 8 = omega arith in
            c.join_group.ensures.group k l (omega arith)
            ∙ (ap (λ a. joined_class a (class_in c.args.others.now k) (is_pointer c.index-spills-g.result)) (c.loop-g.invariant.rest k l)
            ∙ ap (λ s. joined_class (class_in c.args.cells.now k) (class_in c.args.others.now k) (is_pointer s)) (spill ∙ ap (kind_in c.args.spills.now) here))
      ];
      rest = λ k h. c.join_group.ensures.behind k (omega arith) ∙ c.loop-g.invariant.rest k (omega arith);
    }

pub returns : goal.returns
returns c = joined_all c.loop-g.cells c.args.cells.now c.args.others.now (λ k. kind_in c.args.spills.now (k / 8))
    (omega arith) c.requires.long (λ k h. c.loop-g.invariant.done k (omega arith))
