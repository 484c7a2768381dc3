use Rattle.bpf_model.proofs.Prelude.{sym, ◌∙◌, ap}
use Rattle.register_kinds.specs.declared.kind.RegKind.TheVariants.{Num}
use Rattle.register_kinds.proofs.Same.{scalars-decides, kind_same}
use Rattle.register_kinds.proofs.kind.RegKind.is_same.Goals as goal

pub returns-in-Num-other : goal.returns-in-Num-other
returns-in-Num-other c = record {
  same = λ t. c.in-Num.is
      ∙ ap Num ((scalars-decides c.in-Num.numbers c.in-Num-other.others).0 (sym c.eq.ensures ∙ t))
      ∙ sym c.in-Num-other.is;
}

pub returns-in_default : goal.returns-in_default
returns-in_default c = record {
  same = λ t. kind_same c.args.self.now c.args.other.now (sym c.eq-in_default.ensures ∙ t);
}
