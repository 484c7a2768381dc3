-- The kind in code of a kind of the laws.
use Rattle.bpf_model.proofs.Prelude.{◌≡◌, refl, sym, ap, ◌∙◌}
use Rattle.plan_laws.proofs.Prelude.{Kind, Blank, Ended, Mixed, Num, CtxAt, FrameAt, MapAt, ValueAt, MaybeNull}
use Rattle.register_kinds.proofs.Prelude.{kind_of}
use Rattle.register_kinds.specs.declared.kind.RegKind.{RegKind}
use Rattle.register_kinds.specs.declared.kind.RegKind.TheVariants as kinds

abbrev pub reg_kind : Kind → RegKind
reg_kind Blank = kinds.Unwritten
reg_kind Ended = kinds.Ended
reg_kind Mixed = kinds.Mixed
reg_kind (Num s) = kinds.Num s
reg_kind (CtxAt s) = kinds.Ctx s
reg_kind (FrameAt o) = kinds.Frame o
reg_kind (MapAt map) = kinds.Map map
reg_kind (ValueAt map s) = kinds.Value map s
reg_kind (MaybeNull map id) = kinds.MaybeNull map id

reg_kind_of : (k : RegKind) → reg_kind (kind_of k) ≡ k
reg_kind_of kinds.Unwritten = refl
reg_kind_of kinds.Ended = refl
reg_kind_of kinds.Mixed = refl
reg_kind_of (kinds.Num s) = refl
reg_kind_of (kinds.Ctx s) = refl
reg_kind_of (kinds.Frame o) = refl
reg_kind_of (kinds.Map m) = refl
reg_kind_of (kinds.Value m s) = refl
reg_kind_of (kinds.MaybeNull m i) = refl

pub kind_is : (k : RegKind) (kind : Kind) → kind_of k ≡ kind → k ≡ reg_kind kind
kind_is k kind e = sym (reg_kind_of k) ∙ ap reg_kind e
