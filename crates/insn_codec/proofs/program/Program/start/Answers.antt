use Rattle.bpf_model.proofs.Prelude.{◌≡◌, ℕ, ◌<◌, List, length, get_or, ap, ◌∙◌, arith, get_or_read, length-starts_from, starts_from}
use Rattle.bpf_model.specs.declared.insn.Insn.{Insn}
use Rattle.insn_codec.proofs.program.Program.start.Goals as goal

module _ (starts : List ℕ) (inside now : List Insn) (e : starts ≡ starts_from 0 inside) (v : inside ≡ now) where
  starts_length : length starts ≡ length now
  starts_length = ap (λ (x : List ℕ). length x) e ∙ length-starts_from 0 inside ∙ ap (λ (x : List Insn). length x) v

  starts_are : starts ≡ starts_from 0 now
  starts_are = e ∙ ap (starts_from 0) v

pub index-requires : goal.index-requires
index-requires c = omega (arith, c.self.inside.starts.ok.0, starts_length _ _ _ c.self.invariant.1 c.self.view_is)

pub returns : goal.returns
returns c =
    let within : c.args.index < length c.self.inside.starts.items = omega (arith, starts_length _ _ _ c.self.invariant.1 c.self.view_is) in
    get_or_read c.self.inside.starts.items _ _ within c.index.ensures 0 ∙
    ap (λ (x : List ℕ). get_or x c.args.index 0) (starts_are _ _ _ c.self.invariant.1 c.self.view_is)
