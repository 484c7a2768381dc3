-- The instructions that were decoded so far.
use Rattle.bpf_model.proofs.Prelude.{◌≡◌, ℕ, ◌+◌, List, [], ◌∷◌, ◌++◌, length, Some, sym, ap, ◌∙◌, subst, arith, inl, inr, slice_get}
use Rattle.bpf_model.proofs.Prelude.{length-append, get-append_cases}
use Rattle.classic_program.proofs.Prelude.{IsInsnOf}
use Rattle.classic_program.specs.declared.insn.ClassicInsn.{ClassicInsn}
use Rattle.classic_program.specs.declared.sock_filter.SockFilter.{SockFilter}

pub record IsDecoding (filter : List SockFilter) (program : List ClassicInsn) (index : ℕ) : Type 0 where
  pub size : length program ≡ index
  pub each : (k : ℕ) (f : SockFilter) (i : ClassicInsn) → slice_get filter k ≡ Some f → slice_get program k ≡ Some i → IsInsnOf f i
  pub only : (k : ℕ) (f : SockFilter) (i j : ClassicInsn) → slice_get filter k ≡ Some f → slice_get program k ≡ Some i → IsInsnOf f j → j ≡ i

pub decoding-next : (filter : List SockFilter) (program : List ClassicInsn) (index : ℕ) (f : SockFilter) (i : ClassicInsn) → IsDecoding filter program index
    → slice_get filter index ≡ Some f
    → IsInsnOf f i → ((j : ClassicInsn) → IsInsnOf f j → j ≡ i) → IsDecoding filter (program ++ i ∷ []) (index + 1)
decoding-next filter program index f i h here is only = record {
  size = let n = length-append program (i ∷ []) in let m = h.size in omega arith;
  each = λ k g j e there. elim (get-append_cases program i k j there) [
    | inl a ↦ h.each k g j e a
    | inr a ↦
        let same : k ≡ index = a.0 ∙ h.size in
        let f-is : f ≡ g = let e2 = ap (slice_get filter) (sym same) ∙ e in cc in
        subst (λ (x : ClassicInsn). IsInsnOf g x) a.1 (subst (λ (x : SockFilter). IsInsnOf x i) f-is is)
  ];
  only = λ k g j o e there other. elim (get-append_cases program i k j there) [
    | inl a ↦ h.only k g j o e a other
    | inr a ↦
        let same : k ≡ index = a.0 ∙ h.size in
        let f-is : f ≡ g = let e2 = ap (slice_get filter) (sym same) ∙ e in cc in
        only o (subst (λ (x : SockFilter). IsInsnOf x o) (sym f-is) other) ∙ a.1
  ];
}
