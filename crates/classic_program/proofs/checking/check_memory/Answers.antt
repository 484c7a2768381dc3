use Rattle.bpf_model.proofs.Prelude.{◌≡◌, ℕ, ◌+◌, ◌<◌, List, Bool, true, Some, ap, ◌∙◌, subst, arith, inl, inr, slice_get, cases_lt}
use Rattle.classic_program.proofs.Prelude.{AreMarks, reads_from, stores_to, Reaches}
use Rattle.classic_program.specs.declared.insn.ClassicInsn.{ClassicInsn}
use Rattle.classic_program.proofs.checking.check_memory.Goals as goal

next : (program : List ClassicInsn) (number : ℕ) (marks items : List Bool) →
    ((w k : ℕ) (i : ClassicInsn) → w < number → slice_get program k ≡ Some i → reads_from w i ≡ true → Reaches program (stores_to w) k → ⊥)
    → AreMarks program (stores_to number) items → marks ≡ items
    → ((k : ℕ) (i : ClassicInsn) → slice_get program k ≡ Some i → reads_from number i ≡ true → slice_get marks k ≡ Some true → ⊥)
    → (w k : ℕ) (i : ClassicInsn) → w < number + 1 → slice_get program k ≡ Some i → reads_from w i ≡ true → Reaches program (stores_to w) k → ⊥
next program number marks items h m e none w k i l here r p = elim (cases_lt w number) [
  | inl b ↦ h w k i b here r p
  | inr b ↦
      let same : w ≡ number = omega arith in
      let r2 = subst (λ (w : ℕ). reads_from w i ≡ true) same r in
      let p2 = subst (λ (w : ℕ). Reaches program (stores_to w) k) same p in
      none k i here r2 (ap (λ (x : List Bool). slice_get x k) e ∙ (m.exact k).1 p2)
]

pub loop-number-preserved : goal.loop-number-preserved
loop-number-preserved c =
    next c.args.program.now c.loop-number.number c.deref.result.now c.in_ok-marks.marks.items c.loop-number.invariant c.in_ok-marks.ensures
    c.deref.ensures.value c.in_default.ensures.none
