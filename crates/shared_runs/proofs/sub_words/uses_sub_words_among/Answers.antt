use Rattle.bpf_model.proofs.Prelude.{◌≡◌, ℕ, ◌⊎◌, inl, inr, refl, sym, ap, subst, ◌∙◌, arith, List, Some, length, slice_get, cases_eq, false≢true, same_Some}
use Rattle.bpf_model.proofs.Prelude.{slice_get_read, slice_get_within}
use Rattle.model_laws.proofs.Prelude.{Insn}
use Rattle.shared_runs.specs.Words.{ChangesMap, IsSubWordAccess}
use Rattle.shared_runs.proofs.sub_words.uses_sub_words_among.Goals as goal

pub loop-index-preserved : goal.loop-index-preserved
loop-index-preserved c = λ k i below at bad.
    let v = c.args.verified.now in
    let all = c.instructions-instructions.result.now in
    let read = slice_get_read all (length all) c.loop-index.index c.index-instructions-index.result refl c.loop-index-test.true c.index-instructions-index.is in
    let here : slice_get v.program c.loop-index.index ≡ Some c.index-instructions-index.result =
    ap (λ (xs : List Insn). slice_get xs c.loop-index.index)
    (sym (c.instructions-instructions.ensures.value ∙ c.program.ensures.value)) ∙ read in
    elim (cases_eq k c.loop-index.index) [
      | inl same ↦
          let is : i ≡ c.index-instructions-index.result = same_Some i c.index-instructions-index.result (sym at ∙ (ap (slice_get v.program) same ∙ here)) in
          let bad_here : IsSubWordAccess c.args.among v c.loop-index.index c.index-instructions-index.result ⊎ ChangesMap c.index-instructions-index.result =
          subst (λ (j : Insn). IsSubWordAccess c.args.among v c.loop-index.index j ⊎ ChangesMap j)
          is (subst (λ (n : ℕ). IsSubWordAccess c.args.among v n i ⊎ ChangesMap i) same bad) in
          absurd (false≢true (sym c.if-is_beyond_words.false ∙ c.is_beyond_words.ensures.1 bad_here))
      | inr other ↦ c.loop-index.invariant k i (omega (arith, below, other)) at bad
    ]

pub returns : goal.returns
returns c = (
  λ e. absurd (false≢true e),
  λ u.
      let v = c.args.verified.now in
      let same : c.instructions-instructions.result.now ≡ v.program = c.instructions-instructions.ensures.value ∙ c.program.ensures.value in
      let long : length c.instructions-instructions.result.now ≡ length v.program = ap (λ (xs : List Insn). length xs) same in
      let past = c.loop-index-test.false in
      let within = slice_get_within v.program u.index u.insn u.there in
      absurd (c.loop-index.invariant u.index u.insn (omega (arith, long, past, within)) u.there u.uses),
)
