use Rattle.bpf_model.proofs.Prelude.{◌≡◌, inl, inr, refl, sym, ap, subst, ◌∙◌, arith, List, Some, length, slice_get, cases_eq, false≢true, same_Some}
use Rattle.bpf_model.proofs.Prelude.{slice_get_read, slice_get_within}
use Rattle.bpf_model.specs.declared.insn.Insn.{Insn}
use Rattle.effects.specs.declared.region.Region.{Region}
use Rattle.worker_pool.specs.Apart.{ChangesMapAt}
use Rattle.worker_pool.proofs.apart.changes_maps.Goals as goal

pub loop-index-preserved : goal.loop-index-preserved
loop-index-preserved c = λ k i r below at noted bad.
    let v = c.args.verified.now in
    let all = c.instructions-instructions.result.now in
    let read = slice_get_read all (length all) c.loop-index.index c.index-instructions-index.result refl c.loop-index-test.true c.index-instructions-index.is in
    let here : slice_get v.program c.loop-index.index ≡ Some c.index-instructions-index.result =
    ap (λ (xs : List Insn). slice_get xs c.loop-index.index)
    (sym (c.instructions-instructions.ensures.value ∙ c.program.ensures.value)) ∙ read in
    elim (cases_eq k c.loop-index.index) [
      | inl same ↦
          let is : i ≡ c.index-instructions-index.result = same_Some i c.index-instructions-index.result (sym at ∙ (ap (slice_get v.program) same ∙ here)) in
          let reaches : r ≡ c.region.result = same_Some r c.region.result (sym noted ∙ (ap (slice_get v.regions) same ∙ c.region.ensures)) in
          let bad_here : ChangesMapAt c.region.result c.index-instructions-index.result =
          subst (λ (q : Region). ChangesMapAt q c.index-instructions-index.result) reaches (subst (λ (j : Insn). ChangesMapAt r j) is bad) in
          absurd (false≢true (sym c.if-changes_map.false ∙ c.changes_map.ensures.1 bad_here))
      | inr other ↦ c.loop-index.invariant k i r (omega (arith, below, other)) at noted bad
    ]

pub returns : goal.returns
returns c = (
  λ e. absurd (false≢true e),
  λ u.
      let v = c.args.verified.now in
      let same : c.instructions-instructions.result.now ≡ v.program = c.instructions-instructions.ensures.value ∙ c.program.ensures.value in
      let long : length c.instructions-instructions.result.now ≡ length v.program = ap (λ (xs : List Insn). length xs) same in
      let past = c.loop-index-test.false in
      let within = slice_get_within v.program u.index u.insn u.there in
      absurd (c.loop-index.invariant u.index u.insn u.region (omega (arith, long, past, within)) u.there u.noted u.changes),
)
