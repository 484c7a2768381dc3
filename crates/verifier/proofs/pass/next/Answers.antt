use Rattle.bpf_model.proofs.Prelude.{◌≡◌, ◌<◌, suc, ◌+◌, ap, arith, inl, inr, subst, sym, ◌∙◌}
use Rattle.verifier.proofs.Prelude.{Table, size_of, awaited, holding, Merged, Puts}
use Rattle.verifier.proofs.Holding.{taken_next, joined_merged, joined_puts, same_puts}
use Rattle.verifier.proofs.pass.next.Goals as goal

pub returns-then-falls-clause-fell : goal.returns-then-falls-clause-fell
returns-then-falls-clause-fell c =
    let i = c.args.index in
    let e : i + 1 ≡ suc i = omega arith in
    let new = c.take_counted.new.self in
    let h = c.take_counted.ensures in
    let falls = sym c.falls.ensures ∙ c.if-falls.true in
    let inside : i + 1 < size_of new = subst (λ n. i + 1 < n) (sym h.size) (c.requires.next falls) in
    inl (
      falls,
      subst (λ k. Merged k c.args.state.value (awaited c.args.pending.now) (awaited (holding k c.take_counted.result new))) e
          (joined_merged (i + 1) c.args.state.value c.args.pending.now new c.take_counted.result inside h.joined h.others),
    )

pub returns-then-falls-clause-puts : goal.returns-then-falls-clause-puts
returns-then-falls-clause-puts c =
    let i = c.args.index in
    let e : i + 1 ≡ suc i = omega arith in
    let new = c.take_counted.new.self in
    let h = c.take_counted.ensures in
    let falls = sym c.falls.ensures ∙ c.if-falls.true in
    let inside : i + 1 < size_of new = subst (λ n. i + 1 < n) (sym h.size) (c.requires.next falls) in
    subst (λ k. Puts (λ m. m ≡ k) c.args.pending.now (holding k c.take_counted.result new)) e
    (joined_puts (i + 1) c.args.pending.now new c.take_counted.result inside h.gone h.others h.size h.peak)

pub returns-clause-fell : goal.returns-clause-fell
returns-clause-fell c =
    let back = taken_next c.args.index c.args.pending.now c.take.new.self c.take.result c.take.ensures.value c.take.ensures.others
    c.take.ensures.size c.take.ensures.peak in
    inr (sym c.falls.ensures ∙ c.if-falls.false, λ k. ap (λ (t : Table). awaited t k) back)

pub returns-clause-puts : goal.returns-clause-puts
returns-clause-puts c =
    let i = c.args.index in
    let back = taken_next i c.args.pending.now c.take.new.self c.take.result c.take.ensures.value c.take.ensures.others
    c.take.ensures.size c.take.ensures.peak in
    same_puts (λ m. m ≡ suc i) c.args.pending.now (holding (suc i) c.take.result c.take.new.self) back
