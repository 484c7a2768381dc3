use Rattle.bpf_model.proofs.Prelude.{◌≡◌, suc, ◌+◌, ◌<◌, Some, None, ap, arith, inl, inr, refl, subst, sym, ◌∙◌}
use Rattle.verifier.proofs.Prelude.{Table, size_of, states_in, occupied, awaited, holding, Merged, Puts}
use Rattle.verifier.specs.declared.waiting.Waiting.TheVariants.{Nothing}
use Rattle.verifier.proofs.Holding.{taken_next, joined_merged, joined_puts, peak_stays, same_puts}
use Rattle.verifier.proofs.pass.go_on.Goals as goal

pub returns-then-falls-clause-goes : goal.returns-then-falls-clause-goes
returns-then-falls-clause-goes c =
    let i = c.args.index in
    let e : i + 1 ≡ suc i = omega arith in
    let old = c.args.pending.now in
    let new = c.take_joined.new.self in
    let w = c.take_joined.result in
    let h = c.take_joined.ensures in
    let falls = sym c.falls.ensures ∙ c.if-falls.true in
    let inside : i + 1 < size_of new = subst (λ n. i + 1 < n) (sym h.size) (c.requires.next falls) in
    record {
      jumping = None;
      mid = old;
      leads = inl (falls, refl);
      jumped = inr (inr refl, λ k. refl);
      fell = inl (
        falls,
        subst (λ k. Merged k c.args.state.value (awaited old) (awaited (holding k w new))) e
            (joined_merged (i + 1) c.args.state.value old new w inside h.joined h.others),
      );
      jumps = same_puts (λ m. c.args.target ≡ Some m) old old refl;
      falls = subst (λ k. Puts (λ m. m ≡ k) old (holding k w new)) e
          (joined_puts (i + 1) old new w inside h.gone h.others h.size
          (peak_stays old.peak new.peak (occupied w + states_in new.by_index) h.peak h.room));
      gone = subst (λ k. awaited new k ≡ Nothing) e h.gone;
      covered = h.room;
    }

pub returns-clause-goes : goal.returns-clause-goes
returns-clause-goes c =
    let i = c.args.index in
    let e : i + 1 ≡ suc i = omega arith in
    let mid = c.jump.new.pending in
    let new = c.take.new.self in
    let back = taken_next i mid new c.take.result c.take.ensures.value c.take.ensures.others c.take.ensures.size
    c.take.ensures.peak in
    record {
      jumping = Some c.args.state.value;
      mid = mid;
      leads = inr (sym c.falls.ensures ∙ c.if-falls.false, refl);
      jumped = c.jump.ensures.jumped;
      fell = inr (sym c.falls.ensures ∙ c.if-falls.false, λ k. ap (λ (t : Table). awaited t k) back);
      jumps = c.jump.ensures.puts;
      falls = same_puts (λ m. m ≡ suc i) mid (holding (suc i) c.take.result new) back;
      gone = subst (λ k. awaited new k ≡ Nothing) e c.take.ensures.gone;
      covered = c.take.ensures.room;
    }
