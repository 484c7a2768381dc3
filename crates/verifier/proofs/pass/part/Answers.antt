use Rattle.bpf_model.proofs.Prelude.{◌≡◌, Some, ap, subst, sym, ◌∙◌}
use Rattle.effects.proofs.Prelude.{taken_from, AbsState}
use Rattle.verifier.proofs.Prelude.{Table, awaited, Jumped, Puts}
use Rattle.verifier.proofs.Holding.{both_lead}
use Rattle.verifier.proofs.pass.part.Goals.{in-Same+in_ok-jump_alike-in-Same, in-Apart}
use Rattle.verifier.proofs.pass.part.Goals as goal

pub returns-clause-goes : goal.returns-clause-goes
returns-clause-goes c =
    let s = c.args.state.value in
    let t = taken_from s c.args.taken in
    let old = c.args.pending.now in
    let jumped : Jumped c.args.target (Some t) (awaited old) (awaited c.match-taken.pending) = elim c.match-taken.branch [
      | in-Same+in_ok-jump_alike-in-Same w ↦
          subst (λ (m : Table). Jumped c.args.target (Some t) (awaited old) (awaited m)) (sym w.pending-is)
          (subst (λ (a : AbsState). Jumped c.args.target (Some a) (awaited old) (awaited w.jump_alike.new.pending))
          (w.deref.ensures ∙ sym (ap (taken_from s) w.in-Same.is)) w.in_ok-jump_alike-in-Same.ensures.jumped)
      | in-Apart w ↦
          subst (λ (m : Table). Jumped c.args.target (Some t) (awaited old) (awaited m)) (sym w.pending-is)
          (subst (λ (a : AbsState). Jumped c.args.target (Some a) (awaited old) (awaited w.jump.new.pending))
          (sym (ap (taken_from s) w.in-Apart.is)) w.jump.ensures.jumped)
    ] in
    let puts : Puts (λ m. c.args.target ≡ Some m) old c.match-taken.pending = elim c.match-taken.branch [
      | in-Same+in_ok-jump_alike-in-Same w ↦
          subst (Puts (λ m. c.args.target ≡ Some m) old) (sym w.pending-is) w.in_ok-jump_alike-in-Same.ensures.puts
      | in-Apart w ↦ subst (Puts (λ m. c.args.target ≡ Some m) old) (sym w.pending-is) w.jump.ensures.puts
    ] in
    record {
      jumping = Some t;
      mid = c.match-taken.pending;
      leads = both_lead c.args.insn.now s t;
      jumped = jumped;
      fell = c.next.ensures.fell;
      jumps = puts;
      falls = c.next.ensures.puts;
      gone = c.next.ensures.gone;
      covered = c.next.ensures.covered;
    }
