use Rattle.bpf_model.proofs.Prelude.{◌≡◌, ◌<◌, length, arith, ap, sym, ◌∙◌, refl, subst, true, false, rules, slice_index_or, slice_get, Some, None, IfSome}
use Rattle.bpf_model.proofs.Prelude.{slice_get_read, slice_get-get_or, Reached, reached_entry, StartsAt}
use Rattle.verifier.proofs.Prelude.{IsInsnReached}
use Rattle.verifier.proofs.Marking.{first_start, marked, target_fits, marks_sound, marks_ahead, before_more}
use Rattle.verifier.proofs.graph.first_unmarked.Goals as goal

pub loop-index-init : goal.loop-index-init
loop-index-init c = record {
  long = c.requires.marks;
  first = c.requires.entry;
  sound = λ j e p at. subst (Reached c.args.instructions.now)
      (sym (first_start c.args.instructions.now p (subst (λ j. StartsAt c.args.instructions.now j p)
      (c.requires.only j e) at))) reached_entry;
  before = λ j h. absurd (omega arith);
  ahead = λ j m i t h. absurd (omega arith);
}

pub returns-then-not-reached-index : goal.returns-then-not-reached-index
returns-then-not-reached-index c =
    let here : slice_get c.loop-index.reached c.loop-index.index ≡ Some
    (slice_index_or c.loop-index.reached c.loop-index.index false) =
    slice_get-get_or c.loop-index.reached c.loop-index.index false (omega arith) in
    record {
      inside = c.loop-index-test.true;
      unreached = λ p at r. (let e : slice_get c.loop-index.reached c.loop-index.index ≡ Some true =
          marked c.args.instructions.now c.args.targets.now c.requires.long c.requires.targets c.loop-index.reached
          c.loop-index.index c.loop-index.invariant.first c.loop-index.invariant.ahead p at r in cc);
      first = c.loop-index.invariant.before;
    }

pub mark-requires-clause-target : goal.mark-requires-clause-target
mark-requires-clause-target c =
    let here : slice_get c.args.targets.now c.loop-index.index ≡ Some
    (slice_index_or c.args.targets.now c.loop-index.index None) =
    slice_get-get_or c.args.targets.now c.loop-index.index None (omega arith) in
    let insn : slice_get c.args.instructions.now c.loop-index.index ≡ Some c.index-instructions-index.result =
    slice_get_read c.args.instructions.now (length c.args.instructions.now) c.loop-index.index
    c.index-instructions-index.result refl (omega arith) c.index-instructions-index.is in
    subst (λ n. IfSome (slice_index_or c.args.targets.now c.loop-index.index None) (λ t. t < n)) (sym c.loop-index.invariant.long)
    (target_fits c.args.instructions.now c.loop-index.index c.index-instructions-index.result (slice_index_or c.args.targets.now c.loop-index.index None)
    (c.requires.targets.each c.loop-index.index c.index-instructions-index.result (slice_index_or c.args.targets.now c.loop-index.index None) insn here))

pub loop-index-preserved : goal.loop-index-preserved
loop-index-preserved c =
    let here : slice_get c.args.targets.now c.loop-index.index ≡ Some
    (slice_index_or c.args.targets.now c.loop-index.index None) =
    slice_get-get_or c.args.targets.now c.loop-index.index None (omega arith) in
    let insn : slice_get c.args.instructions.now c.loop-index.index ≡ Some c.index-instructions-index.result =
    slice_get_read c.args.instructions.now (length c.args.instructions.now) c.loop-index.index
    c.index-instructions-index.result refl (omega arith) c.index-instructions-index.is in
    let was : slice_get c.loop-index.reached c.loop-index.index ≡ Some true =
    slice_get-get_or c.loop-index.reached c.loop-index.index false (omega arith) ∙
    ap Some c.if-not-reached-index.false in
    let reached : IsInsnReached c.args.instructions.now c.loop-index.index = c.loop-index.invariant.sound c.loop-index.index was in
    record {
      long = search rules;
      first = c.mark.ensures.stays 0 c.loop-index.invariant.first;
      sound = marks_sound c.args.instructions.now c.args.targets.now c.requires.long c.requires.targets
          c.loop-index.reached c.mark.new.reached c.loop-index.index c.index-instructions-index.result
          (slice_index_or c.args.targets.now c.loop-index.index None) insn here reached c.loop-index.invariant.sound
          c.mark.ensures;
      before = before_more c.args.instructions.now c.loop-index.index reached c.loop-index.invariant.before;
      ahead = marks_ahead c.args.instructions.now c.args.targets.now c.loop-index.reached c.mark.new.reached
          c.loop-index.index c.index-instructions-index.result
          (slice_index_or c.args.targets.now c.loop-index.index None) insn here c.loop-index.invariant.ahead
          c.mark.ensures;
    }
