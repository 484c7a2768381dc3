use Rattle.bpf_model.proofs.Prelude.{◌≡◌, ◌<◌, Some, None, true, length, refl, ap, ◌∙◌, subst, arith, slice_get-get_or, slice_get_within}
use Rattle.classic.proofs.Prelude.{claims}
use Rattle.classic_program.proofs.Marking.{get-at}
use Rattle.classic.specs.declared.notes.Note.{Note}
use Rattle.classic.proofs.Closing.{sound-next, sound-left}
use Rattle.classic.proofs.sound.are_sound.Goals as goal
use Rattle.classic.proofs.sound.are_sound.Goals.{in-Some+else-not-is_sound_at, in_default}

pub loop-index-preserved : goal.loop-index-preserved
loop-index-preserved c =
    let program = c.args.instructions.now in
    let notes = c.args.notes.now in
    let index = c.loop-index.index in
    let same = c.requires.same in
    let within = c.loop-index-test.true in
    let l : index < length notes = omega arith in
    elim c.match-notes-index.branch [
      | in-Some+else-not-is_sound_at w ↦
          sound-next c.args.kind program notes index w.index-instructions-index.result w.in-Some.note c.loop-index.invariant
          (get-at program index w.index-instructions-index.result within w.index-instructions-index.is)
          (slice_get-get_or notes index None l ∙ ap Some w.in-Some.is) (w.if-not-is_sound_at.ensures refl)
      | in_default w ↦
          sound-left c.args.kind program notes index c.loop-index.invariant (slice_get-get_or notes index None l ∙ ap Some w.in_default.is)
    ]

pub returns : goal.returns
returns c = λ t.
    let first = c.if-not-leads_to.ensures refl in
    record {
      size = c.requires.same;
      first = (first.0, first.1, subst (λ (n : Note). claims first.0 n ≡ true) c.start.ensures first.2);
      each = λ k i n e f.
          let within = slice_get_within c.args.instructions.now k i e in
          let past = c.loop-index-test.false in
          c.loop-index.invariant k i n (omega arith) e f;
    }
