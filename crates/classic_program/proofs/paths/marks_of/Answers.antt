use Rattle.bpf_model.proofs.Prelude.{◌≡◌, ℕ, ◌+◌, ◌<◌, List, Bool, true, false, Some, length, sym, ap, ◌∙◌, subst, arith, slice_get, with_items_is}
use Rattle.classic_program.proofs.Prelude.{Marks, IsSkip, skips_of, stops_at, LeadsInside}
use Rattle.classic_program.specs.declared.insn.ClassicInsn.{ClassicInsn}
use Rattle.classic_program.specs.declared.paths.Skips.{Skips}
use Rattle.classic_program.proofs.Marking.{IsMarking, get-at, marking-start, marking-goes, marking-stays, marking-all, from-skip}
use Rattle.classic_program.proofs.paths.marks_of.Goals as goal
use Rattle.classic_program.proofs.paths.marks_of.Goals.{then-index+then-not-stops, else-index, else-index-via-then-index+else-not-stops}
use Rattle.classic_program.proofs.paths.marks_of.Goals.{else-index-via-else-index}

inside : (program : List ClassicInsn) (index n : ℕ) (i : ClassicInsn) (skips : Skips) → LeadsInside program → slice_get program index ≡ Some i
    → skips ≡ skips_of i → n ≡ length program
    → (s : ℕ) → IsSkip skips s → index + 1 + s < n
inside program index n i skips leads here e size s h =
    let l = leads index s i here (from-skip i s (subst (λ (k : Skips). IsSkip k s) e h)) in omega arith

goes : (program : List ClassicInsn) (stops : ClassicInsn → Bool) (marks same new : List Bool) (index : ℕ) (i : ClassicInsn) (skips : Skips)
    → IsMarking program stops marks index
    → slice_get program index ≡ Some i → slice_get marks index ≡ Some true → stops i ≡ false → skips ≡ skips_of i → same ≡ marks → Marks skips
    (index + 1) same new
    → IsMarking program stops new (index + 1)
goes program stops marks same new index i skips h here marked st e f m =
    marking-goes program stops marks new index i h here marked st
    (subst (λ (k : Skips). Marks k (index + 1) marks new) e (subst (λ (x : List Bool). Marks skips (index + 1) x new) f m))

pub loop-index-init : goal.loop-index-init
loop-index-init c =
    marking-start c.args.instructions.now (stops_at c.args.word) c.in_ok-marks.marks.items c.requires.some
    (c.in_ok-marks.ensures.items_if_clones_equal (λ y e. e))

pub mark-requires-clause-inside : goal.mark-requires-clause-inside
mark-requires-clause-inside c =
    let here = get-at c.args.instructions.now c.loop-index.index c.index-instructions-index.result c.loop-index-test.true c.index-instructions-index.is in
    let size = ap length c.deref_mut.ensures.value ∙ c.loop-index.invariant.size in
    inside c.args.instructions.now c.loop-index.index
    (length c.deref_mut.result.now) c.index-instructions-index.result c.targets.result c.requires.inside here c.targets.ensures size

pub loop-index-preserved : goal.loop-index-preserved
loop-index-preserved c =
    let program = c.args.instructions.now in
    let here = get-at program c.loop-index.index c.index-instructions-index.result c.loop-index-test.true c.index-instructions-index.is in
    let size = c.loop-index.invariant.size in
    let mark = get-at c.loop-index.marks.items c.loop-index.index c.index.result.now (omega arith) c.index.ensures in
    elim c.if-index.branch [
      | then-index+then-not-stops w ↦
          let kept = with_items_is c.loop-index.marks w.mark.new.marks (w.mark.ensures.size ∙ w.deref_mut.ensures.len) in
          subst (λ (m : List Bool). IsMarking program (stops_at c.args.word) m (c.loop-index.index + 1)) (sym (ap (λ v. v.items) w.marks-is ∙ kept))
          (goes program (stops_at c.args.word) c.loop-index.marks.items w.deref_mut.result.now w.mark.new.marks c.loop-index.index
          c.index-instructions-index.result w.targets.result
          c.loop-index.invariant here (mark ∙ ap Some w.if-index.true)
          (sym w.stops.ensures ∙ w.if-not-stops.true) w.targets.ensures w.deref_mut.ensures.value w.mark.ensures)
      | else-index w ↦
          let same = sym (ap (λ v. v.items) w.marks-is) in
          subst (λ (m : List Bool). IsMarking program (stops_at c.args.word) m (c.loop-index.index + 1)) same
          (elim w.else-index.branch [
            | else-index-via-then-index+else-not-stops w' ↦
                marking-stays program (stops_at c.args.word) c.loop-index.marks.items c.loop-index.index c.index-instructions-index.result
                c.loop-index.invariant here
                (λ _. sym w'.stops.ensures ∙ w'.if-not-stops.false)
            | else-index-via-else-index w' ↦
                marking-stays program (stops_at c.args.word) c.loop-index.marks.items c.loop-index.index c.index-instructions-index.result
                c.loop-index.invariant here
                (λ e. let f = w'.if-index.false in absurd (cc))
          ])
    ]

pub returns : goal.returns
returns c =
    marking-all c.args.instructions.now (stops_at c.args.word) c.loop-index.marks.items c.loop-index.index c.loop-index.invariant c.loop-index-test.false
