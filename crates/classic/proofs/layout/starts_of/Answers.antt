use Rattle.bpf_model.proofs.Prelude.{◌≡◌, ℕ, ◌+◌, ◌<◌, ◌≤◌, List, [], ◌∷◌, ◌++◌, Option, Some, None, length, sym, ap, ◌∙◌, subst, arith, slice_get}
use Rattle.bpf_model.proofs.Prelude.{slice_get-get_or, get-below}
use Rattle.classic.proofs.Prelude.{Data, ClassicInsn, slots}
use Rattle.classic.specs.declared.notes.Note.{Note}
use Rattle.classic_program.proofs.Marking.{get-at}
use Rattle.classic.proofs.Sequence.{IsLaying, laying-reached, laying-left}
use Rattle.classic.proofs.layout.starts_of.Goals as goal
use Rattle.classic.proofs.layout.starts_of.Goals.{in-Some, in_default}

goes : (d : Data) (program : List ClassicInsn) (notes : List (Option Note)) (begin : ℕ) (starts new : List ℕ) (index slot size next : ℕ)
    (i : ClassicInsn) (n : Note)
    → IsLaying d program notes begin starts index slot
    → slice_get program index ≡ Some i → slice_get notes index ≡ Some (Some n) → size ≡ slots d n i → size ≤ 16 → new ≡ starts ++ slot ∷ []
    → next ≡ slot + size
    → IsLaying d program notes begin new (index + 1) next
goes d program notes begin starts new index slot size next i n h here there e l f g =
    let l2 : slots d n i ≤ 16 = omega arith in
    subst (λ (x : List ℕ). IsLaying d program notes begin x (index + 1) next) (sym f)
    (subst (λ (x : ℕ). IsLaying d program notes begin (starts ++ slot ∷ []) (index + 1) x) (sym (g ∙ ap (λ (k : ℕ). slot + k) e))
    (laying-reached d program notes begin starts index slot h i here n there l2))

stays : (d : Data) (program : List ClassicInsn) (notes : List (Option Note)) (begin : ℕ) (starts new : List ℕ) (index slot next : ℕ)
    → IsLaying d program notes begin starts index slot
    → index < length program → slice_get notes index ≡ Some None → new ≡ starts ++ slot ∷ [] → next ≡ slot → IsLaying d program notes begin new (index + 1) next
stays d program notes begin starts new index slot next h l there f g =
    let i = get-below program index l in
    subst (λ (x : List ℕ). IsLaying d program notes begin x (index + 1) next) (sym f)
    (subst (λ (x : ℕ). IsLaying d program notes begin (starts ++ slot ∷ []) (index + 1) x) (sym g)
    (laying-left d program notes begin starts index slot h i.0 i.1 there))

pub loop-index-preserved : goal.loop-index-preserved
loop-index-preserved c =
    let program = c.args.instructions.now in
    let notes = c.args.notes.now in
    let same = c.requires.same in
    let within = c.loop-index-test.true in
    let l : c.loop-index.index < length notes = omega arith in
    elim c.match-notes-index.branch [
      | in-Some w ↦
          let here = get-at program c.loop-index.index w.index-instructions-index.result within w.index-instructions-index.is in
          goes c.args.kind program notes c.args.first c.loop-index.starts.items c.push.new.self.items c.loop-index.index c.loop-index.slot
          w.block_slots-slot.result
          c.match-notes-index.slot
          w.index-instructions-index.result w.in-Some.note c.loop-index.invariant here
          (slice_get-get_or notes c.loop-index.index None l ∙ ap Some w.in-Some.is)
          w.block_slots-slot.ensures.value w.block_slots-slot.ensures.bound
          c.in_ok-push.ensures.items w.slot-is
      | in_default w ↦
          stays c.args.kind program notes c.args.first c.loop-index.starts.items c.push.new.self.items c.loop-index.index c.loop-index.slot
          c.match-notes-index.slot
          c.loop-index.invariant within
          (slice_get-get_or notes c.loop-index.index None l ∙ ap Some w.in_default.is) c.in_ok-push.ensures.items w.slot-is
    ]
