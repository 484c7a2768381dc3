-- A good graph has no flaw, and a forward graph is good.
use Rattle.bpf_model.proofs.Prelude.{◌≡◌, ℕ, ◌+◌, ◌<◌, refl, sym, ◌∙◌, ap, ap₂, arith, inl, inr, List, cond, Option, Some, None, ℤ, pos, ◌+ℤ◌, none-some}
use Rattle.bpf_model.proofs.Prelude.{same_Some, distance, JumpsTo, EndsWithExit, slot_total, insn_at, cases_lt, lt-leb}
use Rattle.model_laws.proofs.Prelude.{Insn, Exit}
use Rattle.verifier.proofs.Prelude.{missing, landing_flaw, distance_flaw, jump_flaw, JumpsWell, IsFirstBadJump, HasGraphFlaw, HasGoodGraph}
use Rattle.std.proofs.lemmas.List.{same_from_push}
use Rattle.verifier.specs.declared.graph_flaw.GraphFlaw.{GraphFlaw}
use Rattle.verifier.specs.declared.graph_flaw.GraphFlaw.TheVariants.{JumpTarget, BackJump, FallsOff, Unreachable}
use Rattle.verifier.specs.GraphFlaws.{IsFirstUnreachable, IsBadEnd}

bad_not_well : (program : List Insn) (f : GraphFlaw) (s : ℕ) → IsFirstBadJump program f s → JumpsWell program → ⊥
bad_not_well program f s a well = (let e : None ≡ Some f = sym (well s a.insn a.at) ∙ a.bad in cc)

bad_end_not_exit : (program : List Insn) (s : ℕ) → IsBadEnd program s → EndsWithExit program → ⊥
bad_end_not_exit program s a last = a.other (same_from_push a.front last.0 a.insn Exit (sym a.last ∙ last.1)).1

-- a good graph has no flaw
pub good_has_none : (program : List Insn) (f : GraphFlaw) (s : ℕ) → HasGoodGraph program → HasGraphFlaw program f s → ⊥
good_has_none program JumpTarget s good a = bad_not_well program JumpTarget s a good.jumps
good_has_none program BackJump s good a = bad_not_well program BackJump s a good.jumps
good_has_none program FallsOff s good a = bad_end_not_exit program s a good.last
good_has_none program Unreachable s good a = a.unreached (good.reached s a.insn a.at)

-- the first bad jump is the only first one
one_bad_jump : (program : List Insn) (f g : GraphFlaw) (s t : ℕ) → IsFirstBadJump program f s → IsFirstBadJump program g t → (f ≡ g) × (s ≡ t)
one_bad_jump program f g s t a b = elim (cases_lt s t) [
  | inl l ↦ absurd (none-some f (sym (b.first s a.insn l a.at) ∙ a.bad))
  | inr n ↦ elim (cases_lt t s) [
    | inl l ↦ absurd (none-some g (sym (a.first t b.insn l b.at) ∙ b.bad))
    | inr m ↦
        let e : s ≡ t = omega arith in
        let i : a.insn ≡ b.insn = same_Some _ _ (sym a.at ∙ ap (insn_at program) e ∙ b.at) in
        (same_Some f g (sym a.bad ∙ ap₂ (jump_flaw program) e i ∙ b.bad), e)
  ]
]

one_unreachable : (program : List Insn) (s t : ℕ) → IsFirstUnreachable program s → IsFirstUnreachable program t → s ≡ t
one_unreachable program s t a b = elim (cases_lt s t) [
  | inl l ↦ absurd (a.unreached (b.first s a.insn l a.at))
  | inr n ↦ elim (cases_lt t s) [
    | inl l ↦ absurd (b.unreached (a.first t b.insn l b.at))
    | inr m ↦ omega arith
  ]
]

-- a program has one flaw at most
pub one_flaw : (program : List Insn) (f g : GraphFlaw) (s t : ℕ) → HasGraphFlaw program f s → HasGraphFlaw program g t → (f ≡ g) × (s ≡ t)
one_flaw program JumpTarget JumpTarget s t a b = one_bad_jump program JumpTarget JumpTarget s t a b
one_flaw program JumpTarget BackJump s t a b = one_bad_jump program JumpTarget BackJump s t a b
one_flaw program JumpTarget FallsOff s t a b = absurd (bad_not_well program JumpTarget s a b.jumps)
one_flaw program JumpTarget Unreachable s t a b = absurd (bad_not_well program JumpTarget s a b.jumps)
one_flaw program BackJump JumpTarget s t a b = one_bad_jump program BackJump JumpTarget s t a b
one_flaw program BackJump BackJump s t a b = one_bad_jump program BackJump BackJump s t a b
one_flaw program BackJump FallsOff s t a b = absurd (bad_not_well program BackJump s a b.jumps)
one_flaw program BackJump Unreachable s t a b = absurd (bad_not_well program BackJump s a b.jumps)
one_flaw program FallsOff JumpTarget s t a b = absurd (bad_not_well program JumpTarget t b a.jumps)
one_flaw program FallsOff BackJump s t a b = absurd (bad_not_well program BackJump t b a.jumps)
one_flaw program FallsOff FallsOff s t a b = (
  refl,
  a.slot_is ∙
      ap slot_total (same_from_push a.front b.front a.insn b.insn (sym a.last ∙ b.last)).0 ∙ sym b.slot_is,
)
one_flaw program FallsOff Unreachable s t a b = absurd (bad_end_not_exit program s a b.last)
one_flaw program Unreachable JumpTarget s t a b = absurd (bad_not_well program JumpTarget t b a.jumps)
one_flaw program Unreachable BackJump s t a b = absurd (bad_not_well program BackJump t b a.jumps)
one_flaw program Unreachable FallsOff s t a b = absurd (bad_end_not_exit program t b a.last)
one_flaw program Unreachable Unreachable s t a b = (refl, one_unreachable program s t a b)

-- A jump that leads forward to an instruction has no flaw.
good_jump : (program : List Insn) (slot : ℕ) (i : Insn)
    → ((d : ℤ) → distance i ≡ Some d → (target : ℕ) × (next : Insn) × JumpsTo i slot target × (slot < target) × (insn_at program target ≡ Some next))
    → jump_flaw program slot i ≡ None
good_jump program slot i jumps = by (distance i) refl
  where
    by : (d : Option ℤ) → distance i ≡ d → distance_flaw program slot d ≡ None
    by None e = refl
    by (Some d) e =
        let j = jumps d e in
        let jump : JumpsTo i slot j.0 = j.2 in
        let same : jump.0 ≡ d = same_Some _ _ (sym jump.1 ∙ e) in
        let lands : pos j.0 ≡ pos (slot + 1) +ℤ d = jump.2 ∙ ap (λ d. pos (slot + 1) +ℤ d) same in
        ap (landing_flaw program slot) (sym lands)
        ∙ ap (λ b. cond b (Some BackJump) (missing (insn_at program j.0))) (lt-leb j.0 slot j.3)
        ∙ ap missing j.4
