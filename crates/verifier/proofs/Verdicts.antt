-- What the first pass tells: a bad end, an instruction that no path reaches, or a good graph.
use Rattle.bpf_model.proofs.Prelude.{◌≡◌, ℕ, zero, suc, ◌+◌, ◌-◌, ◌<◌, ◌≤◌, refl, ◌∙◌, ap, arith, List, [], ◌∷◌, ◌++◌, length, slice_index_or, sum_by-cons}
use Rattle.bpf_model.proofs.Prelude.{starts_from, slot_total, slot_count, IsProgram, insn_of-start, starts_ordered, start-insn, StartsAt, slice_get_within}
use Rattle.bpf_model.proofs.Prelude.{EndsWithExit}
use Rattle.model_laws.proofs.Prelude.{Insn}
use Rattle.verifier.proofs.Prelude.{JumpsWell, HasGraphFlaw, HasGoodGraph, IsFirstUnreached, IsInsnReached}
use Rattle.verifier.specs.declared.graph_flaw.GraphFlaw.TheVariants.{FallsOff, Unreachable}
use Rattle.verifier.proofs.Edges.{start_read, index_here}

-- a program that isn't empty has a last instruction, at the start of the last index
pub record HasLast (n k : ℕ) (program : List Insn) : Type 0 where
  pub front : List Insn
  pub last : Insn
  pub parts : program ≡ front ++ last ∷ []
  pub slot : slice_index_or (starts_from n program) k 0 ≡ n + slot_total front

pub last_of : (n k : ℕ) (program : List Insn) → suc k ≡ length program → HasLast n k program
last_of n k [] h = absurd (omega arith)
last_of n zero (i ∷ []) h = record { front = []; last = i; parts = refl; slot = omega arith }
last_of n (suc k) (i ∷ []) h = absurd (omega arith)
last_of n zero (i ∷ j ∷ is) h = absurd (omega arith)
last_of n (suc k) (i ∷ j ∷ is) h =
    let r = last_of (n + slot_count i) k (j ∷ is) (omega arith) in
    record {
      front = i ∷ r.front;
      last = r.last;
      parts = ap (λ is. i ∷ is) r.parts;
      slot = r.slot ∙ (let g : n + slot_count i + slot_total r.front ≡ n + slot_total (i ∷ r.front) = omega (arith, sum_by-cons slot_count i r.front) in g);
    }

pub some_insn : (program : List Insn) → IsProgram program → 0 < length program
some_insn [] p = absurd (let h : 1 ≤ slot_total [] = p.some in omega (arith, h))
some_insn (i ∷ is) p = omega arith

pub bad_end : (program : List Insn) (starts : List ℕ) (k : ℕ) → IsProgram program → starts ≡ starts_from 0 program →
    k ≡ length program - 1 → JumpsWell program → (EndsWithExit program → ⊥) →
    HasGraphFlaw program FallsOff (slice_index_or starts k 0)
bad_end program starts k p e at jumps not_exit =
    let r = last_of 0 k program (omega (arith, some_insn program p)) in
    record {
      jumps = jumps;
      front = r.front;
      insn = r.last;
      last = r.parts;
      other = λ f. not_exit (r.front, r.parts ∙ ap (λ i. r.front ++ i ∷ []) f);
      slot_is =
          let g : 0 + slot_total r.front ≡ slot_total r.front = omega arith in
          ap (λ xs. slice_index_or xs k 0) e ∙ r.slot ∙ g;
    }

pub unreachable_at : (program : List Insn) (starts : List ℕ) (k : ℕ) → starts ≡ starts_from 0 program →
    JumpsWell program → EndsWithExit program → IsFirstUnreached program k →
    HasGraphFlaw program Unreachable (slice_index_or starts k 0)
unreachable_at program starts k e jumps last first =
    let at : StartsAt program k (slice_index_or starts k 0) = start_read program starts k e first.inside in
    let i = insn_of-start 0 program k (slice_index_or starts k 0) at in
    record {
      jumps = jumps;
      last = last;
      insn = i.0;
      at = start-insn program k (slice_index_or starts k 0) i.0 i.1 at;
      unreached = first.unreached (slice_index_or starts k 0) at;
      first = λ q j h f. (let r = index_here program q j f in first.first r.0 (starts_ordered 0 program r.0 k q (slice_index_or starts k 0) r.2 at h) q r.2);
    }

pub good_graph : (program : List Insn) → JumpsWell program → EndsWithExit program →
    ((k : ℕ) → k < length program → IsInsnReached program k) → HasGoodGraph program
good_graph program jumps last reached = record {
  jumps = jumps;
  last = last;
  reached = λ p i e. (let r = index_here program p i e in reached r.0 (slice_get_within program r.0 i r.1) p r.2);
}
