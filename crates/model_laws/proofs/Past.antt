-- A section that has begun and isn't open is never open again.
use Rattle.bpf_model.proofs.Prelude.{◌≡◌, ℕ, zero, suc, ◌<◌, ◌≤◌, List, [], ◌∷◌, Some, inl, inr, sym, ap, ◌∙◌, arith, subst, slice_get, none-some, same_Some}
use Rattle.bpf_model.proofs.Prelude.{Section, Has, AllEnded, Run, Machine, open_sections, section_of, run_at, IsHistory}
use Rattle.model_laws.proofs.Prelude.{Event, Answer, IsConsistent, AllBegun}
use Rattle.model_laws.specs.Consistent.{HasBegun}
use Rattle.model_laws.proofs.Sections.{OpenAt, open_at, has_open}
use Rattle.model_laws.proofs.Moves.{RunsMove, run-before, started-grows, does-move}

opened-later : (m new : Machine) (s : Section) → RunsMove m new → HasBegun m s → (r : ℕ) (run : Run) →
    run_at new.runs r ≡ Some run → run.name ≡ s.run → s.number ≤ run.sections
opened-later m new s mv b r run at same = elim (run-before m new r run mv at) [
  | inl x ↦
      let first : s.number ≤ x.old.sections = b.opened r x.old x.there (sym x.goes.name ∙ same) in
      let then : x.old.sections ≤ run.sections = x.goes.sections in
      omega arith
  | inr x ↦
      let name : m.started ≡ run.name = ap (λ q. q.name) x.is.2 in
      let before : s.run < m.started = b.started in
      absurd (omega arith)
]

pub begun-later : (m new : Machine) (s : Section) → RunsMove m new → HasBegun m s → HasBegun new s
begun-later m new s mv b = record {
  started = let more : m.started ≤ new.started = started-grows m new mv in let before : s.run < m.started = b.started in omega arith;
  opened = opened-later m new s mv b;
}

pub all-begun-later : (m new : Machine) (since : List Section) → RunsMove m new → AllBegun m since → AllBegun new since
all-begun-later m new since mv all s h = begun-later m new s mv (all s h)

same-section : (m new : Machine) (s : Section) (r : ℕ) (old run : Run) → run_at m.runs r ≡ Some old → 0 < old.depth →
    run.name ≡ old.name → run.sections ≡ old.sections → section_of run ≡ s → Has (open_sections m.runs) s
same-section m new s r old run at inside name sections is =
    let a : old.name ≡ s.run = sym name ∙ ap (λ x. x.run) is in
    let b : old.sections ≡ s.number = sym sections ∙ ap (λ x. x.number) is in
    let same : section_of old ≡ s = cc in
    subst (Has (open_sections m.runs)) same (has_open m.runs r old at inside)

reopened : (m new : Machine) (s : Section) → RunsMove m new → HasBegun m s → OpenAt new.runs s → Has (open_sections m.runs) s
reopened m new s mv b o = elim (run-before m new o.slot o.run mv o.there) [
  | inl x ↦ elim (x.goes.section o.inside) [
    | inl y ↦ same-section m new s o.slot x.old o.run x.there y.0 x.goes.name y.1 o.is
    | inr y ↦
        let e : o.run.sections ≡ s.number = ap (λ z. z.number) o.is in
        let most : s.number ≤ x.old.sections = b.opened o.slot x.old x.there (sym x.goes.name ∙ ap (λ z. z.run) o.is) in
        absurd (omega arith)
  ]
  | inr x ↦
      let zero_deep : 0 ≡ o.run.depth = ap (λ q. q.depth) x.is.2 in
      let inside : 0 < o.run.depth = o.inside in
      absurd (omega arith)
]

-- what is open after a step and had begun before it was open before it
pub open-before : (m new : Machine) (s : Section) → RunsMove m new → HasBegun m s → Has (open_sections new.runs) s → Has (open_sections m.runs) s
open-before m new s mv b h = reopened m new s mv b (open_at new.runs s h)

pub ended-later : (m new : Machine) (since : List Section) → RunsMove m new → AllBegun m since →
    AllEnded since (open_sections m.runs) → AllEnded since (open_sections new.runs)
ended-later m new since mv all ended s h opened = ended s h (open-before m new s mv (all s h) opened)

pub section_never_reopens : (m later : Machine) (events : List Event) (answers : List Answer) (states : List Machine) (j : ℕ) (s : Section) →
    IsHistory m events answers states → slice_get states j ≡ Some later → HasBegun m s →
    (Has (open_sections m.runs) s → ⊥) → Has (open_sections later.runs) s → ⊥
section_never_reopens m later [] [] [] j s h at b out = absurd (none-some later at)
section_never_reopens m later (event ∷ events) (answer ∷ answers) (next ∷ states) zero s h at b out =
    let mv = does-move m next event answer h.0 in
    λ opened. out (open-before m next s mv b (subst (λ x. Has (open_sections x.runs) s) (sym (same_Some next later at)) opened))
section_never_reopens m later (event ∷ events) (answer ∷ answers) (next ∷ states) (suc j) s h at b out =
    let mv = does-move m next event answer h.0 in
    section_never_reopens next later events answers states j s h.1 at (begun-later m next s mv b) (λ opened. out (open-before m next s mv b opened))
section_never_reopens m later events answers states j s h at b out = absurd h

-- the sections that are open have begun
pub open-begun : (m : Machine) → IsConsistent m → AllBegun m (open_sections m.runs)
open-begun m w s h = begun-of m w s (open_at m.runs s h)
  where
    same-run : (m : Machine) → IsConsistent m → (s : Section) (o : OpenAt m.runs s) (r : ℕ) (run : Run) →
        run_at m.runs r ≡ Some run → run.name ≡ s.run → o.run ≡ run
    same-run m w s o r run at same =
        let slot : r ≡ o.slot = w.apart r o.slot run o.run at o.there (same ∙ sym (ap (λ x. x.run) o.is)) in
        same_Some o.run run (sym o.there ∙ (ap (run_at m.runs) (sym slot) ∙ at))

    begun-of : (m : Machine) → IsConsistent m → (s : Section) → OpenAt m.runs s → HasBegun m s
    begun-of m w s o = record {
      started = (let named : o.run.name < m.started = w.named o.slot o.run o.there in let e : o.run.name ≡ s.run = ap (λ x. x.run) o.is in omega arith);
      opened = λ r run at same.
          let e : o.run ≡ run = same-run m w s o r run at same in
          let l : run.sections ≡ s.number = ap (λ x. x.sections) (sym e) ∙ ap (λ x. x.number) o.is in
          omega arith;
    }
