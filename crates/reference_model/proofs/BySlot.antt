-- Runs by run slot.
use Rattle.bpf_model.proofs.Prelude.{◌≡◌, ℕ, ◌+◌, ◌<◌, ◌≤◌, List, [], ◌∷◌, ◌++◌, Option, Some, None, Bool, refl, sym, ap, ◌∙◌, subst, arith, length, true}
use Rattle.bpf_model.proofs.Prelude.{false, Result, slice_get, drop, take, is_some, if◌then◌else◌, map-append, drop_all, lowest_free, open_sections}
use Rattle.bpf_model.proofs.Prelude.{is_inside, section_of, RunStep, Section}
use Rattle.model_laws.proofs.Prelude.{Answer}
use Rattle.std.specs.Option.{option_map}
use Rattle.bpf_model.specs.Machine as model
use Rattle.bpf_model.specs.MapState as maps
use Rattle.reference_store.specs.declared.fault.ModelFault.{ModelFault}
use Rattle.reference_store.proofs.Lists.{drop-at, take-at}
use Rattle.reference_store.proofs.Telling.{tells-map}
use Rattle.reference_model.specs.declared.run.Run.{Run}
use Rattle.reference_model.specs.declared.run.Loaded.{Loaded}
use Rattle.reference_model.specs.RunState.{run_of, runs_of}
use Rattle.reference_model.specs.Acting.{RunStepsAs, SlotStepsAs}

-- so many run slots further
abbrev pub later : ℕ → Option ℕ → Option ℕ
later n o = option_map (λ r. r + n) o

pub later-none : (o : Option ℕ) → o ≡ later 0 o
later-none None = refl
later-none (Some r) = let e : r ≡ r + 0 = omega arith in ap Some e

later-more : (n : ℕ) (o : Option ℕ) → later n (option_map (λ r. r + 1) o) ≡ later (n + 1) o
later-more n None = refl
later-more n (Some r) = let e : r + 1 + n ≡ r + (n + 1) = omega arith in ap Some e

-- the lowest free run slot from run slot r on
abbrev pub lowest_from : List Loaded → List (Option Run) → ℕ → Option ℕ
lowest_from programs runs r = lowest_free (runs_of programs (drop r runs))

pub lowest-here : (programs : List Loaded) (runs : List (Option Run)) (r : ℕ) (x : Option Run) →
    slice_get runs r ≡ Some x → is_some x ≡ false → lowest_from programs runs r ≡ Some 0
lowest-here programs runs r None h e = ap (λ rs. lowest_free (runs_of programs rs)) (drop-at runs r None h)
lowest-here programs runs r (Some run) h e = absurd cc

pub lowest-later : (programs : List Loaded) (runs : List (Option Run)) (r : ℕ) (x : Option Run) →
    slice_get runs r ≡ Some x → is_some x ≡ true → later r (lowest_from programs runs r) ≡ later (r + 1)
    (lowest_from programs runs (r + 1))
lowest-later programs runs r None h e = absurd cc
lowest-later programs runs r (Some run) h e = ap (λ rs. later r (lowest_free (runs_of programs rs)))
    (drop-at runs r (Some run) h) ∙ later-more r (lowest_from programs runs (r + 1))

pub lowest-past : (programs : List Loaded) (runs : List (Option Run)) (r : ℕ) → length runs ≤ r → lowest_from programs runs r ≡ None
lowest-past programs runs r h = ap (λ rs. lowest_free (runs_of programs rs)) (drop_all r runs h)

later-within : (rs : List (Option model.Run)) (o : Option ℕ) (r : ℕ) → ((q : ℕ) → o ≡ Some q → q < length rs) →
    option_map (λ q. q + 1) o ≡ Some r → r < length rs + 1
later-within rs None r w h = absurd cc
later-within rs (Some q) r w h =
    let e : q + 1 ≡ r = cc in
    omega (arith, w q refl)

pub lowest-within : (rs : List (Option model.Run)) (r : ℕ) → lowest_free rs ≡ Some r → r < length rs
lowest-within [] r h = absurd cc
lowest-within (None ∷ rs) r h = let e : 0 ≡ r = cc in omega arith
lowest-within (Some run ∷ rs) r h = omega (arith, later-within rs (lowest_free rs) r (λ q g. lowest-within rs q g) h)

inside-append : (b : Bool) (s : Section) (xs ys zs : List Section) → zs ≡ xs ++ ys → (if b then s ∷ zs else zs) ≡ (if b then s ∷ xs else xs) ++ ys
inside-append true s xs ys zs e = ap (λ l. s ∷ l) e
inside-append false s xs ys zs e = e

open-append : (xs ys : List (Option model.Run)) → open_sections (xs ++ ys) ≡ open_sections xs ++ open_sections ys
open-append [] ys = refl
open-append (None ∷ xs) ys = open-append xs ys
open-append (Some run ∷ xs) ys = inside-append (is_inside run) (section_of run) (open_sections xs) (open_sections ys)
    (open_sections (xs ++ ys)) (open-append xs ys)

pub open-more : (programs : List Loaded) (runs : List (Option Run)) (r : ℕ) (x : Option Run) → slice_get runs r ≡ Some x →
    open_sections (runs_of programs (take r runs)) ++ open_sections (option_map (run_of programs) x ∷ []) ≡ open_sections (runs_of programs (take (r + 1) runs))
open-more programs runs r x h =
    sym (open-append (runs_of programs (take r runs)) (option_map (run_of programs) x ∷ []))
    ∙ ap open_sections (sym (map-append (option_map (run_of programs)) (take r runs) (x ∷ [])) ∙ ap (runs_of programs) (sym (take-at runs r x h)))

-- a step of the run in a run slot, under another name
pub slot-steps : (s : maps.Store) (opened : List Section) (run old new next : model.Run)
    (answer : Result Answer ModelFault) (t : maps.Store) → old ≡ run → next ≡ new →
    RunStepsAs s opened run answer t new → SlotStepsAs s opened (Some old) answer t (Some next)
slot-steps s opened run old new next answer t e f h =
    tells-map _ _ _ _ answer (λ a k. (new, ap Some f, subst (λ r. RunStep s opened r a t new) (sym e) k))
    (λ none a u q k. none a u k.0 (subst (λ r. RunStep s opened r a u k.0) e k.2)) h
