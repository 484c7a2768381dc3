-- A byte for each run slot.
use Rattle.bpf_model.proofs.Prelude.{◌≡◌, ◌∙◌, ℕ, zero, suc, ◌<◌, List, [], ◌∷◌, length, Option, Some, None, refl, sym, ap, subst, arith, rules, slice_get}
use Rattle.bpf_model.proofs.Prelude.{slice_set, map, IfSome, map-set, none-some, same_Some, lowest_free}
use Rattle.machine.proofs.Prelude.{RunWords}
use Rattle.world.proofs.Prelude.{flag_of, view_of}
use Rattle.memchr.specs.Find.{IsFirstByte, Nowhere, Passes, is_byte}
use Rattle.element_store.proofs.Views.{map-set_same}
use Rattle.world.proofs.Slots.{AreTaken, Runs, free-here, free-none}

pub flags-set : (runs : Runs) (flags : List ℕ) (i : ℕ) (o : Option RunWords) → flags ≡ map flag_of runs →
    slice_set flags i (flag_of o) ≡ map flag_of (slice_set runs i o)
flags-set runs flags i o h = ap (λ (l : List ℕ). slice_set l i (flag_of o)) h ∙ sym (map-set flag_of runs i o)

-- a run slot stays occupied
pub flags-stay : (runs : Runs) (flags : List ℕ) (i : ℕ) (run new : RunWords) → flags ≡ map flag_of runs →
    slice_get runs i ≡ Some (Some run) → flags ≡ map flag_of (slice_set runs i (Some new))
flags-stay runs flags i run new h there = h ∙ sym (map-set_same flag_of runs i (Some run) (Some new) there refl)

-- a flag that is 0 is that of a free run slot, and the other way round
free-flag : (runs : Runs) (k : ℕ) → k < length runs → Passes (is_byte 0) (map flag_of runs) k → slice_get runs k ≡ Some None
free-flag [] k l p = absurd (omega (arith, l))
free-flag (None ∷ runs) zero l p = refl
free-flag (Some run ∷ runs) zero l p = absurd (cc)
free-flag (o ∷ runs) (suc k) l p = free-flag runs k (omega (arith, l)) p

flag-free : (runs : Runs) (k : ℕ) → slice_get runs k ≡ Some None → Passes (is_byte 0) (map flag_of runs) k
flag-free [] k e = absurd (none-some None e)
flag-free (None ∷ runs) zero e = refl
flag-free (Some run ∷ runs) zero e = let s : Some run ≡ None = same_Some (Some run) None e in absurd (none-some run (sym s))
flag-free (o ∷ runs) (suc k) e = flag-free runs k e

long : (runs : Runs) → length (map flag_of runs) ≡ length runs
long [] = refl
long (o ∷ runs) = ap suc (long runs)

taken-below : (runs : Runs) (n : ℕ) → Nowhere (Passes (is_byte 0) (map flag_of runs)) 0 n → AreTaken runs n
taken-below runs n h k l e = h k (omega arith) l (flag-free runs k e)

-- the first flag that is 0 is that of a free run slot
first-free : (runs : Runs) (k : ℕ) → IsFirstByte (is_byte 0) (map flag_of runs) (Some k) → slice_get runs k ≡ Some None
first-free runs k f = free-flag runs k (subst (λ n. k < n) (long runs) f.0.high) f.1

pub lowest-flag : (runs : Runs) (flags : List ℕ) (r : Option ℕ) → IsFirstByte (is_byte 0) flags r → flags ≡ map flag_of runs →
    r ≡ lowest_free (map view_of runs)
lowest-flag runs flags None f h =
    let here : List ℕ → Type 0 = λ (l : List ℕ). Nowhere (Passes (is_byte 0) l) 0 (length l) in
    let g : here (map flag_of runs) = subst here h f in
    sym (free-none runs (taken-below runs (length runs) (subst (Nowhere (Passes (is_byte 0) (map flag_of runs)) 0) (long runs) g)))
lowest-flag runs flags (Some k) f h =
    let g : IsFirstByte (is_byte 0) (map flag_of runs) (Some k) = subst (λ (l : List ℕ). IsFirstByte (is_byte 0) l (Some k)) h f in
    sym (free-here runs k (first-free runs k g) (taken-below runs k g.0.before))

pub free-slot : (runs : Runs) (flags : List ℕ) (r : Option ℕ) → IsFirstByte (is_byte 0) flags r → flags ≡ map flag_of runs →
    IfSome r (λ k. slice_get runs k ≡ Some None)
free-slot runs flags None f h = search rules
free-slot runs flags (Some k) f h = first-free runs k (subst (λ (l : List ℕ). IsFirstByte (is_byte 0) l (Some k)) h f)
