-- Options, numbers, orderings, lives, run slots and births, by cases.
use Rattle.std.proofs.Common.{◌≡◌, ℕ, ◌<◌, pos, true, List, length, Option, Some, None, ◌⊎◌, inl, inr, refl, arith, [], ◌∷◌, sym, ap, subst, ◌∙◌, Bool, false}
use Rattle.std.specs.Ordering.{is_eq}
use Rattle.std.specs.declared.cmp.Ordering.{Ordering}
use Rattle.std.specs.declared.cmp.Ordering.TheVariants.{Less, Equal, Greater}
use Rattle.std.proofs.lemmas.Bool.{false≢true}
use Rattle.std.proofs.lemmas.Option.{none-some, slice_get_within, same_Some}
use Rattle.std.specs.Prelude.{if◌then◌else◌, ◌==◌, drop}
use Rattle.std.specs.Option.{option_flatten}
use Rattle.bpf_model.specs.Section.{Section}
use Rattle.bpf_model.specs.Element.{Element, Unlinked}
use Rattle.bpf_model.specs.Machine.{Loaded, Run}
use Rattle.bpf_model.specs.Refines.{RunRefines, RunSlotRefines}
use Rattle.bpf_model.specs.View.{RunView}
use Rattle.bpf_model.specs.MapState.{Store}
use Rattle.bpf_model.specs.Schedule.{TakesOldest, Queues, or_first, first_ready, without_first}

pub option_cases : {A : Type 0} (o : Option A) → (o ≡ None) ⊎ ((x : A) × (o ≡ Some x))
option_cases None = inl refl
option_cases (Some x) = inr (x, refl)

-- two equal options have one content
pub both : {A : Type 0} (o : Option A) (x y : A) → o ≡ Some x → o ≡ Some y → x ≡ y
both o x y h g = same_Some x y (sym h ∙ g)

-- what is in an option of an option, where something is
pub flattened : {A : Type 0} (o : Option (Option A)) (x : A) → option_flatten o ≡ Some x → o ≡ Some (Some x)
flattened None x h = absurd (none-some x h)
flattened (Some o) x h = ap Some h

-- what holds of both holds of either
pub choice : {A : Type 0} (P : A → Type 0) (b : Bool) (x y : A) → P x → P y → P (if b then x else y)
choice P true x y p q = p
choice P false x y p q = q

pub same-pos : (a b : ℕ) → pos a ≡ pos b → a ≡ b
same-pos a b h = cc

pub same-since : (a b : List Section) → Unlinked a ≡ Unlinked b → a ≡ b
same-since a b h = cc

pub equal-is : (o : Ordering) → is_eq o ≡ true → o ≡ Equal
equal-is Less h = absurd (false≢true h)
equal-is Equal h = refl
equal-is Greater h = absurd (false≢true h)

-- where no element was born, none takes a map slot
pub oldest-none : (old new : Store) → length new.elements ≡ length old.elements → TakesOldest old new
oldest-none old new same e before after at h g = let z : length old.elements < length new.elements =
    slice_get_within new.elements (length old.elements) e at in absurd (omega arith)

-- where no birth is ready none is taken
pub none-at : (ready : List ℕ) (later : Option ℕ) → or_first ready later ≡ None → (ready ≡ []) × (later ≡ None)
none-at [] later h = (refl, h)
none-at (n ∷ ns) later h = absurd (none-some n (sym h))

pub none-without : (qs : List Queues) → first_ready qs ≡ None → without_first qs ≡ qs
none-without [] h = refl
none-without (q ∷ qs) h =
    let b = none-at q.ready (first_ready qs) h in
    ap (λ (ready : List ℕ). if length ready == 0 then q ∷ without_first qs else record { next = q.next; waiting = q.waiting; ready = drop 1 ready } ∷ qs) b.0
    ∙ ap (λ l. q ∷ l) (none-without qs b.1)

-- a run of the world stands for one of the machine
pub run-behind : (slots : List ℕ) (es : List Element) (programs : List Loaded) (v : RunView)
    (shown : Option (Option RunView)) (o : Option (Option Run)) → shown ≡ Some (Some v) →
    RunSlotRefines slots es programs shown o →
    (run : Run) × (o ≡ Some (Some run)) × RunRefines slots es programs v run
run-behind slots es programs v shown o e h = by o (subst (λ x. RunSlotRefines slots es programs x o) e h)
  where
    by : (o : Option (Option Run)) → RunSlotRefines slots es programs (Some (Some v)) o → (run : Run) ×
        (o ≡ Some (Some run)) × RunRefines slots es programs v run
    by None h = absurd h
    by (Some None) h = absurd h
    by (Some (Some run)) h = (run, refl, h)
