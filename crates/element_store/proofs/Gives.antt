-- A taken slot is given back.
use Rattle.bpf_model.proofs.Prelude.{◌≡◌, ◌≢◌, ◌∙◌, ◌+◌, ◌<◌, ◌≤◌, ◌^◌, ◌++◌, ◌∷◌, [], ℕ, List, Option, Some, None, sym, ap, subst, arith, length, refl, eqb}
use Rattle.bpf_model.proofs.Prelude.{true, Bool, cond, slice_get, slice_set, IfSome, eqb-true, false_from_ne_true, SlotView, uses_at, length-set}
use Rattle.element_store.proofs.Prelude.{IsTaken, ArenaState, given_back, is_last_use, times_in, IsThreaded, AreCellsKept, IsLaidOut, arena_state_of, free_of}
use Rattle.element_store.proofs.Prelude.{state_with, slots_shown, free_count, taken_count, first_with, linked_behind, given_cell}
use Rattle.bpf_model.specs.declared.event.Given.{Given}
use Rattle.bpf_model.specs.declared.event.Given.TheVariants as given
use Rattle.element_store.specs.declared.cell.SlotCell.{SlotCell}
use Rattle.element_store.specs.declared.cell.Standing.TheVariants.{Free, Worn}
use Rattle.element_store.proofs.Keeps.{IsTakenCell, kept_from, taken_at, wear, free_again, last_free, length-behind}
use Rattle.element_store.proofs.Threading.{last-held}
use Rattle.element_store.proofs.Views.{wear_view, free_view, behind_view, last_use_is}
use Rattle.element_store.proofs.Slots.{held_from, state-is, shown-same, shown-behind, shown-uses, laid-out}

-- what is told of the slot
abbrev pub answer : Bool → Given
answer b = cond b given.Worn given.Free

in_range : (last : Option ℕ) (n : ℕ) → ((l : ℕ) → last ≡ Some l → l < n) → IfSome last (λ l. l < n)
in_range None n h = tt
in_range (Some l) n h = h l refl

module _ (kl vl limit : ℕ) (cells : List SlotCell) (first last : Option ℕ) (ks vs : List ℕ) (i : ℕ) (a : ArenaState)
    (e : arena_state_of cells first ks vs kl vl limit ≡ a)
    (k : AreCellsKept cells first last limit × IsLaidOut cells ks vs kl vl) (t : IsTaken a i) where
  pub held : IsTakenCell cells first i
  held = held_from kl vl limit cells first ks vs i (subst (λ (b : ArenaState). IsTaken b i) (sym e) t)

  module _ (c : SlotCell) (at : slice_get cells i ≡ Some c) where
    uses-is : uses_at (slots_shown kl vl cells ks vs) i ≡ c.uses
    uses-is = shown-uses kl vl cells ks vs i c at

    pub countable : c.generation + 1 < 2 ^ 32
    countable =
        let was = (taken_at cells first last limit i c k.0 held at).0 in
        let u : c.uses + free_count c.standing ≤ limit = k.0.used i c at in
        let g : c.generation + taken_count c.standing ≤ c.uses = k.0.given i c at in
        let one : taken_count c.standing ≡ 1 = ap taken_count was in
        let b : limit < 2 ^ 32 = k.0.small in
        omega arith

    pub told : (b : Bool) → eqb c.uses limit ≡ b → answer b ≡ answer (is_last_use a i)
    told b h =
        sym (ap (λ (s : ArenaState). answer (is_last_use s i)) (sym e)
        ∙ ap answer (last_use_is (slots_shown kl vl cells ks vs) cells kl vl limit i c at (free_of cells first) b uses-is h))

    worn-threaded : IsThreaded (slice_set cells i (given_cell c Worn)) first last limit (free_of cells first)
    worn-threaded = wear cells first last limit i c k.0 held at

    pub worn-kept : AreCellsKept (slice_set cells i (given_cell c Worn)) first last limit × IsLaidOut (slice_set cells i (given_cell c Worn)) ks vs kl vl
    worn-kept = (
      kept_from (slice_set cells i (given_cell c Worn)) first last limit (free_of cells first) worn-threaded,
      laid-out cells (slice_set cells i (given_cell c Worn)) ks ks vs vs kl vl k.1 (length-set cells i (given_cell c Worn)) refl refl,
    )

    pub worn-state : eqb c.uses limit ≡ true → arena_state_of (slice_set cells i (given_cell c Worn)) first ks vs kl vl limit ≡ given_back a i
    worn-state full =
        state-is (slice_set cells i (given_cell c Worn)) first last limit (free_of cells first) ks vs kl vl worn-threaded
        ∙ (ap (λ (l : List SlotView). state_with l (slice_set cells i (given_cell c Worn)) (free_of cells first) kl vl
        limit) (shown-same kl vl cells ks vs i c (given_cell c Worn) at refl)
        ∙ (wear_view (slots_shown kl vl cells ks vs) cells kl vl limit i c at (free_of cells first) uses-is full
        ∙ ap (λ (s : ArenaState). given_back s i) e))

    pub last-inside : IfSome last (λ l. l < length (slice_set cells i (given_cell c Free)))
    last-inside = in_range last (length (slice_set cells i (given_cell c Free))) (λ l le.
        let there : 0 < times_in l (free_of cells first) = last-held (free_of cells first) l (sym k.0.ends ∙ le) in
        subst (λ n. l < n) (sym (length-set cells i (given_cell c Free))) (k.0.inside l there))

    abbrev pub freed : List SlotCell
    freed = linked_behind (slice_set cells i (given_cell c Free)) last i

    module _ (ne : c.uses ≢ limit) where
      freed-threaded : IsThreaded freed (first_with first last i) (Some i) limit (free_of cells first ++ i ∷ [])
      freed-threaded = free_again cells first last limit i c k.0 held at ne

      pub freed-kept : AreCellsKept freed (first_with first last i) (Some i) limit × IsLaidOut freed ks vs kl vl
      freed-kept = (
        kept_from freed (first_with first last i) (Some i) limit (free_of cells first ++ i ∷ []) freed-threaded,
        laid-out cells freed ks ks vs vs kl vl k.1 (length-behind (slice_set cells i (given_cell c Free)) last i ∙
            length-set cells i (given_cell c Free)) refl refl,
      )

      pub freed-state : arena_state_of freed (first_with first last i) ks vs kl vl limit ≡ given_back a i
      freed-state =
          let was = taken_at cells first last limit i c k.0 held at in
          let shown : slots_shown kl vl freed ks vs ≡ slots_shown kl vl cells ks vs =
          shown-behind kl vl (slice_set cells i (given_cell c Free)) ks vs last i ∙ shown-same kl vl cells ks vs i c (given_cell c Free) at refl in
          state-is freed (first_with first last i) (Some i) limit (free_of cells first ++ i ∷ []) ks vs kl vl freed-threaded
          ∙ (ap (λ (l : List SlotView). state_with l freed (free_of cells first ++ i ∷ []) kl vl limit) shown
          ∙ (behind_view (slots_shown kl vl cells ks vs) (slice_set cells i (given_cell c Free)) (free_of cells first ++ i ∷ []) kl vl limit last i
          (λ l b le h. (last_free cells first last limit i l b (given_cell c Free) k.0 was.1 le h).0)
          ∙ (free_view (slots_shown kl vl cells ks vs) cells kl vl limit i c at (free_of cells first) uses-is was.0
          (false_from_ne_true _ (λ y. ne (eqb-true _ _ y)))
          ∙ ap (λ (s : ArenaState). given_back s i) e)))
