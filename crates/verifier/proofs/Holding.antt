-- What waits for an instruction, taken out of the table and put back.
use Rattle.bpf_model.proofs.Prelude.{◌≡◌, ◌≢◌, ℕ, suc, ◌+◌, ◌<◌, ◌≤◌, List, length, arith, refl, sym, ◌∙◌, ap, subst, inl, inr, slice_index_or, slice_set}
use Rattle.bpf_model.proofs.Prelude.{max, Some, le-max_left, max-le, cases_Bool, cases_eq, length-set, get_or-set_same, get_or-set_other, falls}
use Rattle.effects.proofs.Prelude.{AbsState}
use Rattle.model_laws.proofs.Prelude.{Insn}
use Rattle.verifier.proofs.Prelude.{Table, size_of, states_in, state_in, occupied, awaited, holding, Joined, Merged, Leads, Puts}
use Rattle.std.proofs.lemmas.List.{ext_get_or}
use Rattle.verifier.specs.declared.waiting.Waiting.{Waiting}
use Rattle.verifier.specs.declared.waiting.Waiting.TheVariants.{Nothing}
use Rattle.verifier.proofs.Counting.{set_counted}

pub held_there : (k : ℕ) (w : Waiting) (t : Table) → k < size_of t → awaited (holding k w t) k ≡ w
held_there k w t h = get_or-set_same t.by_index k w Nothing h

pub held_elsewhere : (k m : ℕ) (w : Waiting) (t : Table) → m ≢ k → awaited (holding k w t) m ≡ awaited t m
held_elsewhere k m w t n = get_or-set_other t.by_index k m w Nothing n

pub held_size : (k : ℕ) (w : Waiting) (t : Table) → size_of (holding k w t) ≡ size_of t
held_size k w t = length-set t.by_index k w

-- as many wait as without it, and it
pub held_states : (k : ℕ) (w : Waiting) (t : Table) → k < size_of t → awaited t k ≡ Nothing →
    states_in (holding k w t).by_index ≡ occupied w + states_in t.by_index
held_states k w t h gone =
    let none : occupied (slice_index_or t.by_index k Nothing) ≡ 0 = ap occupied gone in
    omega (arith, set_counted t.by_index k w h, none)

-- what was taken out of the table is there again
pub taken_back : (k : ℕ) (old new : Table) (w : Waiting) → w ≡ awaited old k → ((m : ℕ) → m ≢ k → awaited new m ≡ awaited old m) →
    size_of new ≡ size_of old → new.peak ≡ old.peak → holding k w new ≡ old
taken_back k old new w value others size peak =
    same_table (holding k w new) old (ext_get_or Nothing (slice_set new.by_index k w) old.by_index (held_size k w new ∙ size) each) peak
  where
    same_table : (a b : Table) → a.by_index ≡ b.by_index → a.peak ≡ b.peak → a ≡ b
    same_table a b e f = ap (λ (l : List Waiting). record { by_index = l; peak = a.peak }) e ∙ ap (λ (n : ℕ). record { by_index = b.by_index; peak = n }) f

    each : (i : ℕ) → i < length (slice_set new.by_index k w) → slice_index_or (slice_set new.by_index k w) i Nothing ≡ slice_index_or old.by_index i Nothing
    each i h = elim (cases_eq i k) [
      | inl e ↦ subst (λ i. awaited (holding k w new) i ≡ awaited old i) (sym e)
          (held_there k w new (let l : k < size_of new = omega (arith, h, e, held_size k w new) in l) ∙ value)
      | inr n ↦ held_elsewhere k i w new n ∙ others i n
    ]

-- a state came to what waits for an instruction, and that was taken out
pub joined_merged : (k : ℕ) (state : AbsState) (old new : Table) (w : Waiting) → k < size_of new → Joined (awaited old k) state w →
    ((m : ℕ) → m ≢ k → awaited new m ≡ awaited old m) → Merged k state (awaited old) (awaited (holding k w new))
joined_merged k state old new w h joined others = record {
  here = subst (Joined (awaited old k) state) (sym (held_there k w new h)) joined;
  others = λ m n. held_elsewhere k m w new n ∙ others m n;
}

pub joined_puts : (k : ℕ) (old new : Table) (w : Waiting) → k < size_of new → awaited new k ≡ Nothing →
    ((m : ℕ) → m ≢ k → awaited new m ≡ awaited old m) → size_of new ≡ size_of old →
    new.peak ≡ max old.peak (occupied w + states_in new.by_index) → Puts (λ m. m ≡ k) old (holding k w new)
joined_puts k old new w h gone others size peak = record {
  only = λ m a e. elim (cases_eq m k) [
    | inl g ↦ inl g
    | inr n ↦ inr (a, ap state_in (sym (held_elsewhere k m w new n ∙ others m n)) ∙ e)
  ];
  size = held_size k w new ∙ size;
  peak = inr (peak ∙ ap (max old.peak) (sym (held_states k w new h gone)));
}

-- where the peak stays
pub peak_stays : (old new n : ℕ) → new ≡ old → n ≤ new → new ≡ max old n
peak_stays old new n e h =
    let high : max old n ≤ new = max-le (omega (arith, e)) (omega (arith, h)) in
    let low = le-max_left old n in
    omega (arith, e, high, low)

pub same_puts : (P : ℕ → Type 0) (old new : Table) → new ≡ old → Puts P old new
same_puts P old new e = subst (Puts P old) (sym e) (record { only = λ m a f. inr (a, f); size = refl; peak = inl refl })

-- what was taken out for the next instruction is there again
pub taken_next : (i : ℕ) (old new : Table) (w : Waiting) → w ≡ awaited old (i + 1) → ((m : ℕ) → m ≢ i + 1 → awaited new m ≡ awaited old m) →
    size_of new ≡ size_of old → new.peak ≡ old.peak → holding (suc i) w new ≡ old
taken_next i old new w value others size peak =
    let e : i + 1 ≡ suc i = omega arith in
    subst (λ k. holding k w new ≡ old) e (taken_back (i + 1) old new w value others size peak)

-- an instruction with two ways on
pub both_lead : (i : Insn) (next taken : AbsState) → Leads i next (Some taken) (Some taken)
both_lead i next taken = elim (cases_Bool (falls i)) [ inl e ↦ inl (e, refl) | inr e ↦ inr (e, refl) ]
