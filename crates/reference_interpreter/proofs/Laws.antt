-- What the definition's step gives, by what the plain run's registers, cells and values are.
use Rattle.bpf_model.proofs.Prelude.{◌≡◌, ◌≢◌, inl, inr, ℕ, zero, suc, ◌+◌, ◌<◌, ◌≤◌, refl, sym, ◌∙◌, ap, subst, arith, List, [], ◌∷◌, ◌==◌, if◌then◌else◌}
use Rattle.bpf_model.proofs.Prelude.{length, slice_set, Option, Some, None, slice_index_or, ℤ, pos, ◌+ℤ◌, ◌-ℤ◌, w64, fun_ext, cases_lt, cases_eq, ne_eqb}
use Rattle.bpf_model.proofs.Prelude.{eq-eqb, get_or-set_same, get_or-set_other, is_within, offset_by, sum_of, difference_of, region_offset, signed}
use Rattle.bpf_model.proofs.Prelude.{start-insn_at, starts_inside, slot_count_some, slot_total, State, Outcome, Moves, insn_at, entry_value, sets, put}
use Rattle.bpf_model.proofs.Prelude.{stored, frame_after, ◌>>=◌, number, before, behind, within}
use Rattle.bpf_model.specs.declared.value.Cell.{Cell}
use Rattle.bpf_model.specs.declared.value.Cell.TheVariants.{Unwritten}
use Rattle.bpf_model.specs.declared.limits.TheConstants.{FRAME_BYTES, MAX_SLOTS}
use Rattle.bpf_model.specs.declared.insn.Insn.{Insn}
use Rattle.bpf_model.specs.declared.value.Value.{Value}
use Rattle.bpf_model.specs.declared.value.Value.TheVariants.{Nothing, Pointer}
use Rattle.bpf_model.specs.declared.value.Reference.{Reference}
use Rattle.bpf_model.specs.declared.value.Reference.TheVariants.{Ctx, Frame, MapRef, Elem}
use Rattle.reference_interpreter.specs.declared.plain_run.PlainRun.{PlainRun}
use Rattle.reference_interpreter.specs.declared.plain_run.Progress.{Progress}
use Rattle.reference_interpreter.specs.declared.value.Computed.{Computed}
use Rattle.reference_interpreter.specs.Plain.{cells_of, Comes, IsComputed, IsFar, IsSum, pointed_offset}

pub bind_comes : {A : Type 0} (o : Option A) (f : A → Option Outcome) (x : A) (answer : Progress) (old new : PlainRun)
    → o ≡ Some x → Comes (f x) answer old new → Comes (o >>= f) answer old new
bind_comes o f x answer old new e h = subst (λ o. Comes (o >>= f) answer old new) (sym e) h

pub bind_none : {A B : Type 0} (o : Option A) (f : A → Option B) → o ≡ None → (o >>= f) ≡ None
bind_none o f e = ap (λ o. o >>= f) e

pub bind_computes : {A : Type 0} (o : Option A) (f : A → Option Value) (x : A) (c : Computed) → o ≡ Some x → IsComputed (f x) c → IsComputed (o >>= f) c
bind_computes o f x c e h = subst (λ o. IsComputed (o >>= f) c) (sym e) h

pub inside : (is : List Insn) (p : ℕ) (i : Insn) → insn_at is p ≡ Some i → slot_total is ≤ MAX_SLOTS → p < MAX_SLOTS
inside is p i e l =
    let s = start-insn_at 0 is p i e in
    omega (arith, starts_inside 0 is s.0 (0 + p) i s.1 s.2, slot_count_some i)

pub entry_reg : (r : ℕ) → slice_index_or (Nothing ∷ Pointer (Ctx (pos 0)) ∷ Nothing ∷ Nothing ∷ Nothing ∷ Nothing
    ∷ Nothing ∷ Nothing ∷ Nothing ∷ Nothing ∷ Pointer (Frame (pos FRAME_BYTES)) ∷ []) r Nothing ≡ entry_value r
entry_reg zero = refl
entry_reg (suc zero) = refl
entry_reg (suc (suc zero)) = refl
entry_reg (suc (suc (suc zero))) = refl
entry_reg (suc (suc (suc (suc zero)))) = refl
entry_reg (suc (suc (suc (suc (suc zero))))) = refl
entry_reg (suc (suc (suc (suc (suc (suc zero)))))) = refl
entry_reg (suc (suc (suc (suc (suc (suc (suc zero))))))) = refl
entry_reg (suc (suc (suc (suc (suc (suc (suc (suc zero)))))))) = refl
entry_reg (suc (suc (suc (suc (suc (suc (suc (suc (suc zero))))))))) = refl
entry_reg (suc (suc (suc (suc (suc (suc (suc (suc (suc (suc zero)))))))))) = refl
entry_reg (suc (suc (suc (suc (suc (suc (suc (suc (suc (suc (suc r))))))))))) =
    sym (beyond (suc (suc (suc (suc (suc (suc (suc (suc (suc (suc (suc r))))))))))) (omega arith))
  where
    beyond : (n : ℕ) → 11 ≤ n → entry_value n ≡ Nothing
    beyond n h = ap (λ t. if t then Pointer (Ctx (pos 0)) else if n == 10 then Pointer (Frame (pos FRAME_BYTES)) else Nothing) (ne_eqb n 1 (λ e. omega arith))
        ∙ ap (λ t. if t then Pointer (Frame (pos FRAME_BYTES)) else Nothing) (ne_eqb n 10 (λ e. omega arith))

pub far_moved : (r : Reference) (offset : Option ℤ) (d : ℤ) → offset ≡ None → ((k : ℕ) → r ≡ MapRef k → ⊥) →
    IsSum (pointed_offset r +ℤ d) offset → (v : Value) × (offset_by r d ≡ Some v) × IsFar v
far_moved (Ctx o) offset d e other s = (Pointer (Ctx (o +ℤ d)), refl, subst (IsSum (o +ℤ d)) e s)
far_moved (Frame o) offset d e other s = (Pointer (Frame (o +ℤ d)), refl, subst (IsSum (o +ℤ d)) e s)
far_moved (Elem k o) offset d e other s = (Pointer (Elem k (o +ℤ d)), refl, subst (IsSum (o +ℤ d)) e s)
far_moved (MapRef k) offset d e other s = absurd (other k refl)

same_within : (at i j : ℕ) → j ≢ at + i → is_within at i j ≡ is_within at (i + 1) j
same_within at i j n = elim (cases_lt j at) [
  | inl l ↦ before at i j l ∙ sym (before at (i + 1) j l)
  | inr l ↦ elim (cases_lt j (at + i)) [
    | inl m ↦ within at i j l m ∙ sym (within at (i + 1) j l (omega arith))
    | inr m ↦ behind at i j m ∙ sym (behind at (i + 1) j (omega arith))
  ]
]

pub cells_more : (frame old : List Cell) (f : ℕ → Cell) (at i : ℕ) (c : Cell) → at + i < length frame → c ≡ f (at + i)
    → ((j : ℕ) → cells_of frame j ≡ (if is_within at i j then f j else cells_of old j))
    → (j : ℕ) → cells_of (slice_set frame (at + i) c) j ≡ (if is_within at (i + 1) j then f j else cells_of old j)
cells_more frame old f at i c l e all j = elim (cases_eq j (at + i)) [
  | inl h ↦ subst (λ j. cells_of (slice_set frame (at + i) c) j ≡ (if is_within at (i + 1) j then f j else cells_of old j)) (sym h)
      (get_or-set_same frame (at + i) c Unwritten l ∙ e ∙
      sym (ap (λ t. if t then f (at + i) else cells_of old (at + i))
      (within at (i + 1) (at + i) (omega arith) (omega arith))))
  | inr n ↦ get_or-set_other frame (at + i) j c Unwritten n ∙ all j ∙ ap (λ t. if t then f j else cells_of old j) (same_within at i j n)
]

pub far_set : (dst : ℕ) (v : Value) (m : State) → dst ≢ 10 → IsFar v → (next : State) × (sets 1 dst v m ≡ Some (Moves next)) × (r : ℕ) × IsFar (next.regs r)
far_set dst v m n far =
    let next : State = record { regs = put dst v m.regs; frame = m.frame; place = m.place + 1 } in (
      next,
      ap (λ t. if t then None else Some (Moves next)) (ne_eqb dst 10 n),
      dst,
      subst (λ t. IsFar (if t then v else m.regs dst)) (sym (eq-eqb dst dst refl)) far,
    )

pub sum_known : (x y : Value) (r : Reference) (b : ℕ) (c : Computed) → x ≡ Pointer r → number y ≡ Some b →
    IsComputed (offset_by r (signed w64 b)) c → IsComputed (sum_of x y) c
sum_known x y r b c e f h = subst (λ x. IsComputed (sum_of x y) c) (sym e) (bind_computes (number y) (λ b. offset_by r (signed w64 b)) b c f h)

pub difference_known : (x y : Value) (r : Reference) (b : ℕ) (c : Computed) → x ≡ Pointer r → number y ≡ Some b →
    IsComputed (offset_by r (pos 0 -ℤ signed w64 b)) c → IsComputed (difference_of x y) c
difference_known x y r b c e f h = subst (λ x. IsComputed (difference_of x y) c) (sym e)
    (bind_computes (number y) (λ b. offset_by r (pos 0 -ℤ signed w64 b)) b c f h)

pub store_known : (m : State) (width : ℕ) (offset : ℤ) (v : Value) (r : Reference) (o : ℤ) (at : ℕ) (frame : ℕ → Cell)
    → r ≡ Frame o → region_offset FRAME_BYTES width (o +ℤ offset) ≡ Some at →
    frame_after at width v m.frame ≡ Some frame
    → stored m width offset v r ≡ Some (Moves (record { regs = m.regs; frame = frame; place = m.place + 1 }))
store_known m width offset v r o at frame e f g =
    ap (stored m width offset v) e
    ∙ ap (λ p. p >>= λ at. frame_after at width v m.frame >>= λ frame. Some (Moves (record { regs = m.regs; frame = frame; place = m.place + 1 }))) f
    ∙ ap (λ q. q >>= λ frame. Some (Moves (record { regs = m.regs; frame = frame; place = m.place + 1 }))) g

pub same_state : (f g : ℕ → Value) (p q : ℕ → Cell) (place : ℕ) → ((r : ℕ) → f r ≡ g r) → ((k : ℕ) → p k ≡ q k) →
    (let s : State = record { regs = f; frame = p; place = place } in s) ≡
    record { regs = g; frame = q; place = place }
same_state f g p q place e h =
    let mk : (ℕ → Value) → (ℕ → Cell) → State = λ f p. record { regs = f; frame = p; place = place } in
    ap (λ f. mk f p) (fun_ext e) ∙ ap (mk g) (fun_ext h)
