-- The example is plain with maps: each field is a table of its twelve instructions, and each path meets an invariant of its place.
use Rattle.bpf_model.proofs.Prelude.{◌≡◌, ℕ, zero, suc, ◌+◌, ◌-◌, ◌<◌, ◌≤◌, List, [], ◌∷◌, Bool, true, false, cond, inl, inr, refl, sym, ap, ◌∙◌, subst}
use Rattle.bpf_model.proofs.Prelude.{arith, Option, Some, None, ◌⊎◌, pos, ◌+ℤ◌, ◌&&◌, nat_lt, slice_get, take, ℤ, negsuc, none-some, same_Some, ne_eqb}
use Rattle.bpf_model.proofs.Prelude.{ltb-false, lt-ltb, false≢true, same-pos, slot_count, insn_at, falls, distance, JumpsTo, GoesTo, Reached, reached_entry}
use Rattle.bpf_model.proofs.Prelude.{reached_next}
use Rattle.model_laws.proofs.Prelude.{FRAME_BYTES, MapShape, Insn, Alu, Load, Exit, Move, Add, Register, Immediate, Word64, Eight, WritesRegister, WritesByte}
use Rattle.model_laws.proofs.Prelude.{WithoutByte, without_entry, without_next, lookup_call, lock_call, unlock_call, GuardedLookup, LookupPart, FrameCopy}
use Rattle.model_laws.proofs.Prelude.{KeyAddress, MapLoad, LookupCall, NullTest, ValueLoad, part_insn, part_slot, IsGuardedLookup, IsLookupPart, HasForm}
use Rattle.model_laws.proofs.Prelude.{InSection, section_entry, section_lock, section_unlock, section_next, LacksRegister, lacks_entry, lacks_call}
use Rattle.model_laws.proofs.Prelude.{lacks_next, IsPlainWithMaps, lookup_and_load, example_shape}
use Rattle.model_laws.specs.Plain.{ReadsRegister, ReadsByte}

-- what holds of each instruction of a list and the slot where it begins, the first at slot n
abbrev EachFrom : (ℕ → Insn → Type 0) → ℕ → List Insn → Type 0
EachFrom P n [] = Unit {0}
EachFrom P n (i ∷ is) = P n i × EachFrom P (n + slot_count i) is

not_first : (t : Bool) (i j : Insn) (rest : Option Insn) → t ≡ false → cond t (Some i) rest ≡ Some j → rest ≡ Some j
not_first true i j rest e h = absurd (cc)
not_first false i j rest e h = h

not_inside : (t : Bool) (j : Insn) (rest : Option Insn) → cond t None rest ≡ Some j → (t ≡ false) × (rest ≡ Some j)
not_inside true j rest h = absurd (none-some j h)
not_inside false j rest h = (refl, h)

each : (P : ℕ → Insn → Type 0) (n : ℕ) (is : List Insn) → EachFrom P n is → (place : ℕ) (j : Insn) → insn_at is place ≡ Some j → P (n + place) j
each P n [] all place j h = absurd (none-some j h)
each P n (i ∷ is) all zero j h = let e : n ≡ n + 0 = omega arith in subst (λ x. P x j) e (subst (P n) (same_Some i j h) all.0)
each P n (i ∷ is) all (suc p) j h =
    let past = not_first _ i j _ (ne_eqb (suc p) 0 (λ e. absurd (cc))) h in
    let r = not_inside (nat_lt (suc p) (slot_count i)) j (insn_at is (suc p - slot_count i)) past in
    let low : slot_count i ≤ suc p = ltb-false (suc p) (slot_count i) r.0 in
    let e : (n + slot_count i) + (suc p - slot_count i) ≡ n + suc p = omega arith in
    subst (λ x. P x j) e (each P (n + slot_count i) is all.1 (suc p - slot_count i) j r.1)

visit : (P : ℕ → Insn → Type 0) → EachFrom P 0 lookup_and_load → (place : ℕ) (j : Insn) → insn_at lookup_and_load place ≡ Some j → P place j
visit P all place j h = let e : 0 + place ≡ place = omega arith in subst (λ x. P x j) e (each P 0 lookup_and_load all place j h)

at_slot : (n place : ℕ) (i j : Insn) → insn_at lookup_and_load n ≡ Some i → place ≡ n → insn_at lookup_and_load place ≡ Some j → i ≡ j
at_slot n place i j is e h = same_Some i j (sym is ∙ (ap (insn_at lookup_and_load) (sym e) ∙ h))

-- the edges of the graph
jump_only : (place : ℕ) (i : Insn) → insn_at lookup_and_load place ≡ Some i → (target : ℕ) → JumpsTo i place target → (place ≡ 8) × (target ≡ 10)
jump_only = visit (λ s j. (target : ℕ) → JumpsTo j s target → (s ≡ 8) × (target ≡ 10)) (
  λ t g. absurd (none-some g.0 g.1),
  (
    λ t g. absurd (none-some g.0 g.1),
    (
      λ t g. absurd (none-some g.0 g.1),
      (
        λ t g. absurd (none-some g.0 g.1),
        (
          λ t g. absurd (none-some g.0 g.1),
          (
            λ t g. absurd (none-some g.0 g.1),
            (
              λ t g. absurd (none-some g.0 g.1),
              (
                λ t g. (refl, one_further t g.0 (same_Some (pos 1) g.0 g.1) g.2),
                (
                  λ t g. absurd (none-some g.0 g.1),
                  (
                    λ t g. absurd (none-some g.0 g.1),
                    (
                      λ t g. absurd (none-some g.0 g.1),
                      (λ t g. absurd (none-some g.0 g.1), tt),
                    ),
                  ),
                ),
              ),
            ),
          ),
        ),
      ),
    ),
  ),
)
  where
    one_further : (t : ℕ) (d : ℤ) → pos 1 ≡ d → pos t ≡ pos 9 +ℤ d → t ≡ 10
    one_further t d e h = same-pos t 10 (h ∙ ap (λ x. pos 9 +ℤ x) (sym e))

record EachEdge (P : ℕ → ℕ → Type 0) : Type 0 where
  from_0_to_1 : P 0 1
  from_1_to_2 : P 1 2
  from_2_to_3 : P 2 3
  from_3_to_4 : P 3 4
  from_4_to_5 : P 4 5
  from_5_to_7 : P 5 7
  from_7_to_8 : P 7 8
  from_8_to_9 : P 8 9
  from_8_to_10 : P 8 10
  from_9_to_10 : P 9 10
  from_10_to_11 : P 10 11
  from_11_to_12 : P 11 12

edges : (P : ℕ → ℕ → Type 0) → EachEdge P → (place target : ℕ) (i : Insn) → insn_at lookup_and_load place ≡ Some i → GoesTo i place target → P place target
edges P all place target i h (inr j) = let e = jump_only place i h target j in subst (λ x. P x target) (sym e.0) (subst (P 8) (sym e.1) all.from_8_to_10)
edges P all place target i h (inl f) = fallen place i h target f.0 f.1
  where
    fallen : (place : ℕ) (i : Insn) → insn_at lookup_and_load place ≡ Some i → (target : ℕ) → falls i ≡ true → target ≡ place + slot_count i → P place target
    fallen = visit (λ s j. (target : ℕ) → falls j ≡ true → target ≡ s + slot_count j → P s target) (
      λ t f e. subst (P 0) (sym e) all.from_0_to_1,
      (
        λ t f e. subst (P 1) (sym e) all.from_1_to_2,
        (
          λ t f e. subst (P 2) (sym e) all.from_2_to_3,
          (
            λ t f e. subst (P 3) (sym e) all.from_3_to_4,
            (
              λ t f e. subst (P 4) (sym e) all.from_4_to_5,
              (
                λ t f e. subst (P 5) (sym e) all.from_5_to_7,
                (
                  λ t f e. subst (P 7) (sym e) all.from_7_to_8,
                  (
                    λ t f e. subst (P 8) (sym e) all.from_8_to_9,
                    (
                      λ t f e. subst (P 9) (sym e) all.from_9_to_10,
                      (
                        λ t f e. subst (P 10) (sym e) all.from_10_to_11,
                        (
                          λ t f e. subst (P 11) (sym e) all.from_11_to_12,
                          (λ t f e. absurd (false≢true f), tt),
                        ),
                      ),
                    ),
                  ),
                ),
              ),
            ),
          ),
        ),
      ),
    )

-- where the calls and the lookup stand
lock_at : (place : ℕ) (i : Insn) → insn_at lookup_and_load place ≡ Some i → i ≡ lock_call → place ≡ 1
lock_at = visit (λ s j. j ≡ lock_call → s ≡ 1) (
  λ e. absurd (cc),
  (
    λ e. refl,
    (
      λ e. absurd (cc),
      (
        λ e. absurd (cc),
        (
          λ e. absurd (cc),
          (
            λ e. absurd (cc),
            (
              λ e. absurd (cc),
              (
                λ e. absurd (cc),
                (
                  λ e. absurd (cc),
                  (
                    λ e. absurd (cc),
                    (
                      λ e. absurd (cc),
                      (λ e. absurd (cc), tt),
                    ),
                  ),
                ),
              ),
            ),
          ),
        ),
      ),
    ),
  ),
)

unlock_at : (place : ℕ) (i : Insn) → insn_at lookup_and_load place ≡ Some i → i ≡ unlock_call → place ≡ 10
unlock_at = visit (λ s j. j ≡ unlock_call → s ≡ 10) (
  λ e. absurd (cc),
  (
    λ e. absurd (cc),
    (
      λ e. absurd (cc),
      (
        λ e. absurd (cc),
        (
          λ e. absurd (cc),
          (
            λ e. absurd (cc),
            (
              λ e. absurd (cc),
              (
                λ e. absurd (cc),
                (
                  λ e. absurd (cc),
                  (
                    λ e. refl,
                    (
                      λ e. absurd (cc),
                      (λ e. absurd (cc), tt),
                    ),
                  ),
                ),
              ),
            ),
          ),
        ),
      ),
    ),
  ),
)

lookup_at : (place : ℕ) (i : Insn) → insn_at lookup_and_load place ≡ Some i → i ≡ lookup_call → place ≡ 7
lookup_at = visit (λ s j. j ≡ lookup_call → s ≡ 7) (
  λ e. absurd (cc),
  (
    λ e. absurd (cc),
    (
      λ e. absurd (cc),
      (
        λ e. absurd (cc),
        (
          λ e. absurd (cc),
          (
            λ e. absurd (cc),
            (
              λ e. refl,
              (
                λ e. absurd (cc),
                (
                  λ e. absurd (cc),
                  (
                    λ e. absurd (cc),
                    (
                      λ e. absurd (cc),
                      (λ e. absurd (cc), tt),
                    ),
                  ),
                ),
              ),
            ),
          ),
        ),
      ),
    ),
  ),
)

exit_at : (place : ℕ) (i : Insn) → insn_at lookup_and_load place ≡ Some i → i ≡ Exit → place ≡ 12
exit_at = visit (λ s j. j ≡ Exit → s ≡ 12) (
  λ e. absurd (cc),
  (
    λ e. absurd (cc),
    (
      λ e. absurd (cc),
      (
        λ e. absurd (cc),
        (
          λ e. absurd (cc),
          (
            λ e. absurd (cc),
            (
              λ e. absurd (cc),
              (
                λ e. absurd (cc),
                (
                  λ e. absurd (cc),
                  (
                    λ e. absurd (cc),
                    (
                      λ e. absurd (cc),
                      (λ e. refl, tt),
                    ),
                  ),
                ),
              ),
            ),
          ),
        ),
      ),
    ),
  ),
)

first_at : (place : ℕ) (i : Insn) → insn_at lookup_and_load place ≡ Some i → i ≡ Alu Move Word64 2 (Register 10) → place ≡ 3
first_at = visit (λ s j. j ≡ Alu Move Word64 2 (Register 10) → s ≡ 3) (
  λ e. absurd (cc),
  (
    λ e. absurd (cc),
    (
      λ e. absurd (cc),
      (
        λ e. refl,
        (
          λ e. absurd (cc),
          (
            λ e. absurd (cc),
            (
              λ e. absurd (cc),
              (
                λ e. absurd (cc),
                (
                  λ e. absurd (cc),
                  (
                    λ e. absurd (cc),
                    (
                      λ e. absurd (cc),
                      (λ e. absurd (cc), tt),
                    ),
                  ),
                ),
              ),
            ),
          ),
        ),
      ),
    ),
  ),
)

abbrev shapes : List MapShape
shapes = example_shape ∷ []

abbrev the : GuardedLookup
the = record { map = 0; shape = example_shape; at = 508; offset = negsuc 3; load = Load Eight 6 0 (pos 0) }

the_parts : (p : LookupPart) → insn_at lookup_and_load (3 + part_slot p) ≡ Some (part_insn the p)
the_parts FrameCopy = refl
the_parts KeyAddress = refl
the_parts MapLoad = refl
the_parts LookupCall = refl
the_parts NullTest = refl
the_parts ValueLoad = refl

the_lookup : IsGuardedLookup lookup_and_load shapes 3
the_lookup = record {
  lookup = the;
  parts = the_parts;
  fitting = record { in_list = refl; in_frame = (refl, omega arith, omega arith); in_value = (refl, omega arith, omega arith, 0, refl) };
  entered = λ place target i h j low high. let e : target ≡ 10 = (jump_only place i h target j).1 in absurd (omega arith);
}

part : (place : ℕ) → 3 ≤ place → place ≤ 9 → IsLookupPart lookup_and_load shapes place
part place low high = (3, the_lookup, low, high)

start_at : (start : ℕ) → IsGuardedLookup lookup_and_load shapes start → start ≡ 3
start_at start l =
    let e : start ≡ start + part_slot FrameCopy = omega arith in
    first_at start _ (ap (insn_at lookup_and_load) e ∙ l.parts FrameCopy) refl

part_bounds : (place : ℕ) → IsLookupPart lookup_and_load shapes place → (3 ≤ place) × (place ≤ 9)
part_bounds place p =
    let e : p.0 ≡ 3 = start_at p.0 p.1 in
    let low : p.0 ≤ place = p.2 in
    let high : place ≤ p.0 + 6 = p.3 in
    (omega arith, omega arith)

-- A section is open at slots 2 to 10.
abbrev inside : ℕ → Bool
inside place = nat_lt 1 place && nat_lt place 11

inside_middle : (place : ℕ) → 2 ≤ place → place ≤ 10 → inside place ≡ true
inside_middle place low high = ap (λ t. t && nat_lt place 11) (lt-ltb 1 place (omega arith)) ∙ lt-ltb place 11 (omega arith)

settled : (b : Bool) (place : ℕ) → InSection lookup_and_load b place → b ≡ inside place
settled _ _ section_entry = refl
settled _ _ (section_lock before place target path h g) =
    sym (edges (λ s t. s ≡ 1 → inside t ≡ true) (record {
      from_0_to_1 = λ e. absurd (omega arith);
      from_1_to_2 = λ e. refl;
      from_2_to_3 = λ e. absurd (omega arith);
      from_3_to_4 = λ e. absurd (omega arith);
      from_4_to_5 = λ e. absurd (omega arith);
      from_5_to_7 = λ e. absurd (omega arith);
      from_7_to_8 = λ e. absurd (omega arith);
      from_8_to_9 = λ e. absurd (omega arith);
      from_8_to_10 = λ e. absurd (omega arith);
      from_9_to_10 = λ e. absurd (omega arith);
      from_10_to_11 = λ e. absurd (omega arith);
      from_11_to_12 = λ e. absurd (omega arith);
    }) place target lock_call h g (lock_at place lock_call h refl))
settled _ _ (section_unlock before place target path h g) =
    sym (edges (λ s t. s ≡ 10 → inside t ≡ false) (record {
      from_0_to_1 = λ e. absurd (omega arith);
      from_1_to_2 = λ e. absurd (omega arith);
      from_2_to_3 = λ e. absurd (omega arith);
      from_3_to_4 = λ e. absurd (omega arith);
      from_4_to_5 = λ e. absurd (omega arith);
      from_5_to_7 = λ e. absurd (omega arith);
      from_7_to_8 = λ e. absurd (omega arith);
      from_8_to_9 = λ e. absurd (omega arith);
      from_8_to_10 = λ e. absurd (omega arith);
      from_9_to_10 = λ e. absurd (omega arith);
      from_10_to_11 = λ e. refl;
      from_11_to_12 = λ e. absurd (omega arith);
    }) place target unlock_call h g (unlock_at place unlock_call h refl))
settled _ _ (section_next before place target i path h k g) =
    settled before place path ∙ edges (λ s t. (s ≡ 1 → ⊥) → (s ≡ 10 → ⊥) → inside s ≡ inside t) (record {
      from_0_to_1 = λ m n. refl;
      from_1_to_2 = λ m n. absurd (m refl);
      from_2_to_3 = λ m n. refl;
      from_3_to_4 = λ m n. refl;
      from_4_to_5 = λ m n. refl;
      from_5_to_7 = λ m n. refl;
      from_7_to_8 = λ m n. refl;
      from_8_to_9 = λ m n. refl;
      from_8_to_10 = λ m n. refl;
      from_9_to_10 = λ m n. refl;
      from_10_to_11 = λ m n. absurd (n refl);
      from_11_to_12 = λ m n. refl;
    }) place target i h g (λ e. k.0 (sym (at_slot 1 place lock_call i refl e h))) (λ e. k.1 (sym (at_slot 10 place unlock_call i refl e h)))

section_known : (b c : Bool) (place n : ℕ) → InSection lookup_and_load b place → place ≡ n → inside n ≡ c → b ≡ c
section_known b c place n path e known = settled b place path ∙ (ap inside e ∙ known)

-- r6 is written at slot 0, and r0 at slot 11
lacks_6 : (r : ℕ) → r ≡ 6 → (place : ℕ) → LacksRegister lookup_and_load shapes r place → place ≡ 0
lacks_6 r e _ lacks_entry = refl
lacks_6 r e _ (lacks_call place target i path h call small g) = absurd (omega arith)
lacks_6 r e _ (lacks_next place target i path h w g) =
    let first : place ≡ 0 = lacks_6 r e place path in
    let same = at_slot 0 place (Alu Move Word64 6 (Immediate (pos 0))) i refl first h in
    let low : 3 ≤ place = (part_bounds place (w (subst (λ j. WritesRegister j r) same e))).0 in
    absurd (omega arith)

call_before : (place : ℕ) (i : Insn) → insn_at lookup_and_load place ≡ Some i → (i ≡ lock_call) ⊎ ((i ≡ unlock_call) ⊎ (i ≡ lookup_call)) → place ≡ 11 → ⊥
call_before place i h (inl c) e = let k : place ≡ 1 = lock_at place i h c in absurd (omega arith)
call_before place i h (inr (inl c)) e = let k : place ≡ 10 = unlock_at place i h c in absurd (omega arith)
call_before place i h (inr (inr c)) e = let k : place ≡ 7 = lookup_at place i h c in absurd (omega arith)

not_last : (place target : ℕ) (i : Insn) → insn_at lookup_and_load place ≡ Some i → GoesTo i place target → (place ≡ 11 → ⊥) → target ≤ 11
not_last = edges (λ s t. (s ≡ 11 → ⊥) → t ≤ 11) (record {
  from_0_to_1 = λ n. omega arith;
  from_1_to_2 = λ n. omega arith;
  from_2_to_3 = λ n. omega arith;
  from_3_to_4 = λ n. omega arith;
  from_4_to_5 = λ n. omega arith;
  from_5_to_7 = λ n. omega arith;
  from_7_to_8 = λ n. omega arith;
  from_8_to_9 = λ n. omega arith;
  from_8_to_10 = λ n. omega arith;
  from_9_to_10 = λ n. omega arith;
  from_10_to_11 = λ n. omega arith;
  from_11_to_12 = λ n. absurd (n refl);
})

lacks_0 : (r : ℕ) → r ≡ 0 → (place : ℕ) → LacksRegister lookup_and_load shapes r place → place ≤ 11
lacks_0 r e _ lacks_entry = omega arith
lacks_0 r e _ (lacks_call place target i path h call small g) = not_last place target i h g (call_before place i h call)
lacks_0 r e _ (lacks_next place target i path h w g) = not_last place target i h g (λ eleven.
    let same = at_slot 11 place (Alu Move Word64 0 (Register 6)) i refl eleven h in
    let high : place ≤ 9 = (part_bounds place (w (subst (λ j. WritesRegister j r) same e))).1 in
    absurd (omega arith))

-- the key is written at slot 2
bare : (k : ℕ) → 508 ≤ k → k < FRAME_BYTES → (place : ℕ) → WithoutByte lookup_and_load k place → place ≤ 2
bare k low high _ without_entry = omega arith
bare k low high _ (without_next place target i path h w g) =
    edges (λ s t. s ≤ 2 → (s ≡ 2 → ⊥) → t ≤ 2) (record {
      from_0_to_1 = λ l n. omega arith;
      from_1_to_2 = λ l n. omega arith;
      from_2_to_3 = λ l n. absurd (n refl);
      from_3_to_4 = λ l n. omega arith;
      from_4_to_5 = λ l n. omega arith;
      from_5_to_7 = λ l n. omega arith;
      from_7_to_8 = λ l n. omega arith;
      from_8_to_9 = λ l n. omega arith;
      from_8_to_10 = λ l n. omega arith;
      from_9_to_10 = λ l n. omega arith;
      from_10_to_11 = λ l n. omega arith;
      from_11_to_12 = λ l n. omega arith;
    }) place target i h g (bare k low high place path) (λ two.
    let same = at_slot 2 place _ i refl two h in
    w (subst (λ j. WritesByte j k) same (508, refl, low, high)))

one_shape : (map : ℕ) (shape : MapShape) → slice_get shapes map ≡ Some shape → example_shape ≡ shape
one_shape zero shape h = same_Some example_shape shape h
one_shape (suc m) shape h = absurd (none-some shape h)

same_offset : (d : ℤ) → Alu Add Word64 2 (Immediate (negsuc 3)) ≡ Alu Add Word64 2 (Immediate d) → negsuc 3 ≡ d
same_offset d h = cc

key_place : (d : ℤ) (at : ℕ) → negsuc 3 ≡ d → pos FRAME_BYTES +ℤ d ≡ pos at → at ≡ 508
key_place d at e h = same-pos at 508 (sym h ∙ ap (λ x. pos FRAME_BYTES +ℤ x) (sym e))

keys : (start k : ℕ) (guarded : IsGuardedLookup lookup_and_load shapes start) → guarded.lookup.at ≤ k →
    k < guarded.lookup.at + guarded.lookup.shape.key_len → WithoutByte lookup_and_load k start → ⊥
keys start k l low high path =
    let first : start ≡ 3 = start_at start l in
    let second : start + 1 ≡ 4 = omega arith in
    let offset = same_offset l.lookup.offset (at_slot 4 (start + 1) _ _ refl second (l.parts KeyAddress)) in
    let at : l.lookup.at ≡ 508 = key_place l.lookup.offset l.lookup.at offset l.fitting.in_frame.0 in
    let size : 4 ≡ l.lookup.shape.key_len = ap (λ x. x.key_len) (one_shape l.lookup.map l.lookup.shape l.fitting.in_list) in
    let early : start ≤ 2 = bare k (omega arith) (omega arith) start path in
    absurd (omega arith)

-- the instruction at a slot of the example
abbrev fetched : Option Insn → Insn
fetched (Some i) = i
fetched None = Exit

go : (place : ℕ) → insn_at lookup_and_load place ≡ Some (fetched (insn_at lookup_and_load place)) → falls (fetched (insn_at lookup_and_load place)) ≡ true →
    Reached lookup_and_load place → Reached lookup_and_load (place + slot_count (fetched (insn_at lookup_and_load place)))
go place h f path = reached_next place _ _ path h (inl (f, refl))

to_0 : Reached lookup_and_load 0
to_0 = reached_entry

to_1 : Reached lookup_and_load 1
to_1 = go 0 refl refl to_0

to_2 : Reached lookup_and_load 2
to_2 = go 1 refl refl to_1

to_3 : Reached lookup_and_load 3
to_3 = go 2 refl refl to_2

to_4 : Reached lookup_and_load 4
to_4 = go 3 refl refl to_3

to_5 : Reached lookup_and_load 5
to_5 = go 4 refl refl to_4

to_7 : Reached lookup_and_load 7
to_7 = go 5 refl refl to_5

to_8 : Reached lookup_and_load 8
to_8 = go 7 refl refl to_7

to_9 : Reached lookup_and_load 9
to_9 = go 8 refl refl to_8

to_10 : Reached lookup_and_load 10
to_10 = go 9 refl refl to_9

to_11 : Reached lookup_and_load 11
to_11 = go 10 refl refl to_10

to_12 : Reached lookup_and_load 12
to_12 = go 11 refl refl to_11

reached : (place : ℕ) (i : Insn) → insn_at lookup_and_load place ≡ Some i → Reached lookup_and_load place
reached = visit (λ s j. Reached lookup_and_load s) (
  to_0,
  (
    to_1,
    (
      to_2,
      (
        to_3,
        (
          to_4,
          (
            to_5,
            (
              to_7,
              (
                to_8,
                (
                  to_9,
                  (
                    to_10,
                    (
                      to_11,
                      (to_12, tt),
                    ),
                  ),
                ),
              ),
            ),
          ),
        ),
      ),
    ),
  ),
)

jumps : (place : ℕ) (i : Insn) → insn_at lookup_and_load place ≡ Some i → (d : ℤ) → distance i ≡ Some d → (target : ℕ)
    × (next : Insn) × JumpsTo i place target × (place < target) × (insn_at lookup_and_load target ≡ Some next)
jumps = visit (λ s j. (d : ℤ) → distance j ≡ Some d → (target : ℕ) × (next : Insn) × JumpsTo j s target × (s < target)
    × (insn_at lookup_and_load target ≡ Some next)) (
      λ d e. absurd (none-some d e),
      (
        λ d e. absurd (none-some d e),
        (
          λ d e. absurd (none-some d e),
          (
            λ d e. absurd (none-some d e),
            (
              λ d e. absurd (none-some d e),
              (
                λ d e. absurd (none-some d e),
                (
                  λ d e. absurd (none-some d e),
                  (
                    λ d e. (10, unlock_call, (pos 1, refl, refl), omega arith, refl),
                    (
                      λ d e. absurd (none-some d e),
                      (
                        λ d e. absurd (none-some d e),
                        (
                          λ d e. absurd (none-some d e),
                          (λ d e. absurd (none-some d e), tt),
                        ),
                      ),
                    ),
                  ),
                ),
              ),
            ),
          ),
        ),
      ),
    )

forms : (place : ℕ) (i : Insn) → insn_at lookup_and_load place ≡ Some i → HasForm lookup_and_load shapes place i
forms = visit (λ s j. HasForm lookup_and_load shapes s j) (
  inr (inr (inr tt)),
  (
    inr (inl refl),
    (
      inr (inr (inr (refl, 508, refl))),
      (
        inl (part 3 (omega arith) (omega arith)),
        (
          inl (part 4 (omega arith) (omega arith)),
          (
            inl (part 5 (omega arith) (omega arith)),
            (
              inl (part 7 (omega arith) (omega arith)),
              (
                inl (part 8 (omega arith) (omega arith)),
                (
                  inl (part 9 (omega arith) (omega arith)),
                  (
                    inr (inr (inl refl)),
                    (
                      inr (inr (inr tt)),
                      (inr (inr (inr tt)), tt),
                    ),
                  ),
                ),
              ),
            ),
          ),
        ),
      ),
    ),
  ),
)

frame_pointer : (place : ℕ) (i : Insn) → insn_at lookup_and_load place ≡ Some i →
    (IsLookupPart lookup_and_load shapes place → ⊥) → (WritesRegister i 10 → ⊥) × (ReadsRegister i 10 → ⊥)
frame_pointer = visit (λ s j. (IsLookupPart lookup_and_load shapes s → ⊥) → (WritesRegister j 10 → ⊥) × (ReadsRegister j 10 → ⊥)) (
  λ away. (λ w. absurd (omega arith), λ r. r),
  (
    λ away. (λ w. w, λ r. r),
    (
      λ away. (λ w. w, λ r. r),
      (
        λ away. absurd (away (part 3 (omega arith) (omega arith))),
        (
          λ away. absurd (away (part 4 (omega arith) (omega arith))),
          (
            λ away. absurd (away (part 5 (omega arith) (omega arith))),
            (
              λ away. absurd (away (part 7 (omega arith) (omega arith))),
              (
                λ away. absurd (away (part 8 (omega arith) (omega arith))),
                (
                  λ away. absurd (away (part 9 (omega arith) (omega arith))),
                  (
                    λ away. (λ w. w, λ r. r),
                    (
                      λ away. (λ w. absurd (omega arith), λ r. absurd (omega arith)),
                      (λ away. (λ w. w, λ r. absurd (omega arith)), tt),
                    ),
                  ),
                ),
              ),
            ),
          ),
        ),
      ),
    ),
  ),
)

registers : (place : ℕ) (i : Insn) → insn_at lookup_and_load place ≡ Some i →
    (IsLookupPart lookup_and_load shapes place → ⊥) → (r : ℕ) → ReadsRegister i r →
    LacksRegister lookup_and_load shapes r place → ⊥
registers = visit (λ s j. (IsLookupPart lookup_and_load shapes s → ⊥) → (r : ℕ) → ReadsRegister j r → LacksRegister lookup_and_load shapes r s → ⊥) (
  λ away r reads path. reads,
  (
    λ away r reads path. reads,
    (
      λ away r reads path. reads,
      (
        λ away r reads path. absurd (away (part 3 (omega arith) (omega arith))),
        (
          λ away r reads path. absurd (away (part 4 (omega arith) (omega arith))),
          (
            λ away r reads path. absurd (away (part 5 (omega arith) (omega arith))),
            (
              λ away r reads path. absurd (away (part 7 (omega arith) (omega arith))),
              (
                λ away r reads path. absurd (away (part 8 (omega arith) (omega arith))),
                (
                  λ away r reads path. absurd (away (part 9 (omega arith) (omega arith))),
                  (
                    λ away r reads path. reads,
                    (
                      λ away r reads path. let e : 11 ≡ 0 = lacks_6 r reads 11 path in absurd (omega arith),
                      (λ away r reads path. let l : 12 ≤ 11 = lacks_0 r reads 12 path in absurd (omega arith), tt),
                    ),
                  ),
                ),
              ),
            ),
          ),
        ),
      ),
    ),
  ),
)

bytes : (place : ℕ) (i : Insn) → insn_at lookup_and_load place ≡ Some i → (IsLookupPart lookup_and_load shapes place → ⊥) → (k : ℕ) → ReadsByte i k → ⊥
bytes = visit (λ s j. (IsLookupPart lookup_and_load shapes s → ⊥) → (k : ℕ) → ReadsByte j k → ⊥) (
  λ away k reads. reads,
  (
    λ away k reads. reads,
    (
      λ away k reads. reads,
      (
        λ away k reads. absurd (away (part 3 (omega arith) (omega arith))),
        (
          λ away k reads. absurd (away (part 4 (omega arith) (omega arith))),
          (
            λ away k reads. absurd (away (part 5 (omega arith) (omega arith))),
            (
              λ away k reads. absurd (away (part 7 (omega arith) (omega arith))),
              (
                λ away k reads. absurd (away (part 8 (omega arith) (omega arith))),
                (
                  λ away k reads. absurd (away (part 9 (omega arith) (omega arith))),
                  (
                    λ away k reads. reads,
                    (
                      λ away k reads. reads,
                      (λ away k reads. reads, tt),
                    ),
                  ),
                ),
              ),
            ),
          ),
        ),
      ),
    ),
  ),
)

pub lookup_is_plain : IsPlainWithMaps lookup_and_load shapes
lookup_is_plain = record {
  graph = record { jumps = λ place i d h e. jumps place i h d e; reached = reached; last = (take 11 lookup_and_load, refl) };
  forms = forms;
  settled = λ place within out. false≢true (settled false place out ∙ sym (settled true place within));
  lock_outside = λ place h within. false≢true (sym (section_known true false place 1 within (lock_at place lock_call h refl) refl));
  unlock_inside = λ place h out. false≢true (section_known false true place 10 out (unlock_at place unlock_call h refl) refl);
  exit_outside = λ place h within. false≢true (sym (section_known true false place 12 within (exit_at place Exit h refl) refl));
  lookup_inside = λ place p out.
      let b = part_bounds place p in
      false≢true (settled false place out ∙ inside_middle place (omega arith) (omega arith));
  frame_pointer = frame_pointer;
  registers = λ place i r h away reads path. registers place i h away r reads path;
  bytes = λ place i k h away reads path. bytes place i h away k reads;
  keys = keys;
}
