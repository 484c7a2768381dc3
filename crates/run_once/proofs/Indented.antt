-- Lines behind two blanks, as they are written byte by byte.
use Rattle.bpf_model.proofs.Prelude.{◌≡◌, ◌⊎◌, inl, inr, ◌∙◌, ℕ, List, [], ◌∷◌, ◌++◌, Bool, true, false, arith, nat_eq, slice_index_or, refl, sym, ap, subst}
use Rattle.bpf_model.proofs.Prelude.{All, codes, ne_eqb, All-append}
use Rattle.std.proofs.lemmas.List.{append_assoc}
use Rattle.run_once.specs.Told.{AreIndented, IsSeen, margin}

-- The last line is ended, or it is not.
abbrev pub IsPartly : Bool → List ℕ → Type 0
IsPartly true late = AreIndented late
IsPartly false late = (above line : List ℕ) × AreIndented above × All IsSeen line × (late ≡ above ++ (codes "  " ++ line))

all-one : (byte : ℕ) → IsSeen byte → All IsSeen (byte ∷ [])
all-one byte h = λ k d less.
    let first : k ≡ 0 = omega (arith, less) in
    subst (λ (i : ℕ). IsSeen (slice_index_or (byte ∷ []) i d)) (sym first) h

all-none : All IsSeen []
all-none = λ k d less. absurd (omega (arith, less))

-- a last line is ended
pub ended : (late : List ℕ) → IsPartly false late → AreIndented (late ++ 10 ∷ [])
ended late (above, line, h, all, is) =
    let text = AreIndented.one_more above line h all in
    subst AreIndented (sym (ap (λ l. l ++ 10 ∷ []) is ∙ append_assoc above (codes "  " ++ line) (10 ∷ []))) text

ends : (begins : Bool) (late : List ℕ) → IsPartly begins late → AreIndented (late ++ (margin begins ++ 10 ∷ []))
ends true late h = AreIndented.one_more late [] h all-none
ends false late h = ended late h

goes-on : (begins : Bool) (late : List ℕ) (byte : ℕ) → IsSeen byte → IsPartly begins late → IsPartly false (late ++ (margin begins ++ byte ∷ []))
goes-on true late byte seen h = (late, byte ∷ [], h, all-one byte seen, refl)
goes-on false late byte seen (above, line, h, all, is) = (
  above,
  line ++ byte ∷ [],
  h,
  All-append IsSeen line (byte ∷ []) all (all-one byte seen),
  ap (λ l. l ++ byte ∷ []) is ∙ append_assoc above (codes "  " ++ line) (byte ∷ []),
)

ended-here : (begins : Bool) (late : List ℕ) (byte : ℕ) → byte ≡ 10 → IsPartly begins late →
    IsPartly (nat_eq byte 10) (late ++ (margin begins ++ byte ∷ []))
ended-here begins late byte same h = subst
    (λ c. IsPartly (nat_eq c 10) (late ++ (margin begins ++ c ∷ []))) (sym same) (ends begins late h)

-- one byte more
pub one_more : (begins : Bool) (late : List ℕ) (byte : ℕ) → ((byte ≡ 10) ⊎ IsSeen byte) → IsPartly begins late →
    IsPartly (nat_eq byte 10) (late ++ (margin begins ++ byte ∷ []))
one_more begins late byte (inl same) h = ended-here begins late byte same h
one_more begins late byte (inr seen) h =
    let low = seen.0 in
    let other : nat_eq byte 10 ≡ false = ne_eqb byte 10 (λ e. absurd (omega (arith, low, e))) in
    subst (λ b. IsPartly b (late ++ (margin begins ++ byte ∷ []))) (sym other) (goes-on begins late byte seen h)
