use Rattle.bpf_model.proofs.Prelude.{◌≡◌, ◌+◌, ◌<◌, ℕ, List, Bool, true, length, refl, sym, subst, arith, inl, inr, slice_set, length-set}
use Rattle.classic_program.proofs.Prelude.{Marks, IsSkip}
use Rattle.classic_program.specs.declared.paths.Skips.{Skips}
use Rattle.classic_program.specs.declared.paths.Skips.TheVariants.{One, Two}
use Rattle.classic_program.proofs.Marking.{marks-one, marks-two}
use Rattle.classic_program.proofs.paths.mark.Goals as goal

-- what is marked lies inside
one : (skips : Skips) (skip behind n : ℕ) → ((s : ℕ) → IsSkip skips s → behind + s < n) → skips ≡ One skip → behind + skip < n
one skips skip behind n h e = h skip (subst (λ (k : Skips). IsSkip k skip) (sym e) refl)

first : (skips : Skips) (t f behind n : ℕ) → ((s : ℕ) → IsSkip skips s → behind + s < n) → skips ≡ Two t f → behind + t < n
first skips t f behind n h e = h t (subst (λ (k : Skips). IsSkip k t) (sym e) (inl refl))

second : (skips : Skips) (t f behind n : ℕ) → ((s : ℕ) → IsSkip skips s → behind + s < n) → skips ≡ Two t f → behind + f < n
second skips t f behind n h e = h f (subst (λ (k : Skips). IsSkip k f) (sym e) (inr refl))

both : (skips : Skips) (t f u g behind : ℕ) (old : List Bool) → ((s : ℕ) → IsSkip skips s → behind + s < length old) → skips ≡ Two t f → u ≡ t → g ≡ f
    → Marks skips behind old (slice_set (slice_set old (behind + u) true) (behind + g) true)
both skips t f u g behind old h e p q =
    subst (λ (k : Skips). Marks k behind old (slice_set (slice_set old (behind + u) true) (behind + g) true)) (sym e)
    (subst (λ (u : ℕ). Marks (Two t f) behind old (slice_set (slice_set old (behind + u) true) (behind + g) true)) (sym p)
    (subst (λ (g : ℕ). Marks (Two t f) behind old (slice_set (slice_set old (behind + t) true) (behind + g) true)) (sym q)
    (marks-two behind t f old (first skips t f behind (length old) h e) (second skips t f behind (length old) h e))))

alone : (skips : Skips) (skip behind : ℕ) (old : List Bool) → ((s : ℕ) → IsSkip skips s → behind + s < length old) → skips ≡ One skip → Marks skips behind old
    (slice_set old (behind + skip) true)
alone skips skip behind old h e =
    subst (λ (k : Skips). Marks k behind old (slice_set old (behind + skip) true)) (sym e) (marks-one behind skip old (one skips skip behind (length old) h e))

pub overflow_add-marks : goal.overflow_add-marks
overflow_add-marks c = let b = one _ _ _ _ c.requires.inside c.in-One.is in omega (arith, b)

pub bounds-marks-behind : goal.bounds-marks-behind
bounds-marks-behind c = one _ _ _ _ c.requires.inside c.in-One.is

pub overflow_add-marks-in-Two : goal.overflow_add-marks-in-Two
overflow_add-marks-in-Two c = let b = first _ _ _ _ _ c.requires.inside c.in-Two.is in omega (arith, b)

pub bounds-marks-behind-in-Two : goal.bounds-marks-behind-in-Two
bounds-marks-behind-in-Two c = let b = first _ _ _ _ _ c.requires.inside c.in-Two.is in omega (arith, b)

pub overflow_add-marks-in-Two-2 : goal.overflow_add-marks-in-Two-2
overflow_add-marks-in-Two-2 c = let b = second _ _ _ _ _ c.requires.inside c.in-Two.is in omega (arith, b)

pub bounds-marks-behind-in-Two-2 : goal.bounds-marks-behind-in-Two-2
bounds-marks-behind-in-Two-2 c =
    let b = second _ _ _ _ _ c.requires.inside c.in-Two.is in
    let n = length-set c.args.marks.now (c.args.behind + c.from.result) true in
    omega (arith, b, n)

pub returns-in-One : goal.returns-in-One
returns-in-One c = alone c.args.skips c.in-One.skip c.args.behind c.args.marks.now c.requires.inside c.in-One.is

pub returns-in-Two : goal.returns-in-Two
returns-in-Two c =
    both c.args.skips c.in-Two.if_true c.in-Two.if_false c.from.result c.from-in-Two.result c.args.behind c.args.marks.now c.requires.inside c.in-Two.is
    c.from.ensures
    c.from-in-Two.ensures
