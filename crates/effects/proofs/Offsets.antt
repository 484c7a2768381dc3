-- Offsets moved by words that are read as signed numbers.
use Rattle.bpf_model.proofs.Prelude.{◌≡◌, ℕ, suc, ◌+◌, ◌-◌, ◌%◌, ◌^◌, ◌<◌, ◌≤◌, inl, inr, sym, ap, subst, ◌∙◌, ℤ, pos, negsuc, arith, ◌+ℤ◌, ◌-ℤ◌, w64, ints}
use Rattle.bpf_model.proofs.Prelude.{to_z_pos, le-ltb, sel, signed, word, immediate}
use Rattle.effects.proofs.Prelude.{MovesOffsets, shifted_word}
use Rattle.model_laws.proofs.Prelude.{FRAME_BYTES}
use Rattle.plan_laws.proofs.Prelude.{HasOffset}
use Rattle.scalar_domain.proofs.Prelude.{Holds}
use Rattle.scalar_domain.specs.declared.scalar.Scalar.{Scalar}
use Rattle.scalar_domain.proofs.Forms.{word_difference}
use Rattle.effects.specs.Computes.{IsNearStep}
use Rattle.effects.specs.declared.moving.Way.{Way}
use Rattle.effects.specs.declared.moving.Way.TheVariants.{Forward, Back}

signed-low : (n : ℕ) → n ≤ 2 ^ 29 → signed w64 n ≡ pos n
signed-low n h = to_z_pos w64 n (omega (arith, h))

signed-high : (n : ℕ) → 2 ^ 64 - 2 ^ 29 ≤ n → signed w64 n ≡ negsuc (2 ^ 64 - suc n)
signed-high n h = ap (λ t. sel t (pos n) (negsuc (2 ^ 64 - suc n))) (le-ltb n (2 ^ 63) (omega (arith, h)))

forward : (x n : ℕ) → x ≤ 2 ^ 30 → n < 2 ^ 64 → IsNearStep n → (x + n) % 2 ^ 64 ≤ 2 ^ 30 → pos ((x + n) % 2 ^ 64) ≡ pos x +ℤ signed w64 n
forward x n l f (inl h) g =
    let e : (x + n) % 2 ^ 64 ≡ x + n = omega (arith, l, h) in
    ap pos e ∙ ap (λ z. pos x +ℤ z) (sym (signed-low n h))
forward x n l f (inr h) g =
    let e : ((x + n) % 2 ^ 64) + 2 ^ 64 ≡ x + n = omega (arith, l, f, h, g) in
    let z : signed w64 n ≡ negsuc (2 ^ 64 - suc n) = signed-high n h in
    let d : suc (2 ^ 64 - suc n) + n ≡ 2 ^ 64 = omega (arith, f) in
    let s : pos ((x + n) % 2 ^ 64) ≡ pos x +ℤ negsuc (2 ^ 64 - suc n) = omega (arith, ints, e, d) in
    s ∙ ap (λ z. pos x +ℤ z) (sym z)

back : (x n : ℕ) → x ≤ 2 ^ 30 → n < 2 ^ 64 → IsNearStep n → (x + (2 ^ 64 - n)) % 2 ^ 64 ≤ 2 ^ 30 →
    pos ((x + (2 ^ 64 - n)) % 2 ^ 64) ≡ pos x +ℤ (pos 0 -ℤ signed w64 n)
back x n l f (inl h) g =
    let e : ((x + (2 ^ 64 - n)) % 2 ^ 64) + n ≡ x = omega (arith, l, f, h, g) in
    let s : pos ((x + (2 ^ 64 - n)) % 2 ^ 64) ≡ pos x +ℤ (pos 0 -ℤ pos n) = omega (arith, ints, e) in
    s ∙ ap (λ z. pos x +ℤ (pos 0 -ℤ z)) (sym (signed-low n h))
back x n l f (inr h) g =
    let e : ((x + (2 ^ 64 - n)) % 2 ^ 64) + n ≡ x + 2 ^ 64 = omega (arith, l, f, h, g) in
    let d : suc (2 ^ 64 - suc n) + n ≡ 2 ^ 64 = omega (arith, f) in
    let s : pos ((x + (2 ^ 64 - n)) % 2 ^ 64) ≡ pos x +ℤ (pos 0 -ℤ negsuc (2 ^ 64 - suc n)) = omega (arith, ints, e, d) in
    s ∙ ap (λ z. pos x +ℤ (pos 0 -ℤ z)) (sym (signed-high n h))

offset-moved : (t : Scalar) (o z : ℤ) (x r : ℕ) → pos x ≡ o +ℤ pos (2 ^ 29) → pos r ≡ pos x +ℤ z → r ≤ 2 ^ 30 → Holds t r → HasOffset t (o +ℤ z)
offset-moved t o z x r e f l h = record { raised = r; is = omega (arith, ints, e, f); limit = l; holds = h }

module _ (s by t : Scalar) (small : t.greatest ≤ 2 ^ 30) (steps : (n : ℕ) → Holds by n → IsNearStep n) where
  pub moves_forward : ((x n : ℕ) → x < 2 ^ 64 → n < 2 ^ 64 → Holds s x → Holds by n → Holds t (word w64 (pos x +ℤ pos n))) → MovesOffsets Forward s by t
  moves_forward sound o n x f h =
      let r = sound x.raised n (omega (arith, x.limit)) f x.holds h in
      let l : (x.raised + n) % 2 ^ 64 ≤ 2 ^ 30 = omega (arith, r.greatest, small) in
      offset-moved t o (signed w64 n) x.raised ((x.raised + n) % 2 ^ 64) x.is (forward x.raised n x.limit f (steps n h) l) l r

  pub moves_back : ((x n : ℕ) → x < 2 ^ 64 → n < 2 ^ 64 → Holds s x → Holds by n → Holds t (word w64 (pos x -ℤ pos n))) → MovesOffsets Back s by t
  moves_back sound o n x f h =
      let r = subst (Holds t) (word_difference x.raised n f) (sound x.raised n (omega (arith, x.limit)) f x.holds h) in
      let l : (x.raised + (2 ^ 64 - n)) % 2 ^ 64 ≤ 2 ^ 30 = omega (arith, r.greatest, small) in
      offset-moved t o (pos 0 -ℤ signed w64 n) x.raised ((x.raised + (2 ^ 64 - n)) % 2 ^ 64) x.is (back x.raised n x.limit f (steps n h) l) l r

  pub moves : (way : Way) → ((x n : ℕ) → x < 2 ^ 64 → n < 2 ^ 64 → Holds s x → Holds by n → Holds t (shifted_word way x n)) → MovesOffsets way s by t
  moves Forward sound = moves_forward sound
  moves Back sound = moves_back sound

-- a field imm by which an offset inside the frame is moved to another
pub step_inside : (m at : ℕ) (imm : ℤ) → m ≤ FRAME_BYTES → at ≤ FRAME_BYTES → pos m +ℤ imm ≡ pos at →
    IsNearStep (immediate imm) × (shifted_word Forward (m + 2 ^ 29) (immediate imm) ≡ at + 2 ^ 29)
step_inside m at (pos k) l h e =
    let s : m + k ≡ at = omega (arith, ints, e) in
    let w : (m + 2 ^ 29 + k) % 2 ^ 64 ≡ at + 2 ^ 29 = omega (arith, s, h) in
    (inl (omega (arith, s, h)), w)
step_inside m at (negsuc k) l h e =
    let s : at + suc k ≡ m = omega (arith, ints, e) in
    let w : (m + 2 ^ 29 + (2 ^ 64 - suc k)) % 2 ^ 64 ≡ at + 2 ^ 29 = omega (arith, s, l) in
    (inr (omega (arith, s, l)), w)
