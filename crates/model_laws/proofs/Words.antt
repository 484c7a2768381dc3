-- The words of near locations differ.
use Rattle.bpf_model.proofs.Prelude.{◌≡◌, ℕ, suc, ◌+◌, ◌-◌, ◌*◌, ◌^◌, ◌<◌, ◌≤◌, List, cond, ℤ, pos, negsuc, ◌+ℤ◌, ◌↔◌, refl, sym, ap, ◌∙◌, arith, ints}
use Rattle.bpf_model.proofs.Prelude.{same-pos, Element, ctx_base, frame_base, map_base, slot_base, most_map_slots, IsReferenceWord, element_bases}
use Rattle.model_laws.proofs.Prelude.{Reference, Ctx, Frame, MapRef, Elem, MAX_MAPS, IsNearOffset, Location, InContext, InFrame, AtMap, InSlot}
use Rattle.model_laws.proofs.Prelude.{IsNearLocation, named_location}
use Rattle.std.proofs.Common.{le-ltb}
use Rattle.model_laws.specs.Locations.{location_word}

near-pos : (n : ℕ) → IsNearOffset (pos n) → n ≤ 2 ^ 29
near-pos n h = omega (arith, ints)

near-negsuc : (n : ℕ) → IsNearOffset (negsuc n) → n < 2 ^ 29
near-negsuc n h = omega (arith, ints)

-- the offset, counted from -2^29
abbrev shift : ℤ → ℕ
shift (pos n) = 2 ^ 29 + n
shift (negsuc n) = 2 ^ 29 - suc n

shift-most : (o : ℤ) → IsNearOffset o → shift o ≤ 2 ^ 30
shift-most (pos n) h = let l = near-pos n h in omega arith
shift-most (negsuc n) h = let l = near-negsuc n h in omega arith

shift-same : (o p : ℤ) → IsNearOffset o → IsNearOffset p → shift o ≡ shift p → o ≡ p
shift-same (pos a) (pos b) h g e = let s : a ≡ b = omega arith in ap pos s
shift-same (pos a) (negsuc b) h g e = let l = near-negsuc b g in absurd (omega arith)
shift-same (negsuc a) (pos b) h g e = let l = near-negsuc a h in absurd (omega arith)
shift-same (negsuc a) (negsuc b) h g e = let l = near-negsuc a h in let k = near-negsuc b g in let s : a ≡ b = omega arith in ap negsuc s

-- the word that stands so many bytes further
pub record WordAt (base : ℕ) (o : ℤ) : Type 0 where
  pub word : ℕ
  pub is : pos base +ℤ o ≡ pos word
  pub counted : word + 2 ^ 29 ≡ base + shift o

word-at : (base : ℕ) (o : ℤ) → IsNearOffset o → 2 ^ 29 ≤ base → WordAt base o
word-at base (pos n) h room = record { word = base + n; is = refl; counted = omega arith }
word-at base (negsuc n) h room =
    let l = near-negsuc n h in
    record {
      word = base - suc n;
      is = ap (λ b. cond b (negsuc (suc n - suc base)) (pos (base - suc n))) (le-ltb base (suc n) (omega arith));
      counted = omega arith;
    }

abbrev base_of : Location → ℕ
base_of (InContext o) = ctx_base
base_of (InFrame o) = frame_base
base_of (AtMap m) = map_base
base_of (InSlot m slot o) = slot_base m slot

abbrev shift_of : Location → ℕ
shift_of (InContext o) = shift o
shift_of (InFrame o) = shift o
shift_of (AtMap m) = 2 ^ 29 + m
shift_of (InSlot m slot o) = shift o

pub record HasWord (p : Location) : Type 0 where
  pub word : ℕ
  pub is : location_word p ≡ pos word
  pub counted : word + 2 ^ 29 ≡ base_of p + shift_of p

has-word : (p : Location) → IsNearLocation p → HasWord p
has-word (InContext o) h = let w = word-at ctx_base o h (omega arith) in record { word = w.word; is = w.is; counted = w.counted }
has-word (InFrame o) h = let w = word-at frame_base o h (omega arith) in record { word = w.word; is = w.is; counted = w.counted }
has-word (AtMap m) h = record { word = map_base + m; is = refl; counted = omega arith }
has-word (InSlot m slot o) h = let w = word-at (slot_base m slot) o h.2 (omega arith) in record { word = w.word; is = w.is; counted = w.counted }

near-bounds : (p : Location) → IsNearLocation p → (2 ^ 40 ≤ base_of p) × (base_of p + shift_of p < 2 ^ 50)
near-bounds (InContext o) h = let s : shift o ≤ 2 ^ 30 = shift-most o h in (omega arith, omega arith)
near-bounds (InFrame o) h = let s : shift o ≤ 2 ^ 30 = shift-most o h in (omega arith, omega arith)
near-bounds (AtMap m) h = (omega arith, omega arith)
near-bounds (InSlot m slot o) h = let s : shift o ≤ 2 ^ 30 = shift-most o h.2 in let a : m < MAX_MAPS =
    h.0 in let b : slot < most_map_slots = h.1 in (omega arith, omega arith)

-- each near location has a word, which is not 0
pub near_words_fit : (p : Location) → IsNearLocation p → (w : ℕ) × (location_word p ≡ pos w) × (0 < w) × (w < 2 ^ 64)
near_words_fit p h =
    let w = has-word p h in
    let b = near-bounds p h in
    let c : w.word + 2 ^ 29 ≡ base_of p + shift_of p = w.counted in
    let low : 2 ^ 40 ≤ base_of p = b.0 in
    let high : base_of p + shift_of p < 2 ^ 50 = b.1 in
    (w.word, w.is, omega arith, omega arith)

same-count : (p q : Location) → HasWord p → HasWord q → location_word p ≡ location_word q → base_of p + shift_of p ≡ base_of q + shift_of q
same-count p q v w e = let s : v.word ≡ w.word = same-pos v.word w.word (sym v.is ∙ (e ∙ w.is)) in sym v.counted ∙ (ap (λ x. x + 2 ^ 29) s ∙ w.counted)

same-slot : (m n a b s t : ℕ) → a < most_map_slots → b < most_map_slots → s ≤ 2 ^ 30 → t ≤ 2 ^ 30 →
    slot_base m a + s ≡ slot_base n b + t → (m ≡ n) × (a ≡ b) × (s ≡ t)
same-slot m n a b s t ha hb hs ht e =
    let one : most_map_slots * m + a ≡ most_map_slots * n + b = omega arith in
    let maps : m ≡ n = omega arith in
    (maps, omega arith, omega arith)

slots-agree : (m n a b : ℕ) (o p : ℤ) → IsNearOffset o → IsNearOffset p → (m ≡ n) × (a ≡ b) × (shift o ≡ shift p) → InSlot m a o ≡ InSlot n b p
slots-agree m n a b o p h g e =
    let third : o ≡ p = shift-same o p h g e.2 in
    ap (λ x. InSlot x a o) e.0 ∙ (ap (λ x. InSlot n x o) e.1 ∙ ap (InSlot n b) third)

differ : (p q : Location) → IsNearLocation p → IsNearLocation q → base_of p + shift_of p ≡ base_of q + shift_of q → p ≡ q
differ (InContext o) (InContext p) h g e = let s : shift o ≡ shift p = omega arith in ap InContext (shift-same o p h g s)
differ (InFrame o) (InFrame p) h g e = let s : shift o ≡ shift p = omega arith in ap InFrame (shift-same o p h g s)
differ (AtMap m) (AtMap n) h g e = let s : m ≡ n = omega arith in ap AtMap s
differ (InSlot m a o) (InSlot n b p) h g e = slots-agree m n a b o p h.2 g.2
    (same-slot m n a b (shift o) (shift p) h.1 g.1 (shift-most o h.2) (shift-most p g.2) e)
differ (InContext o) (InFrame p) h g e = let s : shift o ≤ 2 ^ 30 = shift-most o h in absurd (omega arith)
differ (InContext o) (AtMap n) h g e = let s : shift o ≤ 2 ^ 30 = shift-most o h in absurd (omega arith)
differ (InContext o) (InSlot n b p) h g e = let s : shift o ≤ 2 ^ 30 = shift-most o h in absurd (omega arith)
differ (InFrame o) (InContext p) h g e = let s : shift p ≤ 2 ^ 30 = shift-most p g in absurd (omega arith)
differ (InFrame o) (AtMap n) h g e = let s : shift o ≤ 2 ^ 30 = shift-most o h in absurd (omega arith)
differ (InFrame o) (InSlot n b p) h g e = let s : shift o ≤ 2 ^ 30 = shift-most o h in absurd (omega arith)
differ (AtMap m) (InContext p) h g e = let s : shift p ≤ 2 ^ 30 = shift-most p g in absurd (omega arith)
differ (AtMap m) (InFrame p) h g e = let s : shift p ≤ 2 ^ 30 = shift-most p g in absurd (omega arith)
differ (AtMap m) (InSlot n b p) h g e = absurd (omega arith)
differ (InSlot m a o) (InContext p) h g e = let s : shift p ≤ 2 ^ 30 = shift-most p g in absurd (omega arith)
differ (InSlot m a o) (InFrame p) h g e = let s : shift p ≤ 2 ^ 30 = shift-most p g in absurd (omega arith)
differ (InSlot m a o) (AtMap n) h g e = absurd (omega arith)

pub near_words_differ : (p q : Location) → IsNearLocation p → IsNearLocation q → location_word p ≡ location_word q → p ≡ q
near_words_differ p q h g e = differ p q h g (same-count p q (has-word p h) (has-word q g) e)

-- the words of references
pub words_of_locations : (slots : List ℕ) (es : List Element) (r : Reference) (w : ℕ) →
    IsReferenceWord (element_bases slots es) r w ↔ (pos w ≡ location_word (named_location slots es r))
words_of_locations slots es (Ctx o) w = (λ h. h, λ h. h)
words_of_locations slots es (Frame o) w = (λ h. h, λ h. h)
words_of_locations slots es (MapRef m) w = (λ h. h, λ h. h)
words_of_locations slots es (Elem n o) w = (λ h. h, λ h. h)
