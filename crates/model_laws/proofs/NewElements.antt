-- The elements that new maps have: those of arrays.
use Rattle.bpf_model.proofs.Prelude.{◌≡◌, ℕ, zero, suc, ◌+◌, ◌*◌, ◌<◌, ◌≤◌, List, [], ◌∷◌, ◌++◌, length, map, cond, Some, ◌⊎◌, inl, inr, refl, sym, ap, ◌∙◌}
use Rattle.bpf_model.proofs.Prelude.{arith, subst, ◌^◌, slice_get, not, ◌==◌, ◌&&◌, range_with_len, w32, from_le_bytes, from_le_bytes-to_le_bytes_4, cases_eq}
use Rattle.bpf_model.proofs.Prelude.{none-some, same_Some, length-append, length-map-range_with_len, sum_by-cons, sum_by-append, Element, Linked, is_linked}
use Rattle.bpf_model.proofs.Prelude.{is_reclaimed, linked_count, AreShapes, index_key, array_element, new_elements, all_new_elements}
use Rattle.model_laws.proofs.Prelude.{MapShape, MapKind, Hash, Array, MAX_ENTRIES, kept_count, born_count}
use Rattle.model_laws.proofs.Tallies.{one_of, count-cons, of_map, of-same, of-other, kept_uses, uses_of, is_kept}

-- Different indices have different keys.
pub index-same : (i j : ℕ) → i < 2 ^ 32 → j < 2 ^ 32 → index_key i ≡ index_key j → i ≡ j
index-same i j h g e = sym (from_le_bytes-to_le_bytes_4 i h) ∙ (ap (from_le_bytes w32) e ∙ from_le_bytes-to_le_bytes_4 j g)

pub length-index : (i : ℕ) → length (index_key i) ≡ 4
length-index i = refl

-- an item of a mapped range
pub get-range : {A : Type 0} (f : ℕ → A) (a n j : ℕ) (x : A) → slice_get (map f (range_with_len a n)) j ≡ Some x → (j < n) × (f (a + j) ≡ x)
get-range f a zero j x h = absurd (none-some x h)
get-range f a (suc n) zero x h = let e : a ≡ a + 0 = omega arith in (omega arith, ap f (sym e) ∙ same_Some (f a) x h)
get-range f a (suc n) (suc j) x h =
    let r = get-range f (a + 1) n j x h in
    let e : (a + 1) + j ≡ a + suc j = omega arith in
    let less : j < n = r.0 in
    (omega arith, ap f (sym e) ∙ r.1)

pub range-get : {A : Type 0} (f : ℕ → A) (a n j : ℕ) → j < n → slice_get (map f (range_with_len a n)) j ≡ Some (f (a + j))
range-get f a zero j h = absurd (omega arith)
range-get f a (suc n) zero h = let e : a ≡ a + 0 = omega arith in ap (λ m. Some (f m)) e
range-get f a (suc n) (suc j) h = let e : (a + 1) + j ≡ a + suc j = omega arith in range-get f (a + 1) n j (omega arith) ∙ ap (λ m. Some (f m)) e

-- an item of two lists joined
pub get-joined : {A : Type 0} (xs ys : List A) (i : ℕ) (z : A) → slice_get (xs ++ ys) i ≡ Some z →
    (slice_get xs i ≡ Some z) ⊎ ((j : ℕ) × (i ≡ length xs + j) × (slice_get ys j ≡ Some z))
get-joined [] ys i z h = inr (i, omega arith, h)
get-joined (x ∷ xs) ys zero z h = inl h
get-joined (x ∷ xs) ys (suc i) z h = elim (get-joined xs ys i z h) [
  | inl p ↦ inl p
  | inr p ↦ let e : i ≡ length xs + p.0 = p.1 in inr (p.0, omega arith, p.2)
]

pub joined-get : {A : Type 0} (xs ys : List A) (j : ℕ) → slice_get (xs ++ ys) (length xs + j) ≡ slice_get ys j
joined-get [] ys j = let e : 0 + j ≡ j = omega arith in ap (slice_get ys) e
joined-get (x ∷ xs) ys j = let e : length (x ∷ xs) + j ≡ suc (length xs + j) = omega arith in ap (slice_get (x ∷ (xs ++ ys))) e ∙ joined-get xs ys j

-- The map slots of new maps' elements.
abbrev pub new_slots : MapKind → MapShape → List ℕ
new_slots Hash shape = []
new_slots Array shape = map (λ (i : ℕ). i) (range_with_len 0 shape.entries)

abbrev pub all_new_slots : List MapShape → List ℕ
all_new_slots [] = []
all_new_slots (shape ∷ shapes) = new_slots shape.kind shape ++ all_new_slots shapes

pub length-new : (kind : MapKind) (k : ℕ) (shape : MapShape) → length (new_slots kind shape) ≡ length (new_elements kind k shape)
length-new Hash k shape = refl
length-new Array k shape = length-map-range_with_len (λ (i : ℕ). i) 0 shape.entries ∙ sym (length-map-range_with_len (array_element k shape) 0 shape.entries)

pub length-all_new : (k : ℕ) (shapes : List MapShape) → length (all_new_slots shapes) ≡ length (all_new_elements k shapes)
length-all_new k [] = refl
length-all_new k (shape ∷ shapes) =
    let a = length-append (new_slots shape.kind shape) (all_new_slots shapes) in
    let b = length-append (new_elements shape.kind k shape) (all_new_elements (suc k) shapes) in
    let c = length-new shape.kind k shape in
    let d = length-all_new (suc k) shapes in
    omega arith

-- An element of new maps, the first of which is map k: of which of them it is, and of which index.
pub record IsNew (k : ℕ) (shapes : List MapShape) (n : ℕ) (e : Element) : Type 0 where
  pub offset : ℕ
  pub shape : MapShape
  pub index : ℕ
  pub there : slice_get shapes offset ≡ Some shape
  pub array : shape.kind ≡ Array
  pub within : index < shape.entries
  pub is : array_element (k + offset) shape index ≡ e
  pub slot : slice_get (all_new_slots shapes) n ≡ Some index

new-of : (kind : MapKind) (k : ℕ) (shape : MapShape) (n : ℕ) (e : Element) →
    slice_get (new_elements kind k shape) n ≡ Some e → (kind ≡ Array) × (n < shape.entries) ×
    (array_element k shape n ≡ e)
new-of Hash k shape n e h = absurd (none-some e h)
new-of Array k shape n e h =
    let r = get-range (array_element k shape) 0 shape.entries n e h in
    let z : 0 + n ≡ n = omega arith in
    (refl, r.0, ap (array_element k shape) (sym z) ∙ r.1)

slot-of : (kind : MapKind) (shape : MapShape) (n : ℕ) → kind ≡ Array → n < shape.entries → slice_get (new_slots kind shape) n ≡ Some n
slot-of Hash shape n h less = absurd (cc)
slot-of Array shape n h less = let z : 0 + n ≡ n = omega arith in range-get (λ (i : ℕ). i) 0 shape.entries n less ∙ ap Some z

get-front : {A : Type 0} (xs ys : List A) (i : ℕ) (x : A) → slice_get xs i ≡ Some x → slice_get (xs ++ ys) i ≡ Some x
get-front [] ys i x h = absurd (none-some x h)
get-front (y ∷ xs) ys zero x h = h
get-front (y ∷ xs) ys (suc i) x h = get-front xs ys i x h

pub new-element : (k : ℕ) (shapes : List MapShape) (n : ℕ) (e : Element) → slice_get (all_new_elements k shapes) n ≡ Some e → IsNew k shapes n e
new-element k [] n e h = absurd (none-some e h)
new-element k (shape ∷ shapes) n e h = elim (get-joined (new_elements shape.kind k shape) (all_new_elements (suc k) shapes) n e h) [
  | inl x ↦
      let o = new-of shape.kind k shape n e x in
      let z : k + 0 ≡ k = omega arith in
      record {
        offset = 0;
        shape = shape;
        index = n;
        there = refl;
        array = o.0;
        within = o.1;
        is = ap (λ m. array_element m shape n) z ∙ o.2;
        slot = get-front (new_slots shape.kind shape) (all_new_slots shapes) n n (slot-of shape.kind shape n o.0 o.1);
      }
  | inr x ↦
      let r = new-element (suc k) shapes x.0 e x.2 in
      let z : k + suc r.offset ≡ suc k + r.offset = omega arith in
      let same : n ≡ length (new_elements shape.kind k shape) + x.0 = x.1 in
      let lengths = length-new shape.kind k shape in
      let at : n ≡ length (new_slots shape.kind shape) + x.0 = omega arith in
      record {
        offset = suc r.offset;
        shape = r.shape;
        index = r.index;
        there = r.there;
        array = r.array;
        within = r.within;
        is = ap (λ m. array_element m r.shape r.index) z ∙ r.is;
        slot = ap (slice_get (all_new_slots (shape ∷ shapes))) at ∙ (joined-get (new_slots shape.kind shape) (all_new_slots shapes) x.0 ∙ r.slot);
      }
]

-- The element of an index of an array, and its map slot.
pub record IsThere (k : ℕ) (shapes : List MapShape) (shape : MapShape) (m index : ℕ) : Type 0 where
  pub n : ℕ
  pub there : slice_get (all_new_elements k shapes) n ≡ Some (array_element m shape index)
  pub slot : slice_get (all_new_slots shapes) n ≡ Some index

there-of : (kind : MapKind) (k : ℕ) (shape : MapShape) (i : ℕ) → kind ≡ Array → i < shape.entries →
    slice_get (new_elements kind k shape) i ≡ Some (array_element k shape i)
there-of Hash k shape i h less = absurd (cc)
there-of Array k shape i h less = let z : 0 + i ≡ i = omega arith in range-get (array_element k shape) 0 shape.entries
    i less ∙ ap (λ j. Some (array_element k shape j)) z

pub new-there : (k : ℕ) (shapes : List MapShape) (offset m : ℕ) (shape : MapShape) (i : ℕ) →
    slice_get shapes offset ≡ Some shape → m ≡ k + offset → shape.kind ≡ Array → i < shape.entries →
    IsThere k shapes shape m i
new-there k [] offset m shape i at is array less = absurd (none-some shape at)
new-there k (x ∷ shapes) zero m shape i at is array less =
    let same : x ≡ shape = same_Some x shape at in
    let here : m ≡ k = omega arith in
    let a : slice_get (new_elements x.kind k x) i ≡ Some (array_element k x i) =
    there-of x.kind k x i (ap (λ (y : MapShape). y.kind) same ∙ array)
    (subst (λ (y : MapShape). i < y.entries) (sym same) less) in
    let b : slice_get (new_elements x.kind k x) i ≡ Some (array_element m shape i) = a ∙
    (ap (λ (y : MapShape). Some (array_element k y i)) same ∙
    ap (λ j. Some (array_element j shape i)) (sym here)) in
    record {
      n = i;
      there = get-front (new_elements x.kind k x) (all_new_elements (suc k) shapes) i (array_element m shape i) b;
      slot = get-front (new_slots x.kind x) (all_new_slots shapes) i i
          (slot-of x.kind x i (ap (λ (y : MapShape). y.kind) same ∙ array)
          (subst (λ (y : MapShape). i < y.entries) (sym same) less));
    }
new-there k (x ∷ shapes) (suc offset) m shape i at is array less =
    let r = new-there (suc k) shapes offset m shape i at (omega arith) array less in
    let lengths = length-new x.kind k x in
    let moved : length (new_elements x.kind k x) + r.n ≡ length (new_slots x.kind x) + r.n = omega arith in
    record {
      n = length (new_elements x.kind k x) + r.n;
      there = joined-get (new_elements x.kind k x) (all_new_elements (suc k) shapes) r.n ∙ r.there;
      slot = ap (slice_get (all_new_slots (x ∷ shapes))) moved ∙ (joined-get (new_slots x.kind x) (all_new_slots shapes) r.n ∙ r.slot);
    }

-- No two of them are of one map and have one key.
pub new-single : (k : ℕ) (shapes : List MapShape) → AreShapes shapes → (a b : ℕ) (d e : Element) →
    slice_get (all_new_elements k shapes) a ≡ Some d → slice_get (all_new_elements k shapes) b ≡ Some e →
    d.map ≡ e.map → d.key ≡ e.key → a ≡ b
new-single k [] limits a b d e ha hb maps keys = absurd (none-some d ha)
new-single k (shape ∷ shapes) limits a b d e ha hb maps keys =
    let heads : List Element = new_elements shape.kind k shape in
    let rest : List Element = all_new_elements (suc k) shapes in
    elim (get-joined heads rest a d ha) [
      | inl x ↦
          let o = new-of shape.kind k shape a d x in
          let dm : k ≡ d.map = ap (λ (z : Element). z.map) o.2 in
          elim (get-joined heads rest b e hb) [
            | inl y ↦
                let p = new-of shape.kind k shape b e y in
                let most : shape.entries ≤ MAX_ENTRIES = (limits 0 shape refl).entries.1 in
                let la : a < shape.entries = o.1 in
                let lb : b < shape.entries = p.1 in
                index-same a b (omega arith) (omega arith) (ap (λ (z : Element). z.key) o.2 ∙ (keys ∙ sym (ap (λ (z : Element). z.key) p.2)))
            | inr y ↦
                let r = new-element (suc k) shapes y.0 e y.2 in
                let em : suc k + r.offset ≡ e.map = ap (λ (z : Element). z.map) r.is in
                absurd (omega arith)
          ]
      | inr x ↦
          let r = new-element (suc k) shapes x.0 d x.2 in
          let dm : suc k + r.offset ≡ d.map = ap (λ (z : Element). z.map) r.is in
          let at : a ≡ length heads + x.0 = x.1 in
          elim (get-joined heads rest b e hb) [
            | inl y ↦
                let p = new-of shape.kind k shape b e y in
                let em : k ≡ e.map = ap (λ (z : Element). z.map) p.2 in
                absurd (omega arith)
            | inr y ↦
                let same : x.0 ≡ y.0 = new-single (suc k) shapes (λ j s h. limits (suc j) s h) x.0 y.0 d e x.2 y.2 maps keys in
                let bt : b ≡ length heads + y.0 = y.1 in
                omega arith
          ]
    ]

-- each is linked, the first use of its map slot
pub new-once : (k : ℕ) (shapes : List MapShape) (n : ℕ) (e : Element) → slice_get (all_new_elements k shapes) n ≡ Some e → (e.life ≡ Linked) × (e.uses ≡ 1)
new-once k shapes n e h =
    let r = new-element k shapes n e h in
    (ap (λ (z : Element). z.life) (sym r.is), ap (λ (z : Element). z.uses) (sym r.is))

-- so what is born is kept, linked and used once
pub fresh-counts : (k : ℕ) (es : List Element) → ((n : ℕ) (e : Element) → slice_get es n ≡ Some e → (e.life ≡ Linked)
    × (e.uses ≡ 1)) → (kept_count k es ≡ born_count k es) × (kept_uses k es ≡ born_count k es) ×
    (linked_count k es ≡ born_count k es)
fresh-counts k [] h = (refl, refl, refl)
fresh-counts k (e ∷ es) h =
    let rest = fresh-counts k es (λ n f at. h (suc n) f at) in
    let life = (h 0 e refl).0 in
    let uses = (h 0 e refl).1 in
    let born = count-cons (λ (x : Element). x.map == k) e es in
    let kept = count-cons (is_kept k) e es in
    let linked = count-cons (λ (x : Element). is_linked x.life && (x.map == k)) e es in
    let sums = sum_by-cons (uses_of k) e es in
    let one : one_of (is_kept k e) ≡ one_of (e.map == k) = ap (λ l. one_of (not (is_reclaimed l) && (e.map == k))) life in
    let two : one_of (is_linked e.life && (e.map == k)) ≡ one_of (e.map == k) = ap (λ l. one_of (is_linked l && (e.map == k))) life in
    let three : uses_of k e ≡ one_of (e.map == k) = ap (λ u. cond (is_kept k e) u 0) uses ∙ one in
    let a = rest.0 in
    let b = rest.1 in
    let c = rest.2 in
    (omega arith, omega arith, omega arith)

-- how many they are
abbrev pub new_count : MapKind → MapShape → ℕ
new_count Hash shape = 0
new_count Array shape = shape.entries

born-range : (k m : ℕ) (shape : MapShape) (a n : ℕ) → born_count k (map (array_element m shape) (range_with_len a n)) ≡ of_map m k * n
born-range k m shape a zero = omega arith
born-range k m shape a (suc n) =
    let one = count-cons (λ (x : Element). x.map == k) (array_element m shape a) (map (array_element m shape) (range_with_len (a + 1) n)) in
    let rest : born_count k (map (array_element m shape) (range_with_len (a + 1) n)) ≡ of_map m k * n = born-range k m shape (a + 1) n in
    elim (cases_eq m k) [
      | inl same ↦
          let b : of_map m k ≡ 1 = ap (λ z. of_map z k) same ∙ of-same k in
          one ∙ (ap (λ r. of_map m k + r) rest ∙ (ap (λ o. o + o * n) b ∙ (let c : 1 + 1 * n ≡ 1 * suc n = omega arith in c) ∙ ap (λ o. o * suc n) (sym b)))
      | inr ne ↦
          let b : of_map m k ≡ 0 = of-other m k ne in
          one ∙ (ap (λ r. of_map m k + r) rest ∙ (ap (λ o. o + o * n) b ∙ (let c : 0 + 0 * n ≡ 0 * suc n = omega arith in c) ∙ ap (λ o. o * suc n) (sym b)))
    ]

born-kind : (kind : MapKind) (k m : ℕ) (shape : MapShape) → born_count k (new_elements kind m shape) ≡ of_map m k * new_count kind shape
born-kind Hash k m shape = omega arith
born-kind Array k m shape = born-range k m shape 0 shape.entries

born-joined : (k : ℕ) (es fs : List Element) → born_count k (es ++ fs) ≡ born_count k es + born_count k fs
born-joined k es fs = sum_by-append (λ (x : Element). one_of (x.map == k)) es fs

born-before : (m : ℕ) (shapes : List MapShape) (k : ℕ) → k < m → born_count k (all_new_elements m shapes) ≡ 0
born-before m [] k less = refl
born-before m (shape ∷ shapes) k less =
    let a = born-joined k (new_elements shape.kind m shape) (all_new_elements (suc m) shapes) in
    let b = born-kind shape.kind k m shape in
    let z : of_map m k ≡ 0 = of-other m k (λ same. absurd (omega arith)) in
    let c : of_map m k * new_count shape.kind shape ≡ 0 * new_count shape.kind shape = ap (λ o. o * new_count shape.kind shape) z in
    let rest = born-before (suc m) shapes k (omega arith) in
    omega arith

pub born-new : (m : ℕ) (shapes : List MapShape) (offset k : ℕ) (shape : MapShape) →
    slice_get shapes offset ≡ Some shape → k ≡ m + offset →
    born_count k (all_new_elements m shapes) ≡ new_count shape.kind shape
born-new m [] offset k shape at is = absurd (none-some shape at)
born-new m (x ∷ shapes) zero k shape at is =
    let same : x ≡ shape = same_Some x shape at in
    let a = born-joined k (new_elements x.kind m x) (all_new_elements (suc m) shapes) in
    let b = born-kind x.kind k m x in
    let here : m ≡ k = omega arith in
    let o : of_map m k ≡ 1 = ap (λ z. of_map z k) here ∙ of-same k in
    let c : of_map m k * new_count x.kind x ≡ 1 * new_count x.kind x = ap (λ z. z * new_count x.kind x) o in
    let rest = born-before (suc m) shapes k (omega arith) in
    let d : new_count x.kind x ≡ new_count shape.kind shape = ap (λ (z : MapShape). new_count z.kind z) same in
    omega arith
born-new m (x ∷ shapes) (suc offset) k shape at is =
    let a = born-joined k (new_elements x.kind m x) (all_new_elements (suc m) shapes) in
    let b = born-kind x.kind k m x in
    let z : of_map m k ≡ 0 = of-other m k (λ same. absurd (omega arith)) in
    let c : of_map m k * new_count x.kind x ≡ 0 * new_count x.kind x = ap (λ o. o * new_count x.kind x) z in
    let rest = born-new (suc m) shapes offset k shape at (omega arith) in
    omega arith
