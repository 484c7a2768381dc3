-- Elements by a function of their numbers: what stands around a run, as far as it can tell.
use Rattle.bpf_model.proofs.Prelude.{◌≡◌, ℕ, ◌+◌, ◌<◌, refl, sym, ap, subst, ◌∙◌, arith, inl, inr, List, [], ◌∷◌, length, map, replicate, Option, Some, None}
use Rattle.bpf_model.proofs.Prelude.{Bool, true, false, slice_get, ◌==◌, if◌then◌else◌, range_with_len, none-some, same_Some, slice_get_within}
use Rattle.bpf_model.proofs.Prelude.{slice_get-get_or, length-replicate, get_or-range_with_len, length-range_with_len, length-map-range_with_len, Element}
use Rattle.bpf_model.proofs.Prelude.{Linked, Unlinked, accessible, unless_reclaimed, is_reclaimed, ◌>>=◌, eq-eqb, eqb-true, AreBytes, AllBytes, Run}
use Rattle.bpf_model.proofs.Prelude.{section_of, new_map, Section, get-map, get-replicate, get-below}
use Rattle.model_laws.proofs.Prelude.{MapShape, HasLengths, IsSingle}
use Rattle.plan_laws.proofs.Prelude.{scene_of, IsArrayMap, IsGuarded, StaysKept}
use Rattle.world_laws.proofs.Prelude.{map_of, key_length, value_length, element_of, elements_by, births, store_of}
use Rattle.plan_laws.proofs.Arrays.{AllStayKept}
use Rattle.plan_laws.proofs.Kept.{Keeps}

pub get-range : (count n : ℕ) → n < count → slice_get (range_with_len 0 count) n ≡ Some n
get-range count n l =
    let long : length (range_with_len 0 count) ≡ count = length-range_with_len 0 count in
    slice_get-get_or (range_with_len 0 count) n 0 (omega (arith, l, long)) ∙
    ap Some (get_or-range_with_len 0 count n 0 l ∙ (let z : 0 + n ≡ n = omega arith in z))

pub get-by : (count : ℕ) (f : ℕ → Element) (n : ℕ) → n < count → slice_get (elements_by count f) n ≡ Some (f n)
get-by count f n l = get-map f (range_with_len 0 count) n n (get-range count n l)

pub by-below : (count : ℕ) (f : ℕ → Element) (n : ℕ) (e : Element) → slice_get (elements_by count f) n ≡ Some e → n < count
by-below count f n e at = let l = slice_get_within (elements_by count f) n e at in let long : length
    (elements_by count f) ≡ count = length-map-range_with_len f 0 count in omega (arith, l, long)

pub by-is : (count : ℕ) (f : ℕ → Element) (n : ℕ) (e : Element) → slice_get (elements_by count f) n ≡ Some e → f n ≡ e
by-is count f n e at = same_Some (f n) e (sym (get-by count f n (by-below count f n e at)) ∙ at)

-- What stands in the slots fits the shapes of the maps.
pub record IsContent (around : List MapShape) (f : ℕ → Element) : Type 0 where
  pub in_map : (n : ℕ) → (f n).map ≡ map_of n
  pub key : (n : ℕ) → length (f n).key ≡ key_length (slice_get around (map_of n))
  pub value : (n : ℕ) → length (f n).value ≡ value_length (slice_get around (map_of n))
  pub bytes : (n : ℕ) → AreBytes (f n).value
  pub arrays : (n : ℕ) → StaysKept (map new_map around) (f n)

pub zero-bytes : (n : ℕ) → AreBytes (replicate n 0)
zero-bytes n k b at = let e : b ≡ 0 = get-replicate n k 0 b at in omega (arith, e)

pub plain-content : (around : List MapShape) (section : Section) → IsContent around (element_of around section)
plain-content around section = record {
  in_map = λ n. refl;
  key = λ n. length-replicate (key_length (slice_get around (map_of n))) 0;
  value = λ n. length-replicate (value_length (slice_get around (map_of n))) 0;
  bytes = λ n. zero-bytes (value_length (slice_get around (map_of n)));
  arrays = λ n state at is. refl;
}

pub map-below : (around : List MapShape) (n : ℕ) → n < births around → map_of n < length around
map-below around n l = omega (arith, l)

module _ (around : List MapShape) (f : ℕ → Element) (c : IsContent around f) where
  pub lengths : (n : ℕ) (e : Element) → slice_get (elements_by (births around) f) n ≡ Some e → HasLengths (map new_map around) e
  lengths n e at =
      let is : f n ≡ e = by-is (births around) f n e at in
      let shape = get-below around (map_of n) (map-below around n (by-below (births around) f n e at)) in
      subst (HasLengths (map new_map around)) is (
        new_map shape.0,
        subst (λ (k : ℕ). slice_get (map new_map around) k ≡ Some (new_map shape.0)) (sym (c.in_map n)) (get-map new_map around (map_of n) shape.0 shape.1),
        c.key n ∙ ap key_length shape.1,
        c.value n ∙ ap value_length shape.1,
      )

  pub all-kept : AllStayKept (store_of around (elements_by (births around) f))
  all-kept n e at = subst (StaysKept (map new_map around)) (by-is (births around) f n e at) (c.arrays n)

  pub all-bytes : AllBytes (elements_by (births around) f)
  all-bytes n e at = subst (λ (e : Element). AreBytes e.value) (by-is (births around) f n e at) (c.bytes n)

-- at most one is linked
pub single-one : (count : ℕ) (f : ℕ → Element) (one : ℕ) → ((n : ℕ) → (f n).life ≡ Linked → n ≡ one) → IsSingle (elements_by count f)
single-one count f one h map key a b x y =
    let p : a ≡ one = h a (ap (λ (e : Element). e.life) (by-is count f a x.element x.born) ∙ x.linked) in
    let q : b ≡ one = h b (ap (λ (e : Element). e.life) (by-is count f b y.element y.born) ∙ y.linked) in
    p ∙ sym q

pub life-unlinked : (s : Section) → Unlinked (s ∷ []) ≡ Linked → ⊥
life-unlinked s e = absurd (cc)

-- What the first contents hold the second hold.
pub record Guards (section : Section) (f g : ℕ → Element) : Type 0 where
  pub same : (n : ℕ) → (g n).map ≡ (f n).map
  pub guard : (n : ℕ) → IsGuarded (f n).life section → IsGuarded (g n).life section

-- the maps are the same ones, whatever stands in them
same-array : (around : List MapShape) (es fs : List Element) (run : Run) (map : ℕ) →
    IsArrayMap (scene_of (store_of around es) run) map → IsArrayMap (scene_of (store_of around fs) run) map
same-array around es fs run map a = record { number = a.number; listed = a.listed; array = a.array }

pub keeps-by : (around : List MapShape) (f g : ℕ → Element) (run : Run) → Guards (section_of run) f g →
    Keeps (scene_of (store_of around (elements_by (births around) f)) run)
    (scene_of (store_of around (elements_by (births around) g)) run)
keeps-by around f g run h = record {
  held = λ map n x. (
      let count = births around in
      let is = by-is count f n x.element x.born in
      record {
        element = g n;
        born = get-by count g n (by-below count f n x.element x.born);
        in_map = x.in_map ∙ ap Some (ap (λ (e : Element). e.map) (sym is) ∙ sym (h.same n));
        allowed = elim x.allowed [
          | inl y ↦ inl (y.0, h.guard n (subst (λ (e : Element). IsGuarded e.life (section_of run)) (sym is) y.1))
          | inr a ↦ inr (same-array around (elements_by count f) (elements_by count g) run map a)
        ];
      });
  depth = refl;
}

-- the same, for any list of elements
pub keeps-list : (around : List MapShape) (es : List Element) (g : ℕ → Element) (run : Run) →
    ((k : ℕ) (e : Element) → slice_get es k ≡ Some e → (k < births around) × ((g k).map ≡ e.map) ×
    (IsGuarded e.life (section_of run) → IsGuarded (g k).life (section_of run)))
    → Keeps (scene_of (store_of around es) run) (scene_of (store_of around (elements_by (births around) g)) run)
keeps-list around es g run h = record {
  held = λ map n x. (
      let y = h n x.element x.born in
      record {
        element = g n;
        born = get-by (births around) g n y.0;
        in_map = x.in_map ∙ ap Some (sym y.1);
        allowed = elim x.allowed [
          | inl z ↦ inl (z.0, y.2 z.1)
          | inr a ↦ inr (same-array around es (elements_by (births around) g) run map a)
        ];
      });
  depth = refl;
}

-- one element is another
abbrev pub changed_at : ℕ → Element → (ℕ → Element) → ℕ → Element
changed_at n e f k = if k == n then e else f k

pub changed-here : (n : ℕ) (e : Element) (f : ℕ → Element) → changed_at n e f n ≡ e
changed-here n e f = ap (λ b. if b then e else f n) (eq-eqb n n refl)

changed-by : (P : ℕ → Element → Type 0) (n : ℕ) (e : Element) (f : ℕ → Element) → P n e → (k : ℕ) (b : Bool) →
    (k == n) ≡ b → P k (f k) → P k (if b then e else f k)
changed-by P n e f here k true is other = subst (λ (j : ℕ). P j e) (sym (eqb-true k n is)) here
changed-by P n e f here k false is other = other

pub changed-all : (P : ℕ → Element → Type 0) (n : ℕ) (e : Element) (f : ℕ → Element) → P n e → ((k : ℕ) → P k (f k)) → (k : ℕ) → P k (changed_at n e f k)
changed-all P n e f here others k = changed-by P n e f here k (k == n) refl (others k)

linked-by : (n : ℕ) (e : Element) (f : ℕ → Element) → ((k : ℕ) → (f k).life ≡ Linked → ⊥) → (k : ℕ) (b : Bool) →
    (k == n) ≡ b → (if b then e else f k).life ≡ Linked → k ≡ n
linked-by n e f none k true is h = eqb-true k n is
linked-by n e f none k false is h = absurd (none k h)

pub linked-at : (n : ℕ) (e : Element) (f : ℕ → Element) → ((k : ℕ) → (f k).life ≡ Linked → ⊥) → (k : ℕ) → (changed_at n e f k).life ≡ Linked → k ≡ n
linked-at n e f none k = linked-by n e f none k (k == n) refl

-- what may be accessed was born
born-if : (count : ℕ) (f : ℕ → Element) (n : ℕ) (o : Option Element) (y : Element) →
    slice_get (elements_by count f) n ≡ o → (o >>= unless_reclaimed) ≡ Some y → (n < count) ×
    (unless_reclaimed (f n) ≡ Some y)
born-if count f n None y e h = absurd (none-some y h)
born-if count f n (Some x) y e h = (by-below count f n x e, ap unless_reclaimed (by-is count f n x e) ∙ h)

pub record Touched (around : List MapShape) (section : Section) (n : ℕ) (y : Element) : Type 0 where
  pub below : n < births around
  pub is : element_of around section n ≡ y

pub touched : (around : List MapShape) (section : Section) (n : ℕ) (y : Element) →
    accessible (elements_by (births around) (element_of around section)) n ≡ Some y → Touched around section n y
touched around section n y h =
    let f = element_of around section in
    let b = born-if (births around) f n (slice_get (elements_by (births around) f) n) y refl h in
    record { below = b.0; is = same_Some (f n) y b.1 }

-- an element of these contents that isn't reclaimed may be accessed
pub touch : (count : ℕ) (f : ℕ → Element) (n : ℕ) (e : Element) → n < count → f n ≡ e → is_reclaimed e.life ≡ false →
    accessible (elements_by count f) n ≡ Some e
touch count f n e l is kept =
    ap (λ o. o >>= unless_reclaimed) (get-by count f n l ∙ ap Some is) ∙ ap (λ b. if b then None else Some e) kept
