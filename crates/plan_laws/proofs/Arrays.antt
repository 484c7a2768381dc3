-- Maps that are arrays, by the program's list, by the shapes that were verified, and by the store: their elements stay.
use Rattle.bpf_model.proofs.Prelude.{◌≡◌, ℕ, zero, suc, List, [], ◌∷◌, Option, Some, None, inl, inr, refl, sym, ap, ◌∙◌, true, false, slice_get, none-some}
use Rattle.bpf_model.proofs.Prelude.{same_Some, Section, Element, Life, Linked, Unlinked, Reclaimed, is_reclaimed, MapState, Store, Run, both, get-map}
use Rattle.model_laws.proofs.Prelude.{MapKind, Hash, Array, MapShape, StaysLinked}
use Rattle.plan_laws.proofs.Prelude.{scene_of, IsGuarded, IsArrayMap, IsHeld, is_array, has_array_shape, is_array_in, AreMapsBound, StaysKept}
use Rattle.model_laws.proofs.Stores.{KeepsShapes}
use Rattle.plan_laws.specs.Describes.{kinds_of}

-- a map of this number has the kind
pub kind-there : (states : List MapState) (n : ℕ) (kind : MapKind) → slice_get (kinds_of states) n ≡ Some kind →
    (state : MapState) × (slice_get states n ≡ Some state) × (state.shape.kind ≡ kind)
kind-there [] n kind h = absurd (none-some kind h)
kind-there (state ∷ states) zero kind h = (state, refl, same_Some state.shape.kind kind h)
kind-there (state ∷ states) (suc n) kind h = kind-there states n kind h

pub there-kind : (states : List MapState) (n : ℕ) (state : MapState) (kind : MapKind) →
    slice_get states n ≡ Some state → state.shape.kind ≡ kind → slice_get (kinds_of states) n ≡ Some kind
there-kind states n state kind at is = get-map (λ (state : MapState). state.shape.kind) states n state at ∙ ap Some is

-- an array stays one
pub array-kept : (s new : Store) (run : Run) → KeepsShapes s.maps new.maps → (index : ℕ) →
    IsArrayMap (scene_of s run) index → IsArrayMap (scene_of new run) index
array-kept s new run k index a =
    let x = kind-there s.maps a.number Array a.array in
    let y = k a.number x.0 x.1 in
    record { number = a.number; listed = a.listed; array = there-kind new.maps a.number y.0 Array y.1 (ap (λ (shape : MapShape). shape.kind) y.2 ∙ x.2) }

-- an array by its shape
shape-array : (kind : MapKind) → is_array kind ≡ true → kind ≡ Array
shape-array Hash h = absurd (cc)
shape-array Array h = refl

shape-there : (o : Option MapShape) → has_array_shape o ≡ true → (shape : MapShape) × (o ≡ Some shape) × (shape.kind ≡ Array)
shape-there None h = absurd (cc)
shape-there (Some shape) h = (shape, refl, shape-array shape.kind h)

pub array-there : (shapes : List MapShape) (map : ℕ) → is_array_in shapes map ≡ true → (shape : MapShape) ×
    (slice_get shapes map ≡ Some shape) × (shape.kind ≡ Array)
array-there shapes map h = shape-there (slice_get shapes map) h

pub shape-bound : (shapes : List MapShape) (s : Store) (run : Run) → AreMapsBound shapes run.program.maps s.maps →
    (index : ℕ) (shape : MapShape) → slice_get shapes index ≡ Some shape → shape.kind ≡ Array →
    IsArrayMap (scene_of s run) index
shape-bound shapes s run b index shape at is =
    let x = b.each index shape at in
    record { number = x.0; listed = x.2; array = there-kind s.maps x.0 x.1 Array x.3 (ap (λ (shape : MapShape). shape.kind) x.4 ∙ is) }

pub array-bound : (shapes : List MapShape) (s : Store) (run : Run) → AreMapsBound shapes run.program.maps s.maps →
    (index : ℕ) → is_array_in shapes index ≡ true → IsArrayMap (scene_of s run) index
array-bound shapes s run b index h = let x = array-there shapes index h in shape-bound shapes s run b index x.0 x.1 x.2

-- the elements of arrays aren't reclaimed
abbrev pub AllStayKept : Store → Type 0
AllStayKept s = (n : ℕ) (e : Element) → slice_get s.elements n ≡ Some e → StaysKept s.maps e

pub linked-kept : (maps : List MapState) (e : Element) → StaysLinked maps e → StaysKept maps e
linked-kept maps e stays state there array = ap is_reclaimed (stays state there array)

pub unreclaimed : (l : Life) (s : Section) → IsGuarded l s → is_reclaimed l ≡ false
unreclaimed Linked s h = refl
unreclaimed (Unlinked since) s h = refl
unreclaimed Reclaimed s h = absurd h

array-unreclaimed : (s : Store) (run : Run) (index n : ℕ) (e : Element) → AllStayKept s →
    slice_get s.elements n ≡ Some e → slice_get run.program.maps index ≡ Some e.map →
    IsArrayMap (scene_of s run) index → is_reclaimed e.life ≡ false
array-unreclaimed s run index n e arrays born in_map a =
    let same : a.number ≡ e.map = both (slice_get run.program.maps index) a.number e.map a.listed in_map in
    let x = kind-there s.maps a.number Array a.array in
    arrays n e born x.0 (ap (slice_get s.maps) (sym same) ∙ x.1) x.2

-- what the run may access isn't reclaimed
pub held-unreclaimed : (s : Store) (run : Run) (map n : ℕ) → AllStayKept s → (h : IsHeld (scene_of s run) map n) → is_reclaimed h.element.life ≡ false
held-unreclaimed s run map n arrays h = elim h.allowed [
  | inl g ↦ unreclaimed h.element.life (scene_of s run).section g.1
  | inr a ↦ array-unreclaimed s run map n h.element arrays h.born h.in_map a
]
