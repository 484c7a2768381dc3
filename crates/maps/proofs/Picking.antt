-- The first ready slot of the maps of a registry, from one map on.
use Rattle.bpf_model.proofs.Prelude.{◌≡◌, ◌∙◌, ℕ, suc, List, [], ◌∷◌, drop, Option, Some, sym, ap, slice_get, slice_set, none-some, same_Some, MapView}
use Rattle.bpf_model.proofs.Prelude.{key_in, drop-next}
use Rattle.model_laws.proofs.Prelude.{Given, ReapedElement, Pick, or_pick, first_pick}
use Rattle.arrayvec.specs.ArrayVec.{ArrayVec}
use Rattle.maps.specs.Picking.{IsPicked}
use Rattle.map_kinds.specs.Shown.{IsReaped}

-- the maps before map i have nothing that is ready
abbrev pub NoneReadyBefore : List MapView → ℕ → Type 0
NoneReadyBefore maps i = first_pick 0 maps ≡ first_pick i (drop i maps)

or_pick-some : (ready : List ℕ) (k i : ℕ) (v : MapView) (later : Option Pick) → slice_get ready 0 ≡ Some i →
    or_pick ready k v later ≡ Some (record { map = k; view = v; slot = i })
or_pick-some [] k i v later e = absurd (none-some i e)
or_pick-some (j ∷ rest) k i v later e = ap (λ (s : ℕ). let p : Option Pick = Some (record { map = k; view = v; slot = s }) in p) (same_Some j i e)

pub picks-here : (maps : List MapView) (i slot : ℕ) (v : MapView) → slice_get maps i ≡ Some v → NoneReadyBefore maps i
    → slice_get v.ready 0 ≡ Some slot → first_pick 0 maps ≡ Some (record { map = i; view = v; slot = slot })
picks-here maps i slot v g h e =
    h ∙ (ap (first_pick i) (drop-next maps i v g) ∙ or_pick-some v.ready i slot v (first_pick (suc i) (drop (suc i) maps)) e)

-- what was reclaimed from the map that was reached is what a registry reclaims
pub picked : (old maps : List MapView) (i m : ℕ) (v new : MapView) (key : ArrayVec ℕ) (given : Given) →
    maps ≡ old → NoneReadyBefore old i → slice_get maps i ≡ Some v → IsReaped v new key.items given → m ≡ i →
    IsPicked old (slice_set maps i new) (record { map = m; key = key; given = given })
picked old maps i m v new key given e h g r n =
    let there : slice_get old i ≡ Some v = ap (λ (ms : List MapView). slice_get ms i) (sym e) ∙ g in
    let items : key.items ≡ key_in (slice_get v.slots r.slot) = r.key_is in
    record {
      pick = record { map = i; view = v; slot = r.slot };
      first = picks-here old i r.slot v there h r.first;
      element_is =
          ap (λ k. let x : ReapedElement = record { map = k; key = key; given = given } in x) n
          ∙ (ap (λ (ks : List ℕ). let x : ReapedElement = record { map = i; key = record { items = ks }; given = given } in x) items
          ∙ ap (λ (z : Given). let x : ReapedElement =
          record { map = i; key = record { items = key_in (slice_get v.slots r.slot) }; given = z } in x)
          r.given_is);
      new_is = ap (λ (ms : List MapView). slice_set ms i new) e ∙ ap (slice_set old i) r.new_is;
    }
