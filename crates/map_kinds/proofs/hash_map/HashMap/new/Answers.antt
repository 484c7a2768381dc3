use Rattle.bpf_model.proofs.Prelude.{◌≡◌, ◌∙◌, ◌+◌, sym, ap, refl, subst, arith, IsShape, MapView}
use Rattle.model_laws.proofs.Prelude.{Hash, MapShape}
use Rattle.map_kinds.specs.Parted.{PartsView}
use Rattle.map_kinds.specs.Counting.{IsCounted}
use Rattle.map_kinds.specs.Shown.{map_view}
use Rattle.map_kinds.proofs.Fresh.{fresh, fresh-map, fresh-hash, fresh-view}
use Rattle.map_kinds.proofs.hash_map.HashMap.new.Goals as goal

fresh-counted : (shape : MapShape) → IsShape shape → shape.kind ≡ Hash →
    IsCounted shape (fresh (shape.entries + shape.spare) shape.key_len shape.value_len shape.reuse_limit)
    (record { linked = 0; unlinked = 0; worn = 0 })
fresh-counted shape h hash = record {
  kept = fresh-map shape h hash;
  few = omega arith;
  unlinked = refl;
  worn =
      sym (ap (λ (v : MapView). v.worn) (fresh-hash shape));
}

pub invariant_of-result : goal.invariant_of-result
invariant_of-result g c = subst (λ (p : PartsView). IsCounted c.args.shape p
    (record { linked = 0; unlinked = 0; worn = 0 })) (sym c.in_ok-parts.ensures)
    (fresh-counted c.args.shape c.requires.shape c.requires.hash)

pub returns : goal.returns
returns g c = ap (map_view c.args.shape) c.in_ok-parts.ensures ∙ fresh-view c.args.shape c.requires.hash
