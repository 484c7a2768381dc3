use Rattle.bpf_model.proofs.Prelude.{◌≡◌, ◌∙◌, ℕ, ◌+◌, ◌<◌, ◌≤◌, List, length, Option, Some, None, sym, ap, arith, subst, IfSome, get, MapView, index_below}
use Rattle.model_laws.proofs.Prelude.{MapShape, MAX_ENTRIES, MAX_SPARE}
use Rattle.map_kinds.specs.Arrays.{IsArrayMap}
use Rattle.model_laws.proofs.Indices.{index-got}
use Rattle.map_kinds.proofs.array_map.ArrayMapMapTable.lookup.Goals as goal

module _ (shape : MapShape) (values : List ℕ) (kept : IsArrayMap shape values) (key : List ℕ) where
  long : (o : Option ℕ) → o ≡ get (index_below shape.entries) key → IfSome o (λ i. length key ≡ shape.key_len)
  long None e = tt
  long (Some i) e = ap length (sym (index-got shape.entries key i (sym e)).1) ∙ sym (kept.valid.array kept.array).key

  inside : (o : Option ℕ) → o ≡ get (index_below shape.entries) key → IfSome o (λ i. i < MAX_ENTRIES + MAX_SPARE)
  inside None e = tt
  inside (Some i) e =
      let less : i < shape.entries = (index-got shape.entries key i (sym e)).0 in
      let most : shape.entries ≤ MAX_ENTRIES = kept.valid.entries.1 in
      omega arith

pub returns-clause-long : goal.returns-clause-long
returns-clause-long c = subst (λ (v : MapView). IfSome c.index_of.result (λ i. length c.args.key.now ≡ v.shape.key_len)) c.self.view_is
    (long c.self.inside.shape c.self.inside.values.items c.self.invariant c.args.key.now c.index_of.result c.index_of.ensures)

pub returns-clause-inside : goal.returns-clause-inside
returns-clause-inside c = inside c.self.inside.shape c.self.inside.values.items c.self.invariant c.args.key.now c.index_of.result c.index_of.ensures
