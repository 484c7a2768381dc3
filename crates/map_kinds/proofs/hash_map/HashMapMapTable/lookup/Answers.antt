use Rattle.bpf_model.proofs.Prelude.{◌≡◌, ◌∙◌, ℕ, ◌<◌, List, Option, Some, None, length, ap, sym, subst, arith, ◌+◌, IfSome, get, MapView}
use Rattle.element_store.proofs.Prelude.{IsTaken}
use Rattle.model_laws.proofs.Prelude.{MAX_ENTRIES, MAX_SPARE, MapShape}
use Rattle.map_kinds.specs.Parted.{PartsView, IsParted}
use Rattle.map_kinds.specs.Shown.{IsMap}
use Rattle.map_kinds.proofs.Parting.{standing-taken, linked-stands}
use Rattle.map_kinds.proofs.Counting.{few-slots}
use Rattle.map_kinds.proofs.hash_map.HashMapMapTable.lookup.Goals as goal

found-inside : (shape : MapShape) (p : PartsView) (n : ℕ) (key : List ℕ) (o : Option ℕ) → IsMap shape p n → IsParted p
    → o ≡ get p.index key → IfSome o (λ i. i < MAX_ENTRIES + MAX_SPARE)
found-inside shape p n key None m h e = tt
found-inside shape p n key (Some i) m h e =
    let t : IsTaken p.arena i = standing-taken p i h (linked-stands p i (ap (get p.index) (h.keyed key i (sym e)) ∙ sym e)) in
    let in_ : i < length p.arena.slots = t.inside in
    omega (arith, few-slots shape p n h m)

pub returns-clause-inside : goal.returns-clause-inside
returns-clause-inside g c = found-inside c.self.inside.shape c.self.inside.parts c.self.inside.counts.linked
    c.args.key.now c.find.result c.self.invariant.kept c.find.ensures.parted c.find.ensures.found

found-long : (shape : MapShape) (p : PartsView) (n : ℕ) (key : List ℕ) (o : Option ℕ) → IsMap shape p n →
    o ≡ get p.index key → IfSome o (λ i. length key ≡ shape.key_len)
found-long shape p n key None m e = tt
found-long shape p n key (Some i) m e = m.keys key i (sym e)

pub returns-clause-long : goal.returns-clause-long
returns-clause-long g c = subst (λ (v : MapView). IfSome c.find.result (λ i. length c.args.key.now ≡ v.shape.key_len)) c.self.view_is
    (found-long c.self.inside.shape c.self.inside.parts c.self.inside.counts.linked c.args.key.now c.find.result c.self.invariant.kept c.find.ensures.found)
