use Rattle.bpf_model.proofs.Prelude.{◌≡◌, ◌∙◌, ◌+◌, ◌*◌, ◌<◌, ◌≤◌, length, Some, None, sym, ap, subst, is_some, get, array_error, MapView, index_below}
use Rattle.model_laws.proofs.Prelude.{updated}
use Rattle.map_kinds.specs.Arrays.{array_view, IsArrayMap}
use Rattle.model_laws.proofs.Indices.{index-got}
use Rattle.map_kinds.proofs.Arrays.{room-at, written-view, written-kept, array-updates}
use Rattle.map_kinds.proofs.array_map.ArrayMapMapTable.update.Goals as goal

pub write_block-requires : goal.write_block-requires
write_block-requires c =
    let s = c.self.inside in
    let long : length c.args.value.now ≡ s.shape.value_len = c.requires.value ∙ ap (λ (v : MapView). v.shape.value_len) (sym c.self.view_is) in
    let less : c.in-Ok.index < s.shape.entries = (index-got s.shape.entries c.args.key.now c.in-Ok.index (sym c.index_of.ensures ∙ c.in-Ok.ensures.found)).0 in
    subst (λ n. c.in-Ok.index * n + n ≤ length s.values.items) (sym long) (room-at s.shape s.values.items c.self.invariant c.in-Ok.index less)

pub invariant_of-self : goal.invariant_of-self
invariant_of-self c =
    let s = c.self.inside in
    let long : length c.args.value.now ≡ s.shape.value_len = c.requires.value ∙ ap (λ (v : MapView). v.shape.value_len) (sym c.self.view_is) in
    let less : c.in-Ok.index < s.shape.entries = (index-got s.shape.entries c.args.key.now c.in-Ok.index (sym c.index_of.ensures ∙ c.in-Ok.ensures.found)).0 in
    subst (IsArrayMap s.shape) (sym c.write_block.ensures) (written-kept s.shape s.values.items c.self.invariant c.in-Ok.index c.args.value.now less long)

pub returns-in-Ok-clause-new : goal.returns-in-Ok-clause-new
returns-in-Ok-clause-new c =
    let s = c.self.inside in
    let view : MapView = array_view s.shape s.values.items in
    let long : length c.args.value.now ≡ s.shape.value_len = c.requires.value ∙ ap (λ (v : MapView). v.shape.value_len) (sym c.self.view_is) in
    let found : get (index_below s.shape.entries) c.args.key.now ≡ Some c.in-Ok.index = sym c.index_of.ensures ∙ c.in-Ok.ensures.found in
    let less : c.in-Ok.index < s.shape.entries = (index-got s.shape.entries c.args.key.now c.in-Ok.index found).0 in
    let pass : array_error c.args.flags (is_some (get (index_below s.shape.entries) c.args.key.now)) ≡ None =
    ap (λ o. array_error c.args.flags (is_some o)) (sym c.index_of.ensures) ∙ sym c.in-Ok.ensures.tested in
    let updates =
    ap (λ (v : MapView). updated v c.args.key.now c.args.value.now c.args.flags) (sym c.self.view_is)
    ∙ array-updates view c.args.key.now c.args.value.now c.args.flags c.in-Ok.index c.self.invariant.array pass found in
    ap (array_view s.shape) c.write_block.ensures
    ∙ (written-view s.shape s.values.items c.self.invariant c.in-Ok.index c.args.value.now less long
    ∙ sym (ap (λ r. r.1) updates))
