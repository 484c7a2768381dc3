use Rattle.bpf_model.proofs.Prelude.{◌≡◌, ◌∙◌, ◌+◌, ◌<◌, ◌≤◌, [], ◌∷◌, ◌++◌, length, Some, sym, ap, arith}
use Rattle.model_laws.proofs.Prelude.{MAX_ENTRIES, MAX_SPARE}
use Rattle.std.proofs.Common.{length-append}
use Rattle.std.specs.FinMap as map
use Rattle.map_kinds.specs.Counting.{unlinked_in, worn_in}
use Rattle.map_kinds.specs.Parted.{PartsView}
use Rattle.map_kinds.specs.Shown.{map_view}
use Rattle.map_kinds.specs.Updated.{unlinked_of}
use Rattle.map_kinds.proofs.Updating.{len-some}
use Rattle.map_kinds.proofs.Leaving.{retired-kept}
use Rattle.map_kinds.proofs.Counting.{few-unlinked}
use Rattle.map_kinds.proofs.hash_map.HashMapMapTable.delete.Goals as goal

pub overflow_sub-self : goal.overflow_sub-self
overflow_sub-self g c =
    let some : map.get c.self.inside.parts.index c.args.key.now ≡ Some c.in-Some.field-0 = sym c.remove.ensures.found ∙ c.in-Some.is in
    let h : 0 < map.len c.self.inside.parts.index = len-some c.self.inside.parts.index c.args.key.now c.in-Some.field-0 some in
    let n : c.self.inside.counts.linked ≡ map.len c.self.inside.parts.index = c.self.invariant.kept.count in
    omega arith

pub overflow_add-self : goal.overflow_add-self
overflow_add-self g c =
    let f : unlinked_in (map_view c.self.inside.shape c.self.inside.parts) ≤ MAX_ENTRIES + MAX_SPARE =
    few-unlinked c.self.inside.shape c.self.inside.parts c.self.inside.counts.linked c.remove.ensures.parted
    c.self.invariant.kept in
    let e : c.self.inside.counts.unlinked ≡ unlinked_in (map_view c.self.inside.shape c.self.inside.parts) = c.self.invariant.unlinked in
    omega arith

pub invariant_of-self-in-Some : goal.invariant_of-self-in-Some
invariant_of-self-in-Some g c =
    let some : map.get c.self.inside.parts.index c.args.key.now ≡ Some c.in-Some.field-0 = sym c.remove.ensures.found ∙ c.in-Some.is in
    let gone : c.remove.new.self ≡ unlinked_of c.self.inside.parts c.args.key.now (Some c.in-Some.field-0)
    c.remove.new.self.arena.links = c.remove.ensures.new ∙
    ap (λ o. unlinked_of c.self.inside.parts c.args.key.now o c.remove.new.self.arena.links) c.in-Some.is in
    record {
      kept = retired-kept c.self.inside.shape c.self.inside.parts c.remove.new.self c.args.key.now c.in-Some.field-0
          c.self.inside.counts.linked c.self.invariant.kept some gone;
      few = let n : c.self.inside.counts.linked ≤ c.self.inside.shape.entries = c.self.invariant.few in omega arith;
      unlinked = (
          let was : c.self.inside.counts.unlinked ≡ unlinked_in (map_view c.self.inside.shape c.self.inside.parts) = c.self.invariant.unlinked in
          let new : unlinked_in (map_view c.self.inside.shape c.remove.new.self) ≡ length
          (c.self.inside.parts.lists.next ++ c.in-Some.field-0 ∷ []) + length c.self.inside.parts.lists.waiting +
          length c.self.inside.parts.lists.ready =
          ap (λ (z : PartsView). unlinked_in (map_view c.self.inside.shape z)) gone in
          omega (arith, length-append c.self.inside.parts.lists.next (c.in-Some.field-0 ∷ [])));
      worn = c.self.invariant.worn ∙ sym (ap (λ (z : PartsView). worn_in (map_view c.self.inside.shape z)) gone);
    }
