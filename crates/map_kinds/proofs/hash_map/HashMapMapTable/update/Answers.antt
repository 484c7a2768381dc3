use Rattle.bpf_model.proofs.Prelude.{◌≡◌, ◌∙◌, ◌+◌, ◌<◌, ◌≤◌, Ok, Err, arith, sym, ap, subst, refl, length, IfNone, length-map, MapView, map_state_of}
use Rattle.bpf_model.proofs.Prelude.{uses_at}
use Rattle.model_laws.proofs.Prelude.{MAX_ENTRIES, MAX_SPARE, updated, updated_by}
use Rattle.map_kinds.specs.Counting.{IsCounted, unlinked_in}
use Rattle.map_kinds.specs.Shown.{map_view}
use Rattle.map_kinds.specs.Updated.{error_of}
use Rattle.map_kinds.proofs.Updating.{put-kept, put-updates, put-view, updated-by}
use Rattle.map_kinds.proofs.Counting.{put-counted, few-unlinked}
use Rattle.map_kinds.proofs.hash_map.HashMapMapTable.update.Given.{Over}
use Rattle.map_kinds.proofs.hash_map.HashMapMapTable.update.Goals.{After-update, In-Err, In-Ok}
use Rattle.map_kinds.proofs.hash_map.HashMapMapTable.update.Goals as goal

-- what an update of the view is, by the error of the parts
by_error : (g : Over) (c : After-update g) → updated (map_view c.self.inside.shape c.self.inside.parts) c.args.key.now c.args.value.now c.args.flags
    ≡ updated_by (error_of c.update.result) (map_view c.self.inside.shape c.self.inside.parts) c.args.key.now c.args.value.now
by_error g c =
    let tested = c.update.ensures.tested (map_state_of (map_view c.self.inside.shape c.self.inside.parts)) refl
    (length-map c.self.inside.parts.arena.free (uses_at c.self.inside.parts.arena.slots)) in
    updated-by (map_view c.self.inside.shape c.self.inside.parts) c.args.key.now c.args.value.now
    c.args.flags c.self.inside.counts.linked (error_of c.update.result) c.self.invariant.kept.hash
    c.self.invariant.kept.count tested

-- where it is refused, and where it is done
refused : (g : Over) (c : In-Err g) → updated c.args.self.now c.args.key.now c.args.value.now c.args.flags ≡ (Err c.in-Err.errno, c.args.self.now)
refused g c = subst (λ (v : MapView). updated v c.args.key.now c.args.value.now c.args.flags ≡ (Err c.in-Err.errno, v))
    c.self.view_is (by_error g (goal.at.In-Err g c).After-update ∙ ap (λ r. updated_by (error_of r) (map_view c.self.inside.shape c.self.inside.parts)
    c.args.key.now c.args.value.now) c.in-Err.is)

done : (g : Over) (c : In-Ok g) → updated c.args.self.now c.args.key.now c.args.value.now c.args.flags
    ≡ (Ok tt, map_view c.self.inside.shape c.update.new.self)
done g c = ap (λ (v : MapView). updated v c.args.key.now c.args.value.now c.args.flags) (sym c.self.view_is) ∙
    (by_error g (goal.at.In-Ok g c).After-update ∙ (ap (λ r. updated_by (error_of r) (map_view c.self.inside.shape c.self.inside.parts) c.args.key.now
    c.args.value.now) c.in-Ok.is ∙ put-updates c.self.inside.shape c.self.inside.parts c.update.new.self
    c.args.key.now c.args.value.now c.in-Ok.found c.self.invariant.kept.hash c.in-Ok.ensures.found
    c.in-Ok.ensures.put))

pub returns-in-Err-clause-result : goal.returns-in-Err-clause-result
returns-in-Err-clause-result g c =
    sym (ap (λ r. r.0) (refused g (goal.at.returns-in-Err-clause-result g c).In-Err))

pub returns-in-Err-clause-new : goal.returns-in-Err-clause-new
returns-in-Err-clause-new g c =
    ap (map_view c.self.inside.shape) c.in-Err.ensures.err
    ∙ (c.self.view_is ∙ sym (ap (λ r. r.1) (refused g (goal.at.returns-in-Err-clause-new g c).In-Err)))

pub counts_after_update-self-inside-requires-clause-unlinked : goal.counts_after_update-self-inside-requires-clause-unlinked
counts_after_update-self-inside-requires-clause-unlinked g c =
    let f : unlinked_in (map_view c.self.inside.shape c.self.inside.parts) ≤ MAX_ENTRIES + MAX_SPARE =
    few-unlinked c.self.inside.shape c.self.inside.parts c.self.inside.counts.linked c.update.ensures.parted
    c.self.invariant.kept in
    let e : c.self.inside.counts.unlinked ≡ unlinked_in (map_view c.self.inside.shape c.self.inside.parts) = c.self.invariant.unlinked in
    omega arith

pub invariant_of-self-in-Ok : goal.invariant_of-self-in-Ok
invariant_of-self-in-Ok g c =
    let key : length c.args.key.now ≡ c.self.inside.shape.key_len = c.requires.key ∙ ap (λ (v : MapView). v.shape.key_len) (sym c.self.view_is) in
    let value : length c.args.value.now ≡ c.self.inside.shape.value_len = c.requires.value ∙ ap (λ (v : MapView). v.shape.value_len) (sym c.self.view_is) in
    let h = c.in-Ok.ensures.put in
    let room = subst (λ n. IfNone c.in-Ok.found (n < c.self.inside.shape.entries)) c.self.invariant.kept.count c.in-Ok.ensures.room in
    let kept = put-kept c.self.inside.parts c.update.new.self h.slot h.rest c.args.key.now c.args.value.now
    c.in-Ok.found h.new_is c.self.inside.shape c.self.inside.counts.linked c.self.invariant.kept
    c.in-Ok.ensures.found key value in
    let view = put-view c.self.inside.parts c.update.new.self h.slot h.rest c.args.key.now c.args.value.now c.in-Ok.found h.new_is c.self.inside.shape in
    subst (IsCounted c.self.inside.shape c.update.new.self) (sym c.counts_after_update-self-inside.ensures)
    (put-counted c.self.inside.shape c.self.inside.parts c.update.new.self h.slot h.rest c.args.key.now
    c.args.value.now c.in-Ok.found c.self.inside.counts c.self.invariant kept room view)

pub returns-in-Ok-clause-result : goal.returns-in-Ok-clause-result
returns-in-Ok-clause-result g c =
    sym (ap (λ r. r.0) (done g (goal.at.returns-in-Ok-clause-result g c).In-Ok))

pub returns-in-Ok-clause-new : goal.returns-in-Ok-clause-new
returns-in-Ok-clause-new g c =
    sym (ap (λ r. r.1) (done g (goal.at.returns-in-Ok-clause-new g c).In-Ok))
