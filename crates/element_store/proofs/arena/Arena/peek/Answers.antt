use Rattle.bpf_model.proofs.Prelude.{◌∙◌, ◌<◌, ◌≤◌, ℕ, List, Some, sym, ap, subst, length, rules, arith, refl, slice_get_read, same_Some}
use Rattle.bpf_model.specs.declared.limits.TheConstants.{KEY_BYTES, VALUE_BYTES}
use Rattle.element_store.proofs.Slots.{inside_to, key-short, value-short, generation_is, generation_past}
use Rattle.element_store.proofs.arena.Arena.peek.Goals.{else-tag-len-via-then-tag-len+else-index-tag, else-tag-len-via-else-tag-len}
use Rattle.element_store.proofs.arena.Arena.peek.Goals as goal

pub key-requires : goal.key-requires
key-requires c =
    let s = c.self.inside in
    let w : c.args.tag.slot < length s.cells.items = search rules in
    inside_to s.key_len s.value_len s.limit s.cells.items s.first s.keys.items s.values.items c.args.tag.slot c.args.self.now c.self.view_is w

pub value-requires : goal.value-requires
value-requires c =
    let s = c.self.inside in
    let w : c.args.tag.slot < length s.cells.items = search rules in
    inside_to s.key_len s.value_len s.limit s.cells.items s.first s.keys.items s.values.items c.args.tag.slot c.args.self.now c.self.view_is w

pub array_of-requires : goal.array_of-requires
array_of-requires c =
    let s = c.self.inside in
    let w : c.args.tag.slot < length s.cells.items = search rules in
    let short = key-short s.key_len s.value_len s.limit s.cells.items s.first s.keys.items s.values.items c.args.tag.slot c.args.self.now c.self.view_is w in
    let e : length c.key.result.now ≤ s.key_len = subst (λ (l : List ℕ). length l ≤ s.key_len) (sym c.key.ensures) short in
    let b : s.key_len ≤ KEY_BYTES = c.self.invariant.1.key_bound in
    omega arith

pub array_of-requires-then-index-tag : goal.array_of-requires-then-index-tag
array_of-requires-then-index-tag c =
    let s = c.self.inside in
    let w : c.args.tag.slot < length s.cells.items = search rules in
    let short = value-short s.key_len s.value_len s.limit s.cells.items s.first s.keys.items s.values.items c.args.tag.slot c.args.self.now c.self.view_is w in
    let e : length c.value.result.now ≤ s.value_len = subst (λ (l : List ℕ). length l ≤ s.value_len) (sym c.value.ensures) short in
    let b : s.value_len ≤ VALUE_BYTES = c.self.invariant.1.value_bound in
    omega arith

pub returns-then-index-tag-clause-same : goal.returns-then-index-tag-clause-same
returns-then-index-tag-clause-same c =
    let s = c.self.inside in
    let w : c.args.tag.slot < length s.cells.items = search rules in
    let at = slice_get_read s.cells.items (length s.cells.items) c.args.tag.slot c.index.result.now refl w c.index.ensures in
    generation_is s.key_len s.value_len s.limit s.cells.items s.first s.keys.items s.values.items c.args.tag.slot
    c.args.self.now c.index.result.now c.self.view_is at ∙ ap (λ g. Some g) c.if-index-tag.true

pub returns-else-tag-len-clause-stale : goal.returns-else-tag-len-clause-stale
returns-else-tag-len-clause-stale c =
    let s = c.self.inside in
    elim c.else-tag-len.branch [
      | else-tag-len-via-then-tag-len+else-index-tag v ↦ λ e.
          let w : c.args.tag.slot < length s.cells.items = search rules in
          let at = slice_get_read s.cells.items (length s.cells.items) c.args.tag.slot v.index.result.now refl w v.index.ensures in
          v.if-index-tag.false (same_Some _ _ (sym (generation_is s.key_len s.value_len s.limit s.cells.items s.first
          s.keys.items s.values.items c.args.tag.slot c.args.self.now v.index.result.now c.self.view_is at) ∙ e))
      | else-tag-len-via-else-tag-len v ↦
          let w : length s.cells.items ≤ c.args.tag.slot = search rules in
          generation_past s.key_len s.value_len s.limit s.cells.items s.first s.keys.items s.values.items
          c.args.tag.slot c.args.self.now c.args.tag.generation c.self.view_is w
    ]
