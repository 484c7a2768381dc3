use Rattle.bpf_model.proofs.Prelude.{◌≡◌, ◌∙◌, ◌<◌, length, arith, ap, sym, slice_index_or, slice_get-get_or, same_Some, slice_get_within, same_key-true}
use Rattle.bpf_model.proofs.Prelude.{same_key-false}
use Rattle.element_store.proofs.Prelude.{key_at}
use Rattle.hash_index.specs.Held.{held_at}
use Rattle.hash_index.proofs.position.standing.Goals as goal
use Rattle.hash_index.proofs.position.standing.Goals.{else-at-slots-via-then-at-slots+else-has_key, else-at-slots-via-else-at-slots}

pub has_key-requires : goal.has_key-requires
has_key-requires c = c.requires.within _ (held_at c.args.slots.now _ _ (slice_get-get_or c.args.slots.now c.args.at 0 c.if-at-slots.true))

pub returns-then-has_key-clause-some : goal.returns-then-has_key-clause-some
returns-then-has_key-clause-some c = slice_get-get_or c.args.slots.now c.args.at 0 c.if-at-slots.true

pub returns-then-has_key-clause-same : goal.returns-then-has_key-clause-same
returns-then-has_key-clause-same c = sym (same_key-true _ _ (sym c.has_key.ensures ∙ c.if-has_key.true))

pub returns-clause-none : goal.returns-clause-none
returns-clause-none c s at e = elim c.else-at-slots.branch [
  | else-at-slots-via-then-at-slots+else-has_key w ↦
      let same : slice_index_or c.args.slots.now c.args.at 0 ≡ s =
      same_Some _ s (sym (slice_get-get_or c.args.slots.now c.args.at 0 w.if-at-slots.true) ∙ at) in
      same_key-false _ _ (sym w.has_key.ensures ∙ w.if-has_key.false) (sym (ap (key_at c.args.arena.now.slots) same ∙ e))
  | else-at-slots-via-else-at-slots w ↦
      let in_ : c.args.at < length c.args.slots.now = slice_get_within c.args.slots.now c.args.at s at in
      omega (arith, w.if-at-slots.false)
]
