use Rattle.bpf_model.proofs.Prelude.{◌≡◌, ◌∙◌, ◌<◌, sym, ap, subst, arith, length, cond, slice_get, MapView}
use Rattle.element_store.proofs.Prelude.{key_at, worn_at, is_last_use, given_back, reaped_lists}
use Rattle.model_laws.proofs.Prelude.{Given, Free, Worn, given_at, reaped_view}
use Rattle.map_kinds.specs.Counting.{IsCounted}
use Rattle.map_kinds.specs.Parted.{PartsView}
use Rattle.map_kinds.specs.Shown.{map_view}
use Rattle.map_kinds.proofs.Counting.{reaped-counted}
use Rattle.map_kinds.proofs.Leaving.{given-is, reaped-shown}
use Rattle.map_kinds.proofs.hash_map.HashMapMapTable.reap.Given.{Over}
use Rattle.map_kinds.proofs.hash_map.HashMapMapTable.reap.Goals.{In-Some}
use Rattle.map_kinds.proofs.hash_map.HashMapMapTable.reap.Goals as goal

-- the slot that was reaped is one of the arena's, and not worn
unworn : (g : Over) (c : In-Some g) → (worn_at c.self.inside.parts.arena.worn c.in-Some.slot ≡ 0)
    × (c.in-Some.slot < length c.self.inside.parts.arena.worn)
unworn g c =
    let held = c.in-Some.ensures.held in
    let parted = c.in-Some.ensures.parted in
    let in_slots : c.in-Some.slot < length c.reap.new.self.arena.slots = held.taken.inside in
    let flags : length c.reap.new.self.arena.worn ≡ length c.reap.new.self.arena.slots = parted.flags in
    let in_worn : c.in-Some.slot < length c.reap.new.self.arena.worn = omega arith in (
      ap (λ (p : PartsView). worn_at p.arena.worn c.in-Some.slot) (sym c.in-Some.ensures.new) ∙ held.taken.not_worn,
      subst (λ (p : PartsView). c.in-Some.slot < length p.arena.worn) c.in-Some.ensures.new in_worn,
    )

pub returns-in-Some-clause-some : goal.returns-in-Some-clause-some
returns-in-Some-clause-some g c =
    let one = unworn g (goal.at.returns-in-Some-clause-some g c).In-Some in
    record {
      slot = c.in-Some.slot;
      first = ap (λ (v : MapView). slice_get v.ready 0) (sym c.self.view_is) ∙ sym c.in-Some.ensures.first;
      key_is = c.array_of-key.ensures ∙ (c.key.ensures ∙
          (ap (λ (p : PartsView). key_at p.arena.slots c.in-Some.slot) c.in-Some.ensures.new ∙
          ap (λ (v : MapView). key_at v.slots c.in-Some.slot) c.self.view_is));
      given_is =
          c.give-given.ensures.given
          ∙ (ap (λ (p : PartsView). cond {A = Given} (is_last_use p.arena c.in-Some.slot) Worn Free) c.in-Some.ensures.new
          ∙ (sym (given-is c.self.inside.shape c.self.inside.parts c.in-Some.slot c.reap.new.self.arena.links c.self.invariant.kept.arena)
          ∙ ap (λ (v : MapView). given_at v c.in-Some.slot) c.self.view_is));
      new_is =
          ap (map_view c.self.inside.shape) c.give-given.ensures.new
          ∙ (ap (λ (p : PartsView). map_view c.self.inside.shape
          (record { index = p.index; lists = p.lists; arena = given_back p.arena c.in-Some.slot }))
          c.in-Some.ensures.new
          ∙ (reaped-shown c.self.inside.shape c.self.inside.parts c.in-Some.slot c.reap.new.self.arena.links c.self.invariant.kept.arena one.0 one.1
          ∙ ap (λ (v : MapView). reaped_view v c.in-Some.slot) c.self.view_is));
    }

pub invariant_of-self-in-Some : goal.invariant_of-self-in-Some
invariant_of-self-in-Some g c =
    let one = unworn g (goal.at.invariant_of-self-in-Some g c).In-Some in
    let is : c.give-given.new.self ≡ record {
      index = c.self.inside.parts.index;
      lists =
          reaped_lists c.self.inside.parts.lists;
      arena =
          given_back (record c.self.inside.parts.arena { links = c.reap.new.self.arena.links }) c.in-Some.slot;
    } =
    c.give-given.ensures.new ∙ ap (λ (p : PartsView). let q : PartsView =
    record { index = p.index; lists = p.lists; arena = given_back p.arena c.in-Some.slot } in q)
    c.in-Some.ensures.new in
    let given : c.give-given.result ≡ given_at (map_view c.self.inside.shape c.self.inside.parts) c.in-Some.slot =
    c.give-given.ensures.given
    ∙ (ap (λ (p : PartsView). cond {A = Given} (is_last_use p.arena c.in-Some.slot) Worn Free) c.in-Some.ensures.new
    ∙ sym (given-is c.self.inside.shape c.self.inside.parts c.in-Some.slot c.reap.new.self.arena.links c.self.invariant.kept.arena)) in
    subst (IsCounted c.self.inside.shape c.give-given.new.self) (sym c.counts_after_reap-self-inside.ensures)
    (reaped-counted c.self.inside.shape c.self.inside.parts c.give-given.new.self c.in-Some.slot
    c.reap.new.self.arena.links c.give-given.result c.self.inside.counts c.self.invariant
    (sym c.in-Some.ensures.first) is given
    (ap (map_view c.self.inside.shape) is ∙ reaped-shown c.self.inside.shape c.self.inside.parts c.in-Some.slot
    c.reap.new.self.arena.links c.self.invariant.kept.arena one.0 one.1))
