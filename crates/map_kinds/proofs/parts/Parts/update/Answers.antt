use Rattle.bpf_model.proofs.Prelude.{◌≡◌, ◌∙◌, ◌∷◌, ℕ, Some, sym, ap, subst}
use Rattle.element_store.proofs.Prelude.{ArenaState, key_at, retired_lists, deferred_lists}
use Rattle.std.specs.FinMap as map
use Rattle.map_kinds.specs.Parted.{PartsView, IsInHand}
use Rattle.map_kinds.specs.Updated.{with_taken}
use Rattle.map_kinds.proofs.Becoming.{Become, parts_over}
use Rattle.map_kinds.proofs.Moves.{taken-agree, taken-step, put-step, retired-step}
use Rattle.map_kinds.proofs.Replacing.{links-on, put-new, put-again}
use Rattle.map_kinds.proofs.parts.Parts.update.Given.{Over}
use Rattle.map_kinds.proofs.parts.Parts.update.Goals.{In-Some-take, After-link, After-retire}
use Rattle.map_kinds.proofs.parts.Parts.update.Goals as goal

-- the parts once a slot was taken: as before, but for the arena, and the slot is in hand under the key
taken : (g : Over) (c : In-Some-take g) → Become g.row.I.Denot g.I.Index.contents g.I.Index.fits c.self.inside.index
    c.self.inside.deferred c.take.new.self (record {
      index = g.I.Index.contents c.self.inside.index c.self.inside.arena;
      lists = deferred_lists c.self.inside.deferred c.self.inside.arena;
      arena = c.take.new.self;
    }) × (IsInHand (parts_over g.row.I.Denot g.I.Index.contents g.I.Index.fits c.self.inside.index c.self.inside.deferred c.take.new.self)
    c.in-Some-take.slot × (key_at c.take.new.self.slots c.in-Some-take.slot ≡ c.args.key.now))
taken g c = taken-step g.row.I.Denot g.I.Index.contents g.I.Index.fits g.met.I.Index.frame c.self.inside.index
    c.self.inside.deferred c.self.inside.arena c.take.new.self c.in-Some-take.slot c.take.new.self.free
    c.args.key.now c.args.value.now c.self.invariant c.in-Some-take.ensures.slot c.in-Some-take.ensures.new

-- the slot that the key has
found : (g : Over) (c : In-Some-take g) → map.get (g.I.Index.contents c.self.inside.index c.take.new.self)
    (key_at c.take.new.self.slots c.in-Some-take.slot) ≡ c.find-place.result.slot
found g c =
    let t = taken g c in
    ap (λ m. map.get m (key_at c.take.new.self.slots c.in-Some-take.slot)) (ap (λ (p : PartsView). p.index) t.0.1) ∙
    (ap (map.get (g.I.Index.contents c.self.inside.index c.self.inside.arena)) t.1.1 ∙ sym c.find-place.ensures.slot)

-- the parts were those before, with the slot taken from the head of the free ones
was_taken : (g : Over) (c : In-Some-take g) → parts_over g.row.I.Denot g.I.Index.contents g.I.Index.fits c.self.inside.index
    c.self.inside.deferred c.take.new.self
    ≡ with_taken c.args.self.now c.in-Some-take.slot c.take.new.self.free c.args.key.now c.args.value.now
was_taken g c = (taken g c).0.1 ∙ (ap (λ (z : ArenaState). let r : PartsView =
    record {
      index = g.I.Index.contents c.self.inside.index c.self.inside.arena;
      lists =
          deferred_lists c.self.inside.deferred c.self.inside.arena;
      arena = z;
    } in r) c.in-Some-take.ensures.new ∙
    ap (λ (p : PartsView). with_taken p c.in-Some-take.slot c.take.new.self.free c.args.key.now c.args.value.now)
    c.self.view_is)

first : (g : Over) (c : In-Some-take g) → c.args.self.now.arena.free ≡ c.in-Some-take.slot ∷ c.take.new.self.free
first g c = ap (λ (p : PartsView). p.arena.free) (sym c.self.view_is) ∙ c.in-Some-take.ensures.slot

-- the parts once it was linked: the slot that the key had is in hand
linked : (g : Over) (c : After-link g) → Become g.row.I.Denot g.I.Index.contents g.I.Index.fits c.link.new.self
    c.self.inside.deferred c.link.new.arena (record {
      index = map.insert (g.I.Index.contents c.self.inside.index c.take.new.self)
          (key_at c.take.new.self.slots c.in-Some-take.slot) c.in-Some-take.slot;
      lists = deferred_lists c.self.inside.deferred c.take.new.self;
      arena = c.link.new.arena;
    }) × ((old : ℕ) → c.find-place.result.slot ≡ Some old →
    IsInHand (parts_over g.row.I.Denot g.I.Index.contents g.I.Index.fits c.link.new.self c.self.inside.deferred c.link.new.arena) old)
linked g c =
    let at = (goal.at.After-link g c).In-Some-take in
    let t = taken g at in
    put-step g.row.I.Denot g.I.Index.contents g.I.Index.fits g.met.I.Index.frame c.self.inside.index
    c.link.new.self c.self.inside.deferred c.take.new.self c.link.new.arena c.in-Some-take.slot
    c.find-place.result.slot t.0.0 t.1.0 (found g at) c.link.ensures.contents c.link.ensures.fits c.link.ensures.links

-- the parts once that slot was retired
retired : (g : Over) (c : After-retire g) → Become g.row.I.Denot g.I.Index.contents g.I.Index.fits c.link.new.self
    c.retire.new.self c.retire.new.arena (record {
      index = g.I.Index.contents c.link.new.self c.link.new.arena;
      lists = retired_lists (deferred_lists c.self.inside.deferred c.link.new.arena) c.in-Some-slot.old;
      arena = c.retire.new.arena;
    })
retired g c =
    let p = linked g (goal.at.After-retire g c).After-link in
    retired-step g.row.I.Denot g.I.Index.contents g.I.Index.fits g.met.I.Index.frame c.link.new.self
    c.self.inside.deferred c.retire.new.self c.link.new.arena c.retire.new.arena c.in-Some-slot.old p.0.0
    (p.1 c.in-Some-slot.old c.in-Some-slot.is) c.retire.ensures.lists c.retire.ensures.fits c.retire.ensures.links

pub link-requires-clause-fits : goal.link-requires-clause-fits
link-requires-clause-fits g c = (taken g (goal.at.link-requires-clause-fits g c).In-Some-take).0.0.0.0

pub link-requires-clause-apart : goal.link-requires-clause-apart
link-requires-clause-apart g c = (taken g (goal.at.link-requires-clause-apart g c).In-Some-take).1.0.unlinked

pub link-requires-clause-place : goal.link-requires-clause-place
link-requires-clause-place g c =
    let same = taken-agree g.row.I.Denot g.I.Index.contents g.I.Index.fits g.met.I.Index.frame c.self.inside.index
    c.self.inside.deferred c.self.inside.arena c.take.new.self c.in-Some-take.slot c.take.new.self.free
    c.args.key.now c.args.value.now c.self.invariant.1 c.in-Some-take.ensures.slot c.in-Some-take.ensures.new in
    subst (λ k. g.I.Index.is_place c.self.inside.index c.take.new.self k c.find-place.result)
    (sym (taken g (goal.at.link-requires-clause-place g c).In-Some-take).1.1)
    (g.met.I.Index.stays c.self.inside.index c.self.inside.arena c.take.new.self c.args.key.now
    c.find-place.result c.self.invariant.0.0 same.0 c.find-place.ensures.place)

pub link-requires-clause-found : goal.link-requires-clause-found
link-requires-clause-found g c = sym (found g (goal.at.link-requires-clause-found g c).In-Some-take)

pub invariant_of-self-in-None-slot : goal.invariant_of-self-in-None-slot
invariant_of-self-in-None-slot g c = (linked g (goal.at.invariant_of-self-in-None-slot g c).After-link).0.0

pub retire-requires-clause-fits : goal.retire-requires-clause-fits
retire-requires-clause-fits g c = (linked g (goal.at.retire-requires-clause-fits g c).After-link).0.0.0.1

pub retire-requires-clause-taken : goal.retire-requires-clause-taken
retire-requires-clause-taken g c = ((linked g (goal.at.retire-requires-clause-taken g c).After-link).1 c.in-Some-slot.old c.in-Some-slot.is).taken

pub retire-requires-clause-apart : goal.retire-requires-clause-apart
retire-requires-clause-apart g c = ((linked g (goal.at.retire-requires-clause-apart g c).After-link).1 c.in-Some-slot.old c.in-Some-slot.is).unlisted

pub invariant_of-self-in-Some-slot : goal.invariant_of-self-in-Some-slot
invariant_of-self-in-Some-slot g c = (retired g (goal.at.invariant_of-self-in-Some-slot g c).After-retire).0

pub returns-in-None-slot-clause-put : goal.returns-in-None-slot-clause-put
returns-in-None-slot-clause-put g c =
    let at = (goal.at.returns-in-None-slot-clause-put g c).In-Some-take in
    let p = linked g (goal.at.returns-in-None-slot-clause-put g c).After-link in
    put-new _ _ _ c.in-Some-take.slot c.take.new.self.free c.args.key.now c.args.value.now (first g at) (was_taken g at)
    (taken g at).1.1 c.link.ensures.links.rest p.0.1

pub returns-in-Some-slot-clause-put : goal.returns-in-Some-slot-clause-put
returns-in-Some-slot-clause-put g c =
    let at = (goal.at.returns-in-Some-slot-clause-put g c).In-Some-take in
    let p = linked g (goal.at.returns-in-Some-slot-clause-put g c).After-link in
    let q = retired g (goal.at.returns-in-Some-slot-clause-put g c).After-retire in
    put-again _ _ _ c.in-Some-take.slot c.take.new.self.free c.args.key.now c.args.value.now (first g at) (was_taken g at)
    (taken g at).1.1
    (links-on c.take.new.self c.link.new.arena c.retire.new.arena c.link.ensures.links.rest
    c.retire.ensures.links.rest) c.in-Some-slot.old
    (q.1 ∙ ap (λ (p : PartsView). let r : PartsView =
    record { index = p.index; lists = retired_lists p.lists c.in-Some-slot.old; arena = c.retire.new.arena } in r)
    p.0.1)
