-- Totals never go back.
use Rattle.bpf_model.proofs.Prelude.{◌≡◌, suc, ◌≤◌, List, [], ◌∷◌, Bool, true, false, refl, sym, ap, subst, arith, not, count_by, none-some, same_Some}
use Rattle.bpf_model.proofs.Prelude.{Element, Life, Linked, Unlinked, Reclaimed, is_linked, is_reclaimed, IsReal, WorldView}
use Rattle.model_laws.proofs.Prelude.{Event, IsLaterLife, IsLaterElement, ElementsGrow}
use Rattle.world_laws.proofs.Prelude.{full_reaction, IsWorld}
use Rattle.model_laws.proofs.Growing.{only-reclaimed}
use Rattle.model_laws.proofs.Stepping.{elements_only_grow}
use Rattle.model_laws.proofs.Tallies.{count-cons, one_of}
use Rattle.world_laws.proofs.Worlds.{simulates}
use Rattle.shared_books.specs.Totals.{ever_reclaimed, ever_unlinked, reclaimed_total, unlinked_total}
use Rattle.shared_books.proofs.CountingUnlinked.{unlinked_is_machines, reclaimed_is_machines}

one-grows : (a b : Bool) → (a ≡ true → b ≡ true) → one_of a ≤ one_of b
one-grows false b h = omega arith
one-grows true b h = let e : one_of b ≡ 1 = ap one_of (h refl) in omega (arith, e)

count-grows : (p : Element → Bool) → ((e f : Element) → IsLaterElement e f → p e ≡ true → p f ≡ true) →
    (old new : List Element) → ElementsGrow old new → count_by p old ≤ count_by p new
count-grows p keeps [] new g = omega arith
count-grows p keeps (e ∷ old) [] g = let first = g 0 e refl in absurd (none-some first.0 first.1)
count-grows p keeps (e ∷ old) (f ∷ new) g =
    let first = g 0 e refl in
    let later : IsLaterElement e f = subst (IsLaterElement e) (sym (same_Some f first.0 first.1)) first.2 in
    let one = one-grows (p e) (p f) (keeps e f later) in
    let rest = count-grows p keeps old new (λ n x at. g (suc n) x at) in
    let a = count-cons p e old in
    let b = count-cons p f new in
    omega (arith, one, rest, a, b)

stays-unlinked : (a b : Life) → IsLaterLife a b → not (is_linked a) ≡ true → not (is_linked b) ≡ true
stays-unlinked Linked b h t = absurd (cc)
stays-unlinked (Unlinked s) Linked h t = absurd h
stays-unlinked (Unlinked s) (Unlinked u) h t = refl
stays-unlinked (Unlinked s) Reclaimed h t = refl
stays-unlinked Reclaimed Linked h t = absurd h
stays-unlinked Reclaimed (Unlinked u) h t = absurd h
stays-unlinked Reclaimed Reclaimed h t = refl

stays-reclaimed : (a b : Life) → IsLaterLife a b → is_reclaimed a ≡ true → is_reclaimed b ≡ true
stays-reclaimed Linked b h t = absurd (cc)
stays-reclaimed (Unlinked s) b h t = absurd (cc)
stays-reclaimed Reclaimed b h t = ap is_reclaimed (only-reclaimed Reclaimed b refl h)

pub unlinked_grows : (w : WorldView) (event : Event) → IsWorld w → IsReal event → unlinked_total w ≤ unlinked_total (full_reaction w event).1
unlinked_grows w event is real =
    let next = simulates w is.schedule event is.tracks is.ready real in
    let m = is.schedule.machine in
    let grow = elements_only_grow m next.0.machine event (full_reaction w event).0 next.1.step in
    let more : ever_unlinked m ≤ ever_unlinked next.0.machine =
    count-grows (λ e. not (is_linked e.life)) (λ e f later. stays-unlinked e.life f.life later.life)
    m.store.elements next.0.machine.store.elements grow in
    let before = unlinked_is_machines w m (is.schedule, refl, is.tracks) in
    let after = unlinked_is_machines (full_reaction w event).1 next.0.machine (next.0, refl, next.2) in
    omega (arith, more, before, after)

pub reclaimed_grows : (w : WorldView) (event : Event) → IsWorld w → IsReal event → reclaimed_total w ≤ reclaimed_total (full_reaction w event).1
reclaimed_grows w event is real =
    let next = simulates w is.schedule event is.tracks is.ready real in
    let m = is.schedule.machine in
    let grow = elements_only_grow m next.0.machine event (full_reaction w event).0 next.1.step in
    let more : ever_reclaimed m ≤ ever_reclaimed next.0.machine =
    count-grows (λ e. is_reclaimed e.life) (λ e f later. stays-reclaimed e.life f.life later.life)
    m.store.elements next.0.machine.store.elements grow in
    let before = reclaimed_is_machines w m (is.schedule, refl, is.tracks) in
    let after = reclaimed_is_machines (full_reaction w event).1 next.0.machine (next.0, refl, next.2) in
    omega (arith, more, before, after)
