-- What the calls leave of threaded lists.
use Rattle.bpf_model.proofs.Prelude.{◌≡◌, ◌≢◌, ◌∙◌, ℕ, ◌+◌, ◌<◌, ◌≤◌, List, [], ◌∷◌, ◌++◌, Option, Some, None, inl, inr, refl, sym, ap, arith, cond, eqb}
use Rattle.bpf_model.proofs.Prelude.{subst, drop, IfSome, same_Some, append-nil, option_cases, Queues, turned, get-set_other, option_flatten}
use Rattle.element_store.proofs.Prelude.{ArenaState, IsTaken, LinksOf, link_at, times_in, with_link, queued, retired_lists, reaped_lists, IsThread}
use Rattle.element_store.proofs.Prelude.{last_slot_of, last_left, deferred_lists, IsLine, FitsAs, DeferredFits}
use Rattle.element_store.proofs.DeferredFrame.{line_agree}
use Rattle.element_store.proofs.Counts.{one_cases, one_same, times-append}
use Rattle.element_store.proofs.Views.{taken_same}
use Rattle.element_store.proofs.Threading.{thread-join, thread-some, last-none, last-held, last-append, left-last}
use Rattle.element_store.specs.declared.deferred.Line.{Line}
use Rattle.element_store.specs.declared.deferred.DeferredSlots.{DeferredSlots}
use Rattle.element_store.specs.Lines.{AreLinksJoined, joined_lines, joined_to, joined_from}

pub line_join : (f g : ℕ → Option ℕ) (front back : Line) (xs ys : List ℕ) → IsLine f front xs → IsLine g back ys → ((j : ℕ) → times_in j xs ≤ 1) →
    ((l : ℕ) → front.last ≡ Some l → g l ≡ back.first) → ((j : ℕ) → front.last ≢ Some j → g j ≡ f j) → IsLine g (joined_lines front back) (xs ++ ys)
line_join f g front back xs ys t u once at others = elim (option_cases front.last) [
  | inl none ↦
      let e : xs ≡ [] = last-none xs (sym t.ends ∙ none) in
      let j : joined_lines front back ≡ back = ap (λ o. joined_from o front back) none in
      subst (λ l. IsLine g l (xs ++ ys)) (sym j) (subst (λ zs. IsLine g back (zs ++ ys)) (sym e) u)
  | inr some ↦
      let l : ℕ = some.0 in
      let e : front.last ≡ Some some.0 = some.1 in
      let j : joined_lines front back ≡ joined_to front back.last = ap (λ o. joined_from o front back) some.1 in
      let th : IsThread g front.first (xs ++ ys) = thread-join f g front.first back.first xs ys some.0 t.thread
      (sym t.ends ∙ some.1) once (at some.0 some.1)
      (λ k h n. others k (λ y. n (same_Some k some.0 (sym y ∙ some.1)))) u.thread in
      subst (λ z. IsLine g z (xs ++ ys)) (sym j) (elim (option_cases back.last) [
        | inl none ↦
            let ye : ys ≡ [] = last-none ys (sym u.ends ∙ none) in
            let same : last_slot_of (xs ++ ys) ≡ last_slot_of xs = ap (λ zs. last_slot_of (xs ++ zs)) ye ∙ ap last_slot_of (append-nil xs) in
            subst (λ o. IsLine g (joined_to front o) (xs ++ ys)) (sym none) (record { thread = th; ends = t.ends ∙ sym same })
        | inr m ↦ subst (λ o. IsLine g (joined_to front o) (xs ++ ys)) (sym m.1) (record { thread = th; ends = sym (last-append xs ys m.0 (sym u.ends ∙ m.1)) })
      ])
]

-- the last slot of a list is one of its slots
last_in : (f : ℕ → Option ℕ) (l : Line) (xs : List ℕ) (j : ℕ) → IsLine f l xs → l.last ≡ Some j → 0 < times_in j xs
last_in f l xs j t e = last-held xs j (sym t.ends ∙ e)

pub retired_fits : (x : DeferredSlots) (a m b : ArenaState) (slot : ℕ) → DeferredFits x a → IsTaken a slot →
    queued (deferred_lists x a) slot ≡ 0 → m ≡ with_link a slot None → link_at m.links slot ≡ None →
    AreLinksJoined m b x.next.last (Some slot) →
    FitsAs (record {
      next = joined_lines x.next (record { first = Some slot; last = Some slot });
      waiting = x.waiting;
      ready = x.ready;
    }) b (retired_lists (deferred_lists x a) slot) ×
    LinksOf (queued (retired_lists (deferred_lists x a) slot)) a b
retired_fits x a m b slot f t apart e1 l1 j1 =
    let q : Queues = deferred_lists x a in
    let not_slot : (j : ℕ) → 0 < queued (deferred_lists x a) j → j ≢ slot = λ j h y.
    let h' : 0 < queued (deferred_lists x a) slot =
    subst (λ z. 0 < queued (deferred_lists x a) z) y h in absurd (omega arith) in
    let in_next : (j : ℕ) → x.next.last ≡ Some j → 0 < times_in j (deferred_lists x a).next = λ j h.
    last_in (link_at a.links) x.next (deferred_lists x a).next j f.next h in
    let m_other : (j : ℕ) → j ≢ slot → link_at m.links j ≡ link_at a.links j = λ j n.
    ap (λ (z : ArenaState). link_at z.links j) e1 ∙ ap option_flatten (get-set_other a.links slot j None n) in
    let b_other : (j : ℕ) → j ≢ slot → x.next.last ≢ Some j → link_at b.links j ≡ link_at a.links j = λ j n k. j1.others j k ∙ m_other j n in
    let last_not : x.next.last ≢ Some slot = λ y. let h : 0 < times_in slot (deferred_lists x a).next = in_next slot y in absurd (omega arith) in
    let rest : b ≡ record a { links = b.links } = j1.rest ∙
    (let ls : List (Option ℕ) = b.links in ap (λ (z : ArenaState). let r : ArenaState =
    record z { links = b.links } in r) e1) in
    let more : (j : ℕ) → times_in j ((deferred_lists x a).next ++ slot ∷ []) ≡ times_in j (deferred_lists x a).next +
    (cond {A = ℕ} (eqb slot j) 1 0 + 0) = λ j. times-append j (deferred_lists x a).next (slot ∷ []) in (
      record {
        next = line_join (link_at m.links) (link_at b.links) x.next (record { first = Some slot; last = Some slot }) (deferred_lists x a).next (slot ∷ [])
            (line_agree (link_at a.links) (link_at m.links) x.next (deferred_lists x a).next f.next (λ j h. m_other j (not_slot j (omega arith))))
            (record { thread = (refl, j1.others slot last_not ∙ l1); ends = refl })
            (λ j. let o : queued (deferred_lists x a) j ≤ 1 = f.once j in omega arith)
            j1.at_last
            j1.others;
        waiting = line_agree (link_at a.links) (link_at b.links) x.waiting (deferred_lists x a).waiting f.waiting
            (λ j h. b_other j (not_slot j (omega arith))
            (λ y. let i : 0 < times_in j (deferred_lists x a).next =
            in_next j y in let o : queued (deferred_lists x a) j ≤ 1 = f.once j in absurd (omega arith)));
        ready = line_agree (link_at a.links) (link_at b.links) x.ready (deferred_lists x a).ready f.ready
            (λ j h. b_other j (not_slot j (omega arith))
            (λ y. let i : 0 < times_in j (deferred_lists x a).next =
            in_next j y in let o : queued (deferred_lists x a) j ≤ 1 = f.once j in absurd (omega arith)));
        once = λ j. elim (one_cases slot j) [
          | inl y ↦ let z : queued (deferred_lists x a) j ≡ 0 =
              subst (λ k. queued (deferred_lists x a) k ≡ 0) y.0 apart in let o : cond {A = ℕ} (eqb slot j) 1 0 ≡ 1 =
              y.1 in omega (arith, more j)
          | inr n ↦ let z : queued (deferred_lists x a) j ≤ 1 = f.once j in let o : cond {A = ℕ} (eqb slot j) 1 0 ≡ 0 = n.1 in omega (arith, more j)
        ];
        taken = λ j h. elim (one_cases slot j) [
          | inl y ↦ taken_same a b j rest (subst (λ k. IsTaken a k) y.0 t)
          | inr n ↦ let o : cond {A = ℕ} (eqb slot j) 1 0 ≡ 0 = n.1 in taken_same a b j rest (f.taken j (omega (arith, more j)))
        ];
      },
      record {
        rest = rest;
        others = λ j h. b_other j (λ y. let o : cond {A = ℕ} (eqb slot j) 1 0 ≡ 1 =
            subst (λ z. cond {A = ℕ} (eqb slot z) 1 0 ≡ 1) (sym y) (one_same slot) in absurd (omega (arith, more j)))
            (λ y. let i : 0 < times_in j (deferred_lists x a).next = in_next j y in absurd (omega (arith, more j)));
      },
    )

pub turned_fits : (x : DeferredSlots) (a b : ArenaState) → DeferredFits x a → AreLinksJoined a b x.ready.last x.waiting.first →
    FitsAs (record {
      next = record { first = None; last = None };
      waiting = x.next;
      ready =
          joined_lines x.ready x.waiting;
    }) b (turned (deferred_lists x a)) × LinksOf (queued (deferred_lists x a)) a b
turned_fits x a b f j1 =
    let in_ready : (j : ℕ) → x.ready.last ≡ Some j → 0 < times_in j (deferred_lists x a).ready = λ j h.
    last_in (link_at a.links) x.ready (deferred_lists x a).ready j f.ready h in
    let more : (j : ℕ) → times_in j ((deferred_lists x a).ready ++ (deferred_lists x a).waiting) ≡ times_in j
    (deferred_lists x a).ready + times_in j (deferred_lists x a).waiting = λ j.
    times-append j (deferred_lists x a).ready (deferred_lists x a).waiting in (
      record {
        next = record { thread = refl; ends = refl };
        waiting = line_agree (link_at a.links) (link_at b.links) x.next (deferred_lists x a).next f.next
            (λ j h. j1.others j (λ y. let i : 0 < times_in j (deferred_lists x a).ready =
            in_ready j y in let o : queued (deferred_lists x a) j ≤ 1 = f.once j in absurd (omega arith)));
        ready = line_join (link_at a.links) (link_at b.links) x.ready x.waiting (deferred_lists x a).ready (deferred_lists x a).waiting f.ready
            (line_agree (link_at a.links) (link_at b.links) x.waiting (deferred_lists x a).waiting f.waiting
            (λ j h. j1.others j (λ y. let i : 0 < times_in j (deferred_lists x a).ready =
            in_ready j y in let o : queued (deferred_lists x a) j ≤ 1 = f.once j in absurd (omega arith))))
            (λ j. let o : queued (deferred_lists x a) j ≤ 1 = f.once j in omega arith)
            j1.at_last
            j1.others;
        once = λ j. let o : queued (deferred_lists x a) j ≤ 1 = f.once j in omega (arith, more j);
        taken = λ j h. taken_same a b j j1.rest (f.taken j (omega (arith, more j)));
      },
      record {
        rest = j1.rest;
        others = λ j h. j1.others j (λ y. let i : 0 < times_in j (deferred_lists x a).ready = in_ready j y in absurd (omega arith));
      },
    )

pub reaped_fits : (x : DeferredSlots) (a : ArenaState) (slot : ℕ) → DeferredFits x a → x.ready.first ≡ Some slot →
    FitsAs (record {
      next = x.next;
      waiting = x.waiting;
      ready =
          record { first = link_at a.links slot; last = last_left (link_at a.links slot) x.ready.last };
    }) a
    (reaped_lists (deferred_lists x a)) × (0 < queued (deferred_lists x a) slot)
reaped_fits x a slot f e =
    let s = thread-some (link_at a.links) x.ready.first (deferred_lists x a).ready slot f.ready.thread e in
    let ys : List ℕ = s.0 in
    let split : (deferred_lists x a).ready ≡ slot ∷ s.0 = s.1 in
    let left : drop 1 (deferred_lists x a).ready ≡ s.0 = ap (λ (l : List ℕ). drop 1 l) split in
    let count : (j : ℕ) → times_in j (deferred_lists x a).ready ≡ cond {A = ℕ} (eqb slot j) 1 0 + times_in j s.0 = λ j. ap (times_in j) split in
    let fewer : (j : ℕ) → times_in j (drop 1 (deferred_lists x a).ready) ≡ times_in j s.0 = λ j. ap (times_in j) left in (
      record {
        next = f.next;
        waiting = f.waiting;
        ready = subst (λ l. IsLine (link_at a.links) (record {
          first = link_at a.links slot;
          last =
              last_left (link_at a.links slot) x.ready.last;
        }) l) (sym left)
            (record {
              thread = s.2;
              ends = left-last (link_at a.links) slot x.ready.last (link_at a.links slot) s.0
                  s.2 (f.ready.ends ∙ ap last_slot_of split);
            });
        once = λ j. let o : queued (deferred_lists x a) j ≤ 1 = f.once j in omega (arith, count j, fewer j);
        taken = λ j h. f.taken j (omega (arith, count j, fewer j));
      },
      omega (arith, count slot, one_same slot),
    )

taken_last : (a : ArenaState) (l : Line) (xs : List ℕ) → IsLine (link_at a.links) l xs →
    ((j : ℕ) → 0 < times_in j xs → IsTaken a j) → (o : Option ℕ) → l.last ≡ o → (b : ArenaState) →
    b ≡ record a { links = b.links } → IfSome o (λ j. IsTaken b j)
taken_last a l xs t taken None e b r = tt
taken_last a l xs t taken (Some j) e b r = taken_same a b j r (taken j (last_in (link_at a.links) l xs j t e))

-- the last slot of each list is taken
pub record LastsAreTaken (x : DeferredSlots) (b : ArenaState) : Type 0 where
  pub next : IfSome x.next.last (λ j. IsTaken b j)
  pub waiting : IfSome x.waiting.last (λ j. IsTaken b j)
  pub ready : IfSome x.ready.last (λ j. IsTaken b j)

pub lasts_taken : (x : DeferredSlots) (a b : ArenaState) → DeferredFits x a → b ≡ record a { links = b.links } → LastsAreTaken x b
lasts_taken x a b f r = record {
  next = taken_last a x.next (deferred_lists x a).next f.next (λ j h. f.taken j (omega arith)) x.next.last refl b r;
  waiting = taken_last a x.waiting (deferred_lists x a).waiting f.waiting (λ j h. f.taken j (omega arith)) x.waiting.last refl b r;
  ready = taken_last a x.ready (deferred_lists x a).ready f.ready (λ j h. f.taken j (omega arith)) x.ready.last refl b r;
}
