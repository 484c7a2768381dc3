-- What a change of one chain leaves of the buckets.
use Rattle.bpf_model.proofs.Prelude.{◌≡◌, ◌≢◌, ◌∙◌, ℕ, ◌+◌, ◌<◌, ◌≤◌, List, ◌∷◌, length, Option, Some, None, inl, inr, refl, sym, ap, arith, cond, eqb, subst}
use Rattle.bpf_model.proofs.Prelude.{slice_get, slice_set, same_Some, get, insert, remove, option_cases, length-set, get-set_other, get-set_cases}
use Rattle.bpf_model.proofs.Prelude.{option_flatten}
use Rattle.element_store.proofs.Prelude.{ArenaState, IsTaken, LinksOf, indexed, link_at, key_at, with_link, times_in, slot_of, contents_of, IsThread, walk}
use Rattle.element_store.proofs.Prelude.{chain_of}
use Rattle.element_store.proofs.Counts.{one_cases, one_same, length_once}
use Rattle.element_store.proofs.Threading.{walk-thread, thread-agree, walk-agree}
use Rattle.element_store.proofs.Views.{taken_same}
use Rattle.element_store.proofs.Indexing.{AreUnique, get-contents, slot_of-some, slot_of-absent, slot_of-none, slot_of-present, contents-insert}
use Rattle.element_store.proofs.Indexing.{contents-remove, unique-insert, unique-remove, times-get, indexed-times}
use Rattle.hash_index.specs.Chains.{IsChain, IsCut, bucket_of}
use Rattle.hash_index.proofs.Ordered.{absent_gone}
use Rattle.hash_index.specs.Buckets.{slots_from, chained_slots, HeadsFit}
use Rattle.hash_index.specs.Many.{chain_among, chains_apart, chain_having, slots-set}

pub home_chain : (heads : List (Option ℕ)) (a : ArenaState) (k : ℕ) (o : Option ℕ) → HeadsFit heads a → slice_get heads k ≡ Some o → IsChain a o
home_chain heads a k o f h = record {
  thread = f.thread k o h;
  taken = λ j p. f.taken j (let m : times_in j (chain_of a o) ≤ times_in j (chained_slots heads a) =
      chain_among (length a.slots) (link_at a.links) heads k o j h in omega arith);
}

-- a slot that has the key stands in the key's chain
pub at_home : (heads : List (Option ℕ)) (a : ArenaState) (o : Option ℕ) (j : ℕ) → HeadsFit heads a →
    slice_get heads (bucket_of (length heads) (key_at a.slots j)) ≡ Some o → 0 < times_in j (chained_slots heads a) →
    0 < times_in j (chain_of a o)
at_home heads a o j f h p =
    let r = chain_having (length a.slots) (link_at a.links) heads j p in
    let e : bucket_of (length heads) (key_at a.slots j) ≡ r.0 = f.home r.0 r.1 r.2 j r.3 in
    let same : r.1 ≡ o = same_Some _ _ (sym r.2 ∙ (ap (slice_get heads) (sym e) ∙ h)) in
    subst (λ q. 0 < times_in j (chain_of a q)) same r.3

pub lookup_home : (heads : List (Option ℕ)) (a : ArenaState) (k : List ℕ) (o : Option ℕ) → HeadsFit heads a →
    slice_get heads (bucket_of (length heads) k) ≡ Some o →
    slot_of (key_at a.slots) (chain_of a o) k ≡ get (contents_of (key_at a.slots) (chained_slots heads a)) k
lookup_home heads a k o f h = elim (option_cases (slot_of (key_at a.slots) (chain_of a o) k)) [
  | inl n ↦ n ∙ sym (get-contents (key_at a.slots) (chained_slots heads a) k ∙ slot_of-absent (key_at a.slots) (chained_slots heads a) k (λ j p e.
      slot_of-none (key_at a.slots) (chain_of a o) k j n (at_home heads a o j f (ap (λ q. slice_get heads (bucket_of (length heads) q)) e ∙ h) p) e))
  | inr s ↦
      let p = slot_of-some (key_at a.slots) (chain_of a o) k s.0 s.1 in
      let p0 : 0 < times_in s.0 (chain_of a o) = p.0 in
      let m : times_in s.0 (chain_of a o) ≤ times_in s.0 (chained_slots heads a) =
      chain_among (length a.slots) (link_at a.links) heads (bucket_of (length heads) k) o s.0 h in
      s.1 ∙ sym (get-contents (key_at a.slots) (chained_slots heads a) k ∙
      slot_of-present (key_at a.slots) (chained_slots heads a) k s.0 f.unique (omega arith) p.1)
]

-- what it takes to cut a slot that is linked out of its chain
pub record CanCut (heads : List (Option ℕ)) (a : ArenaState) (o : Option ℕ) (slot : ℕ) : Type 0 where
  pub chain : IsChain a o
  pub once : (j : ℕ) → times_in j (chain_of a o) ≤ 1
  pub held : 0 < times_in slot (chain_of a o)

pub can_cut : (heads : List (Option ℕ)) (a : ArenaState) (k : ℕ) (o : Option ℕ) (slot : ℕ) → HeadsFit heads a →
    slice_get heads k ≡ Some o → k ≡ bucket_of (length heads) (key_at a.slots slot) →
    get (contents_of (key_at a.slots) (chained_slots heads a)) (key_at a.slots slot) ≡ Some slot → CanCut heads a o slot
can_cut heads a k o slot f h at present = record {
  chain = home_chain heads a k o f h;
  once = λ j. let l : times_in j (chain_of a o) ≤ times_in j (chained_slots heads a) =
      chain_among (length a.slots) (link_at a.links) heads k o j h in let u : times_in j (chained_slots heads a) ≤ 1 =
      f.once j in omega arith;
  held = at_home heads a o slot f (ap (slice_get heads) (sym at) ∙ h) (times-get (key_at a.slots) (chained_slots heads a) (key_at a.slots slot) slot present).0;
}

module _ (heads : List (Option ℕ)) (a : ArenaState) (ls : List (Option ℕ)) (k : ℕ) (o p : Option ℕ) (ys : List ℕ) where
  changed_walk : IsThread (link_at ls) p ys → ((j : ℕ) → times_in j ys ≤ 1) →
      ((j : ℕ) → 0 < times_in j ys → IsTaken a j) → walk (length a.slots) (link_at ls) p ≡ ys
  changed_walk t once taken = walk-thread (link_at ls) p ys (length a.slots) t (length_once (length a.slots) ys once (λ j h. (taken j h).inside))

  pub changed_count : slice_get heads k ≡ Some o → IsThread (link_at ls) p ys → ((j : ℕ) → times_in j ys ≤ 1) → ((j : ℕ) → 0 < times_in j ys → IsTaken a j) →
      ((m : ℕ) (q : Option ℕ) → m ≢ k → slice_get heads m ≡ Some q → (j : ℕ) → 0 < times_in j (chain_of a q) → link_at ls j ≡ link_at a.links j) →
      (j : ℕ) → times_in j (chained_slots (slice_set heads k p) (record a { links = ls })) + times_in j (chain_of a o)
      ≡ times_in j (chained_slots heads a) + times_in j ys
  changed_count h t once taken others j =
      let e : times_in j (walk (length a.slots) (link_at ls) p) ≡ times_in j ys = ap (times_in j) (changed_walk t once taken) in
      let s : times_in j (slots_from (length a.slots) (link_at ls) (slice_set heads k p)) + times_in j (chain_of a o)
      ≡ times_in j (slots_from (length a.slots) (link_at a.links) heads) + times_in j
      (walk (length a.slots) (link_at ls) p) =
      slots-set (length a.slots) (link_at a.links) (link_at ls) heads k o p j h
      (λ m q ne at. walk-agree (length a.slots) (link_at a.links) (link_at ls) q (others m q ne at)) in
      omega arith

  pub changed_fits : HeadsFit heads a → slice_get heads k ≡ Some o → IsThread (link_at ls) p ys →
      ((j : ℕ) → times_in j ys ≤ 1) → ((j : ℕ) → 0 < times_in j ys → IsTaken a j) →
      ((j : ℕ) → 0 < times_in j ys → bucket_of (length heads) (key_at a.slots j) ≡ k) →
      ((m : ℕ) (q : Option ℕ) → m ≢ k → slice_get heads m ≡ Some q → (j : ℕ) → 0 < times_in j (chain_of a q) → link_at ls j ≡ link_at a.links j) →
      ((j : ℕ) → times_in j (chained_slots (slice_set heads k p) (record a { links = ls })) ≤ 1) →
      ((j : ℕ) → 0 < times_in j (chained_slots (slice_set heads k p) (record a { links = ls })) → IsTaken a j) →
      AreUnique (key_at a.slots) (chained_slots (slice_set heads k p) (record a { links = ls })) →
      HeadsFit (slice_set heads k p) (record a { links = ls })
  changed_fits f h t once taken home others all_once all_taken unique =
      let long : length (slice_set heads k p) ≡ length heads = length-set heads k p in
      let some : 0 < length heads = f.some in
      let w : walk (length a.slots) (link_at ls) p ≡ ys = changed_walk t once taken in
      record {
        some = omega arith;
        thread = λ m q at. elim (get-set_cases heads k m p q at) [
          | inl y ↦ subst (λ z. IsThread (link_at ls) z (walk (length a.slots) (link_at ls) z)) y.1 (subst (IsThread (link_at ls) p) (sym w) t)
          | inr n ↦ subst (IsThread (link_at ls) q) (sym
              (walk-agree (length a.slots) (link_at a.links) (link_at ls) q (others m q n.0 n.1)))
              (thread-agree (link_at a.links) (link_at ls) q _ (others m q n.0 n.1) (f.thread m q n.1))
        ];
        home = λ m q at j i. elim (get-set_cases heads k m p q at) [
          | inl y ↦
              let i' : 0 < times_in j ys = subst (λ xs. 0 < times_in j xs) w (subst (λ z. 0 < times_in j (walk (length a.slots) (link_at ls) z)) (sym y.1) i) in
              ap (λ n. bucket_of n (key_at a.slots j)) long ∙ (home j i' ∙ sym y.0)
          | inr n ↦
              let i' : 0 < times_in j (chain_of a q) =
              subst (λ xs. 0 < times_in j xs) (walk-agree (length a.slots) (link_at a.links) (link_at ls) q
              (others m q n.0 n.1)) i in
              ap (λ n. bucket_of n (key_at a.slots j)) long ∙ f.home m q n.1 j i'
        ];
        once = all_once;
        taken = λ j i. taken_same a (record a { links = ls }) j refl (all_taken j i);
        unique = unique;
      }

-- what it leaves that a slot joins at the head of its chain, and that one leaves its chain
pub record Linked (heads new : List (Option ℕ)) (a b : ArenaState) (slot : ℕ) : Type 0 where
  pub fits : HeadsFit new b
  pub contents : contents_of (key_at b.slots) (chained_slots new b) ≡ insert (contents_of (key_at a.slots) (chained_slots heads a)) (key_at a.slots slot) slot
  pub links : LinksOf (indexed (contents_of (key_at b.slots) (chained_slots new b)) b.slots) a b

pub record Unlinked (heads new : List (Option ℕ)) (a b : ArenaState) (slot : ℕ) : Type 0 where
  pub fits : HeadsFit new b
  pub contents : contents_of (key_at b.slots) (chained_slots new b) ≡ remove (contents_of (key_at a.slots) (chained_slots heads a)) (key_at a.slots slot)
  pub links : LinksOf (indexed (contents_of (key_at a.slots) (chained_slots heads a)) a.slots) a b

module _ (heads : List (Option ℕ)) (a : ArenaState) (ls : List (Option ℕ)) (k : ℕ) (o : Option ℕ) (slot : ℕ) where
  pub linked : HeadsFit heads a → slice_get heads k ≡ Some o → k ≡ bucket_of (length heads) (key_at a.slots slot) →
      IsTaken a slot → get (contents_of (key_at a.slots) (chained_slots heads a)) (key_at a.slots slot) ≡ None →
      link_at ls slot ≡ o → ((j : ℕ) → j ≢ slot → link_at ls j ≡ link_at a.links j) →
      Linked heads (slice_set heads k (Some slot)) a (record a { links = ls }) slot
  linked f h at t absent here there =
      let key : ℕ → List ℕ = key_at a.slots in
      let none : slot_of (key_at a.slots) (chained_slots heads a) (key_at a.slots slot) ≡ None =
      sym (get-contents (key_at a.slots) (chained_slots heads a) (key_at a.slots slot)) ∙ absent in
      let gone : times_in slot (chained_slots heads a) ≡ 0 = absent_gone a (chained_slots heads a) slot absent in
      let among : (m : ℕ) (q : Option ℕ) → slice_get heads m ≡ Some q → (j : ℕ) →
      times_in j (chain_of a q) ≤ times_in j (chained_slots heads a) = λ m q e j.
      chain_among (length a.slots) (link_at a.links) heads m q j e in
      let apart : (m : ℕ) (q : Option ℕ) → slice_get heads m ≡ Some q → (j : ℕ) → 0 < times_in j (chain_of a q) →
      j ≢ slot = λ m q e j i y. let i' : 0 < times_in slot (chain_of a q) =
      subst (λ z. 0 < times_in z (chain_of a q)) y i in let l : times_in slot (chain_of a q) ≤ times_in slot
      (chained_slots heads a) = among m q e slot in absurd (omega arith) in
      let th : IsThread (link_at ls) (Some slot) (slot ∷ chain_of a o) = (
        refl,
        subst (λ q. IsThread (link_at ls) q (chain_of a o)) (sym here)
            (thread-agree (link_at a.links) (link_at ls) o (chain_of a o) (λ j i. there j (apart k o h j i))
            (f.thread k o h)),
      ) in
      let zero_in : times_in slot (chain_of a o) ≡ 0 =
      (let l : times_in slot (chain_of a o) ≤ times_in slot (chained_slots heads a) =
      among k o h slot in omega arith) in
      let once : (j : ℕ) → times_in j (slot ∷ chain_of a o) ≤ 1 = (λ j. elim (one_cases slot j) [
        | inl y ↦ let z : times_in j (chain_of a o) ≡ 0 =
            subst (λ x. times_in x (chain_of a o) ≡ 0) y.0 zero_in in let c : cond {A = ℕ} (eqb slot j) 1 0 ≡ 1 =
            y.1 in omega arith
        | inr n ↦ let c : cond {A = ℕ} (eqb slot j) 1 0 ≡ 0 =
            n.1 in let l : times_in j (chain_of a o) ≤ times_in j (chained_slots heads a) =
            among k o h j in let u : times_in j (chained_slots heads a) ≤ 1 = f.once j in omega arith
      ]) in
      let taken : (j : ℕ) → 0 < times_in j (slot ∷ chain_of a o) → IsTaken a j = (λ j i. elim (one_cases slot j) [
        | inl y ↦ subst (IsTaken a) y.0 t
        | inr n ↦ let c : cond {A = ℕ} (eqb slot j) 1 0 ≡ 0 =
            n.1 in let l : times_in j (chain_of a o) ≤ times_in j (chained_slots heads a) =
            among k o h j in f.taken j (omega arith)
      ]) in
      let home : (j : ℕ) → 0 < times_in j (slot ∷ chain_of a o) → bucket_of (length heads) (key_at a.slots j) ≡ k = (λ j i. elim (one_cases slot j) [
        | inl y ↦ ap (λ z. bucket_of (length heads) (key_at a.slots z)) (sym y.0) ∙ sym at
        | inr n ↦ let c : cond {A = ℕ} (eqb slot j) 1 0 ≡ 0 = n.1 in f.home k o h j (omega arith)
      ]) in
      let others : (m : ℕ) (q : Option ℕ) → m ≢ k → slice_get heads m ≡ Some q → (j : ℕ) →
      0 < times_in j (chain_of a q) → link_at ls j ≡ link_at a.links j = λ m q ne e j i.
      there j (apart m q e j i) in
      let all : (j : ℕ) → times_in j (chained_slots (slice_set heads k (Some slot)) (record a { links = ls })) ≡
      times_in j (chained_slots heads a) + cond {A = ℕ} (eqb slot j) 1 0 =
      (λ j. let c : times_in j (chained_slots (slice_set heads k (Some slot)) (record a { links = ls })) + times_in j
      (chain_of a o) ≡ times_in j (chained_slots heads a) + times_in j (slot ∷ chain_of a o) =
      changed_count heads a ls k o (Some slot) (slot ∷ chain_of a o) h th once taken others j in omega arith) in
      let all_once : (j : ℕ) → times_in j (chained_slots (slice_set heads k (Some slot)) (record a { links = ls })) ≤ 1 = (λ j. elim (one_cases slot j) [
        | inl y ↦ let z : times_in j (chained_slots heads a) ≡ 0 =
            subst (λ x. times_in x (chained_slots heads a) ≡ 0) y.0 gone in let c : cond {A = ℕ} (eqb slot j) 1 0 ≡
            1 = y.1 in omega (arith, all j)
        | inr n ↦ let c : cond {A = ℕ} (eqb slot j) 1 0 ≡ 0 = n.1 in let u : times_in j (chained_slots heads a) ≤ 1 = f.once j in omega (arith, all j)
      ]) in
      let unique : AreUnique (key_at a.slots) (chained_slots (slice_set heads k (Some slot))
      (record a { links = ls })) = unique-insert (key_at a.slots) (chained_slots heads a) _ slot f.unique none
      all in
      record {
        fits = changed_fits heads a ls k o (Some slot) (slot ∷ chain_of a o) f h th once taken home others all_once
            (λ j i. elim (one_cases slot j) [
              | inl y ↦ subst (IsTaken a) y.0 t
              | inr n ↦ let c : cond {A = ℕ} (eqb slot j) 1 0 ≡ 0 = n.1 in f.taken j (omega (arith, all j))
            ]) unique;
        contents = contents-insert (key_at a.slots) (chained_slots heads a) _ slot f.unique none all;
        links = record {
          rest = refl;
          others = λ j z. there j (λ y.
              let own : indexed (contents_of (key_at a.slots)
              (chained_slots (slice_set heads k (Some slot)) (record a { links = ls }))) a.slots j ≡ times_in j
              (chained_slots (slice_set heads k (Some slot)) (record a { links = ls })) =
              indexed-times (key_at a.slots) _ j unique (all_once j) in
              let c : cond {A = ℕ} (eqb slot j) 1 0 ≡ 1 = subst (λ x. cond {A = ℕ} (eqb slot x) 1 0 ≡ 1) (sym y) (one_same slot) in
              absurd (omega (arith, all j)));
        };
      }

  -- a slot leaves its chain
  pub unlinked : (p : Option ℕ) → HeadsFit heads a → slice_get heads k ≡ Some o →
      k ≡ bucket_of (length heads) (key_at a.slots slot) →
      get (contents_of (key_at a.slots) (chained_slots heads a)) (key_at a.slots slot) ≡ Some slot →
      IsCut a (record a { links = ls }) o slot p → Unlinked heads (slice_set heads k p) a (record a { links = ls }) slot
  unlinked p f h at present c =
      let among : (m : ℕ) (q : Option ℕ) → slice_get heads m ≡ Some q → (j : ℕ) →
      times_in j (chain_of a q) ≤ times_in j (chained_slots heads a) = λ m q e j.
      chain_among (length a.slots) (link_at a.links) heads m q j e in
      let in_ : 0 < times_in slot (chained_slots heads a) = (times-get (key_at a.slots) (chained_slots heads a) (key_at a.slots slot) slot present).0 in
      let fewer : (j : ℕ) → times_in j (chain_of a o) ≡ times_in j c.left + cond {A = ℕ} (eqb slot j) 1 0 = c.fewer in
      let once : (j : ℕ) → times_in j c.left ≤ 1 = λ j.
      let l : times_in j (chain_of a o) ≤ times_in j (chained_slots heads a) =
      among k o h j in let u : times_in j (chained_slots heads a) ≤ 1 = f.once j in omega (arith, fewer j) in
      let taken : (j : ℕ) → 0 < times_in j c.left → IsTaken a j = λ j i.
      let l : times_in j (chain_of a o) ≤ times_in j (chained_slots heads a) =
      among k o h j in f.taken j (omega (arith, fewer j)) in
      let home : (j : ℕ) → 0 < times_in j c.left → bucket_of (length heads) (key_at a.slots j) ≡ k = λ j i. f.home k o h j (omega (arith, fewer j)) in
      let others : (m : ℕ) (q : Option ℕ) → m ≢ k → slice_get heads m ≡ Some q → (j : ℕ) → 0 < times_in j (chain_of a q) → link_at ls j ≡ link_at a.links j =
      (λ m q ne e j i. c.others j (let two : times_in j (chain_of a q) + times_in j (chain_of a o) ≤ times_in j
      (chained_slots heads a) = chains_apart (length a.slots) (link_at a.links) heads m k q o j ne e h in let u :
      times_in j (chained_slots heads a) ≤ 1 = f.once j in omega arith)) in
      let all : (j : ℕ) → times_in j (chained_slots heads a) ≡ times_in j
      (chained_slots (slice_set heads k p) (record a { links = ls })) + cond {A = ℕ} (eqb slot j) 1 0 =
      (λ j. let n : times_in j (chained_slots (slice_set heads k p) (record a { links = ls })) + times_in j
      (chain_of a o) ≡ times_in j (chained_slots heads a) + times_in j c.left =
      changed_count heads a ls k o p c.left h c.thread once taken others j in omega (arith, fewer j)) in
      let unique : AreUnique (key_at a.slots) (chained_slots (slice_set heads k p) (record a { links = ls })) =
      unique-remove (key_at a.slots) (chained_slots heads a) _ slot f.unique all in
      record {
        fits = changed_fits heads a ls k o p c.left f h c.thread once taken home others
            (λ j. let u : times_in j (chained_slots heads a) ≤ 1 = f.once j in omega (arith, all j))
            (λ j i. f.taken j (omega (arith, all j))) unique;
        contents = contents-remove (key_at a.slots) (chained_slots heads a) _ slot f.unique f.once all;
        links = record {
          rest = refl;
          others = λ j z. c.others j (
              let own : indexed (contents_of (key_at a.slots) (chained_slots heads a)) a.slots j ≡ times_in j
              (chained_slots heads a) = indexed-times (key_at a.slots) _ j f.unique (f.once j) in
              let l : times_in j (chain_of a o) ≤ times_in j (chained_slots heads a) = among k o h j in omega arith);
        };
      }

-- the slot joins its bucket's chain, in an arena that is the old one but for its links
pub linked_in : (heads : List (Option ℕ)) (a b : ArenaState) (k : ℕ) (o : Option ℕ) (slot : ℕ) → HeadsFit heads a →
    slice_get heads k ≡ Some o → k ≡ bucket_of (length heads) (key_at a.slots slot) → IsTaken a slot →
    get (contents_of (key_at a.slots) (chained_slots heads a)) (key_at a.slots slot) ≡ None →
    b ≡ with_link a slot o → link_at b.links slot ≡ o → Linked heads (slice_set heads k (Some slot)) a b slot
linked_in heads a b k o slot f h at t absent new here =
    let ls : List (Option ℕ) = slice_set a.links slot o in
    subst (λ z. Linked heads (slice_set heads k (Some slot)) a z slot) (sym new)
    (linked heads a (slice_set a.links slot o) k o slot f h at t absent
    (ap (λ (z : ArenaState). link_at z.links slot) (sym new) ∙ here)
    (λ j n. ap option_flatten (get-set_other a.links slot j o n)))

pub unlinked_in : (heads : List (Option ℕ)) (a b : ArenaState) (k : ℕ) (o p : Option ℕ) (slot : ℕ) → HeadsFit heads a
    → slice_get heads k ≡ Some o → k ≡ bucket_of (length heads) (key_at a.slots slot) →
    get (contents_of (key_at a.slots) (chained_slots heads a)) (key_at a.slots slot) ≡ Some slot →
    IsCut a b o slot p → Unlinked heads (slice_set heads k p) a b slot
unlinked_in heads a b k o p slot f h at present c =
    subst (λ z. Unlinked heads (slice_set heads k p) a z slot) (sym c.rest)
    (unlinked heads a b.links k o slot p f h at present (subst (λ z. IsCut a z o slot p) c.rest c))
