-- Steps along a chain.
use Rattle.bpf_model.proofs.Prelude.{◌≡◌, ◌≢◌, ◌∙◌, ℕ, zero, suc, ◌+◌, ◌<◌, ◌≤◌, List, [], ◌∷◌, ◌++◌, length, Option, Some, None, refl, sym, ap, arith, cond}
use Rattle.bpf_model.proofs.Prelude.{eqb, subst, append_assoc, cond-false, false_from_ne_true, get-set_other, same_key-true, option_flatten}
use Rattle.element_store.proofs.Prelude.{ArenaState, IsTaken, link_at, key_at, with_link, times_in, slot_of, IsThread, walk, chain_of}
use Rattle.element_store.proofs.Counts.{one_same, times-append}
use Rattle.element_store.proofs.Threading.{walk-thread, thread-some, thread-skip}
use Rattle.hash_index.specs.Chains.{IsChain, IsBefore, IsCut, StandsBehind}

pub walk_none : (n : ℕ) (next : ℕ → Option ℕ) → walk n next None ≡ []
walk_none zero next = refl
walk_none (suc n) next = refl

pub walk_short : (n : ℕ) (next : ℕ → Option ℕ) (o : Option ℕ) → length (walk n next o) ≤ n
walk_short zero next o = omega arith
walk_short (suc n) next None = omega arith
walk_short (suc n) next (Some i) = omega (arith, walk_short n next (next i))

-- a walk that ends goes on from its first slot
pub walk_step : (n : ℕ) (next : ℕ → Option ℕ) (i : ℕ) → IsThread next (Some i) (walk n next (Some i)) →
    (walk n next (Some i) ≡ i ∷ walk n next (next i)) × IsThread next (next i) (walk n next (next i))
walk_step n next i t =
    let s = thread-some next (Some i) (walk n next (Some i)) i t refl in
    let long : length (walk n next (Some i)) ≡ suc (length s.0) = ap (λ (l : List ℕ). length l) s.1 in
    let same : walk n next (next i) ≡ s.0 = walk-thread next (next i) s.0 n s.2 (omega (arith, walk_short n next (Some i))) in
    (s.1 ∙ ap (λ l. i ∷ l) (sym same), subst (IsThread next (next i)) (sym same) s.2)

pub chain_step : (a : ArenaState) (i : ℕ) → IsChain a (Some i) →
    (chain_of a (Some i) ≡ i ∷ chain_of a (link_at a.links i)) × IsChain a (link_at a.links i) × IsTaken a i
chain_step a i c =
    let s = walk_step (length a.slots) (link_at a.links) i c.thread in
    let count : (j : ℕ) → times_in j (chain_of a (Some i)) ≡ cond {A = ℕ} (eqb i j) 1 0 + times_in j
    (chain_of a (link_at a.links i)) = λ j. ap (times_in j) s.0 in
    (s.0, record { thread = s.1; taken = λ j h. c.taken j (omega (arith, count j)) }, c.taken i (omega (arith, count i, one_same i)))

pub chain_at : (a : ArenaState) (o : Option ℕ) (i : ℕ) → IsChain a o → o ≡ Some i → IsChain a (Some i)
chain_at a o i c e = subst (IsChain a) e c

pub searched : (a : ArenaState) (first o r : Option ℕ) (i : ℕ) (k : List ℕ) → IsChain a o → o ≡ Some i → r ≡ link_at a.links i → key_at a.slots i ≢ k →
    slot_of (key_at a.slots) (chain_of a first) k ≡ slot_of (key_at a.slots) (chain_of a o) k → IsChain a r ×
    (slot_of (key_at a.slots) (chain_of a first) k ≡ slot_of (key_at a.slots) (chain_of a r) k)
searched a first o r i k c e next ne same =
    let s = chain_step a i (chain_at a o i c e) in (
      subst (IsChain a) (sym next) s.1,
      same ∙ (ap (λ p. slot_of (key_at a.slots) (chain_of a p) k) e
          ∙ (ap (λ xs. slot_of (key_at a.slots) xs k) s.0
          ∙ (cond-false _ _ _ (false_from_ne_true _ (λ y. ne (sym (same_key-true k (key_at a.slots i) y))))
          ∙ ap (λ p. slot_of (key_at a.slots) (chain_of a p) k) (sym next)))),
    )

pub shorter : (a : ArenaState) (o r : Option ℕ) (i : ℕ) → IsChain a o → o ≡ Some i → r ≡ link_at a.links i → length (chain_of a r) < length (chain_of a o)
shorter a o r i c e next =
    let s = chain_step a i (chain_at a o i c e) in
    let l : length (chain_of a o) ≡ suc (length (chain_of a (link_at a.links i))) = ap (λ p. length (chain_of a p)) e ∙ ap (λ (xs : List ℕ). length xs) s.0 in
    let m : length (chain_of a r) ≡ length (chain_of a (link_at a.links i)) = ap (λ p. length (chain_of a p)) next in
    omega arith

-- a chain up to the last slot that was passed, and the rest
abbrev pub IsWalked : List ℕ → Option ℕ → List ℕ → Type 0
IsWalked chain None rest = chain ≡ rest
IsWalked chain (Some last) rest = (front : List ℕ) × (chain ≡ front ++ last ∷ rest)

pub walked_found : (chain : List ℕ) (last : Option ℕ) (slot : ℕ) (rest tail : List ℕ) → rest ≡ slot ∷ tail →
    IsWalked chain last rest → StandsBehind chain last slot
walked_found chain None slot rest tail e w = (tail, w ∙ e)
walked_found chain (Some l) slot rest tail e w = record { front = w.0; back = tail; split = w.1 ∙ ap (λ xs. w.0 ++ l ∷ xs) e }

pub walked_on : (chain : List ℕ) (last : Option ℕ) (slot : ℕ) (rest tail : List ℕ) → rest ≡ slot ∷ tail →
    IsWalked chain last rest → IsWalked chain (Some slot) tail
walked_on chain None slot rest tail e w = ([], w ∙ e)
walked_on chain (Some l) slot rest tail e w = (w.0 ++ l ∷ [], w.1 ∙ (ap (λ xs. w.0 ++ l ∷ xs) e ∙ sym (append_assoc w.0 (l ∷ []) (slot ∷ tail))))

-- what is left of a chain at a slot
pub rest_at : (a : ArenaState) (o r : Option ℕ) (i : ℕ) → IsChain a o → o ≡ Some i → r ≡ link_at a.links i → chain_of a o ≡ i ∷ chain_of a r
rest_at a o r i c e next = ap (chain_of a) e ∙ ((chain_step a i (chain_at a o i c e)).0 ∙ ap (λ p. i ∷ chain_of a p) (sym next))

pub before_in : (chain : List ℕ) (last slot : ℕ) → IsBefore chain last slot → (0 < times_in last chain) × (0 < times_in slot chain)
before_in chain last slot p =
    let count : (j : ℕ) → times_in j chain ≡ times_in j (p.front ++ last ∷ slot ∷ p.back) = λ j. ap (times_in j) p.split in (
      omega (arith, count last, times-append last p.front (last ∷ slot ∷ p.back), one_same last),
      omega (arith, count slot, times-append slot p.front (last ∷ slot ∷ p.back), one_same slot),
    )

pub cut_after : (a b : ArenaState) (first : Option ℕ) (last slot : ℕ) (r : Option ℕ) → IsChain a first →
    ((j : ℕ) → times_in j (chain_of a first) ≤ 1) → IsBefore (chain_of a first) last slot → r ≡ link_at a.links slot →
    b ≡ with_link a last r → link_at b.links last ≡ r →
    IsCut a b first slot first
cut_after a b first last slot r c once p next new linked =
    let at : (j : ℕ) → j ≢ last → link_at b.links j ≡ link_at a.links j = λ j n.
    ap (λ (z : ArenaState). link_at z.links j) new ∙ ap option_flatten (get-set_other a.links last j r n) in
    let count : (j : ℕ) → times_in j (chain_of a first) ≡ times_in j (p.front ++ last ∷ slot ∷ p.back) = λ j. ap (times_in j) p.split in
    let in_ : 0 < times_in last (chain_of a first) = (before_in _ last slot p).0 in
    record {
      rest = new ∙ ap (λ (z : ArenaState). let w : ArenaState = record a { links = z.links } in w) (sym new);
      others = λ j h. at j (λ y. let z : times_in last (chain_of a first) ≡ 0 = subst (λ k. times_in k (chain_of a first) ≡ 0) y h in absurd (omega arith));
      left = p.front ++ last ∷ p.back;
      thread = thread-skip (link_at a.links) (link_at b.links) first p.front p.back last slot
          (subst (IsThread (link_at a.links) first) p.split c.thread)
          (λ j. let o : times_in j (chain_of a first) ≤ 1 = once j in omega (arith, count j)) (linked ∙ next)
          (λ j h n m. at j n);
      fewer = λ j. omega (arith, count j, times-append j p.front (last ∷ slot ∷ p.back), times-append j p.front (last ∷ p.back));
    }

pub cut_first : (a : ArenaState) (first : Option ℕ) (slot : ℕ) (r : Option ℕ) → IsChain a first →
    StandsBehind (chain_of a first) None slot → r ≡ link_at a.links slot → IsCut a a first slot r
cut_first a first slot r c p next =
    let t : IsThread (link_at a.links) first (slot ∷ p.0) = subst (IsThread (link_at a.links) first) p.1 c.thread in
    record {
      rest = refl;
      others = λ j h. refl;
      left = p.0;
      thread = subst (λ o. IsThread (link_at a.links) o p.0) (sym next) t.1;
      fewer = λ j. let count : times_in j (chain_of a first) ≡ cond {A = ℕ} (eqb slot j) 1 0 + times_in j p.0 = ap (times_in j) p.1 in omega arith;
    }

pub stands_in : (chain : List ℕ) (last : Option ℕ) (slot : ℕ) → StandsBehind chain last slot → 0 < times_in slot chain
stands_in chain None slot p = let count : times_in slot chain ≡ cond {A = ℕ} (eqb slot slot) 1 0 + times_in slot p.0 =
    ap (times_in slot) p.1 in omega (arith, one_same slot)
stands_in chain (Some last) slot p = (before_in chain last slot p).1
