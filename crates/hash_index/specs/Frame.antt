-- Buckets read nothing but their own slots.
use Rattle.std.proofs.Common.{◌≡◌, ◌∙◌, ℕ, ◌<◌, ◌≤◌, List, [], ◌∷◌, length, Option, Some, refl, sym}
use Rattle.std.proofs.Common.{ap, arith, subst}
use Rattle.std.specs.Prelude.{slice_get}
use Rattle.std.specs.FinMap.{from_entries}
use Rattle.element_store.specs.State.{ArenaState, IsTaken, SameAt, indexed, link_at, key_at}
use Rattle.element_store.specs.State.{times_in, entries_of, contents_of}
use Rattle.element_store.specs.Threads.{IsThread, walk, chain_of}
use Rattle.element_store.proofs.Counts.{times_first}
use Rattle.element_store.proofs.Threading.{thread-agree, walk-agree}
use Rattle.element_store.proofs.Indexing.{indexed-times}
use Rattle.hash_index.specs.Chains.{bucket_of, StandsBehind}
use Rattle.hash_index.specs.declared.buckets.Buckets.{Buckets}
use Rattle.hash_index.specs.declared.place.Place.{Place}
use Rattle.hash_index.specs.Buckets.{slots_from, chained_slots, contents_in, HeadsFit, BucketsFits}
use Rattle.hash_index.specs.Buckets.{buckets_place}
use Rattle.hash_index.specs.Many.{chain_among, slots-agree}

pub entries-agree : (f g : ℕ → List ℕ) (slots : List ℕ) →
    ((j : ℕ) → 0 < times_in j slots → g j ≡ f j) → entries_of g slots ≡ entries_of f slots
entries-agree f g [] h = refl
entries-agree f g (s ∷ slots) h =
    ap (λ (k : List ℕ). (k, s) ∷ entries_of g slots) (h s (times_first s slots))
    ∙ ap (λ es. (f s, s) ∷ es) (entries-agree f g slots (λ j p. h j (omega arith)))

-- heads fit an arena with the same keys and links at their slots, where both have n slots
framed : (heads : List (Option ℕ)) (a b : ArenaState) (n : ℕ) → length a.slots ≡ n →
    length b.slots ≡ n → HeadsFit heads a →
    ((j : ℕ) → 0 < times_in j (chained_slots heads a) → key_at b.slots j ≡ key_at a.slots j) →
    ((j : ℕ) → 0 < times_in j (chained_slots heads a) → link_at b.links j ≡ link_at a.links j) →
    ((j : ℕ) → 0 < times_in j (chained_slots heads a) → IsTaken b j) →
    HeadsFit heads b × (chained_slots heads b ≡ chained_slots heads a)
framed heads a b n la lb f key link taken =
    let l : length b.slots ≡ length a.slots = lb ∙ sym la in
    let one : slots_from (length a.slots) (link_at b.links) heads ≡ chained_slots heads a =
    slots-agree (length a.slots) (link_at a.links) (link_at b.links) heads link in
    let all : chained_slots heads b ≡ chained_slots heads a =
    ap (λ m. slots_from m (link_at b.links) heads) l ∙ one in
    let at : (k : ℕ) (o : Option ℕ) → slice_get heads k ≡ Some o → (j : ℕ) →
    0 < times_in j (chain_of a o) →
    0 < times_in j (chained_slots heads a) =
    λ k o h j p.
    let m : times_in j (chain_of a o)
    ≤ times_in j (chained_slots heads a) =
    chain_among (length a.slots) (link_at a.links) heads k o j h in
    omega arith in
    let same : (k : ℕ) (o : Option ℕ) → slice_get heads k ≡ Some o →
    chain_of b o ≡ chain_of a o =
    (λ k o h. ap (λ m. walk m (link_at b.links) o) l
    ∙ walk-agree (length a.slots) (link_at a.links) (link_at b.links) o
    (λ j p. link j (at k o h j p))) in (
      record {
        some = f.some;
        thread = λ k o h. subst (IsThread (link_at b.links) o) (sym (same k o h))
            (thread-agree (link_at a.links) (link_at b.links) o _ (λ j p. link j (at k o h j p))
            (f.thread k o h));
        home = λ k o h j p. let q : 0 < times_in j (chain_of a o) =
            subst (λ xs. 0 < times_in j xs) (same k o h) p in
            ap (bucket_of (length heads)) (key j (at k o h j q)) ∙ f.home k o h j q;
        once = λ j. subst (λ xs. times_in j xs ≤ 1) (sym all) (f.once j);
        taken = λ j h. taken j (subst (λ xs. 0 < times_in j xs) all h);
        unique = λ i j hi hj e. let pi : 0 < times_in i (chained_slots heads a) =
            subst (λ xs. 0 < times_in i xs) all hi in
            let pj : 0 < times_in j (chained_slots heads a) =
            subst (λ xs. 0 < times_in j xs) all hj in
            f.unique i j pi pj (sym (key i pi) ∙ (e ∙ key j pj));
      },
      all,
    )

pub own-times : (x : Buckets) (a : ArenaState) (j : ℕ) → BucketsFits x a →
    indexed (contents_in x a) a.slots j ≡ times_in j (chained_slots x.heads.items a)
own-times x a j f =
    indexed-times (key_at a.slots) (chained_slots x.heads.items a) j f.unique (f.once j)

pub buckets-frame : (x : Buckets) (a b : ArenaState) → BucketsFits x a →
    SameAt (indexed (contents_in x a) a.slots) a b →
    BucketsFits x b × (contents_in x b ≡ contents_in x a)
buckets-frame x a b f s =
    let own : (j : ℕ) → 0 < times_in j (chained_slots x.heads.items a) →
    0 < indexed (contents_in x a) a.slots j =
    λ j h. subst (λ n. 0 < n) (sym (own-times x a j f)) h in
    let r = framed x.heads.items a b (length a.slots) refl s.long f (λ j h. s.key j (own j h))
    (λ j h. s.link j (own j h)) (λ j h. s.taken j (own j h)) in (
      r.0,
      ap (contents_of (key_at b.slots)) r.1
          ∙ ap from_entries (entries-agree (key_at a.slots) (key_at b.slots)
          (chained_slots x.heads.items a) (λ j h. s.key j (own j h))),
    )

pub buckets-stays : (x : Buckets) (a b : ArenaState) (key : List ℕ) (p : Place) →
    BucketsFits x a → SameAt (indexed (contents_in x a) a.slots) a b → buckets_place x a key p →
    buckets_place x b key p
buckets-stays x a b key p f s h = record {
  home = h.home;
  behind = λ o t at e. subst (λ xs. StandsBehind xs p.last t) (sym (same o at)) (h.behind o t at e);
}
  where
    own : (j : ℕ) → 0 < times_in j (chained_slots x.heads.items a) →
        0 < indexed (contents_in x a) a.slots j
    own j h = subst (λ n. 0 < n) (sym (own-times x a j f)) h

    same : (o : Option ℕ) → slice_get x.heads.items p.home ≡ Some o → chain_of b o ≡ chain_of a o
    same o at = ap (λ m. walk m (link_at b.links) o) s.long
        ∙ walk-agree (length a.slots) (link_at a.links) (link_at b.links) o
        (λ j q. s.link j (own j (let m : times_in j (chain_of a o)
        ≤ times_in j (chained_slots x.heads.items a) =
        chain_among (length a.slots) (link_at a.links) x.heads.items p.home o j at in
        omega arith)))
