-- What reclaiming leaves.
use Rattle.table_words.proofs.Prelude.{◌≡◌, ℕ, zero, suc, ◌+◌, ◌<◌, ◌≤◌, List, ◌++◌, length, get_or, sym, ap, ◌∙◌, subst, ⊎_elim, arith, take, drop}
use Rattle.table_words.proofs.Prelude.{slice_index, All, length-drop, length-take-le, get_or-drop, get_or_default, take-append-drop, Cleared}
use Rattle.map_table.proofs.Prelude.{Move, View, Sighting, sighting_at, AreSightings, Least, AreCleared, IsHeldUp, times_in, IsFree, IsUnlinked, IsWriter}
use Rattle.std.proofs.lemmas.List.{get_or-take}
use Rattle.map_table.proofs.Members.{times_append, all_append}
use Rattle.map_table.proofs.Seen.{Looked}

-- of the first members of a list
all_taken : (P Q : ℕ → Type 0) (count : ℕ) (xs : List ℕ) → count ≤ length xs → ((at : ℕ) → at < count → P (get_or xs at 0) → Q (get_or xs at 0)) →
    All P xs → All Q (take count xs)
all_taken P Q count xs few to all k d l =
    let long = length-take-le count xs few in
    let low : k < count = omega (arith, l, long) in
    let within : k < length xs = omega (arith, low, few) in
    let is : get_or (take count xs) k d ≡ get_or xs k 0 = get_or-take count xs k d low ∙ get_or_default xs k d 0 within in
    subst Q (sym is) (to k low (all k 0 within))

-- of the others
all_dropped : (P Q : ℕ → Type 0) (count : ℕ) (xs : List ℕ) → ((at : ℕ) → count ≤ at → at < length xs → P (get_or xs at 0) → Q (get_or xs at 0)) →
    All P xs → All Q (drop count xs)
all_dropped P Q count xs to all k d l =
    let long = length-drop count xs in
    let within : count + k < length xs = omega (arith, l, long) in
    let is : get_or (drop count xs) k d ≡ get_or xs (count + k) 0 = get_or-drop count xs k d ∙ get_or_default xs (count + k) d 0 within in
    subst Q (sym is) (to (count + k) (omega arith) within (all (count + k) 0 within))

module _ (v : View) (ways free unlinked : List ℕ) (seen : List Sighting) (count : ℕ) (b : IsWriter v ways free unlinked) (a : AreSightings v unlinked seen)
    (least : Least count seen (length unlinked)) where
  cleared_at : (at : ℕ) → at < count → AreCleared v.shape.readers (slice_index unlinked at) v.mine
  cleared_at at low zero some within = absurd (omega (arith, some))
  cleared_at at low (suc r) some within =
      let room = a.room in
      let most = least.most_is in
      let few = least.each r (omega (arith, within, room)) in
      let same : r + 1 ≡ suc r = omega arith in
      subst (λ z. Cleared z (slice_index unlinked at) v.mine) same
      (((a.each r (omega (arith, within))).cleared at (omega (arith, low, most))).0 (omega (arith, low, few)))

  pub all_cleared : All (λ e. AreCleared v.shape.readers e v.mine) (take count unlinked)
  all_cleared = all_taken (IsUnlinked v) (λ e. AreCleared v.shape.readers e v.mine) count unlinked least.most_is
      (λ at low u. cleared_at at low) b.are_unlinked

  pub freed_writer : IsWriter v ways (free ++ take count unlinked) (drop count unlinked)
  freed_writer = record {
    me = b.me;
    known = b.known;
    sized = b.sized;
    count = b.count;
    are_ways = b.are_ways;
    are_free = all_append (IsFree v) free (take count unlinked) b.are_free
        (all_taken (IsUnlinked v) (IsFree v) count unlinked least.most_is (λ at low u. (u.0, (u.1, cleared_at at low))) b.are_unlinked);
    are_unlinked = all_dropped (IsUnlinked v) (IsUnlinked v) count unlinked (λ at high low u. u) b.are_unlinked;
    once = λ e.
        let p = times_append e free (take count unlinked) in
        let q = times_append e (take count unlinked) (drop count unlinked) in
        let s = ap (times_in e) (take-append-drop count unlinked) in
        let o = b.once e in omega (arith, p, q, s, o);
  }

  -- a reader that holds an element up
  held_at : (ms : List Move) (at : ℕ) → Looked v.shape.readers (length unlinked) seen ms → count ≤ at → at < length unlinked →
      IsHeldUp v.shape.readers (slice_index unlinked at) ms v.mine
  held_at ms at looked high low = ⊎_elim
      (λ (all : count ≡ length unlinked). absurd (omega (arith, all, high, low)))
      (λ (one : (r : ℕ) × (r < length seen) × ((sighting_at seen r).cleared ≡ count)).
      let room = a.room in
      let below = one.1 in
      let is = one.2 in
      let within : one.0 < v.shape.readers = omega (arith, below, room) in
      record {
        reader = one.0 + 1;
        some = omega arith;
        within = omega (arith, within);
        never = λ c. let few = ((a.each one.0 within).cleared at low).1 c in absurd (omega (arith, few, is, high));
        inside = ⊎_elim (λ (z : (sighting_at seen one.0).cleared ≡ length unlinked). absurd (omega (arith, z, is, high, low))) (λ f. f) (looked one.0 within);
      })
      least.one

  pub all_held : (ms : List Move) → Looked v.shape.readers (length unlinked) seen ms → All (λ e. IsHeldUp v.shape.readers e ms v.mine) (drop count unlinked)
  all_held ms looked = all_dropped (IsUnlinked v) (λ e. IsHeldUp v.shape.readers e ms v.mine) count unlinked
      (λ at high low u. held_at ms at looked high low) b.are_unlinked
