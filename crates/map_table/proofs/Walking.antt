-- What a reader that meets a way finds there.
use Rattle.table_words.proofs.Prelude.{◌≡◌, ℕ, ◌<◌, List, [], ◌∷◌, ◌++◌, length, refl, sym, ap, ◌∙◌, subst, inl, inr, append_cancel_right, slice_index}
use Rattle.table_words.proofs.Prelude.{Names, moves_of, key_of, IsLawful, FoundIn, HadWord, StaysInside, LookedAt, Meets}
use Rattle.map_table.proofs.Prelude.{Move, Open, Close, Learn, Load, Store, Put, Double, Scan, TableShape, View, layout_of, Holder, Goes, Went, IsKnown}
use Rattle.map_table.proofs.Prelude.{Reads}
use Rattle.table_words.proofs.Steps.{key_word, key_is}
use Rattle.table_words.proofs.Looks.{moves_append}
use Rattle.table_words.proofs.Moments.{searches_inside}
use Rattle.table_words.proofs.Walks.{meets_linked}
use Rattle.map_table.proofs.Going.{goes_known}
use Rattle.map_table.proofs.Lookups.{Only, only_append, found_back, had_front}
use Rattle.map_table.proofs.Loading.{reads_had}

-- the holder's part of a stretch
own_stretch : (v w : View) (ms : List Move) → IsKnown v → (g : Went v (ms ++ v.mine) w) → moves_of v.me g.0 ≡ ms
own_stretch v w ms known g =
    let seen : w.seen ≡ g.0 ++ v.seen = ap (λ (z : View). z.seen) g.1 in
    append_cancel_right (moves_of v.me g.0) ms v.mine
    (ap (λ z. moves_of v.me g.0 ++ z) (sym known.1) ∙ (sym (moves_append v.me g.0 v.seen) ∙ (ap (moves_of v.me) (sym seen) ∙ g.3)))

-- a way that was learnt first was learnt
pub learnt_first : (way word : ℕ) (ns : List Move) → LookedAt way (ns ++ Learn way word ∷ [])
learnt_first way word [] = inl refl
learnt_first way word (Open ∷ ns) = learnt_first way word ns
learnt_first way word (Close ∷ ns) = learnt_first way word ns
learnt_first way word (Learn w x ∷ ns) = inr (learnt_first way word ns)
learnt_first way word (Load e p x ∷ ns) = learnt_first way word ns
learnt_first way word (Store e p x ∷ ns) = learnt_first way word ns
learnt_first way word (Put w x ∷ ns) = learnt_first way word ns
learnt_first way word (Double f w x ∷ ns) = learnt_first way word ns
learnt_first way word (Scan r x ∷ ns) = learnt_first way word ns

-- an element whose key was loaded was linked under it when its way was learnt
pub meets_way : (k : TableShape) (s t : Holder) (loads : List Move) (key : List ℕ) (way word element : ℕ) → t.view.shape ≡ k → IsKnown s.view →
    Goes s (loads ++ Learn way word ∷ []) t → Only k loads → Names word element → Reads element 0 key k.key_words loads → length key ≡ k.key_words →
    (late : List (ℕ × Move)) × (t.view.seen ≡ late ++ s.view.seen) × Meets (layout_of k) 0 key s.view.me way element late s.view.seen
meets_way k s t loads key way word element shape known g only names reads count =
    let L = layout_of k in
    let first : List Move = Learn way word ∷ [] in
    let late = g.went.0 in
    let early = s.view.seen in
    let who = s.view.me in
    let seen : t.view.seen ≡ late ++ early = ap (λ (z : View). z.seen) g.went.1 in
    let moves = sym (own_stretch s.view t.view (loads ++ first) known g.went) in
    let lawful : IsLawful L (late ++ early) = subst (IsLawful L) seen
    (subst (λ (z : TableShape). IsLawful (layout_of z) t.view.seen) shape (goes_known s t (loads ++ first) g).0) in
    let found = subst (FoundIn way element) moves (found_back way element loads first (inl (refl, names))) in
    let stays = subst StaysInside moves (searches_inside L 0 (loads ++ first) (only_append k loads first only tt)) in
    let met = meets_linked L who way element late early lawful stays found in
    let had : (p : ℕ) → p < k.key_words → HadWord element p (slice_index key p) (moves_of who late) = λ p low.
    subst (HadWord element p (slice_index key p)) moves
    (had_front element p (slice_index key p) loads first (reads_had element key k.key_words loads reads p low)) in
    let same : key_of L element (late ++ early) ≡ key = key_is L element key (late ++ early) count
    (λ p low. met.3 p (slice_index key p) low (had p low) ∙ key_word L element p (late ++ early) low) in
    (late, seen, subst (λ z. Meets L 0 z who way element late early) same met.1)
