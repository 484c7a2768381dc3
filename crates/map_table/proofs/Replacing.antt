-- A key stays linked while its element is replaced.
use Rattle.table_words.proofs.Prelude.{◌≡◌, ℕ, zero, suc, List, [], ◌∷◌, ◌++◌, refl, sym, ap, ◌∙◌, subst, inr, append_assoc, append_cancel_right, dite}
use Rattle.table_words.proofs.Prelude.{ℕ_discrete, Layout, Names, moves_of, key_of, MayDo, IsLawful, IsLinkedUnder, BearsKey, KeepsKey, OnlyReplaces}
use Rattle.map_table.proofs.Prelude.{Move, Open, Close, Learn, Load, Store, Put, Double, Scan, TableShape, View, layout_of, Went, IsKnown, Fills, StaysIn}
use Rattle.table_words.proofs.Looks.{moves_append}
use Rattle.table_words.proofs.Steps.{own, others}
use Rattle.table_words.proofs.Writing.{only_replaced}
use Rattle.map_table.proofs.Going.{went_known}
use Rattle.map_table.proofs.Own.{keys_stay}
use Rattle.map_table.proofs.Filling.{own_list, went_shape, went_me, head_of, tail_of}

-- none of the moves puts a word in a way
abbrev NoPuts : List Move → Type 0
NoPuts [] = Unit {0}
NoPuts (Put w x ∷ ms) = ⊥
NoPuts (_ ∷ ms) = NoPuts ms

no_puts_rest : (m : Move) (ms : List Move) → NoPuts (m ∷ ms) → NoPuts ms
no_puts_rest Open ms h = h
no_puts_rest Close ms h = h
no_puts_rest (Learn w x) ms h = h
no_puts_rest (Load e p x) ms h = h
no_puts_rest (Store e p x) ms h = h
no_puts_rest (Put w x) ms h = absurd h
no_puts_rest (Double f w x) ms h = h
no_puts_rest (Scan r x) ms h = h

no_puts_append : (ns ms : List Move) → NoPuts ns → NoPuts ms → NoPuts (ns ++ ms)
no_puts_append [] ms n m = m
no_puts_append (Open ∷ ns) ms n m = no_puts_append ns ms n m
no_puts_append (Close ∷ ns) ms n m = no_puts_append ns ms n m
no_puts_append (Learn w x ∷ ns) ms n m = no_puts_append ns ms n m
no_puts_append (Load e p x ∷ ns) ms n m = no_puts_append ns ms n m
no_puts_append (Store e p x ∷ ns) ms n m = no_puts_append ns ms n m
no_puts_append (Put w x ∷ ns) ms n m = absurd n
no_puts_append (Double f w x ∷ ns) ms n m = no_puts_append ns ms n m
no_puts_append (Scan r x ∷ ns) ms n m = no_puts_append ns ms n m

fills_no_puts : (element from n : ℕ) (words : List ℕ) (ms : List Move) → Fills element from words n ms → NoPuts ms
fills_no_puts element from zero words ms f = subst NoPuts (sym f) tt
fills_no_puts element from (suc n) words ms f = subst NoPuts (sym f.1) (fills_no_puts element from n words f.0 f.2)

module _ (k : Layout) (table : ℕ) (key : List ℕ) (way : ℕ) where
  abbrev Replaces : List (ℕ × Move) → List (ℕ × Move) → Type 0
  Replaces late early = OnlyReplaces k table key way late early

  keeps_of : (who : ℕ) (m : Move) (es : List (ℕ × Move)) → MayDo k es who m → (who ≡ 0 → NoPuts (m ∷ [])) → KeepsKey k table key way es m
  keeps_of who Open es may none = tt
  keeps_of who Close es may none = tt
  keeps_of who (Learn w x) es may none = tt
  keeps_of who (Load e p x) es may none = tt
  keeps_of who (Store e p x) es may none = tt
  keeps_of who (Put w x) es may none = absurd (none may.0)
  keeps_of who (Double f w x) es may none = tt
  keeps_of who (Scan r x) es may none = tt

  head_none : (m : Move) (ms : List Move) → NoPuts (m ∷ ms) → NoPuts (m ∷ [])
  head_none Open ms h = tt
  head_none Close ms h = tt
  head_none (Learn w x) ms h = tt
  head_none (Load e p x) ms h = tt
  head_none (Store e p x) ms h = tt
  head_none (Put w x) ms h = absurd h
  head_none (Double f w x) ms h = tt
  head_none (Scan r x) ms h = tt

  -- while the writer puts nothing
  quiet_replaces : (late early : List (ℕ × Move)) → IsLawful k (late ++ early) → NoPuts (moves_of 0 late) → Replaces late early
  quiet_replaces [] early lawful none = tt
  quiet_replaces (e ∷ late) early lawful none = dite (ℕ_discrete e.0 0)
      (λ mine. let here = subst NoPuts (own 0 e late mine) none in (
        keeps_of e.0 e.1 (late ++ early) lawful.0 (λ same. head_none e.1 (moves_of 0 late) here),
        quiet_replaces late early lawful.1 (no_puts_rest e.1 (moves_of 0 late) here),
      ))
      (λ ne. (
        keeps_of e.0 e.1 (late ++ early) lawful.0 (λ same. absurd (ne same)),
        quiet_replaces late early lawful.1 (subst NoPuts (others 0 e late ne) none),
      ))

  -- while it puts an element with the key there, and no more
  put_replaces : (late early : List (ℕ × Move)) (element word : ℕ) → IsLawful k (late ++ early) → moves_of 0 late ≡ Put way word ∷ [] →
      Names word element → k.table_of element ≡ table → key_of k element early ≡ key → Replaces late early
  put_replaces [] early element word lawful is names table_is key_is = tt
  put_replaces (e ∷ late) early element word lawful is names table_is key_is = dite (ℕ_discrete e.0 0)
      (λ mine.
      let list = sym (own 0 e late mine) ∙ is in
      let move : e.1 ≡ Put way word = ap (head_of (Put way word)) list in
      let rest : moves_of 0 late ≡ [] = ap tail_of list in
      let still : moves_of 0 (late ++ early) ≡ moves_of 0 early = moves_append 0 late early ∙ ap (λ ms. ms ++ moves_of 0 early) rest in
      let bears : BearsKey k table key (late ++ early) word = (element, names, table_is, keys_stay k late early element lawful.1 still ∙ key_is) in (
        subst (KeepsKey k table key way (late ++ early)) (sym move) (inr bears),
        quiet_replaces late early lawful.1 (subst NoPuts (sym rest) tt),
      ))
      (λ ne. (
        keeps_of e.0 e.1 (late ++ early) lawful.0 (λ same. absurd (ne same)),
        put_replaces late early element word lawful.1 (sym (others 0 e late ne) ∙ is) names table_is key_is,
      ))

  both_replace : (later late early : List (ℕ × Move)) → Replaces later (late ++ early) → Replaces late early → Replaces (later ++ late) early
  both_replace [] late early p q = q
  both_replace (e ∷ later) late early p q = (
    subst (λ es. KeepsKey k table key way es e.1) (sym (append_assoc later late early)) p.0,
    both_replace later late early p.1 q,
  )

-- the writer's part of a stretch
pub stretch : (v w : View) (ms : List Move) → v.me ≡ 0 → IsKnown v → (g : Went v (ms ++ v.mine) w) → moves_of 0 g.0 ≡ ms
stretch v w ms writer known g =
    let seen : w.seen ≡ g.0 ++ v.seen = ap (λ (z : View). z.seen) g.1 in
    let list : moves_of 0 (g.0 ++ v.seen) ≡ ms ++ v.mine =
    ap (moves_of 0) (sym seen) ∙ (ap (λ z. moves_of z w.seen) (sym writer) ∙ g.3) in
    append_cancel_right (moves_of 0 g.0) ms v.mine
    (ap (λ z. moves_of 0 g.0 ++ z) (sym (own_list v writer known)) ∙ (sym (moves_append 0 g.0 v.seen) ∙ list))

pub replaced_stays : (k : TableShape) (v u w : View) (element way word n from m : ℕ) (key value : List ℕ) (ks vs : List Move) → v.shape ≡ k → v.me ≡ 0 →
    IsKnown v → Fills element 0 key n ks → Fills element from value m vs → Went v ((vs ++ ks) ++ v.mine) u → Went u (Put way word ∷ u.mine) w →
    key_of (layout_of k) element u.seen ≡ key → Names word element → IsLinkedUnder (layout_of k) 0 key way v.seen →
    StaysIn k key way v.seen w.seen
replaced_stays k v u w element way word n from m key value ks vs is writer known fk fv g h key_now names linked =
    let L = layout_of k in
    let u_me = went_me v u ((vs ++ ks) ++ v.mine) g ∙ writer in
    let u_shape : u.shape ≡ k = went_shape v u ((vs ++ ks) ++ v.mine) g ∙ is in
    let u_known = went_known v u ((vs ++ ks) ++ v.mine) g in
    let u_seen : u.seen ≡ g.0 ++ v.seen = ap (λ (z : View). z.seen) g.1 in
    let w_seen : w.seen ≡ h.0 ++ u.seen = ap (λ (z : View). z.seen) h.1 in
    let seen : w.seen ≡ (h.0 ++ g.0) ++ v.seen = w_seen ∙ (ap (λ z. h.0 ++ z) u_seen ∙ sym (append_assoc h.0 g.0 v.seen)) in
    let lawful_w : IsLawful L w.seen = subst (λ (z : TableShape). IsLawful (layout_of z) w.seen) u_shape h.2 in
    let lawful_u : IsLawful L u.seen = subst (λ (z : TableShape). IsLawful (layout_of z) u.seen) is g.2 in
    let none = no_puts_append vs ks (fills_no_puts element from m value vs fv) (fills_no_puts element 0 n key ks fk) in
    let first = quiet_replaces L 0 key way g.0 v.seen (subst (IsLawful L) u_seen lawful_u) (subst NoPuts (sym (stretch v u (vs ++ ks) writer known g)) none) in
    let second = put_replaces L 0 key way h.0 u.seen element word (subst (IsLawful L) w_seen lawful_w)
    (stretch u w (Put way word ∷ []) u_me u_known h) names refl key_now in (
      h.0 ++ g.0,
      seen,
      only_replaced L 0 key way (h.0 ++ g.0) v.seen (subst (IsLawful L) seen lawful_w) linked
          (both_replace L 0 key way h.0 g.0 v.seen (subst (OnlyReplaces L 0 key way h.0) u_seen second) first),
    )
