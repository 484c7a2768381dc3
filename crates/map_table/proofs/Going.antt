-- Stretches of a holder's list.
use Rattle.table_words.proofs.Prelude.{◌≡◌, ℕ, List, [], ◌∷◌, ◌++◌, refl, sym, ap, ◌∙◌, subst, append_assoc, moves_of, IsLawful}
use Rattle.map_table.proofs.Prelude.{Move, View, layout_of, Gains, Holder, Does, Goes, Went, IsKnown, HasSeated}

pub went_none : (v : View) → IsKnown v → Went v v.mine v
went_none v k = ([], refl, k.0, k.1)

pub went_one : (v w : View) (m : Move) → Gains v m w → Went v (m ∷ v.mine) w
went_one v w m g = ((v.me, m) ∷ g.0, g.1, g.2, g.3 ∙ ap (λ (z : View). z.mine) g.1)

pub went_known : (v w : View) (ms : List Move) → Went v ms w → IsKnown w
went_known v w ms g = (
  subst (λ z. IsLawful (layout_of z) w.seen) (sym (ap (λ (z : View). z.shape) g.1)) g.2,
  ap (λ z. moves_of z w.seen) (ap (λ (z : View). z.me) g.1) ∙ (g.3 ∙ sym (ap (λ (z : View). z.mine) g.1)),
)

pub went_mine : (v w : View) (ms : List Move) → Went v ms w → w.mine ≡ ms
went_mine v w ms g = ap (λ (z : View). z.mine) g.1

pub went_seated : (v w : View) (ms : List Move) (count : ℕ) → Went v ms w → HasSeated v count → HasSeated w count
went_seated v w ms count g h = subst (λ (z : View). HasSeated z count) (sym g.1) record { next = h.next; within = h.within }

pub went_after : (u v w : View) (ms ns : List Move) → Went u ms v → Went v ns w → Went u ns w
went_after u v w ms ns g h = (
  h.0 ++ g.0,
  h.1 ∙ (λ i. record {
    shape = (g.1 i).shape;
    me = (g.1 i).me;
    next = (g.1 i).next;
    mine = ns;
    seen =
        (ap (λ (z : View). h.0 ++ z.seen) g.1 ∙ sym (append_assoc h.0 g.0 u.seen)) i;
  }),
  subst (λ z. IsLawful (layout_of z) w.seen) (ap (λ (z : View). z.shape) g.1) h.2,
  subst (λ z. moves_of z w.seen ≡ ns) (ap (λ (z : View). z.me) g.1) h.3,
)

pub went_as : (v w : View) (m m' : Move) → m ≡ m' → Gains v m w → Went v (m' ∷ v.mine) w
went_as v w m m' e g = went_one v w m' (subst (λ z. Gains v z w) e g)

-- one stretch after another
pub went_then : (u v w : View) (ms ns : List Move) → Went u (ms ++ u.mine) v → Went v (ns ++ v.mine) w → Went u ((ns ++ ms) ++ u.mine) w
went_then u v w ms ns g h =
    went_after u v w (ms ++ u.mine) ((ns ++ ms) ++ u.mine) g
    (subst (λ z. Went v z w) (ap (λ z. ns ++ z) (went_mine u v (ms ++ u.mine) g) ∙ sym (append_assoc ns ms u.mine)) h)

-- no step at all
pub goes_none : (s : Holder) → IsKnown s.view → Goes s [] s
goes_none s k = record { table = refl; went = went_none s.view k }

-- one stretch after another
pub goes_then : (s t u : Holder) (ms ns : List Move) → Goes s ms t → Goes t ns u → Goes s (ns ++ ms) u
goes_then s t u ms ns g h = record { table = h.table ∙ g.table; went = went_then s.view t.view u.view ms ns g.went h.went }

-- one step after a stretch
pub goes_more : (s t u : Holder) (ms : List Move) (m : Move) → Goes s ms t → Does t m u → Goes s (m ∷ ms) u
goes_more s t u ms m g d = goes_then s t u ms (m ∷ []) g d

-- what the holder saw is lawful afterwards
pub goes_known : (s t : Holder) (ms : List Move) → Goes s ms t → IsKnown t.view
goes_known s t ms g = went_known s.view t.view (ms ++ s.view.mine) g.went

-- the list afterwards
pub goes_mine : (s t : Holder) (ms : List Move) → Goes s ms t → t.view.mine ≡ ms ++ s.view.mine
goes_mine s t ms g = went_mine s.view t.view (ms ++ s.view.mine) g.went

-- what is true of the list that there must be is true of the holder's
pub goes_fact : (P : List Move → Type 0) (s t : Holder) (ms : List Move) → Goes s ms t → P (ms ++ s.view.mine) → P t.view.mine
goes_fact P s t ms g p = subst P (sym (goes_mine s t ms g)) p

-- what single steps do to the section, and to what the holder knows
