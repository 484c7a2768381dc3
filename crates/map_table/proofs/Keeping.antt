-- What the writer keeps through its steps.
use Rattle.table_words.proofs.Prelude.{◌≡◌, ◌≢◌, ℕ, zero, suc, ◌+◌, ◌-◌, ◌<◌, ◌*◌, List, [], ◌∷◌, ◌++◌, get_or, refl, sym, ap, ◌∙◌, subst, inr, arith}
use Rattle.table_words.proofs.Prelude.{append_assoc, set, length-set, get_or-set_other, get_or-set_same, All, slice_index, dite, ℕ_discrete, Layout, Names}
use Rattle.table_words.proofs.Prelude.{word_in, IsLinked, IsMoving, IsSettled, Settles, Cleared, IsSpare, OnlySearches, OnlyScans, ScansInTurn}
use Rattle.map_table.proofs.Prelude.{Move, Open, Close, Learn, Load, Store, Put, Double, Scan, TableShape, View, ways_of, AddsUp, Went, IsSized, OnlyLoads}
use Rattle.map_table.proofs.Prelude.{Fills, times_in, IsFree, IsUnlinked, IsWriter}
use Rattle.table_words.proofs.Steps.{put_here, put_there, one_name, nothing_named}
use Rattle.map_table.proofs.Going.{went_known, went_mine}
use Rattle.map_table.proofs.Filling.{went_shape, went_me}
use Rattle.map_table.proofs.Members.{all_to, all_both, all_else}

-- a stretch that puts nothing, and takes back nothing that was seen
pub record IsQuiet (ns : List Move) : Type 0 where
  pub words : (way : ℕ) (ms : List Move) → word_in way (ns ++ ms) ≡ word_in way ms
  pub cleared : (r e : ℕ) (ms : List Move) → Cleared r e ms → Cleared r e (ns ++ ms)
  pub moving : (f t : ℕ) (ms : List Move) → IsMoving f t (ns ++ ms) → IsMoving f t ms

quiet_none : IsQuiet []
quiet_none = record { words = λ way ms. refl; cleared = λ r e ms c. c; moving = λ f t ms m. m }

quiet_store : (element place x : ℕ) (ns : List Move) → IsQuiet ns → IsQuiet (Store element place x ∷ ns)
quiet_store element place x ns q = record { words = λ way ms. q.words way ms; cleared = λ r e ms c. q.cleared r e ms c; moving = λ f t ms m. q.moving f t ms m }

quiet_scan : (reader x : ℕ) (ns : List Move) → IsQuiet ns → IsQuiet (Scan reader x ∷ ns)
quiet_scan reader x ns q = record { words = λ way ms. q.words way ms; cleared = λ r e ms c. inr (q.cleared r e ms c); moving = λ f t ms m. q.moving f t ms m }

pub quiet_append : (ns ms : List Move) → IsQuiet ns → IsQuiet ms → IsQuiet (ns ++ ms)
quiet_append ns ms p q = record {
  words = λ way qs. ap (word_in way) (append_assoc ns ms qs) ∙ (p.words way (ms ++ qs) ∙ q.words way qs);
  cleared = λ r e qs c. subst (Cleared r e) (sym (append_assoc ns ms qs)) (p.cleared r e (ms ++ qs) (q.cleared r e qs c));
  moving = λ f t qs m. q.moving f t qs (p.moving f t (ms ++ qs) (subst (IsMoving f t) (append_assoc ns ms qs) m));
}

pub fills_quiet : (element from n : ℕ) (words : List ℕ) (ms : List Move) → Fills element from words n ms → IsQuiet ms
fills_quiet element from zero words ms f = subst IsQuiet (sym f) quiet_none
fills_quiet element from (suc n) words ms f =
    subst IsQuiet (sym f.1) (quiet_store element (from + n) (slice_index words n) f.0 (fills_quiet element from n words f.0 f.2))

pub scans_quiet : (low high : ℕ) (ns : List Move) → ScansInTurn low high ns → IsQuiet ns
scans_quiet low high [] n = quiet_none
scans_quiet low high (Open ∷ ns) n = absurd n
scans_quiet low high (Close ∷ ns) n = absurd n
scans_quiet low high (Learn s h ∷ ns) n = absurd n
scans_quiet low high (Load s p x ∷ ns) n = absurd n
scans_quiet low high (Store s p x ∷ ns) n = absurd n
scans_quiet low high (Put s w ∷ ns) n = absurd n
scans_quiet low high (Double f s w ∷ ns) n = absurd n
scans_quiet low high (Scan r x ∷ ns) n = quiet_scan r x ns (scans_quiet low (r - 1) ns n.2)

quiet_learn : (way x : ℕ) (ns : List Move) → IsQuiet ns → IsQuiet (Learn way x ∷ ns)
quiet_learn way x ns q = record { words = λ w ms. q.words w ms; cleared = λ r e ms c. q.cleared r e ms c; moving = λ f t ms m. q.moving f t ms m }

quiet_load : (element place x : ℕ) (ns : List Move) → IsQuiet ns → IsQuiet (Load element place x ∷ ns)
quiet_load element place x ns q = record { words = λ w ms. q.words w ms; cleared = λ r e ms c. q.cleared r e ms c; moving = λ f t ms m. q.moving f t ms m }

pub searches_quiet : (k : Layout) (table : ℕ) (ns : List Move) → OnlySearches k table ns → IsQuiet ns
searches_quiet k table [] n = quiet_none
searches_quiet k table (Open ∷ ns) n = absurd n
searches_quiet k table (Close ∷ ns) n = absurd n
searches_quiet k table (Learn w x ∷ ns) n = quiet_learn w x ns (searches_quiet k table ns n)
searches_quiet k table (Load e p x ∷ ns) n = quiet_load e p x ns (searches_quiet k table ns n.1)
searches_quiet k table (Store e p x ∷ ns) n = absurd n
searches_quiet k table (Put w x ∷ ns) n = absurd n
searches_quiet k table (Double f w x ∷ ns) n = absurd n
searches_quiet k table (Scan r x ∷ ns) n = absurd n

pub only_scans_quiet : (low high : ℕ) (ns : List Move) → OnlyScans low high ns → IsQuiet ns
only_scans_quiet low high [] n = quiet_none
only_scans_quiet low high (Open ∷ ns) n = absurd n
only_scans_quiet low high (Close ∷ ns) n = absurd n
only_scans_quiet low high (Learn w x ∷ ns) n = absurd n
only_scans_quiet low high (Load e p x ∷ ns) n = absurd n
only_scans_quiet low high (Store e p x ∷ ns) n = absurd n
only_scans_quiet low high (Put w x ∷ ns) n = absurd n
only_scans_quiet low high (Double f w x ∷ ns) n = absurd n
only_scans_quiet low high (Scan r x ∷ ns) n = quiet_scan r x ns (only_scans_quiet low high ns n.2)

pub loads_quiet : (ns : List Move) → OnlyLoads ns → IsQuiet ns
loads_quiet [] n = quiet_none
loads_quiet (Open ∷ ns) n = absurd n
loads_quiet (Close ∷ ns) n = absurd n
loads_quiet (Learn w x ∷ ns) n = absurd n
loads_quiet (Load e p x ∷ ns) n = quiet_load e p x ns (loads_quiet ns n)
loads_quiet (Store e p x ∷ ns) n = absurd n
loads_quiet (Put w x ∷ ns) n = absurd n
loads_quiet (Double f w x ∷ ns) n = absurd n
loads_quiet (Scan r x ∷ ns) n = absurd n

pub adds_quiet : (element place apart n : ℕ) (ms : List Move) (total : ℕ) → AddsUp element place apart n ms total → IsQuiet ms
adds_quiet element place apart zero ms total a = subst IsQuiet (sym a.0) quiet_none
adds_quiet element place apart (suc n) ms total a = subst IsQuiet (sym a.3)
    (quiet_load element (place + n * apart) a.2 a.0 (adds_quiet element place apart n a.0 a.1 a.4))

-- after a quiet stretch
module _ (v w : View) (ns : List Move) (q : IsQuiet ns) (g : Went v (ns ++ v.mine) w) where
  pub same_word : (way : ℕ) → word_in way w.mine ≡ word_in way v.mine
  same_word way = ap (word_in way) (went_mine v w (ns ++ v.mine) g) ∙ q.words way v.mine

  same_shape : w.shape ≡ v.shape
  same_shape = went_shape v w (ns ++ v.mine) g

  still_unlinked : (e : ℕ) → (IsLinked e v.mine → ⊥) → IsLinked e w.mine → ⊥
  still_unlinked e not l = not (l.0, subst (λ z. Names z e) (same_word l.0) l.1)

  still_spare : (e n : ℕ) → IsSpare n e v.mine → IsSpare n e w.mine
  still_spare e n s = (
    still_unlinked e s.0,
    λ r some within. subst (Cleared r e) (sym (went_mine v w (ns ++ v.mine) g)) (q.cleared r e v.mine (s.1 r some within)),
  )

  still_free : (e : ℕ) → IsFree v e → IsFree w e
  still_free e f = subst (λ (k : TableShape). (e < k.elements) × IsSpare k.readers e w.mine) (sym same_shape) (f.0, still_spare e v.shape.readers f.1)

  pub quiet_unlinked : (e : ℕ) → IsUnlinked v e → IsUnlinked w e
  quiet_unlinked e f = (subst (λ (k : TableShape). e < k.elements) (sym same_shape) f.0, still_unlinked e f.1)

  pub quiet_writer : (ways free unlinked : List ℕ) → IsWriter v ways free unlinked → IsWriter w ways free unlinked
  quiet_writer ways free unlinked b = record {
    me = went_me v w (ns ++ v.mine) g ∙ b.me;
    known = went_known v w (ns ++ v.mine) g;
    sized = subst IsSized (sym same_shape) b.sized;
    count = b.count ∙ ap ways_of (sym same_shape);
    are_ways = λ way l. b.are_ways way (subst (λ (k : TableShape). way < ways_of k) same_shape l) ∙ sym (same_word way);
    are_free = all_to (IsFree v) (IsFree w) free still_free b.are_free;
    are_unlinked = all_to (IsUnlinked v) (IsUnlinked w) unlinked quiet_unlinked b.are_unlinked;
    once = b.once;
  }

  -- what is moved then was moved before
  pub quiet_settled : IsSettled v.mine → IsSettled w.mine
  quiet_settled none f t m = none f t (q.moving f t v.mine (subst (IsMoving f t) (went_mine v w (ns ++ v.mine) g) m))

-- while nothing is moved a put settles nothing
pub settles_none : (readers way word : ℕ) (ms : List Move) → IsSettled ms → Settles readers way word ms
settles_none readers way word ms none f t m = absurd (none f t m)

-- after a word was put in a way
module _ (v w : View) (way word : ℕ) (g : Went v (Put way word ∷ v.mine) w) where
  shape : w.shape ≡ v.shape
  shape = went_shape v w (Put way word ∷ v.mine) g

  pub here : word_in way w.mine ≡ word
  here = ap (word_in way) (went_mine v w (Put way word ∷ v.mine) g) ∙ put_here way way word v.mine refl

  pub there : (other : ℕ) → way ≢ other → word_in other w.mine ≡ word_in other v.mine
  there other ne = ap (word_in other) (went_mine v w (Put way word ∷ v.mine) g) ∙ put_there way other word v.mine ne

  -- nothing is moved
  pub put_settled : IsSettled w.mine
  put_settled f t m = subst (IsMoving f t) (went_mine v w (Put way word ∷ v.mine) g) m

  pub put_unlinked : (e : ℕ) → (Names word e → ⊥) → ((other : ℕ) → way ≢ other → Names (word_in other v.mine) e → ⊥) → IsLinked e w.mine → ⊥
  put_unlinked e not others l = dite (ℕ_discrete way l.0)
      (λ same. not (subst (λ z. Names z e) (ap (λ z. word_in z w.mine) (sym same) ∙ here) l.1))
      (λ ne. others l.0 ne (subst (λ z. Names z e) (there l.0 ne) l.1))

  put_free : (e : ℕ) → IsFree v e → (Names word e → ⊥) → IsFree w e
  put_free e f not = subst (λ (k : TableShape). (e < k.elements) × IsSpare k.readers e w.mine) (sym shape) (
    f.0,
    (
      put_unlinked e not (λ other ne names. f.1.0 (other, names)),
      λ r some within. subst (Cleared r e) (sym (went_mine v w (Put way word ∷ v.mine) g))
          ((λ names. f.1.0 (way, names)), f.1.1 r some within),
    ),
  )

  put_away : (e : ℕ) → IsUnlinked v e → (Names word e → ⊥) → IsUnlinked w e
  put_away e f not = (subst (λ (k : TableShape). e < k.elements) (sym shape) f.0, put_unlinked e not (λ other ne names. f.1 (other, names)))

  pub put_writer : (ways free unlinked : List ℕ) → IsWriter v ways free unlinked → way < ways_of v.shape →
      All (λ e. Names word e → ⊥) free → All (λ e. Names word e → ⊥) unlinked → IsWriter w (set ways way word) free unlinked
  put_writer ways free unlinked b low p q = record {
    me = went_me v w (Put way word ∷ v.mine) g ∙ b.me;
    known = went_known v w (Put way word ∷ v.mine) g;
    sized = subst IsSized (sym shape) b.sized;
    count = length-set ways way word ∙ (b.count ∙ ap ways_of (sym shape));
    are_ways = λ other l. let count = b.count in dite (ℕ_discrete other way)
        (λ e. subst (λ z. get_or (set ways way word) z 0 ≡ word_in z w.mine) (sym e)
        (get_or-set_same ways way word 0 (omega (arith, low, count)) ∙ sym here))
        (λ ne. get_or-set_other ways way other word 0 ne ∙
        (b.are_ways other (subst (λ (k : TableShape). other < ways_of k) shape l) ∙ sym (there other (λ e. ne (sym e)))));
    are_free = all_both (IsFree v) (λ e. Names word e → ⊥) (IsFree w) free put_free b.are_free p;
    are_unlinked = all_both (IsUnlinked v) (λ e. Names word e → ⊥) (IsUnlinked w) unlinked put_away b.are_unlinked q;
    once = b.once;
  }

-- a word that names an element names no member of a list in which that one isn't
pub names_none : (word e : ℕ) (xs : List ℕ) → Names word e → times_in e xs ≡ 0 → All (λ x. Names word x → ⊥) xs
names_none word e xs names none =
    all_to (λ x. x ≢ e) (λ x. Names word x → ⊥) xs (λ x ne other. ne (one_name word x e other names)) (all_else e xs none)

pub empty_names_none : (xs : List ℕ) → All (λ x. Names 0 x → ⊥) xs
empty_names_none xs k d l names = nothing_named (get_or xs k d) names
