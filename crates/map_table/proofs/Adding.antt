-- What a call that adds to a word rests on.
use Rattle.table_words.proofs.Prelude.{◌≡◌, ℕ, ◌+◌, ◌%◌, ◌<◌, ◌≤◌, ◌^◌, [], ◌∷◌, ◌++◌, refl, sym, ap, ◌∙◌, subst, none, word_at, Holds, IsReader}
use Rattle.map_table.proofs.Prelude.{Move, Load, Store, layout_of, TableShape, View, Kept, adds, did, Holder, first_of}
use Rattle.atomic_table.specs.Table.{Me, step, Allows}
use Rattle.atomic_table.specs.Seated.{TableId}
use Rattle.map_table.specs.Law.{GainsBoth}
use Rattle.map_table.specs.Held.{DoesBoth}
use Rattle.map_table.proofs.Calls.{holder, IsSeat}
use Rattle.map_table.proofs.Lists.{stored_here}
use Rattle.map_table.proofs.Keeps.{adds_ok}
use Rattle.map_table.proofs.Places.{IsAt}
use Rattle.map_table.proofs.Valued.{behind_key, in_element, is_open}

pub adds_at : (k : TableShape) (slots id : ℕ) (me : Me ℕ View) (i element place amount : ℕ) → IsAt k i element place →
    element < k.elements → IsReader (layout_of k) me.0.me → first_of k me.0.me ≤ place → place < first_of k me.0.me + k.value_words
    → Holds element me.0.mine → Allows (Kept k) slots id me i (λ n. (n + amount) % 2 ^ 64) (adds (step slots i amount 0 none) me)
adds_at k slots id me i element place amount e low reader from below known =
    adds_ok k slots id me i element place amount e low (in_element k me.0.me place reader from below) known
    (behind_key k me.0.me place from) (is_open k me.0.me element place reader from below)

-- the same two moves, as a clause says them
both_as : (v w : View) (m m' n n' : Move) → m ≡ m' → n ≡ n' → GainsBoth v m n w → GainsBoth v m' n' w
both_as v w m m' n n' is next g = subst (λ (z : Move × Move). GainsBoth v z.0 z.1 w) (λ i. (is i, next i)) g

-- what the step told, as a clause says it
pub does_both : (t t' : TableId) (v w : View) (s : Holder) (m m' n n' : Move) → holder t v ≡ s → t' ≡ t → m ≡ m' → n ≡ n' → GainsBoth v m n w
    → DoesBoth s m' n' (holder t' w)
does_both t t' v w s m m' n n' is same move next h =
    let g = both_as v w m m' n n' move next h in
    subst (λ z. DoesBoth z m' n' (holder t' w)) is record {
      goes = record {
        table = λ i. record { id = same i; shape = (g.1 i).shape };
        went = ((v.me, n') ∷ (v.me, m') ∷ g.0, g.1, g.2, g.3 ∙ ap (λ (z : View). z.mine) g.1);
      };
      before = g.0 ++ v.seen;
      at_once = ap (λ (z : View). z.seen) g.1;
    }

-- the word that it left
pub sum_left : (v w : View) (m n : Move) (element place x : ℕ) → n ≡ Store element place x → GainsBoth v m n w → word_at element place w.seen ≡ x
sum_left v w m n element place x is h =
    let g = both_as v w m m n (Store element place x) refl is h in
    ap (λ (z : View). word_at element place z.seen) g.1 ∙ stored_here v.me element place element place x ((v.me, m) ∷ (g.0 ++ v.seen)) refl refl

-- the seat keeps what it keeps
pub seat_kept_both : (me new : Me ℕ View) (e a b x y section first even : ℕ) → GainsBoth me.0 (Load e a x) (Store e b y) new.0 → new.1 ≡ me.1 →
    IsSeat me section first even → IsSeat new section first even
seat_kept_both me new e a b x y section first even g held i =
    let w : new ≡ (did (did me.0 (Load e a x) g.0) (Store e b y) [], me.1) = λ j. (g.1 j, held j) in
    subst (λ (z : Me ℕ View). IsSeat z section first even) (sym w) (i.0, i.1, i.2, i.3, i.4)
