-- Keys stay linked in one way at most.
use Rattle.table_words.proofs.Prelude.{◌≡◌, ◌≢◌, ◌⊎◌, ℕ, List, [], ◌∷◌, ◌++◌, refl, sym, ◌∙◌, subst, ⊎_elim, inl, inr, dite, ℕ_discrete, Layout, Names}
use Rattle.table_words.proofs.Prelude.{moves_of, word_in, IsMoving, IsSettled, IsLawful, AreOneOrMoved, IsLinkedUnder, BearsKey, AreLinkedOnce}
use Rattle.table_words.proofs.Prelude.{PutsNoKeyTwice, PutNoKeyTwice}
use Rattle.table_words.specs.declared.moves.Move.{Move}
use Rattle.table_words.specs.declared.moves.Move.TheVariants.{Put}
use Rattle.table_words.proofs.Steps.{key_step}
use Rattle.table_words.proofs.Standing.{Quiet, Putting, Doubling, Changed, step, here_at, put_moved}

module _ (k : Layout) (table : ℕ) (e : ℕ × Move) (es : List (ℕ × Move)) (lawful : IsLawful k (e ∷ es)) (key : List ℕ) where
  -- what is linked in a way after a step that leaves the way was so before
  pub linked_back : (way : ℕ) → word_in way (moves_of 0 (e ∷ es)) ≡ word_in way (moves_of 0 es) → IsLinkedUnder k table key way (e ∷ es) →
      IsLinkedUnder k table key way es
  linked_back way same l =
      let was = subst (λ z. Names z l.0) same l.1.names in (
        l.0,
        record {
          names = was;
          table_is = l.1.table_is;
          key_is = sym (key_step k es e l.0 lawful.0 (λ spare. spare.0 (way, was))) ∙ l.1.key_is;
        },
      )

  -- so before a step that puts nothing, and before one that puts something in another way
  before_quiet : (way : ℕ) → Quiet e es → IsLinkedUnder k table key way (e ∷ es) → IsLinkedUnder k table key way es
  before_quiet way q = linked_back way (q.same way)

  before_change : (way : ℕ) → (c : Changed k e es) → c.way ≢ way → IsLinkedUnder k table key way (e ∷ es) → IsLinkedUnder k table key way es
  before_change way c ne = linked_back way (c.there way ne)

  -- what was put bears the key
  bears : (way : ℕ) → (c : Changed k e es) → c.way ≡ way → IsLinkedUnder k table key way (e ∷ es) → BearsKey k table key es c.word
  bears way c is l =
      (l.0, subst (λ z. Names z l.0) (here_at k e es c way is) l.1.names, l.1.table_is, sym (c.keys l.0) ∙ l.1.key_is)

  -- what is put in a second way was linked in the first
  first_linked : (way : ℕ) → (c : Changed k e es) → (d : Doubling k e es c.way c.word) → c.way ≡ way → IsLinkedUnder k table key way (e ∷ es) →
      IsLinkedUnder k table key d.from es
  first_linked way c d is l =
      let b = bears way c is l in
      (b.0, record { names = subst (λ z. Names z b.0) (sym d.may.there) b.1; table_is = b.2; key_is = b.3 })

-- no key is linked in two ways, but for one that is moved
abbrev OnceOrMoved : Layout → ℕ → List (ℕ × Move) → Type 0
OnceOrMoved k table es = (key : List ℕ) (one other : ℕ) →
    IsLinkedUnder k table key one es → IsLinkedUnder k table key other es → AreOneOrMoved one other (moves_of 0 es)

once_settled : (k : Layout) (table : ℕ) (es : List (ℕ × Move)) → OnceOrMoved k table es → IsSettled (moves_of 0 es) → (key : List ℕ) (one other : ℕ) →
    IsLinkedUnder k table key one es → IsLinkedUnder k table key other es → one ≡ other
once_settled k table es once none key one other p q = ⊎_elim
    (λ (same : one ≡ other). same)
    (λ (m : IsMoving one other (moves_of 0 es) ⊎ IsMoving other one (moves_of 0 es)).
    absurd (⊎_elim (λ t. none one other t) (λ t. none other one t) m))
    (once key one other p q)

put_once : (k : Layout) (table : ℕ) (e : ℕ × Move) (es : List (ℕ × Move)) → IsLawful k (e ∷ es) → OnceOrMoved k table es →
    PutsNoKeyTwice k table es e.1 → (c : Changed k e es) → Putting k e es c.way c.word → OnceOrMoved k table (e ∷ es)
put_once k table e es lawful once puts c t key one other p q =
    let put : PutsNoKeyTwice k table es (Put c.way c.word) = subst (PutsNoKeyTwice k table es) t.is puts in
    dite (ℕ_discrete c.way one)
    (λ at_one. dite (ℕ_discrete c.way other)
    (λ at_other. inl (sym at_one ∙ at_other))
    (λ not_other. inl (sym at_one ∙
    sym (put key other (bears k table e es lawful key one c at_one p) (before_change k table e es lawful key other c not_other q)))))
    (λ not_one. dite (ℕ_discrete c.way other)
    (λ at_other. inl (put key one (bears k table e es lawful key other c at_other q) (before_change k table e es lawful key one c not_one p) ∙ at_other))
    (λ not_other. ⊎_elim
    (λ (same : one ≡ other). inl same)
    (λ (m : IsMoving one other (moves_of 0 es) ⊎ IsMoving other one (moves_of 0 es)). absurd (⊎_elim
    (λ z. put_moved k e es c.way c.word one other t not_one not_other z)
    (λ z. put_moved k e es c.way c.word other one t not_other not_one z) m))
    (once key one other (before_change k table e es lawful key one c not_one p)
    (before_change k table e es lawful key other c not_other q))))

double_once : (k : Layout) (table : ℕ) (e : ℕ × Move) (es : List (ℕ × Move)) → IsLawful k (e ∷ es) → OnceOrMoved k table es →
    (c : Changed k e es) → Doubling k e es c.way c.word → OnceOrMoved k table (e ∷ es)
double_once k table e es lawful once c d key one other p q =
    let only = once_settled k table es once d.may.settled key in
    let moves : (way : ℕ) → c.way ≡ way → IsMoving d.from way (moves_of 0 (e ∷ es)) = λ way is. subst (IsMoving d.from way) (sym d.mine) (refl, is) in
    dite (ℕ_discrete c.way one)
    (λ at_one. dite (ℕ_discrete c.way other)
    (λ at_other. inl (sym at_one ∙ at_other))
    (λ not_other.
    let is = only d.from other (first_linked k table e es lawful key one c d at_one p) (before_change k table e es lawful key other c not_other q) in
    inr (inr (subst (λ z. IsMoving z one (moves_of 0 (e ∷ es))) is (moves one at_one)))))
    (λ not_one. dite (ℕ_discrete c.way other)
    (λ at_other.
    let is = only d.from one (first_linked k table e es lawful key other c d at_other q) (before_change k table e es lawful key one c not_one p) in
    inr (inl (subst (λ z. IsMoving z other (moves_of 0 (e ∷ es))) is (moves other at_other))))
    (λ not_other. inl (only one other (before_change k table e es lawful key one c not_one p)
    (before_change k table e es lawful key other c not_other q))))

once_step : (k : Layout) (table : ℕ) (e : ℕ × Move) (es : List (ℕ × Move)) → IsLawful k (e ∷ es) → OnceOrMoved k table es →
    PutsNoKeyTwice k table es e.1 → OnceOrMoved k table (e ∷ es)
once_step k table e es lawful once puts = ⊎_elim
    (λ (t : Quiet e es) (key : List ℕ) (one other : ℕ) p q. ⊎_elim
    (λ (same : one ≡ other). inl same)
    (λ (m : IsMoving one other (moves_of 0 es) ⊎ IsMoving other one (moves_of 0 es)).
    inr (⊎_elim (λ z. inl (t.onward one other z)) (λ z. inr (t.onward other one z)) m))
    (once key one other (before_quiet k table e es lawful key one t p) (before_quiet k table e es lawful key other t q)))
    (λ (c : Changed k e es). ⊎_elim
    (λ (t : Putting k e es c.way c.word). put_once k table e es lawful once puts c t)
    (λ (t : Doubling k e es c.way c.word). double_once k table e es lawful once c t)
    c.how)
    (step k e es lawful.0)

once_or_moved : (k : Layout) (late early : List (ℕ × Move)) → IsLawful k (late ++ early) → (table : ℕ) → OnceOrMoved k table early →
    PutNoKeyTwice k table late early → OnceOrMoved k table (late ++ early)
once_or_moved k [] early lawful table once puts = once
once_or_moved k (e ∷ late) early lawful table once puts =
    once_step k table e (late ++ early) lawful (once_or_moved k late early lawful.1 table once puts.1) puts.0

pub stays_once : (k : Layout) (late early : List (ℕ × Move)) → IsLawful k (late ++ early) → (table : ℕ) → IsSettled (moves_of 0 (late ++ early)) →
    AreLinkedOnce k table early → PutNoKeyTwice k table late early → AreLinkedOnce k table (late ++ early)
stays_once k late early lawful table none once puts = once_settled k table (late ++ early)
    (once_or_moved k late early lawful table (λ key one other p q. inl (once key one other p q)) puts) none
