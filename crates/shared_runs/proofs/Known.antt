-- What every lawful history says of its readers.
use Rattle.bpf_model.proofs.Prelude.{◌≡◌, ℕ, ◌<◌, refl, sym, ◌∙◌, subst, arith, List, ◌∷◌, ◌++◌, inl, inr, ⊎_elim, Some, None}
use Rattle.table_words.proofs.Prelude.{Layout, moves_of, Holds, IsLawful, MayDo, AnswersLookup, OnlySearches}
use Rattle.map_table.proofs.Prelude.{Move, Open, Close, Learn, Load, Store, Put, Double, Scan, View, layout_of}
use Rattle.table_words.proofs.Moments.{lawful_early, stays_found}
use Rattle.table_words.proofs.Hits.{hit_linked}
use Rattle.table_words.proofs.Owning.{own_word}
use Rattle.shared_runs.specs.MapRuns.{HasFound, HasHeld, HasMet, HasOwn, HasWhole, Touches}
use Rattle.table_words.proofs.Whole.{values_stay}

touched : (k : Layout) (es : List (ℕ × Move)) (who element : ℕ) (m : Move) → 0 < who → MayDo k es who m →
    Touches element m → Holds element (moves_of who es)
touched k es who element (Load e place x) some may t = ⊎_elim
    (λ (writer : who ≡ 0). absurd (omega (arith, some, writer)))
    (λ h. subst (λ n. Holds n (moves_of who es)) t h) may.0
touched k es who element (Store e place x) some (inl writer) t = absurd (omega (arith, some, writer.0))
touched k es who element (Store e place x) some (inr h) t = subst (λ n. Holds n (moves_of who es)) t h.0
touched k es who element Open some may t = absurd t
touched k es who element Close some may t = absurd t
touched k es who element (Learn way x) some may t = absurd t
touched k es who element (Put way x) some may t = absurd t
touched k es who element (Double f way x) some may t = absurd t
touched k es who element (Scan r x) some may t = absurd t

-- what a reader touches it holds
pub has-held : (v : View) → IsLawful (layout_of v.shape) v.seen → 0 < v.me → HasHeld v
has-held v lawful some = λ after before m element e t.
    let p = lawful_early (layout_of v.shape) after ((v.me, m) ∷ before) (subst (IsLawful (layout_of v.shape)) e lawful) in
    touched (layout_of v.shape) before v.me element m some p.0 t

-- a key that stays is found
pub has-found : (v : View) → IsLawful (layout_of v.shape) v.seen → HasFound v
has-found v lawful key before ns l there =
    let k = layout_of v.shape in
    let moves = sym there.moves_are in
    stays_found k 0 key v.me there.way there.late there.early
    (lawful_early k there.newer (there.late ++ there.early) (subst (IsLawful k) there.history lawful))
    (subst (OnlySearches k 0) moves l.only) (subst (λ z. AnswersLookup k 0 key z None) moves l.answers) there.stays

-- an element that was answered was linked
pub has-met : (v : View) → IsLawful (layout_of v.shape) v.seen → 0 < v.me → HasMet v
has-met v lawful some key element before ns count l = λ newer late early history before_are moves_are.
    let k = layout_of v.shape in
    let moves = sym moves_are in
    hit_linked k 0 (λ e w a b p q. refl) key count v.me element late early some
    (lawful_early k newer (late ++ early) (subst (IsLawful k) history lawful))
    (subst (OnlySearches k 0) moves l.only) (subst (λ z. AnswersLookup k 0 key z (Some element)) moves l.answers)

-- what was found at an own place is its own
pub has-own : (v : View) → IsLawful (layout_of v.shape) v.seen → 0 < v.me → HasOwn v
has-own v lawful some = λ after before element place word own e.
    let k = layout_of v.shape in
    let p = lawful_early k after ((v.me, Load element place word) ∷ before) (subst (IsLawful k) e lawful) in
    p.0.1 ∙ own_word k before p.1 v.me element place some own

-- what it finds in an element that only the writer stores in is what was there when the section had found it
pub has-whole : (v : View) → IsLawful (layout_of v.shape) v.seen → HasWhole v
has-whole v lawful after late early element place word e holds inside only =
    let k = layout_of v.shape in
    let p = lawful_early k after ((v.me, Load element place word) ∷ (late ++ early)) (subst (IsLawful k) e lawful) in
    p.0.1 ∙ values_stay k late early p.1 v.me element inside holds only place
