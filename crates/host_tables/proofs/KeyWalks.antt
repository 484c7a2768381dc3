-- Which keys a walk meets.
use Rattle.bpf_model.proofs.Prelude.{◌≡◌, ◌≢◌, ℕ, suc, ◌<◌, ◌≤◌, List, [], ◌∷◌, inl, inr, subst, arith, dite, ℕ_discrete, dec_lt}
use Rattle.table_words.proofs.Prelude.{Names, moves_of, word_in, IsLinkedUnder}
use Rattle.map_table.proofs.Prelude.{layout_of, ways_of, TableShape, Move}
use Rattle.table_words.proofs.Steps.{nothing_named}
use Rattle.host_tables.specs.Walks.{IsKeyWalk, IsMeeting, Meeting, MetOnce, NeverMet, StaysLinked}
use Rattle.host_tables.proofs.Linked.{same_key}

-- a way in which a key is linked is not empty
not_empty : (k : TableShape) (key : List ℕ) (way : ℕ) (es : List (ℕ × Move)) → IsLinkedUnder (layout_of k) 0 key way es →
    word_in way (moves_of 0 es) ≡ 0 → ⊥
not_empty k key way es l none = nothing_named l.0 (subst (λ z. Names z l.0) none l.1.names)

module _ (k : TableShape) (key : List ℕ) (way : ℕ) (last : List (ℕ × Move)) where
  -- a call that met another way met another key
  other_key : (from : ℕ) (m : Meeting) → IsMeeting k from m → IsLinkedUnder (layout_of k) 0 key way m.seen → m.way ≢ way → m.key ≢ key
  other_key from m met l ne same =
      ne (met.once key m.way way (subst (λ z. IsLinkedUnder (layout_of k) 0 z m.way m.seen) same met.under) l)

  -- what lies before is met no more
  none_behind : (from : ℕ) (calls : List Meeting) → way < from → IsKeyWalk k from calls last → StaysLinked k key way calls last → NeverMet key calls
  none_behind from [] low walk stays = tt
  none_behind from (m ∷ ms) low walk stays =
      let b = walk.0.first.behind in (
        other_key from m walk.0 stays.0 (λ e. absurd (omega (arith, e, low, b))),
        none_behind (suc m.way) ms (omega (arith, low, b)) walk.1 stays.1,
      )

  pub meets_key_once : (from : ℕ) (calls : List Meeting) → from ≤ way → way < ways_of k → IsKeyWalk k from calls last →
      StaysLinked k key way calls last → MetOnce key calls
  meets_key_once from [] low high walk stays = not_empty k key way last stays (walk way low high)
  meets_key_once from (m ∷ ms) low high walk stays = dite (ℕ_discrete m.way way)
      (λ same. inl (
        same_key (layout_of k) 0 m.key key way m.seen (subst (λ z. IsLinkedUnder (layout_of k) 0 m.key z m.seen) same walk.0.under) stays.0,
        none_behind (suc m.way) ms (omega (arith, same)) walk.1 stays.1,
      ))
      (λ ne. dite (dec_lt way m.way)
      (λ before. absurd (not_empty k key way m.seen stays.0 (walk.0.first.first way low before)))
      (λ not. inr (
        other_key from m walk.0 stays.0 ne,
        meets_key_once (suc m.way) ms (omega (arith, ne, not)) high walk.1 stays.1,
      )))
