-- What a walk meets.
use Rattle.bpf_model.proofs.Prelude.{◌≡◌, ℕ, suc, ◌+◌, ◌<◌, ◌≤◌, List, [], ◌∷◌, refl, ap, ◌∙◌, arith, dite, ℕ_discrete, dec_lt}
use Rattle.table_words.proofs.Prelude.{word_in}
use Rattle.map_table.proofs.Prelude.{ways_of, TableShape, Move}
use Rattle.std.proofs.Common.{eq-eqb, ne_eqb}
use Rattle.host_tables.specs.Walks.{AreEmpty, IsWalk, NeverEmpty, times_met}

-- one more empty way
pub empty_next : (low at : ℕ) (mine : List Move) → word_in at mine ≡ 0 → AreEmpty low at mine → AreEmpty low (at + 1) mine
empty_next low at mine here before way l m = dite (ℕ_discrete way at)
    (λ same. ap (λ z. word_in z mine) same ∙ here)
    (λ ne. before way l (omega (arith, m, ne)))

-- what lies before is met no more
none_behind : (k : TableShape) (from way : ℕ) (calls : List (ℕ × List Move)) (last : List Move) → way < from → IsWalk k from calls last →
    times_met way calls ≡ 0
none_behind k from way [] last low walk = refl
none_behind k from way (c ∷ calls) last low walk =
    let b = walk.0.behind in
    rw (ne_eqb c.0 way (λ e. absurd (omega (arith, e, low, b)))) (none_behind k (suc c.0) way calls last (omega (arith, low, b)) walk.1)

-- each way that never was empty is met once
pub meets_once : (k : TableShape) (from way : ℕ) (calls : List (ℕ × List Move)) (last : List Move) → from ≤ way → way < ways_of k →
    NeverEmpty way calls last → IsWalk k from calls last → times_met way calls ≡ 1
meets_once k from way [] last low high never walk = absurd (never (walk way low high))
meets_once k from way (c ∷ calls) last low high never walk = dite (ℕ_discrete c.0 way)
    (λ same. rw (eq-eqb c.0 way same) (ap suc (none_behind k (suc c.0) way calls last (omega (arith, same)) walk.1)))
    (λ ne. dite (dec_lt way c.0)
    (λ before. absurd (never.0 (walk.0.first way low before)))
    (λ not. rw (ne_eqb c.0 way ne) (meets_once k (suc c.0) way calls last (omega (arith, ne, not)) high never.1 walk.1)))
