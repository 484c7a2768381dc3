-- What a reader touches it holds, by any lawful history.
use Rattle.bpf_model.proofs.Prelude.{◌≡◌, ℕ, ◌<◌, inl, inr, ⊎_elim, subst, arith, List, [], ◌∷◌, ◌++◌}
use Rattle.read_table.proofs.Prelude.{IsLawful, IsLearnt, MayDo, moves_of}
use Rattle.read_table.specs.declared.view.Move.{Move}
use Rattle.read_table.specs.declared.view.Move.TheVariants.{Close, Header, Learn, Load, Open, Scan, Store}
use Rattle.read_table.specs.declared.view.TableShape.{TableShape}
use Rattle.read_table.specs.declared.view.View.{View}
use Rattle.read_table.proofs.Safe.{same_generation}
use Rattle.read_table.specs.Running.{HasHeld, HoldsSlot, Touches}

-- what came before a step was lawful, and the step was
lawful-before : (k : TableShape) (after before : List (ℕ × Move)) (e : ℕ × Move) → IsLawful k (after ++ e ∷ before) → MayDo k before e.0 e.1 × IsLawful k before
lawful-before k [] before e h = h
lawful-before k (x ∷ after) before e h = lawful-before k after before e h.1

learnt-holds : (k : TableShape) (es : List (ℕ × Move)) (who s slot : ℕ) → IsLawful k es → s ≡ slot → IsLearnt s (moves_of who es) → HoldsSlot who slot es
learnt-holds k es who s slot lawful same l = subst (λ (n : ℕ). HoldsSlot who n es) same (l.0, l.1, same_generation k es lawful who s l.0 l.1)

touched : (k : TableShape) (es : List (ℕ × Move)) (who slot : ℕ) (m : Move) → 0 < who → IsLawful k es →
    MayDo k es who m → Touches slot m → HoldsSlot who slot es
touched k es who slot (Load s place x) some lawful may t = ⊎_elim
    (λ (writer : who ≡ 0). absurd (omega (arith, some, writer)))
    (λ l. learnt-holds k es who s slot lawful t l) may.0
touched k es who slot (Store s place x) some lawful (inl writer) t = absurd (omega (arith, some, writer.0))
touched k es who slot (Store s place x) some lawful (inr l) t = learnt-holds k es who s slot lawful t l.0
touched k es who slot Open some lawful may t = absurd t
touched k es who slot Close some lawful may t = absurd t
touched k es who slot (Learn s h) some lawful may t = absurd t
touched k es who slot (Header s w) some lawful may t = absurd t
touched k es who slot (Scan r x) some lawful may t = absurd t

pub held-throughout : (v : View) → IsLawful v.shape v.seen → 0 < v.me → HasHeld v
held-throughout v lawful some = λ after before m slot e t.
    let p = lawful-before v.shape after before (v.me, m) (subst (λ (es : List (ℕ × Move)). IsLawful v.shape es) e lawful) in
    touched v.shape before v.me slot m some p.1 p.0 t
