use Rattle.table_words.proofs.Prelude.{◌+◌, ◌%◌, [], ◌∷◌, refl, inl, inr, arith, dite, ℕ_discrete}
use Rattle.map_table.proofs.Prelude.{Scan}
use Rattle.table_words.proofs.Words.{odd_else}
use Rattle.map_table.proofs.sightings.look.Goals as goal

pub returns-clause-steps : goal.returns-clause-steps
returns-clause-steps c = (
  Scan (c.args.reader + 1) c.look_at.result ∷ [],
  c.look_at.ensures.step,
  (omega arith, omega arith, tt),
  dite (ℕ_discrete (c.look_at.result % 2) 0)
      (λ even. inl (c.look_at.ensures.noted even))
      (λ odd. inr (inl (refl, odd_else c.look_at.result odd))),
)
