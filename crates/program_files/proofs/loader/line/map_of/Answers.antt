use Rattle.bpf_model.proofs.Prelude.{sym, ap, ◌∙◌, List, ℕ, ◌∷◌}
use Rattle.program_files.proofs.Files.{shape_words}
use Rattle.program_files.proofs.Numbers.{if_none}
use Rattle.program_files.proofs.loader.line.map_of.Goals as goal

pub returns-in_err-shape-clause-none : goal.returns-in_err-shape-clause-none
returns-in_err-shape-clause-none c =
    if_none c.from_residual-in_err-shape.result (λ name shape h. c.in_err-shape.ensures.none shape
    (shape_words c.args.line.now c.in_ok-word.field-0.now c.in_ok-name.name.now name _ shape
    (sym c.of-words.ensures ∙ c.in_ok-word.ensures.some ∙ ap (λ (ws : List (List ℕ)). c.in_ok-word.field-0.now ∷ ws) c.in_ok-name.ensures.some) h))
