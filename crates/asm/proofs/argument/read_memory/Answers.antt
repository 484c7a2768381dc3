use Rattle.bpf_model.proofs.Prelude.{◌++◌, ◌∷◌, [], List, ℕ}
use Rattle.disasm.specs.Text.{numeral, sign_text}
use Rattle.asm.proofs.argument.read_memory.Goals as goal

pub returns-in_err-inside-clause-only : goal.returns-in_err-inside-clause-only
returns-in_err-inside-clause-only c b sign o e =
    let inside : List ℕ = (114 ∷ numeral b) ++ sign_text sign ++ numeral o in
    absurd (c.in_err-inside.ensures.only inside (c.in_ok-without_first.ensures.only (inside ++ 93 ∷ []) e))

pub returns-in_err-without_first-2-clause-only : goal.returns-in_err-without_first-2-clause-only
returns-in_err-without_first-2-clause-only c b sign o e =
    let inside : List ℕ = (114 ∷ numeral b) ++ sign_text sign ++ numeral o in
    absurd (c.in_err-without_first-2.ensures.only (numeral b ++ sign_text sign ++ numeral o)
    (c.in_ok-inside.ensures.only inside (c.in_ok-without_first.ensures.only (inside ++ 93 ∷ []) e)))
