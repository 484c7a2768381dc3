-- Texts that begin with others.
use Rattle.bpf_model.proofs.Prelude.{◌≡◌, ◌∙◌, List, ℕ, ◌++◌, ap, append_assoc, Result, Ok, Err, OnErr}
use Rattle.script_lines.specs.ReplyText.{GoesOn}

-- what goes on behind a text that was added
pub behind : (before mid after text : List ℕ) → mid ≡ before ++ text → GoesOn mid after → GoesOn before after
behind before mid after text e (more, f) = (text ++ more, f ∙ (ap (λ (xs : List ℕ). xs ++ more) e ∙ append_assoc before text more))

pub on-err-behind : {T E : Type 0} (r : Result T E) (before mid after text : List ℕ) → mid ≡ before ++ text →
    OnErr r (GoesOn mid after) → OnErr r (GoesOn before after)
on-err-behind (Ok x) before mid after text e h = tt
on-err-behind (Err x) before mid after text e h = behind before mid after text e h
