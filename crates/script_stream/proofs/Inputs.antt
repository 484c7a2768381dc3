-- What is so of the whole input.
use Rattle.std.proofs.Common.{ℕ, List, ◌++◌, inl, inr}
use Rattle.std.specs.Prelude.{Option}
use Rattle.script_stream.specs.Answered.{IsSoOfInput}

pub so_of_input : (left : Option (List ℕ)) (read : List ℕ) (P Q : List ℕ → Type 0) →
    ((input : List ℕ) → P input → Q input) → IsSoOfInput left read P → IsSoOfInput left read Q
so_of_input left read P Q f (inl h) = inl (h.0, f read h.1)
so_of_input left read P Q f (inr h) = inr (λ rest. f (read ++ rest) (h rest))
