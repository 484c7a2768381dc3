-- One more line of names.
use Rattle.bpf_model.proofs.Prelude.{ℕ, ◌≡◌, ◌+◌, List, [], ◌∷◌, sym, ap, ◌∙◌, inl, inr, Result, Ok}
use Rattle.asm_source.specs.Tokens.{tokens_of}
use Rattle.asm_source.specs.Names.{Binding, with_line, with_lines, slots_after}
use Rattle.asm_source.specs.Faulty.{IsFaultOf}
use Rattle.asm_source.specs.declared.fault.SourceFault.{SourceFault}

abbrev Names : Type 0
Names = Result (List Binding) SourceFault

left_as : (names : List Binding) (n slot : ℕ) (line : List ℕ) (lines left : List (List ℕ)) (whole : Names) →
    left ≡ line ∷ lines → with_lines (Ok names) n slot left ≡ whole → with_lines (Ok names) n slot (line ∷ lines) ≡ whole
left_as names n slot line lines left whole e h = ap (λ (ls : List (List ℕ)). with_lines (Ok names) n slot ls) (sym e) ∙ h

pub line_named : (names new : List Binding) (n slot next : ℕ) (line : List ℕ) (lines left : List (List ℕ)) (whole : Names) →
    left ≡ line ∷ lines → next ≡ slots_after slot line → with_lines (Ok names) n slot left ≡ whole →
    with_line names (n + 1) slot (tokens_of line) ≡ Ok new → with_lines (Ok new) (n + 1) next lines ≡ whole
unfolding with_lines
line_named names new n slot next line lines left whole e f h added =
    ap (λ (k : ℕ). with_lines (Ok new) (n + 1) k lines) f ∙
    ap (λ (r : Names). with_lines r (n + 1) (slots_after slot line) lines) (sym added) ∙ left_as names n slot line lines left whole e h

pub names_end : (names : List Binding) (n slot : ℕ) (left : List (List ℕ)) (whole : Names) → left ≡ [] →
    with_lines (Ok names) n slot left ≡ whole → whole ≡ Ok names
unfolding with_lines
names_end names n slot left whole e h = sym h ∙ ap (λ (ls : List (List ℕ)). with_lines (Ok names) n slot ls) e

pub name_fault : (names : List Binding) (n slot : ℕ) (line : List ℕ) (lines left : List (List ℕ)) (whole : Names) (f : SourceFault) →
    left ≡ line ∷ lines → with_lines (Ok names) n slot left ≡ whole →
    IsFaultOf (with_line names (n + 1) slot (tokens_of line)) f → IsFaultOf whole f
unfolding with_lines
name_fault names n slot line lines left whole f e h (inl memory) = inl memory
name_fault names n slot line lines left whole f e h (inr fault) =
    inr (sym (left_as names n slot line lines left whole e h) ∙ ap (λ (r : Names). with_lines r (n + 1) (slots_after slot line) lines) fault)
