-- Lines that all end.
use Rattle.bpf_model.proofs.Prelude.{◌≡◌, ◌≢◌, ℕ, ◌+◌, ◌==◌, Bool, true, false, cond, List, [], ◌∷◌, ◌++◌, length, refl, sym, ap, ◌∙◌, arith, append_assoc}
use Rattle.bpf_model.proofs.Prelude.{count_by, onto_first, eqb-true, sum_by-cons}
use Rattle.script_stream.specs.Lines.{lines_of, ended}
use Rattle.program_files.proofs.Cuts.{ended_some}

onto_length : (b : ℕ) (lines : List (List ℕ)) → lines ≢ [] → length (onto_first b lines) ≡ length lines
onto_length b [] some = absurd (some refl)
onto_length b (line ∷ lines) some = refl

count_by_test : (v : Bool) (b n : ℕ) (lines : List (List ℕ)) → lines ≢ [] → length lines ≡ n + 1 →
    length (cond v ([] ∷ lines) (onto_first b lines)) ≡ cond v 1 0 + n + 1
count_by_test true b n lines some e = omega arith
count_by_test false b n lines some e = let l = onto_length b lines some in omega arith

-- there is one line for each line feed
pub count_lines : (front : List ℕ) → length (lines_of (front ++ 10 ∷ [])) ≡ count_by (λ b. b == 10) front + 1
count_lines [] = refl
count_lines (b ∷ front) =
    count_by_test (b == 10) b (count_by (λ x. x == 10) front) (lines_of (front ++ 10 ∷ [])) (ended_some front) (count_lines front)
    ∙ ap (λ n. n + 1) (sym (sum_by-cons (λ x. cond (x == 10) 1 0) b front))

onto_ended : (b : ℕ) (lines : List (List ℕ)) → lines ≢ [] → ended (onto_first b lines) ≡ b ∷ ended lines
onto_ended b [] some = absurd (some refl)
onto_ended b (line ∷ lines) some = refl

ended_by_test : (v : Bool) (b : ℕ) (lines : List (List ℕ)) → (b == 10) ≡ v → lines ≢ [] →
    ended (cond v ([] ∷ lines) (onto_first b lines)) ≡ b ∷ ended lines
ended_by_test true b lines e some = ap (λ x. x ∷ ended lines) (sym (eqb-true b 10 e))
ended_by_test false b lines e some = onto_ended b lines some

-- the lines of a text whose last one ends make the text
pub ended_again : (front : List ℕ) → ended (lines_of (front ++ 10 ∷ [])) ≡ front ++ 10 ∷ []
ended_again [] = refl
ended_again (b ∷ front) =
    ended_by_test (b == 10) b (lines_of (front ++ 10 ∷ [])) refl (ended_some front) ∙ ap (λ bs. b ∷ bs) (ended_again front)

ended_append : (a b : List (List ℕ)) → ended (a ++ b) ≡ ended a ++ ended b
ended_append [] b = refl
ended_append (line ∷ a) b =
    ap (λ bs. line ++ 10 ∷ bs) (ended_append a b) ∙ sym (append_assoc line (10 ∷ ended a) (ended b))

-- the last of some lines ends
ends : (line : List ℕ) (lines : List (List ℕ)) → (front : List ℕ) × (ended (line ∷ lines) ≡ front ++ 10 ∷ [])
ends line [] = (line, refl)
ends line (next ∷ lines) =
    let h = ends next lines in
    (line ++ 10 ∷ h.0, ap (λ bs. line ++ 10 ∷ bs) h.1 ∙ sym (append_assoc line (10 ∷ h.0) (10 ∷ [])))

-- a line below the first stands between two line feeds
pub line_below : (first line : List ℕ) (above below : List (List ℕ)) →
    (front : List ℕ) × (ended (first ∷ (above ++ line ∷ below)) ≡ front ++ 10 ∷ (line ++ 10 ∷ ended below))
line_below first line above below =
    let h = ends first above in (
      h.0,
      ended_append (first ∷ above) (line ∷ below) ∙ ap (λ bs. bs ++ (line ++ 10 ∷ ended below)) h.1
          ∙ append_assoc h.0 (10 ∷ []) (line ++ 10 ∷ ended below),
    )
