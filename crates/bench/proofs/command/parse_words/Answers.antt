use Rattle.bpf_model.proofs.Prelude.{◌≡◌, ◌∷◌, sym, ◌∙◌, ap, List, ℕ, [], codes, string_bytes}
use Rattle.std.specs.Cmp.Lexicographic.{same_text}
use Rattle.bench.proofs.ThreeWords.{three}
use Rattle.bench.proofs.command.parse_words.Goals as goal

pub returns-in_ok-context_length-in-len3-clause-asked : goal.returns-in_ok-context_length-in-len3-clause-asked
returns-in_ok-context_length-in-len3-clause-asked c =
    let file = c.as_str-in-len3.result.now in
    let length = c.as_str-in-len3-2.result.now in
    let verb : string_bytes c.verb-item.result ≡ codes "run" = sym c.as_str.ensures.value ∙ same_text _ _ c.if-eq.ensures in (
      length,
      three string_bytes c.args.words.now c.verb-item.result c.file-item.result c.length-item.result
          c.in-len3.len_at_least c.in-len3.len_below c.verb-item.is c.file-item.is c.length-item.is
          ∙ ap (λ (v : List ℕ). v ∷ string_bytes c.file-item.result ∷ string_bytes c.length-item.result ∷ []) verb
          ∙ ap (λ (f : List ℕ). codes "run" ∷ f ∷ string_bytes c.length-item.result ∷ []) (sym c.as_str-in-len3.ensures.value)
          ∙ ap (λ (l : List ℕ). codes "run" ∷ file ∷ l ∷ []) (sym c.as_str-in-len3-2.ensures.value),
      c.in_ok-context_length-in-len3.ensures.value,
      c.in_ok-context_length-in-len3.ensures.limit,
    )
