use Rattle.bpf_model.proofs.Prelude.{◌≡◌, ℕ, ◌∙◌, sym, refl, subst, Option, Some, None, option_map, found_value}
use Rattle.model_laws.proofs.Prelude.{Value, Number}
use Rattle.read_table.proofs.Prelude.{AnswersLookup}
use Rattle.world_laws.proofs.Prelude.{element_in_region}
use Rattle.read_table.proofs.Finding.{never-null}
use Rattle.read_table.proofs.run_laws.shared_lookups_find_keys.Goals as goal

-- zero stands for null alone
null-only : (map : ℕ) (found : Option ℕ) (reply : Value) → reply ≡ found_value (option_map (element_in_region map) found) → reply ≡ Number 0 → found ≡ None
null-only map None reply is zero = refl
null-only map (Some slot) reply is zero =
    let e : found_value (Some (element_in_region map slot)) ≡ Number 0 = sym is ∙ zero in absurd (cc)

pub returns : goal.returns
returns c = λ k es lawful depth map slot who key done before ms reply r stays zero.
    never-null k es lawful key slot who before ms (subst (AnswersLookup k key ms) (null-only map r.0 reply r.2 zero) r.1.1) stays
