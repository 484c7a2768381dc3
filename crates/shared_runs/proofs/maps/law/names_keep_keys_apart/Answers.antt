use Rattle.bpf_model.proofs.Prelude.{◌≡◌, ◌<◌, ℕ, length, get_or, sym, ◌∙◌, subst, slice_get_within, get_or_from_slice_get}
use Rattle.std.proofs.lemmas.Grind.{same_number_lists}
use Rattle.shared_runs.specs.declared.maps.named_map.NamedMap.{NamedMap}
use Rattle.shared_runs.specs.Named.{AgreesWith}
use Rattle.shared_runs.proofs.maps.law.names_keep_keys_apart.Goals as goal

pub returns : goal.returns
returns c maps agree i j one other at_one at_other words others key long_one long_other under_one under_other =
    let name : one.name ≡ other.name = sym under_one.named ∙ under_other.named in
    let pair : AgreesWith one other =
    subst (λ (z : NamedMap). AgreesWith z other) (get_or_from_slice_get maps i one one at_one)
    (subst (AgreesWith (get_or maps i one)) (get_or_from_slice_get maps j other other at_other)
    (agree i one (slice_get_within maps i one at_one) j other (slice_get_within maps j other at_other))) in
    let long : length words ≡ length others = long_one ∙ (sym (pair (sym name)).0 ∙ sym long_other) in (
      name,
      same_number_lists words others long
          (λ k low. sym (under_one.each k low) ∙ under_other.each k (subst (λ (n : ℕ). k < n) long low)),
    )
