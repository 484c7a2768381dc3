-- An index, by which names are found.
use Rattle.std.specs.Prelude.{◌≡◌, ℕ, List, bytes_eq}
use Rattle.std.specs.BTreeMap.{BTreeMap, get_by}
use Rattle.std.specs.Cmp.Lexicographic.{slice_cmp}
use Rattle.std.specs.List.{position}
use Rattle.std.specs.Ordering.{nat_cmp}
use Rattle.std.proofs.Common.{Bor}
use Rattle.asm_source.specs.Names.{Binding}

-- the index has the first place of each name in the list, and no other name
abbrev pub IsIndexOf : List Binding → BTreeMap (Bor (List ℕ)) ℕ → Type 0
IsIndexOf names index =
    (name : List ℕ) → get_by (λ k. slice_cmp nat_cmp name k.now) index ≡ position (λ b. bytes_eq b.name name) names
