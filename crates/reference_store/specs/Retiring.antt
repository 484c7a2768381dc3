-- The map that an element is linked in.
use Rattle.std.specs.Prelude.{ℕ, Option, Some, None, if◌then◌else◌}
use Rattle.bpf_model.specs.Element.{Element, is_linked}

-- none where it is not linked
abbrev pub linked_map : Element → Option ℕ
linked_map e = if is_linked e.life then Some e.map else None
