-- An element is not both linked and unlinked, and a reclaimed one is neither.
use Rattle.bpf_model.proofs.Prelude.{◌≡◌, List, Section, Linked, Unlinked, Reclaimed}

pub linked≢unlinked : (since : List Section) → Linked ≡ Unlinked since → ⊥
linked≢unlinked since h = cc

pub reclaimed≢linked : Reclaimed ≡ Linked → ⊥
reclaimed≢linked h = cc

pub reclaimed≢unlinked : (since : List Section) → Reclaimed ≡ Unlinked since → ⊥
reclaimed≢unlinked since h = cc
