-- Keys that come and go leave those of an index as long as they are.
use Rattle.bpf_model.proofs.Prelude.{◌≡◌, ◌∙◌, ℕ, List, length, sym, ap, inl, inr, get, insert, remove, none-some, KeyMap, key_cases}
use Rattle.model_laws.proofs.Indices.{insert-other}
use Rattle.model_laws.proofs.Lists.{remove-same, remove-other}
use Rattle.map_kinds.specs.Shown.{AreKeysLong}

pub long-removed : (m : KeyMap) (k : List ℕ) (n : ℕ) → AreKeysLong m n → AreKeysLong (remove m k) n
long-removed m k n h key i e = elim (key_cases key k) [
  | inl s ↦ absurd (none-some i (sym (remove-same m k) ∙ (ap (get (remove m k)) (sym s) ∙ e)))
  | inr d ↦ h key i (sym (remove-other m k key d) ∙ e)
]

pub long-inserted : (m : KeyMap) (k : List ℕ) (slot n : ℕ) → length k ≡ n → AreKeysLong m n → AreKeysLong (insert m k slot) n
long-inserted m k slot n long h key i e = elim (key_cases key k) [
  | inl s ↦ ap length s ∙ long
  | inr d ↦ h key i (sym (insert-other m k slot key d) ∙ e)
]
