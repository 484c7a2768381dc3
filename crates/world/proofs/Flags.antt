-- The flags of runs that are inside sections and awaited, when a run slot's flag is cleared.
use Rattle.bpf_model.proofs.Prelude.{◌≡◌, ℕ, List, length, Bool, true, false, Some, slice_get, slice_set, still_open}
use Rattle.world.proofs.ServedFlags.{closed_awaits}
use Rattle.model_laws.proofs.Listing.{still-same}

-- what is awaited is open
abbrev pub AwaitsOpen : List Bool → List Bool → Type 0
AwaitsOpen awaited opened = (r : ℕ) → slice_get awaited r ≡ Some true → slice_get opened r ≡ Some true

-- a run slot whose flag is cleared is awaited no more
pub still-cleared : (awaited opened : List Bool) (r : ℕ) → length awaited ≡ length opened → AwaitsOpen awaited opened
    → still_open awaited (slice_set opened r false) ≡ slice_set awaited r false
still-cleared awaited opened r n h = closed_awaits awaited opened r (still-same awaited opened n h)
