-- The programs that are kept are those of the world, as far as they were copied.
use Rattle.bpf_model.proofs.Prelude.{◌≡◌, ℕ, ◌+◌, List, [], ◌∷◌, ◌++◌, map, take, Some, slice_get, map-take, Loaded}
use Rattle.verifier.proofs.Prelude.{Checked}
use Rattle.bpf_model.specs.declared.limits.MapShape.{MapShape}
use Rattle.shared.specs.Kept.{AreKept}

-- a program is kept as it was loaded
pub record IsKeptAs (among : List MapShape) (c : Checked) (l : Loaded) : Type 0 where
  pub code : c.program ≡ l.code
  pub context : c.ctx_len ≡ l.context_len
  pub bound : map Some c.shapes ≡ map (slice_get among) l.maps

pub kept-more : (among : List MapShape) (kept : List Checked) (programs : List Loaded) (n : ℕ) (c : Checked)
    (l : Loaded) → AreKept among kept (take n programs) → slice_get programs n ≡ Some l → IsKeptAs among c l →
    AreKept among (kept ++ c ∷ []) (take (n + 1) programs)
kept-more among kept programs n c l k at same =
    record {
      codes = map-take (λ (p : Checked). p.program) (λ (l : Loaded). l.code) kept programs n c l k.codes at same.code;
      contexts = map-take (λ (p : Checked). p.ctx_len) (λ (l : Loaded). l.context_len) kept programs n c l k.contexts at same.context;
      shapes = map-take (λ (p : Checked). map Some p.shapes) (λ (l : Loaded). map (slice_get among) l.maps) kept programs n c l k.shapes at same.bound;
    }
