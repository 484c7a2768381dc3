-- The programs that a shared world keeps beside the lock.
use Rattle.std.specs.Prelude.{◌≡◌, List, Some, map, slice_get}
use Rattle.bpf_model.specs.declared.limits.MapShape.{MapShape}
use Rattle.bpf_model.specs.Machine.{Loaded}
use Rattle.verifier.specs.Checked.{Checked}

-- Each has the code and the context length of the program of its number, and is verified for maps of the shapes of those, among
-- maps of these shapes, to which that one is bound.
pub record AreKept (among : List MapShape) (kept : List Checked) (programs : List Loaded) : Type 0 where
  pub codes : map (λ (p : Checked). p.program) kept ≡ map (λ (l : Loaded). l.code) programs
  pub contexts : map (λ (p : Checked). p.ctx_len) kept ≡ map (λ (l : Loaded). l.context_len) programs
  pub shapes : map (λ (p : Checked). map Some p.shapes) kept ≡ map (λ (l : Loaded). map (slice_get among) l.maps) programs
