-- What the measurements ask of a verified program and its context.
use Rattle.std.specs.Prelude.{◌≡◌, length}
use Rattle.bpf_model.specs.Exit.{HasNoMaps}
use Rattle.bench.specs.declared.trial.Trial.{Trial}

-- The program names no map, and the context has the length for which it was verified.
pub record IsReadyTrial (t : Trial) : Type 0 where
  pub maps : HasNoMaps t.verified.program
  pub context : length t.ctx.items ≡ t.verified.ctx_len
