-- What a stretch says.
use Rattle.std.specs.Prelude.{ℕ}

-- who stepped which run, how many entries it had made before, and how many moves it made then
pub record StretchView : Type 0 where
  pub worker : ℕ
  pub run : ℕ
  pub since : ℕ
  pub moved : ℕ
