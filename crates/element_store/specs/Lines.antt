-- Lines: lists of slots that are linked to one another, by the first and the last.
use Rattle.std.specs.Prelude.{◌≡◌, ◌≢◌, ℕ, List, Option, Some, None}
use Rattle.element_store.specs.State.{ArenaState, link_at}
use Rattle.element_store.specs.Threads.{chain_of}
use Rattle.element_store.specs.declared.deferred.Line.{Line}

abbrev pub joined_to : Line → Option ℕ → Line
joined_to front None = front
joined_to front (Some l) = record { first = front.first; last = Some l }

abbrev pub joined_from : Option ℕ → Line → Line → Line
joined_from None front back = back
joined_from (Some l) front back = joined_to front back.last

-- two lines as one, the second behind the first; an empty one adds nothing
abbrev pub joined_lines : Line → Line → Line
joined_lines front back = joined_from front.last front back

-- the links of b are those of a, but that the last slot is linked to the first
pub record AreLinksJoined (a b : ArenaState) (last first : Option ℕ) : Type 0 where
  pub rest : b ≡ record a { links = b.links }
  pub at_last : (l : ℕ) → last ≡ Some l → link_at b.links l ≡ first
  pub others : (j : ℕ) → last ≢ Some j → link_at b.links j ≡ link_at a.links j

-- the slots of a line
abbrev pub line_slots : ArenaState → Line → List ℕ
line_slots a l = chain_of a l.first
