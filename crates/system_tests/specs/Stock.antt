-- Arenas for tests, of which the first slots are taken.
use Rattle.std.specs.Prelude.{◌≡◌, ℕ, ◌-◌, ◌<◌, ◌≤◌, false, List, [], ◌∷◌, length, replicate}
use Rattle.std.specs.List.{range_with_len}
use Rattle.element_store.specs.State.{ArenaState, IsTaken}
use Rattle.hash_index.specs.declared.commands.Command.{Command}
use Rattle.hash_index.specs.declared.commands.Command.TheVariants.{Link, Find, Unlink, Above}

-- an arena of so many slots, of which the first are taken
pub record IsStocked (slots count : ℕ) (a : ArenaState) : Type 0 where
  pub long : length a.slots ≡ slots
  pub taken : (j : ℕ) → j < count → IsTaken a j

-- An arena for keys of two bytes and values of one, of which so many slots were taken since it was
-- new.
pub record IsFilled (slots count : ℕ) (a : ArenaState) : Type 0 where
  pub long : length a.slots ≡ slots
  pub room : count ≤ slots
  pub free : a.free ≡ range_with_len count (slots - count)
  pub worn : a.worn ≡ replicate slots false
  pub key : a.key_len ≡ 2
  pub value : a.value_len ≡ 1

-- what is to be linked is one of the first slots
abbrev pub IsLinkable : ℕ → Command → Type 0
IsLinkable count (Link slot) = slot < count
IsLinkable count (Find key) = Unit {0}
IsLinkable count (Unlink key) = Unit {0}
IsLinkable count (Above bound) = Unit {0}

abbrev pub AreLinkable : ℕ → List Command → Type 0
AreLinkable count [] = Unit {0}
AreLinkable count (command ∷ commands) = IsLinkable count command × AreLinkable count commands
