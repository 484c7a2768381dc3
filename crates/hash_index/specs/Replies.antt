-- Commands to an index, and what a finite map from keys to slots replies to them.
use Rattle.std.specs.Prelude.{◌≡◌, ℕ, List, [], ◌∷◌, Option, Some, None, Bool, true, is_some}
use Rattle.std.specs.Prelude.{option_map, if◌then◌else◌}
use Rattle.std.specs.Ordering.{nat_cmp, is_lt}
use Rattle.std.specs.Cmp.Lexicographic.{slice_cmp}
use Rattle.std.specs.FinMap.{get, insert, remove, entries}
use Rattle.bpf_model.specs.View.{KeyMap}
use Rattle.element_store.specs.State.{ArenaState, IsTaken}
use Rattle.hash_index.specs.declared.commands.Command.{Command}
use Rattle.hash_index.specs.declared.commands.Command.TheVariants.{Link, Find, Unlink, Above}

-- whether a key is above a bound, in byte order
abbrev pub is_above : Option (List ℕ) → List ℕ → Bool
is_above None key = true
is_above (Some bound) key = is_lt (slice_cmp nat_cmp bound key)

-- what stands first in a list above a bound
abbrev pub first_above : Option (List ℕ) → List (List ℕ × ℕ) → Option ℕ
first_above bound [] = None
first_above bound (e ∷ es) = if is_above bound e.0 then Some e.1 else first_above bound es

-- what the map has under the command's key, or above its bound, where slot i has the key `key i`
abbrev pub reply_of : (ℕ → List ℕ) → Command → KeyMap → Option ℕ
reply_of key (Link slot) m = get m (key slot)
reply_of key (Find k) m = get m k.items
reply_of key (Unlink k) m = get m k.items
reply_of key (Above bound) m = first_above (option_map (λ k. k.items) bound) (entries m)

-- the map after the command: a slot joins whose key is absent, or a key leaves
abbrev pub after_command : (ℕ → List ℕ) → Command → KeyMap → KeyMap
after_command key (Link slot) m = if is_some (get m (key slot)) then m else insert m (key slot) slot
after_command key (Find k) m = m
after_command key (Unlink k) m = remove m k.items
after_command key (Above bound) m = m

-- the reply to each command, in order
abbrev pub replies : (ℕ → List ℕ) → List Command → KeyMap → List (Option ℕ)
replies key [] m = []
replies key (command ∷ commands) m =
    reply_of key command m ∷ replies key commands (after_command key command m)

-- a slot that is to be linked is taken
abbrev pub IsReadyCommand : ArenaState → Command → Type 0
IsReadyCommand a (Link slot) = IsTaken a slot
IsReadyCommand a (Find k) = Unit {0}
IsReadyCommand a (Unlink k) = Unit {0}
IsReadyCommand a (Above bound) = Unit {0}

abbrev pub AreReadyCommands : ArenaState → List Command → Type 0
AreReadyCommands a [] = Unit {0}
AreReadyCommands a (command ∷ commands) = IsReadyCommand a command × AreReadyCommands a commands

-- each slot of the map stands under its own key
abbrev pub IsKeyed : (ℕ → List ℕ) → KeyMap → Type 0
IsKeyed key m = (k : List ℕ) (i : ℕ) → get m k ≡ Some i → key i ≡ k
