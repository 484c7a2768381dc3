-- What a command asks of a world: an event, with the number of the map that it names, or a look at
-- its state.
use Rattle.std.specs.Prelude.{◌≡◌, ℕ, List, Option, Some, None}
use Rattle.arrayvec.specs.ArrayVec.{ArrayVec}
use Rattle.bpf_model.specs.declared.event.Event.TheVariants as events
use Rattle.bpf_model.specs.declared.event.EventRefusal.TheVariants.{NoMap, BadLength}
use Rattle.script_lines.specs.declared.bytes.Bytes.{Bytes}
use Rattle.script_lines.specs.declared.bytes.Bytes.TheVariants.{Fit, TooLong}
use Rattle.script_lines.specs.declared.command.ScriptCommand.{ScriptCommand}
use Rattle.script_lines.specs.declared.command.ScriptCommand.TheVariants as commands
use Rattle.control.specs.declared.asked.Asked.{Asked}
use Rattle.control.specs.declared.asked.Asked.TheVariants as asked
use Rattle.control.specs.Names.{IsMapOf}

-- Where there is no map, this is refused before anything else.
abbrev pub of_map : Option ℕ → (ℕ → Asked) → Asked
of_map None f = asked.Refused NoMap
of_map (Some map) f = f map

-- Bytes that are longer than any key, or any value, have another length than each map's.
abbrev pub of_length : Bytes (ArrayVec ℕ) → (ArrayVec ℕ → Asked) → Asked
of_length (Fit bytes) f = f bytes
of_length TooLong f = asked.Refused BadLength

-- A start on a context that is longer than any is refused; that the program isn't there, which the
-- world knows, is told first.
abbrev pub start_on : ℕ → Bytes (ArrayVec ℕ) → Asked
start_on prog (Fit ctx) = asked.Event (events.Start prog ctx)
start_on prog TooLong = asked.Overlong prog

-- what is asked of the map that has the name
abbrev pub OfMapNamed : List (List ℕ) → List ℕ → (ℕ → Asked) → Asked → Type 0
OfMapNamed names name f a = (map : Option ℕ) × IsMapOf names name map × (a ≡ of_map map f)

-- what each command asks of a world whose maps have these names
abbrev pub IsAsked : List (List ℕ) → ScriptCommand → Asked → Type 0
IsAsked names (commands.Map name shape) a = a ≡ asked.TooLate
IsAsked names (commands.Load ctx_len code maps) a = a ≡ asked.TooLate
IsAsked names (commands.Put name key value flags) a = OfMapNamed names name (λ map.
    of_length key (λ k. of_length value (λ v. asked.Event (events.Update map k v flags)))) a
IsAsked names (commands.Get name key) a = OfMapNamed names name (λ map.
    of_length key (λ k. asked.Event (events.Read map k))) a
IsAsked names (commands.Del name key) a = OfMapNamed names name (λ map.
    of_length key (λ k. asked.Event (events.Delete map k))) a
IsAsked names (commands.Start prog ctx) a = a ≡ start_on prog ctx
IsAsked names (commands.Step run count) a = a ≡ asked.Steps run count
IsAsked names commands.Advance a = a ≡ asked.Event events.Advance
IsAsked names commands.Reap a = a ≡ asked.Event events.Reap
IsAsked names (commands.Drop run) a = a ≡ asked.Event (events.Drop run)
IsAsked names commands.Stat a = a ≡ asked.Counts
IsAsked names (commands.Dump name) a = OfMapNamed names name (λ map. asked.Elements map) a
