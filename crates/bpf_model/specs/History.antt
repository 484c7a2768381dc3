-- Histories of the machine: lists of events and of the answers to them, through a list of states.
use Rattle.std.specs.Prelude.{List, [], ◌∷◌}
use Rattle.bpf_model.specs.declared.event.Event.{Event}
use Rattle.bpf_model.specs.declared.event.Answer.{Answer}
use Rattle.bpf_model.specs.Machine.{Machine}
use Rattle.bpf_model.specs.Event.{DoesEvent}

-- From m the machine goes through these states, with these answers to these events.
abbrev pub IsHistory : Machine → List Event → List Answer → List Machine → Type 0
IsHistory m [] [] [] = Unit {0}
IsHistory m (event ∷ events) (answer ∷ answers) (next ∷ states) =
    DoesEvent m event answer next × IsHistory next events answers states
IsHistory m events answers states = ⊥

-- the last of some states, or the one before them where there is none
abbrev pub last_of : {A : Type 0} → A → List A → A
last_of a [] = a
last_of a (next ∷ states) = last_of next states

-- a fact holds of each of the states
abbrev pub AllStates : (Machine → Type 0) → List Machine → Type 0
AllStates P [] = Unit {0}
AllStates P (m ∷ states) = P m × AllStates P states
