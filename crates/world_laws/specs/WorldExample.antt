-- A run reads an element that is deleted meanwhile: events, and the answers to them.
use Rattle.std.specs.Prelude.{ℕ, List, [], ◌∷◌, Some, None, Ok}
use Rattle.arrayvec.specs.ArrayVec.{ArrayVec}
use Rattle.bpf_model.specs.declared.event.Event.{Event}
use Rattle.bpf_model.specs.declared.event.Event.TheVariants.{Start, Step, Update, Delete, Advance}
use Rattle.bpf_model.specs.declared.event.Event.TheVariants.{Reap, Drop}
use Rattle.bpf_model.specs.declared.event.Answer.{Answer}
use Rattle.bpf_model.specs.declared.event.Answer.TheVariants.{Started, Moved, Exited, Ret, Done}
use Rattle.bpf_model.specs.declared.event.Answer.TheVariants.{Reaped}
use Rattle.bpf_model.specs.declared.event.Given.TheVariants.{Free}
use Rattle.bpf_model.specs.View.{WorldView, start_view}
use Rattle.model_laws.specs.Example.{lookup_program, example_shape}

abbrev pub key_zero : ArrayVec ℕ
key_zero = record { items = 0 ∷ 0 ∷ 0 ∷ 0 ∷ [] }

abbrev pub value_263 : ArrayVec ℕ
value_263 = record { items = 7 ∷ 1 ∷ 0 ∷ 0 ∷ 0 ∷ 0 ∷ 0 ∷ 0 ∷ [] }

-- One map, `m`, and the program that looks up key 0 in a section, and exits with the value.
abbrev pub example_world : WorldView
example_world = start_view ((109 ∷ []) ∷ []) (example_shape ∷ []) (lookup_program ∷ [])

-- The run looks the key up in its seventh step. Then the key is deleted; a grace period begins and
-- can't end, and nothing is reclaimed. The run loads the value, and leaves its section in its tenth
-- step. Then the grace period ends, and the element is reclaimed.
abbrev pub example_events : List Event
example_events =
    Update 0 key_zero value_263 0 ∷ Start 0 (record { items = [] }) ∷ Step 0 ∷ Step 0 ∷ Step 0
    ∷ Step 0 ∷ Step 0 ∷ Step 0 ∷ Step 0 ∷
    Delete 0 key_zero ∷ Advance ∷ Advance ∷ Reap ∷
    Step 0 ∷ Step 0 ∷ Step 0 ∷ Advance ∷ Reap ∷ Step 0 ∷ Step 0 ∷ Drop 0 ∷ []

abbrev pub example_answers : List Answer
example_answers =
    Ret (Ok tt) ∷ Started 0 ∷ Moved ∷ Moved ∷ Moved ∷ Moved ∷ Moved ∷ Moved ∷ Moved ∷
    Ret (Ok tt) ∷ Done ∷ Done ∷ Reaped None ∷
    Moved ∷ Moved ∷ Moved ∷ Done ∷ Reaped (Some (record { map = 0; key = key_zero; given = Free }))
    ∷ Moved ∷ Exited 263 ∷ Done ∷ []
