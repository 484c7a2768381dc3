-- The answers of the example.
use Rattle.bpf_model.proofs.Prelude.{◌≡◌, ◌∙◌, ℕ, List, [], ◌∷◌, ◌++◌, false, Option, Some, None, refl, ap, Result, Ok, is_some, slice_get, ◌==◌}
use Rattle.bpf_model.proofs.Prelude.{if◌then◌else◌, nat_cmp, slice_cmp, get, empty, insert, len, get-empty, len-empty, key_refusal, update_error, MapView}
use Rattle.bpf_model.proofs.Prelude.{RunView, WorldView, new_map_view, map_state_of, KeyMap, option_flatten}
use Rattle.model_laws.proofs.Prelude.{Errno, Event, Start, Step, Advance, Reap, Drop, Answer, Started, Moved, Exited, Ret, Done, Reaped, Free, BadLength}
use Rattle.model_laws.proofs.Prelude.{MapKind, Hash, example_shape, retired_slot, deleted_from, delete_result, filled_from, updated_by, shown_error, with_map}
use Rattle.model_laws.proofs.Prelude.{shape_shown, delete_at}
use Rattle.world_laws.proofs.Prelude.{found_word, returned_view, moves_on, full_reaction, full_reactions, example_world}
use Rattle.bpf_model.specs.declared.event.Event.TheVariants.{Update, Delete}
use Rattle.model_laws.proofs.Indices.{insert-same}
use Rattle.world_laws.proofs.Appending.{answers_append}
use Rattle.world_laws.specs.WorldExample.{key_zero, value_263, example_events, example_answers}

-- one event before others
next : (w new : WorldView) (e : Event) (a : Answer) (es : List Event) → full_reaction w e ≡ (a, new) →
    (full_reactions w (e ∷ es)).0 ≡ a ∷ (full_reactions new es).0
next w new e a es h = ap (λ (x : Answer × WorldView). x.0 ∷ (full_reactions x.1 es).0) h

-- the update
abbrev fresh : MapView
fresh = new_map_view example_shape

abbrev index : KeyMap
index = insert empty key_zero.items 0

no-error : shown_error fresh key_zero.items 0 ≡ None
no-error =
    ap (λ (o : Option ℕ). update_error 0 (is_some o) (len fresh.index) (map_state_of fresh)) (get-empty (slice_cmp nat_cmp) key_zero.items)
    ∙ ap (λ n. update_error 0 false n (map_state_of fresh)) (len-empty (slice_cmp nat_cmp) ℕ)

abbrev stocked : WorldView
stocked = with_map 0 (filled_from fresh.free fresh key_zero.items value_263.items) example_world

updates : full_reaction example_world (Update 0 key_zero value_263 0) ≡ (Ret (Ok tt), stocked)
updates =
    ap (λ (o : Option Errno). (
      Ret (updated_by o fresh key_zero.items value_263.items).0,
      with_map 0 (updated_by o fresh key_zero.items value_263.items).1 example_world,
    )) no-error
    ∙ ap (λ (o : Option ℕ). (
      Ret (Ok tt),
      with_map 0 (filled_from fresh.free (retired_slot fresh key_zero.items o)
          key_zero.items value_263.items) example_world,
    )) (get-empty (slice_cmp nat_cmp) key_zero.items)

-- up to the lookup
abbrev first : List Event
first = Start 0 (record { items = [] }) ∷ Step 0 ∷ Step 0 ∷ Step 0 ∷ Step 0 ∷ Step 0 ∷ Step 0 ∷ []

first-answers : (full_reactions stocked first).0 ≡ Started 0 ∷ Moved ∷ Moved ∷ Moved ∷ Moved ∷ Moved ∷ Moved ∷ []
first-answers = refl

-- the lookup
abbrev before_lookup : WorldView
before_lookup = (full_reactions stocked first).1

abbrev or_fresh : Option RunView → RunView
or_fresh None = record { program = 0; context = []; registers = []; frame = []; place = 0; depth = 0; moved = 0; exit = None }
or_fresh (Some v) = v

abbrev running : RunView
running = or_fresh (option_flatten (slice_get before_lookup.runs 0))

abbrev found : WorldView
found = (moves_on 0 (returned_view (found_word 0 (Some 0)) running) before_lookup).1

looks-up : full_reaction before_lookup (Step 0) ≡ (Moved, found)
looks-up = ap (λ (o : Option ℕ). moves_on 0 (returned_view (found_word 0 o) running) before_lookup) (insert-same empty key_zero.items 0)

-- the delete
abbrev held : MapView
held = filled_from fresh.free fresh key_zero.items value_263.items

abbrev deleted_world : WorldView
deleted_world = with_map 0 (retired_slot held key_zero.items (Some 0)) found

-- (of any world, so that no whole world is compared)
deletes-in : (w : WorldView) (v : MapView) (slot : ℕ) → slice_get w.maps 0 ≡ Some v → v.shape.key_len ≡ 4 →
    v.shape.kind ≡ Hash → get v.index key_zero.items ≡ Some slot
    → full_reaction w (Delete 0 key_zero) ≡ (Ret (Ok tt), with_map 0 (retired_slot v key_zero.items (Some slot)) w)
deletes-in w v slot at long hash h =
    ap (λ (o : Option MapView). delete_at (key_refusal (shape_shown o) 4) o w 0 key_zero.items) at
    ∙ ap (λ (n : ℕ). delete_at (if 4 == n then None else Some BadLength) (Some v) w 0 key_zero.items) long
    ∙ ap (λ (kind : MapKind). (let x : Result (Unit {0}) Errno × MapView = deleted_from kind v key_zero.items in (Ret x.0, with_map 0 x.1 w))) hash
    ∙ ap (λ (o : Option ℕ). (Ret (delete_result o), with_map 0 (retired_slot v key_zero.items o) w)) h

found-map : slice_get found.maps 0 ≡ Some held
found-map = refl

deletes : full_reaction found (Delete 0 key_zero) ≡ (Ret (Ok tt), deleted_world)
deletes = deletes-in found held 0 found-map refl refl (insert-same empty key_zero.items 0)

-- the events after the first
abbrev rest : List Event
rest = Advance ∷ Advance ∷ Reap ∷ Step 0 ∷ Step 0 ∷ Step 0 ∷ Advance ∷ Reap ∷ Step 0 ∷ Step 0 ∷ Drop 0 ∷ []

abbrev rest_answers : List Answer
rest_answers = Done ∷ Done ∷ Reaped None ∷ Moved ∷ Moved ∷ Moved ∷ Done
    ∷ Reaped (Some (record { map = 0; key = key_zero; given = Free })) ∷ Moved ∷ Exited 263 ∷ Done ∷ []

rest-answers : (full_reactions deleted_world rest).0 ≡ rest_answers
rest-answers = refl

pub example_reacts : (full_reactions example_world example_events).0 ≡ example_answers
example_reacts =
    next example_world stocked (Update 0 key_zero value_263 0) (Ret (Ok tt)) (first ++ Step 0 ∷ Delete 0 key_zero ∷ rest) updates
    ∙ ap (λ (l : List Answer). Ret (Ok tt) ∷ l) (
    answers_append stocked first (Step 0 ∷ Delete 0 key_zero ∷ rest)
    ∙ ap (λ (l : List Answer). l ++ (full_reactions before_lookup (Step 0 ∷ Delete 0 key_zero ∷ rest)).0) first-answers
    ∙ ap (λ (l : List Answer). Started 0 ∷ Moved ∷ Moved ∷ Moved ∷ Moved ∷ Moved ∷ Moved ∷ l) (
    next before_lookup found (Step 0) Moved (Delete 0 key_zero ∷ rest) looks-up
    ∙ ap (λ (l : List Answer). Moved ∷ l) (
    next found deleted_world (Delete 0 key_zero) (Ret (Ok tt)) rest deletes
    ∙ ap (λ (l : List Answer). Ret (Ok tt) ∷ l) rest-answers)))
