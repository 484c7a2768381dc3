-- Journals that replay.
use Rattle.bpf_model.proofs.Prelude.{◌≡◌, ◌∙◌, ℕ, ◌≤◌, List, [], ◌∷◌, ◌++◌, length, Some, None, Option, refl, sym, ap, subst, slice_get, map_push, none-some}
use Rattle.bpf_model.proofs.Prelude.{Element, IsReal, AreReal, AreScheduledAnswers, AreMachineAnswers, AreNeverStuck, AllExitInTime, AreReclaimedLate}
use Rattle.bpf_model.proofs.Prelude.{HasHistoryTo, IsHistory, last_of, Loaded, Machine, Run, run_at, Tracks, TracksSchedule, RunSlotRefines, RunView}
use Rattle.bpf_model.proofs.Prelude.{WorldView, option_flatten}
use Rattle.model_laws.proofs.Prelude.{Event, Answer, Entry}
use Rattle.world_laws.proofs.Prelude.{full_reaction, full_reactions, IsWorld}
use Rattle.bpf_model.specs.Replay.{HasNoRunsOnMachine, ReplaysOnMachine, answers_of, events_of}
use Rattle.model_laws.proofs.Tracking.{real-more}
use Rattle.world_laws.proofs.Worlds.{answers_machine, answers_scheduled, never_stuck, exit_in_time, reclaimed_late}
use Rattle.world_laws.proofs.Appending.{answers_grow, view_grows}
use Rattle.world_laws.proofs.KeepingWorlds.{reactions_make_world}
use Rattle.shared_books.specs.Replay.{HasNoRuns, Replays}

pub empty_replays : (w : WorldView) → IsWorld w → HasNoRuns w → Replays w w []
empty_replays w is quiet = record {
  quiet = quiet;
  base_is = is;
  real = λ k event at. absurd (none-some event at);
  answers = refl;
  world_is = refl;
}

pub run_all_replays : (base : WorldView) (entries : List Entry) → IsWorld base → HasNoRuns base →
    AreReal (events_of entries) → answers_of entries ≡ (full_reactions base (events_of entries)).0 →
    Replays base (full_reactions base (events_of entries)).1 entries
run_all_replays base entries is quiet real answers = record { quiet = quiet; base_is = is; real = real; answers = answers; world_is = refl }

pub replays_to_world : (base world : WorldView) (entries : List Entry) → Replays base world entries → IsWorld world
replays_to_world base world entries h = subst IsWorld (sym h.world_is) (reactions_make_world base (events_of entries) h.base_is h.real)

pub replays_push : (base world new : WorldView) (entries : List Entry) (entry : Entry) → Replays base world entries →
    IsReal entry.event → entry.answer ≡ (full_reaction world entry.event).0 →
    new ≡ (full_reaction world entry.event).1 → Replays base new (entries ++ entry ∷ [])
replays_push base world new entries entry h real answer is =
    let events = events_of entries in
    let longer : events_of (entries ++ entry ∷ []) ≡ events ++ entry.event ∷ [] = map_push (λ (e : Entry). e.event) entries entry in
    let others : answers_of (entries ++ entry ∷ []) ≡ answers_of entries ++ entry.answer ∷ [] = map_push (λ (e : Entry). e.answer) entries entry in
    let answered = answers_grow base world events entry.event (answers_of entries) entry.answer h.answers h.world_is answer in
    let view = view_grows base world new events entry.event h.world_is is in
    record {
      quiet = h.quiet;
      base_is = h.base_is;
      real = subst AreReal (sym longer) (real-more events entry.event h.real real);
      answers = others ∙ (answered ∙ ap (λ (xs : List Event). (full_reactions base xs).0) (sym longer));
      world_is = view ∙ ap (λ (xs : List Event). (full_reactions base xs).1) (sym longer);
    }

-- on the machine
quiet-slot : (slots : List ℕ) (es : List Element) (programs : List Loaded) (o : Option (Option RunView))
    (p : Option (Option Run)) → RunSlotRefines slots es programs o p → option_flatten o ≡ None →
    option_flatten p ≡ None
quiet-slot slots es programs None None h e = refl
quiet-slot slots es programs (Some None) (Some None) h e = refl
quiet-slot slots es programs (Some (Some v)) (Some (Some run)) h e = absurd (none-some v (sym e))
quiet-slot slots es programs o p h e = absurd h

quiet-machine : (base : WorldView) (m : Machine) → HasNoRuns base → Tracks base m → HasNoRunsOnMachine m
quiet-machine base m quiet t r =
    let s = t.0 in
    let here : run_at s.machine.runs r ≡ None = quiet-slot t.2.refines.slots s.machine.store.elements
    s.machine.programs (slice_get base.runs r) (slice_get s.machine.runs r) (t.2.refines.runs r) (quiet r) in
    subst (λ (x : Machine). run_at x.runs r ≡ None) t.1 here

pub replays_on_machine : (limit : ℕ) (base world : WorldView) (entries : List Entry) → Replays base world entries →
    length entries ≤ limit → (m : Machine) → Tracks base m → (last : Machine) × ReplaysOnMachine limit m entries last
    × Tracks world last
replays_on_machine limit base world entries h short m t =
    let run = answers_machine base (events_of entries) h.base_is.ready h.real m t in
    let last = last_of m run.0 in
    let moved : HasHistoryTo m (events_of entries) (answers_of entries) last = (
      run.0,
      subst (λ (xs : List Answer). IsHistory m (events_of entries) xs run.0) (sym h.answers) run.1,
      refl,
    ) in (
      last,
      record { quiet = quiet-machine base m h.quiet t; short = short; real = h.real; replay = moved },
      subst (λ (w : WorldView). Tracks w last) (sym h.world_is) run.2,
    )

-- the main theorem over a whole journal
pub scheduled_over : (base world : WorldView) (entries : List Entry) → Replays base world entries →
    AreScheduledAnswers TracksSchedule base (events_of entries) (answers_of entries) world
scheduled_over base world entries h =
    let law = answers_scheduled base (events_of entries) h.base_is.ready h.real in
    subst (λ (w : WorldView). AreScheduledAnswers TracksSchedule base (events_of entries) (answers_of entries) w) (sym h.world_is)
    (subst (λ (xs : List Answer). AreScheduledAnswers TracksSchedule base (events_of entries) xs
    (full_reactions base (events_of entries)).1) (sym h.answers) law)

pub machine_over : (base world : WorldView) (entries : List Entry) → Replays base world entries →
    AreMachineAnswers Tracks base (events_of entries) (answers_of entries) world
machine_over base world entries h =
    let law = answers_machine base (events_of entries) h.base_is.ready h.real in
    subst (λ (w : WorldView). AreMachineAnswers Tracks base (events_of entries) (answers_of entries) w) (sym h.world_is)
    (subst (λ (xs : List Answer). AreMachineAnswers Tracks base (events_of entries) xs (full_reactions base (events_of entries)).1) (sym h.answers) law)

pub never_stuck_over : (base world : WorldView) (entries : List Entry) → Replays base world entries →
    AreNeverStuck Tracks base (events_of entries) (answers_of entries)
never_stuck_over base world entries h =
    subst (λ (xs : List Answer). AreNeverStuck Tracks base (events_of entries) xs) (sym h.answers) (never_stuck base (events_of entries) h.base_is.ready h.real)

pub exits_over : (base world : WorldView) (entries : List Entry) → Replays base world entries →
    AllExitInTime Tracks base (events_of entries) (answers_of entries)
exits_over base world entries h =
    subst (λ (xs : List Answer). AllExitInTime Tracks base (events_of entries) xs) (sym h.answers)
    (exit_in_time base (events_of entries) h.base_is.ready h.real)

pub reclaimed_over : (base world : WorldView) (entries : List Entry) → Replays base world entries →
    AreReclaimedLate Tracks base (events_of entries) (answers_of entries)
reclaimed_over base world entries h =
    subst (λ (xs : List Answer). AreReclaimedLate Tracks base (events_of entries) xs) (sym h.answers) (reclaimed_late base (events_of entries))
