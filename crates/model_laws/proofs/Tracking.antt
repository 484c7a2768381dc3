-- A step leads on from the schedule that a world tracks.
use Rattle.bpf_model.proofs.Prelude.{◌≡◌, List, [], ◌∷◌, ◌++◌, inl, inr, sym, subst, IsReal, AreReal, Loaded, Schedule, DoesScheduled, start_schedule}
use Rattle.bpf_model.proofs.Prelude.{WorldView, shapes_of, IsReachedSchedule, TracksSchedule, get-append_cases}
use Rattle.model_laws.proofs.Prelude.{MapShape, Event, Answer, Matches, Simulates}
use Rattle.model_laws.proofs.Joining.{history-join, last-join}

pub real-more : (events : List Event) (event : Event) → AreReal events → IsReal event → AreReal (events ++ event ∷ [])
real-more events event all real k e at = elim (get-append_cases events event k e at) [
  | inl x ↦ all k e x
  | inr x ↦ subst IsReal x.1 real
]

reached-more : (shapes : List MapShape) (programs : List Loaded) (s t : Schedule) (event : Event) (answer : Answer) →
    IsReachedSchedule shapes programs s → IsReal event → DoesScheduled s event answer t →
    IsReachedSchedule shapes programs t
reached-more shapes programs s t event answer r real d = record {
  limits = r.limits;
  events = r.events ++ event ∷ [];
  answers = r.answers ++ answer ∷ [];
  states = r.states ++ t ∷ [];
  real = real-more r.events event r.real real;
  history = history-join (start_schedule shapes programs) r.events (event ∷ []) r.answers (answer ∷ []) r.states
      (t ∷ []) r.history (subst (λ z. DoesScheduled z event answer t) (sym r.last) d, tt);
  last = last-join (start_schedule shapes programs) r.states (t ∷ []);
}

pub simulates_tracks : (w new : WorldView) (s : Schedule) (event : Event) (answer : Answer) → TracksSchedule w s →
    IsReal event → shapes_of new ≡ shapes_of w → new.programs ≡ w.programs → Simulates s event (answer, new) →
    (next : Schedule) × DoesScheduled s event answer next × TracksSchedule new next × Matches new next
simulates_tracks w new s event answer t real shapes programs h = (
  h.next,
  h.does,
  record {
    refines = h.matches.refines;
    reached = subst (λ l. IsReachedSchedule l new.programs h.next) (sym shapes)
        (subst (λ l. IsReachedSchedule (shapes_of w) l h.next) (sym programs)
        (reached-more (shapes_of w) w.programs s h.next event answer t.reached real h.does));
  },
  h.matches,
)
