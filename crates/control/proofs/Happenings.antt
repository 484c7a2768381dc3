-- What happens in a world.
use Rattle.bpf_model.proofs.Prelude.{◌≡◌, ◌∙◌, ℕ, zero, suc, ◌+◌, List, [], ◌∷◌, ◌++◌, replicate, refl, subst, sym, ap, none-some, same_Some, IsReal, AreReal}
use Rattle.bpf_model.proofs.Prelude.{WorldView}
use Rattle.model_laws.proofs.Prelude.{Event, Step, Answer}
use Rattle.world_laws.proofs.Prelude.{full_reaction, full_reactions, IsWorld}
use Rattle.world.proofs.Answering.{AllReact, all_scheduled}
use Rattle.world_laws.proofs.Appending.{view_append}
use Rattle.world_laws.proofs.Keeping.{full_keeps}
use Rattle.control.specs.Lives.{Happen}
use Rattle.control.specs.Replies.{MakesSteps}

happen : (w : WorldView) (events : List Event) (new : WorldView) → IsWorld w → AreReal events → new ≡ (full_reactions w events).1 → Happen w events new
happen w events new is real e =
    let all : AllReact w events (full_reactions w events).0 new = record { is = is; real = real; answers_are = refl; new_is = e } in
    record { world = is; real = real; new_is = e; machine = all_scheduled all }

real_nil : AreReal []
real_nil k event g = absurd (none-some event g)

real_cons : (first : Event) (rest : List Event) → IsReal first → AreReal rest → AreReal (first ∷ rest)
real_cons first rest r are zero event g = subst IsReal (same_Some first event g) r
real_cons first rest r are (suc k) event g = are k event g

real_same : (n : ℕ) (event : Event) → IsReal event → AreReal (replicate n event)
real_same zero event r = real_nil
real_same (suc n) event r = real_cons event (replicate n event) r (real_same n event r)

pub nothing : (w : WorldView) → IsWorld w → Happen w [] w
nothing w is = happen w [] w is real_nil refl

pub one_event : (w : WorldView) (event : Event) (new : WorldView) → IsWorld w → IsReal event →
    new ≡ (full_reactions w (event ∷ [])).1 → Happen w (event ∷ []) new
one_event w event new is real e = happen w (event ∷ []) new is (real_cons event [] real real_nil) e

pub steps_happen : (w : WorldView) (run count : ℕ) (steps : List Event) (answer : Answer) (new : WorldView) →
    IsWorld w → IsReal (Step run) → MakesSteps w run count steps answer new → Happen w steps new
steps_happen w run count steps answer new is real m =
    happen w steps new is (subst AreReal (sym m.steps_are) (real_same (m.moves + 1) (Step run) real)) m.new_is

real_append : (first rest : List Event) → AreReal first → AreReal rest → AreReal (first ++ rest)
real_append [] rest a b = b
real_append (event ∷ events) rest a b = real_cons event (events ++ rest) (a zero event refl) (real_append events rest (λ k. a (suc k)) b)

-- one after another
pub happen_more : (w v u : WorldView) (first rest : List Event) → Happen w first v → Happen v rest u → Happen w (first ++ rest) u
happen_more w v u first rest h k =
    happen w (first ++ rest) u h.world (real_append first rest h.real k.real)
    (k.new_is ∙ (ap (λ (x : WorldView). (full_reactions x rest).1) h.new_is ∙ sym (view_append w first rest)))

-- no event changes a name
pub names_stay : (w : WorldView) (events : List Event) → (full_reactions w events).1.names ≡ w.names
names_stay w [] = refl
names_stay w (event ∷ events) = names_stay (full_reaction w event).1 events ∙ (full_keeps w event).2
