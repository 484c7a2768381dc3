use Rattle.bpf_model.proofs.Prelude.{ℕ, [], ◌∷◌, length, subst, IfOk-weaker, AllExitInTime, AnswersAsMachine, AreNeverStuck, Tracks, Machine}
use Rattle.model_laws.proofs.Prelude.{Event, Start}
use Rattle.run_once.specs.Going.{IsGoing, IsReady}
use Rattle.run_once.specs.Once.{RunsToExit, StartsAndExits}
use Rattle.run_once.proofs.Starting.{started_in}
use Rattle.run_once.proofs.once.run_from_start.Goals as goal

pub run_to_exit-requires-clause-begins : goal.run_to_exit-requires-clause-begins
run_to_exit-requires-clause-begins c =
    let (m, tracks, ready) = c.requires.ready in
    let w = c.args.world.now in
    let new = c.apply-started.new.self in
    let a = c.apply-started.result in
    let e = c.apply-started.ensures in
    let event : ℕ → Event = λ p. Start p (record { items = c.args.context.items }) in
    let machine = subst (λ p. AnswersAsMachine Tracks w (event p) a new) c.new-prog.ensures e.machine in
    let never = subst (λ p. AreNeverStuck Tracks w (event p ∷ []) (a ∷ [])) c.new-prog.ensures e.never_stuck in
    let time = subst (λ p. AllExitInTime Tracks w (event p ∷ []) (a ∷ [])) c.new-prog.ensures e.exits in
    let s = started_in w new c.args.context.items c.args.count a machine never time m tracks ready in
    (s.0, s.2, s.3)

pub returns-clause-runs : goal.returns-clause-runs
returns-clause-runs c =
    let w = c.args.world.now in
    let new = c.apply-started.new.self in
    let a = c.apply-started.result in
    let e = c.apply-started.ensures in
    let event : ℕ → Event = λ p. Start p (record { items = c.args.context.items }) in
    let machine = subst (λ p. AnswersAsMachine Tracks w (event p) a new) c.new-prog.ensures e.machine in
    let never = subst (λ p. AreNeverStuck Tracks w (event p ∷ []) (a ∷ [])) c.new-prog.ensures e.never_stuck in
    let time = subst (λ p. AllExitInTime Tracks w (event p ∷ []) (a ∷ [])) c.new-prog.ensures e.exits in
    let len = length c.args.context.items in
    IfOk-weaker c.run_to_exit.result
    (λ ended. (m : Machine) → Tracks new m → IsGoing m c.args.count 0 →
    RunsToExit m ended c.args.tells c.run_to_exit.new.text.items c.run_to_exit.new.world)
    (λ ended. (m : Machine) → Tracks w m → IsReady m c.args.count len →
    StartsAndExits m c.args.context.items ended c.args.tells c.run_to_exit.new.text.items c.run_to_exit.new.world)
    (λ ended exits m tracks ready.
    let s = started_in w new c.args.context.items c.args.count a machine never time m tracks ready in
    record { started = s.0; starts = s.1; runs = exits s.0 s.2 s.3 })
    c.run_to_exit.ensures.runs
