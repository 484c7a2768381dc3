use Rattle.bpf_model.proofs.Prelude.{rules, ◌≡◌, ◌≢◌, ◌≤◌, ◌<◌, ◌∷◌, [], List, Some, length, subst, sym, slice_get, Machine, Tracks, shapes_of_maps}
use Rattle.model_laws.proofs.Prelude.{Answer}
use Rattle.run_once.specs.Going.{IsReady}
use Rattle.run_once.specs.Once.{AreDone, StartsAndExits, done}
use Rattle.run_once.proofs.Running.{bound_program, ready, runs, stops}
use Rattle.run_once.proofs.once.run_once.Goals as goal

pub returns-in-Some : goal.returns-in-Some
returns-in-Some c =
    let shapes = shapes_of_maps c.args.registry.maps in
    let pushed : c.push.new.self.items ≡ c.in_order.result ∷ [] = search rules in
    let bound = bound_program c.push.new.self.items c.in_order.result c.args.verified shapes c.args.context.items
    pushed c.in_order.ensures.verified c.in_order.ensures.maps c.requires.shapes c.requires.context in
    let (less, are_done, other) = c.in-Some.ensures.some in
    let of = c.deref.ensures.value in
    stops c.in-Ok.world _ shapes _ c.args.verified.program c.args.before.now c.args.context.items _ c.in-Ok.ensures.machine bound
    c.in_ok-answers.ensures.answers c.in-Some.number c.new-trace.result.items c.new-trace.ensures.items
    (subst (λ (xs : List Answer). c.in-Some.number < length xs) of less)
    (subst (λ (xs : List Answer). AreDone c.in-Some.number xs) of are_done)
    (subst (λ (xs : List Answer). slice_get xs c.in-Some.number ≢ Some done) of other)

pub run_from_start-requires-clause-ready : goal.run_from_start-requires-clause-ready
run_from_start-requires-clause-ready c =
    let shapes = shapes_of_maps c.args.registry.maps in
    let pushed : c.push.new.self.items ≡ c.in_order.result ∷ [] = search rules in
    let bound = bound_program c.push.new.self.items c.in_order.result c.args.verified shapes c.args.context.items
    pushed c.in_order.ensures.verified c.in_order.ensures.maps c.requires.shapes c.requires.context in
    let count : c.len-count.result ≡ length c.args.verified.program = search rules in
    let r = ready c.in-Ok.world _ shapes _ c.args.verified.program c.args.before.now c.args.context.items _ c.in-Ok.ensures.machine bound
    c.in_ok-answers.ensures.answers c.requires.updates in
    (r.0, r.1, subst (λ n. IsReady r.0 n (length c.args.context.items)) (sym count) r.2)

pub returns : goal.returns
returns c =
    let shapes = shapes_of_maps c.args.registry.maps in
    let pushed : c.push.new.self.items ≡ c.in_order.result ∷ [] = search rules in
    let bound = bound_program c.push.new.self.items c.in_order.result c.args.verified shapes c.args.context.items
    pushed c.in_order.ensures.verified c.in_order.ensures.maps c.requires.shapes c.requires.context in
    let count : c.len-count.result ≡ length c.args.verified.program = search rules in
    let e = c.in-Ok-run_from_start.ensures in
    let ended = c.in-Ok-run_from_start.ended in
    let text = c.run_from_start.new.text.items in
    let last = c.run_from_start.new.world in
    let before = c.run_all.new.self in
    let len = length c.args.context.items in
    let exits = subst (λ n. (m : Machine) → Tracks before m → IsReady m n len → StartsAndExits m c.args.context.items ended c.args.tells text last)
    count e.runs in
    runs c.in-Ok.world _ shapes _ c.args.verified.program c.args.before.now c.args.context.items _ c.in-Ok.ensures.machine bound
    c.in_ok-answers.ensures.answers ended c.args.tells text last c.requires.updates
    (subst (λ (xs : List Answer). AreDone (length xs) xs) c.deref.ensures.value c.in_default-first_not_done.ensures.none)
    exits (subst (λ n. ended.steps ≤ n) count e.in_time)
