use Rattle.bpf_model.proofs.Prelude.{◌≡◌, ap, subst, ◌∙◌, true, false}
use Rattle.effects.proofs.Prelude.{AbsState, Narrows}
use Rattle.register_kinds.proofs.Prelude.{state_of, kind_of}
use Rattle.effects.proofs.Branches.{fork_sound, numbers_compared, edge_known, sides_stay, narrowed_none}
use Rattle.effects.proofs.forks.fork.Goals as goal

pub returns-in-Some-Some-clause-sound : goal.returns-in-Some-Some-clause-sound
returns-in-Some-Some-clause-sound c = fork_sound c.args.condition c.args.size c.args.dst c.args.src.now c.in_ok-x.x
    c.in_ok-x.y c.in_ok-x.x c.in_ok-x.y c.in_ok-x.x c.in_ok-x.y c.args.state.now c.args.state.now c.args.state.now
    c.in_ok-x.ensures.left c.in_ok-x.ensures.right (λ p q a b h k e. (h, k)) (λ p q a b h k e. (h, k))
    (λ s m d h k. d) (λ s m d h k. d)

pub returns-in-Some-Some-clause-floor : goal.returns-in-Some-Some-clause-floor
returns-in-Some-Some-clause-floor c =
    let x = c.in_ok-x.x in
    let y = c.in_ok-x.y in
    let a = state_of c.args.state.now in
    let left = ap kind_of c.in_ok-x.ensures.left in
    let floor = c.constants_stay.ensures c.args.size c.args.condition false x y c.in-Some-Some.field-0-0
    c.in-Some-Some.field-0-1 c.in-Some-Some.ensures c.in-Some-Some.ensures' in
    edge_known c.args.size c.args.condition false c.args.dst c.args.src.now x y x y a a left c.in_ok-x.ensures.known
    floor (sides_stay c.args.dst c.args.src.now x y a left c.in_ok-x.ensures.known)

pub returns-in-Some-Some-clause-taken_floor : goal.returns-in-Some-Some-clause-taken_floor
returns-in-Some-Some-clause-taken_floor c =
    let x = c.in_ok-x.x in
    let y = c.in_ok-x.y in
    let a = state_of c.args.state.now in
    let left = ap kind_of c.in_ok-x.ensures.left in
    let floor = c.constants_stay.ensures c.args.size c.args.condition true x y c.in-Some-Some.field-0-0
    c.in-Some-Some.field-0-1 c.in-Some-Some.ensures c.in-Some-Some.ensures' in
    edge_known c.args.size c.args.condition true c.args.dst c.args.src.now x y x y a a left c.in_ok-x.ensures.known
    floor (sides_stay c.args.dst c.args.src.now x y a left c.in_ok-x.ensures.known)

pub returns-in-Some-Some-clause-narrowed : goal.returns-in-Some-Some-clause-narrowed
returns-in-Some-Some-clause-narrowed c = narrowed_none c.args.dst c.args.src.now c.in_ok-x.x c.in_ok-x.y
    (state_of c.args.state.now) (ap kind_of c.in_ok-x.ensures.left) c.in_ok-x.ensures.known

pub returns-in-Some-Some-clause-taken_narrowed : goal.returns-in-Some-Some-clause-taken_narrowed
returns-in-Some-Some-clause-taken_narrowed c = narrowed_none c.args.dst c.args.src.now c.in_ok-x.x c.in_ok-x.y
    (state_of c.args.state.now) (ap kind_of c.in_ok-x.ensures.left) c.in_ok-x.ensures.known

pub returns-clause-sound : goal.returns-clause-sound
returns-clause-sound c =
    let same : c.deref_mut.result.now ≡ c.args.state.now = c.deref_mut.ensures.value ∙ c.in_ok-taken.ensures in
    let t = c.refine-edges.result.taken in
    let f = c.refine-edges.result.not_taken in
    let taken = subst (λ (a : AbsState). Narrows c.args.dst c.args.src.now t.0 t.1 (state_of a) (state_of c.narrow.new.state)) same c.narrow.ensures.sound in
    fork_sound c.args.condition c.args.size c.args.dst c.args.src.now c.in_ok-x.x c.in_ok-x.y t.0 t.1 f.0 f.1
    c.args.state.now c.narrow-2.new.state c.narrow.new.state
    c.in_ok-x.ensures.left c.in_ok-x.ensures.right c.refine-edges.ensures.sound c.refine-edges.ensures.sound_not_taken taken c.narrow-2.ensures.sound

pub returns-clause-compares : goal.returns-clause-compares
returns-clause-compares c = numbers_compared c.args.dst c.args.src.now c.in_ok-x.x c.in_ok-x.y c.args.state.now c.in_ok-x.ensures.left c.in_ok-x.ensures.right

pub returns-clause-floor : goal.returns-clause-floor
returns-clause-floor c =
    let f = c.refine-edges.result.not_taken in
    edge_known c.args.size c.args.condition false c.args.dst c.args.src.now c.in_ok-x.x c.in_ok-x.y f.0 f.1
    (state_of c.args.state.now) (state_of c.narrow-2.new.state)
    (ap kind_of c.in_ok-x.ensures.left) c.in_ok-x.ensures.known c.refine-edges.ensures.floor_not_taken c.narrow-2.ensures.sides

pub returns-clause-taken_floor : goal.returns-clause-taken_floor
returns-clause-taken_floor c =
    let t = c.refine-edges.result.taken in
    edge_known c.args.size c.args.condition true c.args.dst c.args.src.now c.in_ok-x.x c.in_ok-x.y t.0 t.1
    (state_of c.args.state.now) (state_of c.narrow.new.state)
    (ap kind_of c.in_ok-x.ensures.left) c.in_ok-x.ensures.known c.refine-edges.ensures.floor c.narrow.ensures.sides
