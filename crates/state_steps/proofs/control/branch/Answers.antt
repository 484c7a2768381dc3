use Rattle.bpf_model.proofs.Prelude.{sym, ◌∙◌, on_ok_weaker, IfOk-weaker}
use Rattle.state_steps.proofs.Stepping.{null_forks, null_others, null_others_taken, maybe_compares, value_compares, numbers_compare, null_no_number}
use Rattle.state_steps.proofs.Stepping.{value_no_number}
use Rattle.state_steps.proofs.control.branch.Goals as goal

pub returns-in_ok-fork_null-in-Some-MaybeNull-clause-sound : goal.returns-in_ok-fork_null-in-Some-MaybeNull-clause-sound
returns-in_ok-fork_null-in-Some-MaybeNull-clause-sound c =
    let t = c.in-Some-MaybeNull.ensures in
    let kind = sym c.kind-kind.ensures ∙ c.in-Some-MaybeNull.is-1 in
    null_forks c.in-Some-MaybeNull.equal c.args.condition c.args.size c.args.dst c.args.src.now c.args.state.now
    c.fork_null.new.state c.in_ok-fork_null-in-Some-MaybeNull.field-0.value
    (record { condition_is = t.condition; size_is = t.size; src_is = t.number })
    (c.in_ok-fork_null-in-Some-MaybeNull.ensures.sound c.args.dst c.in-Some-MaybeNull.map-1 kind)

pub returns-in_ok-fork_null-in-Some-MaybeNull-clause-compares : goal.returns-in_ok-fork_null-in-Some-MaybeNull-clause-compares
returns-in_ok-fork_null-in-Some-MaybeNull-clause-compares c =
    let t = c.in-Some-MaybeNull.ensures in
    let kind = sym c.kind-kind.ensures ∙ c.in-Some-MaybeNull.is-1 in
    maybe_compares c.in-Some-MaybeNull.equal c.args.condition c.args.size c.args.dst c.in-Some-MaybeNull.map-1
    c.in-Some-MaybeNull.id c.args.src.now c.args.state.now
    (record { condition_is = t.condition; size_is = t.size; src_is = t.number }) kind

pub returns-in-Some-Value-clause-sound : goal.returns-in-Some-Value-clause-sound
returns-in-Some-Value-clause-sound c =
    let t = c.in-Some-Value.ensures in
    let equal = c.in-Some-Value.field-0-0 in
    let kind = sym c.kind-kind.ensures ∙ c.in-Some-Value.is-1 in
    null_forks equal c.args.condition c.args.size c.args.dst c.args.src.now c.args.state.now c.args.state.now c.args.state.now
    (record { condition_is = t.condition; size_is = t.size; src_is = t.number })
    (c.value_forks.ensures equal c.args.dst c.in-Some-Value.map-1 c.in-Some-Value.offset-1 c.args.state.now kind)

pub returns-in-Some-Value-clause-compares : goal.returns-in-Some-Value-clause-compares
returns-in-Some-Value-clause-compares c =
    let t = c.in-Some-Value.ensures in
    let equal = c.in-Some-Value.field-0-0 in
    let kind = sym c.kind-kind.ensures ∙ c.in-Some-Value.is-1 in
    value_compares equal c.args.condition c.args.size c.args.dst c.in-Some-Value.map-1 c.in-Some-Value.offset-1
    c.args.src.now c.args.state.now (record { condition_is = t.condition; size_is = t.size; src_is = t.number })
    kind

pub returns-in_default-clause-compares : goal.returns-in_default-clause-compares
returns-in_default-clause-compares c = on_ok_weaker c.fork.result
    (numbers_compare c.args.condition c.args.size c.args.dst c.args.src.now c.args.state.now) c.fork.ensures.compares

pub returns-in_ok-fork_null-in-Some-MaybeNull-clause-floor : goal.returns-in_ok-fork_null-in-Some-MaybeNull-clause-floor
returns-in_ok-fork_null-in-Some-MaybeNull-clause-floor c = λ x y e f. absurd (null_no_number _ _ _ x (sym c.kind-kind.ensures ∙ c.in-Some-MaybeNull.is-1) e)

pub returns-in_ok-fork_null-in-Some-MaybeNull-clause-taken_floor : goal.returns-in_ok-fork_null-in-Some-MaybeNull-clause-taken_floor
returns-in_ok-fork_null-in-Some-MaybeNull-clause-taken_floor c = λ x y e f.
    absurd (null_no_number _ _ _ x (sym c.kind-kind.ensures ∙ c.in-Some-MaybeNull.is-1) e)

pub returns-in-Some-Value-clause-floor : goal.returns-in-Some-Value-clause-floor
returns-in-Some-Value-clause-floor c = λ x y e f. absurd (value_no_number _ _ _ x (sym c.kind-kind.ensures ∙ c.in-Some-Value.is-1) e)

pub returns-in-Some-Value-clause-taken_floor : goal.returns-in-Some-Value-clause-taken_floor
returns-in-Some-Value-clause-taken_floor c = λ x y e f. absurd (value_no_number _ _ _ x (sym c.kind-kind.ensures ∙ c.in-Some-Value.is-1) e)

pub returns-in_ok-fork_null-in-Some-MaybeNull-clause-others : goal.returns-in_ok-fork_null-in-Some-MaybeNull-clause-others
returns-in_ok-fork_null-in-Some-MaybeNull-clause-others c = λ offset r s n e.
    null_others c.in-Some-MaybeNull.equal c.in-Some-MaybeNull.id c.args.state.now c.fork_null.new.state
    c.in_ok-fork_null-in-Some-MaybeNull.field-0.value c.in_ok-fork_null-in-Some-MaybeNull.ensures.jumps_on_null
    c.in_ok-fork_null-in-Some-MaybeNull.ensures.jumps_elsewhere r s e

pub returns-in_ok-fork_null-in-Some-MaybeNull-clause-others_taken : goal.returns-in_ok-fork_null-in-Some-MaybeNull-clause-others_taken
returns-in_ok-fork_null-in-Some-MaybeNull-clause-others_taken c = λ offset r s n e.
    null_others_taken c.in-Some-MaybeNull.equal c.in-Some-MaybeNull.id c.args.state.now c.fork_null.new.state
    c.in_ok-fork_null-in-Some-MaybeNull.field-0.value c.in_ok-fork_null-in-Some-MaybeNull.ensures.jumps_on_null
    c.in_ok-fork_null-in-Some-MaybeNull.ensures.jumps_elsewhere r s e

pub returns-in-Some-Value-clause-others : goal.returns-in-Some-Value-clause-others
returns-in-Some-Value-clause-others c = λ offset r s n e. e

pub returns-in-Some-Value-clause-others_taken : goal.returns-in-Some-Value-clause-others_taken
returns-in-Some-Value-clause-others_taken c = λ offset r s n e. e

pub returns-in_default-clause-others : goal.returns-in_default-clause-others
returns-in_default-clause-others c = on_ok_weaker c.fork.result (λ w offset r s n e. w.others r n ∙ e) c.fork.ensures.narrowed

pub returns-in_default-clause-others_taken : goal.returns-in_default-clause-others_taken
returns-in_default-clause-others_taken c = IfOk-weaker c.fork.result _ _ (λ taken w offset r s n e. w.others r n ∙ e) c.fork.ensures.taken_narrowed
