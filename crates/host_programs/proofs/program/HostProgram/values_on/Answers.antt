use Rattle.bpf_model.proofs.Prelude.{◌≡◌, ℕ, ◌+◌, ◌*◌, List, drop, take, ap, ◌∙◌, subst, arith, length-set, slice_get_within}
use Rattle.host_programs.specs.Runs.{Gives, context_at}
use Rattle.host_programs.proofs.Each.{drop-more, next-each}
use Rattle.host_programs.proofs.program.HostProgram.values_on.Goals as goal

pub loop-at-preserved : goal.loop-at-preserved
loop-at-preserved c =
    let p = c.args.self.now in
    let long = c.ctx_len-long.result in
    let at = c.loop-at.at in
    let i = c.loop-at.invariant in
    let contexts = c.args.contexts.now in
    let next : at * long + long ≡ (at + 1) * long = omega arith in
    let rest = c.split_at.ensures.back ∙ ap (λ (xs : List ℕ). drop long xs) i.0 ∙ drop-more (at * long) long contexts
    ∙ ap (λ (k : ℕ). drop k contexts) next in
    let front = c.split_at.ensures.front ∙ ap (λ (xs : List ℕ). take long xs) i.0 in
    let given : Gives p (context_at long at contexts) c.value_in.result =
    subst (λ (xs : List ℕ). Gives p xs c.value_in.result) front
    (record { exits = c.value_in.ensures.exits; returns = c.value_in.ensures.returns }) in
    (rest, length-set c.loop-at.results at c.value_in.result ∙ i.1, i.2, i.3, next-each p long at c.value_in.result contexts c.loop-at.results i.4 given)

pub returns-clause-each : goal.returns-clause-each
returns-clause-each c = λ k n h.
    let i = c.loop-at.invariant in
    subst (λ (m : ℕ). Gives c.args.self.now (context_at m k c.args.contexts.now) n) i.2
    (i.4 k n (omega (arith, slice_get_within c.loop-at.results k n h, i.1, c.loop-at-test.false)) h)
