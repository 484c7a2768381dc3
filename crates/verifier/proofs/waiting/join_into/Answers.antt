use Rattle.bpf_model.proofs.Prelude.{◌≡◌, ◌≢◌, ◌∙◌, Some, sym, ap, refl}
use Rattle.register_kinds.proofs.Prelude.{state_of}
use Rattle.verifier.proofs.Prelude.{state_in}
use Rattle.verifier.specs.declared.waiting.Waiting.TheVariants.{Known, Differing}
use Rattle.verifier.proofs.Accepting.{joined_facts, joined_expects}
use Rattle.verifier.proofs.Merging.{joined_from}
use Rattle.verifier.proofs.waiting.join_into.Goals as goal

pub returns-then-deref-state-clause-joined : goal.returns-then-deref-state-clause-joined
returns-then-deref-state-clause-joined c =
    let waited : state_in c.args.waiting.now ≡ Some c.deref_mut.result.now = ap state_in c.in-Known.is ∙ ap Some (sym c.deref_mut.ensures.value) in
    let paired : c.args.waiting.now ≢ Differing = (λ d. (let g : Known c.in-Known.before ≡ Differing = sym c.in-Known.is ∙ d in cc)) in
    joined_from c.args.waiting.now (Known (Rattle.std.specs.Box.with_value c.in-Known.before c.join.new.self))
    c.deref_mut.result.now c.args.state.now c.join.new.self paired waited refl c.join.ensures.left
    c.join.ensures.right
    (joined_facts (state_of c.deref_mut.result.now) (state_of c.args.state.now)
    (state_of c.join.new.self) c.join.ensures.exact c.join.ensures.joins.2.left.depth)
    (joined_expects (state_of c.deref_mut.result.now) (state_of c.args.state.now) (state_of c.join.new.self) c.join.ensures.exact)
