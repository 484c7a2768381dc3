use Rattle.bpf_model.proofs.Prelude.{◌≡◌, ◌+◌, ◌-◌, ◌<◌, length, max, arith, refl, sym, ap, subst, ◌∙◌, slice_index_or, slice_set}
use Rattle.verifier.proofs.Prelude.{Table, AreStatesCounted, awaited, occupied, size_of}
use Rattle.verifier.specs.declared.waiting.Waiting.TheVariants.{Nothing, Known}
use Rattle.verifier.proofs.Counting.{counted_set}
use Rattle.verifier.proofs.pending.Pending.put_first.Goals as goal

pub invariant_of-self : goal.invariant_of-self
invariant_of-self c =
    let items = c.self.inside.by_index.items in
    let index = c.args.index in
    let len = c.self.inside.len in
    let inside : index < length items = subst (λ (t : Table). index < size_of t) (sym c.self.view_is) c.requires.index in
    let here : slice_index_or items index Nothing ≡ Nothing = ap (λ (t : Table). awaited t index) c.self.view_is ∙ c.requires.first in
    let one : len - 0 + 1 ≡ len + 1 = omega arith in
    subst (λ n. AreStatesCounted (slice_set items index (Known c.args.state)) n c.max-self-inside.result) one
    (counted_set items index (Known c.args.state) len c.self.inside.peak 0 1 c.max-self-inside.result inside
    c.self.invariant (sym (ap occupied here)) refl (c.max-self-inside.ensures ∙ ap (max c.self.inside.peak) (sym one)))
