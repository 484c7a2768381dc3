use Rattle.bpf_model.proofs.Prelude.{◌≡◌, ◌+◌, ◌<◌, ◌≤◌, length, arith, subst, sym, ◌∙◌, slice_index_or, max, le-max_left, le-max_right, max-le}
use Rattle.bpf_model.proofs.Prelude.{get_or_default}
use Rattle.verifier.proofs.Prelude.{Table, size_of}
use Rattle.verifier.specs.declared.waiting.Waiting.TheVariants.{Nothing}
use Rattle.verifier.proofs.Counting.{room_for_one}
use Rattle.verifier.proofs.pending.Pending.take_counted.Goals as goal

pub invariant_of-self : goal.invariant_of-self
invariant_of-self c =
    let items = c.self.inside.by_index.items in
    let index = c.args.index in
    let len = c.self.inside.len in
    let peak = c.self.inside.peak in
    let was = c.self.invariant in
    let e = c.max-self-inside.ensures in
    let inside : index < length items = subst (λ (t : Table). index < size_of t) (sym c.self.view_is) c.requires.index in
    let here : slice_index_or items index Nothing ≡ Nothing =
    sym (get_or_default items index c.index.result.now Nothing inside) ∙ sym c.index.ensures ∙ c.in-Nothing.is in
    let room : len + 1 ≤ length items = omega (arith, was.count, room_for_one items index inside here) in
    let most : max peak (len + 1) ≤ length items = max-le was.few room in
    let low = le-max_left peak (len + 1) in
    let high = le-max_right peak (len + 1) in
    record {
      count = was.count;
      some = omega (arith, e, was.some, low);
      most = omega (arith, e, high);
      few = omega (arith, e, most);
    }
