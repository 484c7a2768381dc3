use Rattle.bpf_model.proofs.Prelude.{◌≡◌, ◌<◌, ◌++◌, ◌∷◌, [], length, Some, None, sym, ap, ◌∙◌, arith, inl, inr, List, ℕ, refl, slice_get, drop, ◌+◌}
use Rattle.bpf_model.proofs.Prelude.{if◌then◌else◌, cases_lt, length-map, Queues, unlinked_between, slice_get_read, get-map}
use Rattle.reference_store.specs.State.{element_of, elements_of}
use Rattle.reference_store.specs.Retiring.{linked_map}
use Rattle.reference_store.proofs.Queueing.{unlinked-more, unlinked-first, unlinked-second}
use Rattle.reference_store.proofs.Lists.{made-from}
use Rattle.reference_store.proofs.queues.retire.Goals as goal

pub loop-n-preserved : goal.loop-n-preserved
loop-n-preserved c = record {
  next = λ olds h.
      let k = c.args.k in
      let n = c.loop-n.n in
      let before = c.args.before.now in
      let elements = c.args.elements.now in
      let done = c.loop-n.queues.next.items in
      let first : n < length before = omega (arith, c.loop-n-test.true, c.min-n-end.ensures) in
      let second : n < length elements = omega (arith, c.loop-n-test.true, c.min-n-end.ensures) in
      let x = c.index-elements-n.result in
      let o = made-from linked_map olds before n None h first in
      let there : slice_get (elements_of elements) n ≡ Some (element_of x) =
      get-map element_of elements n x (slice_get_read elements (length elements) n x refl second
      c.index-elements-n.is) in
      let wanted = c.is_retired.ensures o.0 o.2 in
      let pushed = c.in_ok-push_if.ensures ∙ ap (λ b. done ++ (if b then n ∷ [] else [])) wanted in
      c.loop-n.invariant.next olds h ∙ unlinked-more olds (elements_of elements) k n done o.0 (element_of x) o.1 there
      ∙ ap (λ l. l ++ unlinked_between k (n + 1) (drop (n + 1) olds) (drop (n + 1) (elements_of elements)))
      (sym pushed);
  waiting = c.loop-n.invariant.waiting;
  ready = c.loop-n.invariant.ready;
}

pub returns : goal.returns
returns c = λ olds h.
    let k = c.args.k in
    let n = c.loop-n.n in
    let news = elements_of c.args.elements.now in
    let now = c.loop-n.queues in
    let old = c.args.queues.now in
    let olds_long : length c.args.before.now ≡ length olds = ap length h ∙ length-map olds linked_map in
    let news_long : length news ≡ length c.args.elements.now = length-map c.args.elements.now element_of in
    let rest : now.next.items ++ unlinked_between k n (drop n olds) (drop n news) ≡ now.next.items = elim (cases_lt n (length olds)) [
      | inl g ↦ unlinked-second olds news k n now.next.items (omega (arith, c.loop-n-test.false, c.min-n-end.ensures, olds_long, news_long))
      | inr g ↦ unlinked-first olds news k n now.next.items (omega arith)
    ] in
    let next : now.next.items ≡ old.next.items ++ unlinked_between k 0 olds news = sym (c.loop-n.invariant.next olds h ∙ rest) in
    let of : List ℕ → List ℕ → List ℕ → Queues = λ a b d. record { next = a; waiting = b; ready = d } in
    ap (λ a. of a now.waiting.items now.ready.items) next ∙
    ap (λ v. of (old.next.items ++ unlinked_between k 0 olds news) v.items now.ready.items)
    c.loop-n.invariant.waiting
    ∙ ap (λ v. of (old.next.items ++ unlinked_between k 0 olds news) old.waiting.items v.items) c.loop-n.invariant.ready
