use Rattle.bpf_model.proofs.Prelude.{rules, ℕ, ◌≡◌, ◌<◌, ◌≤◌, arith, length, sym, ◌∙◌, subst, inl, inr, vec_len, true, refl, cases_lt, false≢true, length-map}
use Rattle.bpf_model.proofs.Prelude.{IsLinkedAt, slice_get_read, get-map}
use Rattle.reference_store.specs.State.{element_of, elements_of, IsLinkedHere}
use Rattle.reference_store.proofs.Elements.{linked-here, not-here, not-past}
use Rattle.reference_store.proofs.store.Store.lookup.Goals as goal

pub loop-n-init : goal.loop-n-init
loop-n-init c = λ k h l. absurd (omega arith)

pub returns-then-is_linked_at : goal.returns-then-is_linked_at
returns-then-is_linked_at c =
    let e = c.index.result.now in
    let items = c.args.self.now.elements.items in
    let len : vec_len c.args.self.now.elements ≡ length items = search rules in
    let bound : c.loop-n.n < length items = omega (arith, c.loop-n-test.true, c.len-n-end.ensures, len) in
    let here = c.is_linked_at.ensures.0 c.if-is_linked_at.true in
    linked-here (elements_of items) c.args.map c.args.key.now c.loop-n.n (element_of e)
    (get-map element_of items c.loop-n.n e (slice_get_read items (length items) c.loop-n.n e refl bound
    c.index.ensures)) here

pub loop-n-preserved : goal.loop-n-preserved
loop-n-preserved c =
    let e = c.index.result.now in
    let items = c.args.self.now.elements.items in
    let len : vec_len c.args.self.now.elements ≡ length items = search rules in
    let bound : c.loop-n.n < length items = omega (arith, c.loop-n-test.true, c.len-n-end.ensures, len) in
    let read = get-map element_of items c.loop-n.n e (slice_get_read items (length items) c.loop-n.n e refl bound c.index.ensures) in
    let away : IsLinkedHere (element_of e) c.args.map c.args.key.now → ⊥ = λ h. let t : c.is_linked_at.result ≡ true =
    c.is_linked_at.ensures.1 h in false≢true (sym c.if-is_linked_at.false ∙ t) in
    λ k h l. elim (cases_lt k c.loop-n.n) [
      | inl a ↦ c.loop-n.invariant k a l
      | inr a ↦
          let same : c.loop-n.n ≡ k = omega arith in
          not-here (elements_of items) c.args.map c.args.key.now c.loop-n.n (element_of e) read away
          (let P : ℕ → Type 0 = λ n. IsLinkedAt (elements_of items) c.args.map c.args.key.now n in subst P
          (sym same) l)
    ]

pub returns : goal.returns
returns c =
    let items = c.args.self.now.elements.items in
    let len : vec_len c.args.self.now.elements ≡ length items = search rules in
    let far : length (elements_of items) ≤ c.loop-n.n = omega (arith, length-map items element_of, c.loop-n-test.false, c.len-n-end.ensures, len) in
    λ n l. elim (cases_lt n c.loop-n.n) [
      | inl a ↦ c.loop-n.invariant n a l
      | inr a ↦ not-past (elements_of items) c.args.map c.args.key.now n (omega arith) l
    ]
