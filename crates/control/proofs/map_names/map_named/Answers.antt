use Rattle.bpf_model.proofs.Prelude.{arith, ◌≡◌, ◌∙◌, ℕ, ◌+◌, ◌<◌, Bool, false, List, [], length, Some, sym, ap, inl, inr, slice_get, bytes_eq, unwrap_or}
use Rattle.bpf_model.proofs.Prelude.{false≢true, cases_lt, slice_get_within, same_Some, bytes_eq-Decides, get-below}
use Rattle.control.specs.Names.{map_name}
use Rattle.control.proofs.map_names.map_named.Goals as goal

-- no name before the next index is the wanted one
none-more : (all : List (List ℕ)) (wanted text : List ℕ) (i : ℕ) (b : Bool) → slice_get all i ≡ Some text →
    b ≡ bytes_eq text wanted → b ≡ false → ((k : ℕ) → k < i → slice_get all k ≡ Some wanted → ⊥) → (k : ℕ) → k < i + 1
    → slice_get all k ≡ Some wanted → ⊥
none-more all wanted text i b here e f before k l g = elim (cases_lt k i) [
  | inl a ↦ before k a g
  | inr a ↦
      let same : k ≡ i = omega arith in
      let one : text ≡ wanted = same_Some text wanted (sym here ∙ (ap (slice_get all) (sym same) ∙ g)) in
      false≢true (sym f ∙ (e ∙ (bytes_eq-Decides text wanted).1 one))
]

-- the name of a map that is there
name-there : (all : List (List ℕ)) (i : ℕ) (text : List ℕ) → i < length all → text ≡ map_name all i → slice_get all i ≡ Some text
name-there all i text within is = let x = get-below all i within in x.1 ∙ ap Some (sym (is ∙ ap (λ o. unwrap_or o []) x.1))

pub returns-then-eq : goal.returns-then-eq
returns-then-eq c =
    let i = c.loop-number.number in
    let within : i < length c.args.maps.now.names = omega (arith, c.len-number-end.ensures.names, c.loop-number-test.true) in
    let here = name-there c.args.maps.now.names i c.name_of.result.now within (c.name_of.ensures ∙ ap (map_name c.args.maps.now.names) c.new-map.ensures) in
    ap (slice_get c.args.maps.now.names) c.new-map.ensures
    ∙ (here ∙ ap Some ((bytes_eq-Decides c.name_of.result.now c.args.name.now).0 (sym c.eq.ensures ∙ c.if-eq.true)))

pub loop-number-preserved : goal.loop-number-preserved
loop-number-preserved c =
    let i = c.loop-number.number in
    let within : i < length c.args.maps.now.names = omega (arith, c.len-number-end.ensures.names, c.loop-number-test.true) in
    let here = name-there c.args.maps.now.names i c.name_of.result.now within (c.name_of.ensures ∙ ap (map_name c.args.maps.now.names) c.new-map.ensures) in
    none-more c.args.maps.now.names c.args.name.now c.name_of.result.now i c.eq.result here c.eq.ensures c.if-eq.false c.loop-number.invariant

pub returns : goal.returns
returns c = λ k g.
    let within : k < length c.args.maps.now.names = slice_get_within c.args.maps.now.names k c.args.name.now g in
    c.loop-number.invariant k (omega (arith, within, c.len-number-end.ensures.names, c.loop-number-test.false)) g
