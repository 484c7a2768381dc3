use Rattle.bpf_model.proofs.Prelude.{rules, ◌≡◌, ◌<◌, ◌+◌, ◌%◌, ◌++◌, ◌∷◌, [], ℕ, List, length, map, take, ap, arith, subst, sym, ◌∙◌, map-append}
use Rattle.bpf_model.proofs.Prelude.{take-append-drop}
use Rattle.std.proofs.Math.Nat.{add-mod_right}
use Rattle.arrayvec.specs.ArrayVec.{ArrayVec}
use Rattle.program_files.specs.Contexts.{ArePacked}
use Rattle.program_files.proofs.ContextLists.{context_read, one_is_left, packed_none, packed_whole, ArePackedTo}
use Rattle.program_files.proofs.contexts.packed_contexts.Goals as goal
use Rattle.program_files.proofs.contexts.packed_contexts.Goals.{then-len-eq0-via-then-len-eq0, then-len-eq0-via-else-len-eq0+then-bytes-len-ne0}

pub returns-then-len-eq0-clause-fault : goal.returns-then-len-eq0-clause-fault
returns-then-len-eq0-clause-fault c = λ known contexts are. elim c.then-len-eq0.branch [
  | then-len-eq0-via-then-len-eq0 w ↦ packed_none c.args.bytes.now contexts (subst (λ (n : ℕ). ArePacked n c.args.bytes.now contexts) w.if-len-eq0.true are)
  | then-len-eq0-via-else-len-eq0+then-bytes-len-ne0 w ↦ w.if-bytes-len-ne0.true (packed_whole c.args.len c.args.bytes.now contexts are)
]

pub split_at-requires : goal.split_at-requires
split_at-requires c = one_is_left c.args.len (length c.loop-rest.rest.now) (search rules) c.loop-rest.invariant.whole

pub loop-rest-preserved : goal.loop-rest-preserved
loop-rest-preserved c =
    let len = c.args.len in
    let items = λ (x : ArrayVec ℕ). x.items in
    let rest = c.loop-rest.rest.now in
    let front = c.split_at.result.0.now in
    let more = c.split_at.result.1.now in
    let some : 0 < length rest = search rules in
    let cut : rest ≡ front ++ more =
    sym (ap (λ (l : List ℕ). l ++ more) c.split_at.ensures.front
    ∙ (ap (λ (l : List ℕ). take len rest ++ l) c.split_at.ensures.back ∙ take-append-drop len rest)) in
    let whole : length more % len ≡ 0 =
    let fits = one_is_left len (length rest) some c.loop-rest.invariant.whole in
    let sum : length more + len ≡ length rest = omega (arith, c.split_at.ensures.back_len, fits) in
    sym (add-mod_right (length more) len) ∙ (ap (λ (n : ℕ). n % len) sum ∙ c.loop-rest.invariant.whole) in
    let read = map items c.loop-rest.contexts.items in
    let pushed : map items c.push.new.self.items ≡ read ++ front ∷ [] =
    ap (map items) c.in_ok-push.ensures.items ∙ (map-append items c.loop-rest.contexts.items (c.array_of.result ∷ [])
    ∙ ap (λ (l : List ℕ). read ++ l ∷ []) c.array_of.ensures) in
    subst (ArePackedTo len c.args.bytes.now more) (sym pushed)
    (context_read len c.args.bytes.now rest front more read c.loop-rest.invariant cut c.split_at.ensures.front_len whole)
