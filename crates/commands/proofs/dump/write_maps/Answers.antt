use Rattle.bpf_model.proofs.Prelude.{rules, ◌≡◌, ◌∙◌, ◌⊎◌, ◌<◌, ◌≤◌, ◌+◌, ℕ, List, [], ◌∷◌, ◌++◌, Option, Some, None, length, take, get_or, refl, sym, ap}
use Rattle.bpf_model.proofs.Prelude.{subst, inl, inr, append_assoc, arith, slice_get, flat_map, take_more, take_all, slice_get_cases, MapView}
use Rattle.std.proofs.Common.{append-nil}
use Rattle.script_lines.specs.declared.reply.Reply.TheVariants.{End}
use Rattle.script_lines.specs.ReplyText.{reply_text}
use Rattle.control.specs.Replies.{AreElements}
use Rattle.commands.specs.Runs.{AreDumps}
use Rattle.commands.proofs.Dumped.{one_dump_more}
use Rattle.commands.proofs.dump.write_maps.Goals as goal

abbrev IsAt : List MapView → ℕ → Type 0
IsAt maps k =
    ((m : MapView) × (k < length maps) × (slice_get maps k ≡ Some m) × (get_or maps k m ≡ m))
    ⊎ ((length maps ≤ k) × (slice_get maps k ≡ None))

-- the map at an index, and the maps below the next one
next_map : (maps : List MapView) (k : ℕ) → IsAt maps k → k < length maps → (m : MapView) × (slice_get maps k ≡ Some m)
    × (take (k + 1) maps ≡ take k maps ++ m ∷ [])
next_map maps k (inl (m, within, found, read)) inside = (m, found, take_more maps k m within ∙ ap (λ (x : MapView). take k maps ++ x ∷ []) read)
next_map maps k (inr (past, none)) inside = absurd (omega (arith, past, inside))

pub loop-number-init : goal.loop-number-init
loop-number-init c = ([], refl, sym (append-nil _))

pub loop-number-preserved : goal.loop-number-preserved
loop-number-preserved c =
    let maps = c.args.world.now.maps in
    let k = c.loop-number.number in
    let i = c.loop-number.invariant in
    let inside : k < length maps = search rules in
    let next = next_map maps k (slice_get_cases maps k).1 inside in
    let wrote = c.in_ok-write_elements.ensures.ok in
    let at : slice_get maps c.new.result ≡ Some next.0 = ap (slice_get maps) c.new.ensures ∙ next.1 in
    let are = subst (λ (o : Option MapView). AreElements o None wrote.0) at wrote.1 in
    let added = flat_map reply_text (wrote.0 ++ End ∷ []) in
    let dumps = one_dump_more (take k maps) next.0 i.0 wrote.0 i.1 are in (
      i.0 ++ added,
      subst (λ (ms : List MapView). AreDumps ms (i.0 ++ added)) (sym next.2) dumps,
      wrote.2 ∙ (ap (λ (t : List ℕ). t ++ added) i.2 ∙ append_assoc c.args.out.now.items i.0 added),
    )

pub returns : goal.returns
returns c =
    let maps = c.args.world.now.maps in
    let i = c.loop-number.invariant in
    let all : length maps ≤ c.loop-number.number = search rules in
    (i.0, subst (λ (ms : List MapView). AreDumps ms i.0) (take_all c.loop-number.number maps all) i.1, i.2)
