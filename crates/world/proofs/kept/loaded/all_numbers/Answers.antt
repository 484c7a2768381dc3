use Rattle.bpf_model.proofs.Prelude.{rules, ap, map, ◌++◌, ◌∷◌, [], ◌∙◌, sym, slice_get}
use Rattle.world.proofs.InOrder.{one_more, range-more}
use Rattle.world.proofs.kept.loaded.all_numbers.Goals as goal

pub loop-number-preserved : goal.loop-number-preserved
loop-number-preserved c =
    let n = c.loop-number.number in (
      c.push.ensures.items ∙ ap (λ items. items ++ n ∷ []) c.loop-number.invariant.0 ∙ sym (range-more 0 n n (search rules)),
      ap (map (slice_get c.args.shapes.now)) c.push.ensures.items ∙
          one_more c.args.shapes.now c.loop-number.maps.items n (search rules) c.loop-number.invariant.1,
      search rules,
    )
