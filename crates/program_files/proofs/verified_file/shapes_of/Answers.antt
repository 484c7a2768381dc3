use Rattle.bpf_model.proofs.Prelude.{◌++◌, ◌∷◌, [], List, ap, ◌∙◌, arith}
use Rattle.model_laws.proofs.Prelude.{MapShape}
use Rattle.program_files.proofs.Shapes.{shape_found, shape_missing}
use Rattle.program_files.proofs.verified_file.shapes_of.Goals as goal
use Rattle.program_files.proofs.verified_file.shapes_of.Goals.{in-Some+in_ok-push, in_default}

pub loop-number-preserved : goal.loop-number-preserved
loop-number-preserved c =
    let maps = c.args.registry.now.maps in
    let n = c.loop-number.number in
    elim c.match-shape.branch [
      | in-Some+in_ok-push w ↦ rw w.shapes-is (w.in_ok-push.ensures.items ∙
          (ap (λ (xs : List MapShape). xs ++ w.in-Some.shape ∷ []) c.loop-number.invariant ∙
          shape_found maps n c.new.result c.shape.result w.in-Some.shape c.new.ensures c.shape.ensures w.in-Some.is))
      | in_default w ↦ absurd (shape_missing maps n c.new.result c.shape.result c.new.ensures c.shape.ensures
          w.in_default.is (omega (arith, c.loop-number-test.true, c.len-number-end.ensures.value)))
    ]
