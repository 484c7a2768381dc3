use Rattle.bpf_model.proofs.Prelude.{◌≡◌, ◌∙◌, ℕ, ◌+◌, ◌<◌, length, map, take, get_or, Some, suc, refl, sym, ap, subst, arith, slice_get, slice_get-get_or}
use Rattle.bpf_model.proofs.Prelude.{shapes_of_maps}
use Rattle.model_laws.proofs.Prelude.{Hash, MapShape}
use Rattle.world.proofs.Shapes.{bound-at, bound-more}
use Rattle.world.proofs.binding.have_shapes.Goals as goal

abbrev no_shape : MapShape
no_shape = record { kind = Hash; key_len = 0; value_len = 0; entries = 0; spare = 0; reuse_limit = 0 }

pub returns-then-not-has_shape : goal.returns-then-not-has_shape
returns-then-not-has_shape c =
    let shapes = shapes_of_maps c.args.registry.now.maps in
    let numbers = c.args.numbers.now in
    let asked = c.args.asked.now in
    let i = c.loop-i.i in
    let n = c.new.result in
    let within : i < length asked = omega arith in
    let here = slice_get-get_or numbers i 0 c.loop-i-test.true ∙ ap Some (sym c.new.ensures) in
    let there = slice_get-get_or asked i no_shape within in
    (λ e. absurd (cc), λ bound. c.if-not-has_shape.ensures.1 (bound-at shapes asked numbers i n (get_or asked i no_shape) bound here there))

pub loop-i-preserved : goal.loop-i-preserved
loop-i-preserved c =
    let shapes = shapes_of_maps c.args.registry.now.maps in
    let numbers = c.args.numbers.now in
    let asked = c.args.asked.now in
    let i = c.loop-i.i in
    let n = c.new.result in
    let within : i < length asked = omega arith in
    let here = slice_get-get_or numbers i 0 c.loop-i-test.true ∙ ap Some (sym c.new.ensures) in
    let there = slice_get-get_or asked i no_shape within in
    let more = bound-more shapes numbers asked i n (get_or asked i no_shape) here there (c.if-not-has_shape.ensures.0 refl) c.loop-i.invariant in
    let next : suc i ≡ i + 1 = omega arith in
    subst (λ (k : ℕ). map (slice_get shapes) (take k numbers) ≡ map Some (take k asked)) next more
