use Rattle.bpf_model.proofs.Prelude.{◌≡◌, ◌+◌, ◌^◌, refl, sym, ap, subst, ◌∙◌, arith, immediate}
use Rattle.effects.proofs.Prelude.{shifted_word}
use Rattle.register_kinds.proofs.Prelude.{kind_of}
use Rattle.scalar_domain.proofs.Prelude.{IsConstant}
use Rattle.register_kinds.proofs.Results.{same_Ok}
use Rattle.effects.specs.declared.moving.Way.TheVariants.{Forward}
use Rattle.effects.proofs.Offsets.{step_inside}
use Rattle.effects.proofs.Combining.{numbers_combine}
use Rattle.effects.proofs.kinds.combined.Goals as goal
use Rattle.effects.proofs.Known.{same_num, numbers_known}

pub returns-in-Num-Num-clause-sound : goal.returns-in-Num-Num-clause-sound
returns-in-Num-Num-clause-sound c = numbers_combine c.args.size c.args.op c.args.x c.args.y c.in-Num-Num.a
    c.in-Num-Num.b c.apply.result c.in-Num-Num.is-0 c.in-Num-Num.is-1 c.apply.ensures.sound

pub returns-in-Num-Num-clause-numbers : goal.returns-in-Num-Num-clause-numbers
returns-in-Num-Num-clause-numbers c = λ a b e f. (c.apply.result, refl)

pub returns-in_ok-way_of-in_default-Num-clause-frame : goal.returns-in_ok-way_of-in_default-Num-clause-frame
returns-in_ok-way_of-in_default-Num-clause-frame c = λ m at imm by size op x y n l h s.
    let moves = step_inside m at imm l h s in
    let forward = same_Ok c.in_ok-way_of-in_default-Num.field-0 Forward (c.in_ok-way_of-in_default-Num.ensures.forward size op) in
    let same = same_num by c.in_default-Num.by (ap kind_of (sym y ∙ c.in_default-Num.is-1)) in
    c.moved_kind.ensures.frame m (immediate imm) at x (omega (arith, l)) (subst (λ t. IsConstant t (immediate imm)) same n) moves.0
    (subst (λ way. shifted_word way (m + 2 ^ 29) (immediate imm) ≡ at + 2 ^ 29) (sym forward) moves.1) (omega (arith, h))

pub returns-in-Num-Num-clause-floor : goal.returns-in-Num-Num-clause-floor
returns-in-Num-Num-clause-floor c = numbers_known c.args.size c.args.op c.args.x c.args.y c.in-Num-Num.a
    c.in-Num-Num.b c.apply.result c.in-Num-Num.is-0 c.in-Num-Num.is-1 c.apply.ensures.floor
