use Rattle.bpf_model.proofs.Prelude.{rules, ◌+◌, ◌^◌, ◌≤◌, sym, subst, pos, arith, SFits, to_z-of_z, IfOk-weaker}
use Rattle.effects.proofs.Prelude.{shifted_word}
use Rattle.scalar_domain.proofs.Prelude.{IsConstant}
use Rattle.std.proofs.Common.{w32}
use Rattle.register_kinds.proofs.Results.{same_Ok}
use Rattle.effects.proofs.Numbers.{ok_value, offset_is}
use Rattle.effects.proofs.moving.moved_in_frame.Goals as goal

pub returns-clause-inside : goal.returns-clause-inside
returns-clause-inside c = λ m n at e l b step w h.
    let f : SFits w32 c.args.offset = search rules in
    let raises = simp to_z-of_z at c.in_ok-raised.ensures.constant in
    let r = raises m e l in
    let s = subst (λ t. IsConstant t (m + 2 ^ 29)) (sym (same_Ok _ _ r.1)) r.2 in
    let low : shifted_word c.args.way (m + 2 ^ 29) n ≤ 2 ^ 30 = omega (arith, w, h) in
    let x = c.in_ok-new.ensures.constant (m + 2 ^ 29) n s b step low in
    let t = subst (λ t. IsConstant t (shifted_word c.args.way (m + 2 ^ 29) n)) (sym (same_Ok _ _ x.1)) x.2 in
    let there = subst (IsConstant c.in_ok-new.new) w t in
    ok_value c.lowered.result (pos at) (c.lowered.ensures.accepts (at + 2 ^ 29) there (omega (arith, h)))
    (IfOk-weaker c.lowered.result _ _ (λ p v. v (pos at) (offset_is c.in_ok-new.new at there h)) c.lowered.ensures.value)
