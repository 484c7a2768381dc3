use Rattle.bpf_model.proofs.Prelude.{subst, signature_of}
use Rattle.effects.proofs.Prelude.{IsLeft}
use Rattle.model_laws.proofs.Prelude.{ResultKind}
use Rattle.register_kinds.proofs.Prelude.{kind_at}
use Rattle.effects.proofs.CallLaws.{helper_sound, left_result}
use Rattle.effects.proofs.calls.call_by_signature.Goals as goal
use Rattle.effects.proofs.calls.call_by_signature.Goals.{After-leave_call}

left : (c : After-leave_call) → IsLeft (signature_of c.args.helper).result c.in_ok-map.map c.args.ids.now.next c.returned-r0.result
left c = subst (λ (kind : ResultKind). IsLeft kind c.in_ok-map.map c.args.ids.now.next c.returned-r0.result) c.result.ensures c.returned-r0.ensures.left

pub returns-clause-sound : goal.returns-clause-sound
returns-clause-sound c =
    let called = c.in_ok-map.ensures.arguments in
    helper_sound c.args.helper c.args.state.now c.leave_call.new.self c.args.shapes.now c.in_ok-map.map
    c.args.ids.now.next called.0 c.returned-r0.result c.in_ok-check_inside.ensures.may called.1 called.2
    c.requires.below (left c) c.leave_call.ensures.alike

pub returns-clause-signature : goal.returns-clause-signature
returns-clause-signature c =
    let called = c.in_ok-map.ensures.arguments in record {
      shape = called.0;
      arguments = called.2;
      result = left_result (signature_of c.args.helper).result c.in_ok-map.map c.args.ids.now.next
          c.returned-r0.result (kind_at c.leave_call.new.self.regs 0) (left c) (c.leave_call.ensures.alike.regs 0);
    }
