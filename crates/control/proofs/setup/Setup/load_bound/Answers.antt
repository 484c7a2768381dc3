use Rattle.bpf_model.proofs.Prelude.{◌≡◌, ◌∙◌, ◌∷◌, [], length, map, sym, ap, subst, arith, length-append, length-map, shapes_of_maps, IfOk}
use Rattle.model_laws.proofs.Prelude.{IsPlainWithMaps}
use Rattle.world.proofs.Prelude.{AreProgramsBound, program_of}
use Rattle.world_laws.proofs.Prelude.{IsBoundTo}
use Rattle.verifier.specs.declared.refusal.ProgramRefusal.TheVariants.{Memory}
use Rattle.control.specs.MapAndLoad.{ReadReplies}
use Rattle.control.specs.Refusals.{program_reply}
use Rattle.control.proofs.GrownSetups.{bound-more}
use Rattle.control.proofs.LoadReplies.{undecoded-reply, unverified-reply}
use Rattle.control.proofs.setup.Setup.load_bound.Goals as goal

pub returns-in-Err-clause-replies : goal.returns-in-Err-clause-replies
returns-in-Err-clause-replies c =
    undecoded-reply c.args.self.now c.args.code.now c.args.bound.shapes.items c.args.bound.maps.items c.args.ctx_len
    c.in-Err.fault c.undecoded.result c.in-Err.ensures.fault c.undecoded.ensures.known c.undecoded.ensures.refused

pub returns-in-Err-verify_or_return-clause-replies : goal.returns-in-Err-verify_or_return-clause-replies
returns-in-Err-verify_or_return-clause-replies c =
    let d = c.in-Ok.ensures in
    let v = c.in-Err-verify_or_return.ensures in
    let shapes : c.deref.result.now ≡ c.args.bound.shapes.items = c.deref.ensures.value in
    -- what is kept for words is no part of what contracts see
    rw c.in_ok-told-in-Err-verify_or_return.was at (subst (λ s. IfOk c.unverified.result (λ made. ReadReplies c.args.self.now c.args.code.now
    c.args.bound.shapes.items c.args.bound.maps.items c.args.ctx_len (program_reply made) s)) (sym c.self.view_is)
    (unverified-reply c.args.self.now c.args.code.now c.args.bound.shapes.items c.args.bound.maps.items c.args.ctx_len
    c.in-Ok.program c.in-Err-verify_or_return.refused.refusal c.unverified.result d.program d.found v.flaw_is
    (subst (λ x. IsPlainWithMaps c.in-Ok.program x → c.in-Err-verify_or_return.refused.refusal ≡ Memory) shapes v.plain_with_maps)
    c.unverified.ensures.known c.unverified.ensures.refused))

pub invariant_of-self-2 : goal.invariant_of-self-2
invariant_of-self-2 c =
    let i = c.self.invariant in
    let loaded = c.self.inside.loaded.items in
    let items = c.in_ok-push.ensures.items in
    let shapes : c.in-Ok-verify_or_return.verified.shapes ≡ c.args.bound.shapes.items = c.in-Ok-verify_or_return.ensures.shapes ∙ c.deref.ensures.value in
    let programs : map program_of loaded ≡ c.args.self.now.programs = ap (λ s. s.programs) c.self.view_is in
    let maps : shapes_of_maps c.args.self.now.registry.maps ≡ shapes_of_maps c.self.inside.registry.maps =
    ap (λ s. shapes_of_maps s.registry.maps) (sym c.self.view_is) in
    let is = subst (λ x. IsBoundTo x c.args.bound.shapes.items c.args.bound.maps.items) maps c.requires.bound in
    record {
      one_name_each = i.one_name_each;
      new_maps = i.new_maps;
      bound = subst (λ l. AreProgramsBound (shapes_of_maps c.self.inside.registry.maps) l) (sym items)
          (bound-more (shapes_of_maps c.self.inside.registry.maps) loaded
          (record { verified = c.in-Ok-verify_or_return.verified; maps = c.args.bound.maps }) i.bound
          (subst (λ x. IsBoundTo (shapes_of_maps c.self.inside.registry.maps) x c.args.bound.maps.items) (sym shapes)
          is));
      few = omega (
        arith,
        ap length items,
        length-append loaded
            (record { verified = c.in-Ok-verify_or_return.verified; maps = c.args.bound.maps } ∷ []),
        length-map loaded program_of,
        ap length programs,
        c.requires.room,
      );
    }
