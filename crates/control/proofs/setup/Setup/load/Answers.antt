use Rattle.bpf_model.proofs.Prelude.{◌≡◌, ◌∙◌, ◌<◌, length, map, IfOk, ap, subst, arith, length-map}
use Rattle.model_laws.proofs.Prelude.{MAX_PROGRAMS}
use Rattle.world.proofs.Prelude.{program_of}
use Rattle.world_laws.proofs.Prelude.{IsBoundTo}
use Rattle.control.specs.MapAndLoad.{AreMapsNamed, ReadReplies}
use Rattle.control.specs.Refusals.{program_reply}
use Rattle.control.specs.Setups.{shapes_made}
use Rattle.control.proofs.LoadReplies.{read-reply}
use Rattle.control.proofs.setup.Setup.load.Goals as goal

pub returns-clause-replies : goal.returns-clause-replies
returns-clause-replies c =
    let s = c.args.self.now in
    let bound = c.in-Some.bound in
    let read = c.load_bound.ensures.replies in
    let code : c.deref.result.now ≡ c.args.code.now = c.deref.ensures.value ∙ c.in_ok-bytes.ensures in
    let programs : map program_of c.self.inside.loaded.items ≡ s.programs = ap (λ v. v.programs) c.self.view_is in
    let room : length s.programs < MAX_PROGRAMS = omega (
      arith,
      c.len.ensures,
      c.if-len-ge-MAX_PROGRAMS.false,
      ap length programs,
      length-map c.self.inside.loaded.items program_of,
    ) in
    let b = c.in_ok-bound.ensures in
    let named : AreMapsNamed s.registry.names c.args.names bound.maps.items = rw c.in-Some.is at b.named in
    let are : IsBoundTo (shapes_made s) bound.shapes.items bound.maps.items = rw c.in-Some.is at b.bound in
    read-reply s _ c.args.ctx_len c.args.code.now c.args.names bound.shapes.items bound.maps.items c.load_bound.result
    room (omega (arith, c.if-ctx_len.false)) named are
    (subst (λ x. IfOk c.load_bound.result (λ made.
    ReadReplies s x bound.shapes.items bound.maps.items c.args.ctx_len (program_reply made) c.load_bound.new.self)) code read)
