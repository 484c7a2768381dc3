use Rattle.bpf_model.proofs.Prelude.{rules, ap, SFits, to_z-of_z}
use Rattle.register_kinds.proofs.Prelude.{kind_of, state_of}
use Rattle.std.proofs.Common.{w16}
use Rattle.plan_laws.proofs.Elements.{store_transfers}
use Rattle.effects.proofs.stores.check_store.Goals as goal

pub returns : goal.returns
returns c =
    let g : SFits w16 c.args.fields.to.offset = search rules in
    let inside = simp to_z-of_z at c.in_ok-_shape.ensures.inside in
    record {
      sound = λ ctx_len. store_transfers c.args.fields.width c.args.fields.to.base c.args.fields.to.offset
          c.args.fields.src c.args.shapes.now ctx_len (state_of c.args.state.now) c.args.map c.in_ok-_shape._shape
          c.args.offset
          (ap kind_of c.requires.base) c.requires.number c.in_ok-_shape.ensures.shape inside;
    }
