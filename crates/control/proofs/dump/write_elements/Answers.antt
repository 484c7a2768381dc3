use Rattle.bpf_model.proofs.Prelude.{◌≡◌, ◌∙◌, ◌∷◌, ◌++◌, [], List, None, ap, subst, OnOk, Ok, Err, slice_get, flat_map, MapView}
use Rattle.script_lines.specs.declared.reply.Reply.{Reply}
use Rattle.script_lines.specs.declared.reply.Reply.TheVariants.{End}
use Rattle.script_lines.specs.ReplyText.{reply_text}
use Rattle.control.specs.Replies.{AreElements}
use Rattle.control.proofs.Elements.{more_text}
use Rattle.control.proofs.GoingOn.{on-err-behind}
use Rattle.control.proofs.dump.write_elements.Goals as goal

pub returns-clause-ok : goal.returns-clause-ok
returns-clause-ok c = elim c.write_reply.result as (λ r. OnOk r
    (c.write_reply.new.out.items ≡ c.write_map.new.out.items ++ reply_text End) →
    OnOk r ((x : List Reply) × AreElements (slice_get c.args.world.now.maps c.args.map) None x ×
    (c.write_reply.new.out.items ≡ c.args.out.now.items ++ flat_map reply_text (x ++ End ∷ [])))) [
      | Ok u ↦ λ e.
          let i = c.in_ok-write_map.ensures.ok in
          let chosen = c.map.ensures.value ∙ ap (λ (l : List MapView). slice_get l c.args.map) c.registry.ensures.maps in (
            i.0,
            subst (λ m. AreElements m None i.0) chosen i.1,
            more_text c.args.out.now.items c.write_map.new.out.items c.write_reply.new.out.items i.0 End i.2 e,
          )
      | Err u ↦ λ e. tt
    ] c.write_reply.ensures.ok

pub returns-clause-err : goal.returns-clause-err
returns-clause-err c =
    let i = c.in_ok-write_map.ensures.ok in
    on-err-behind c.write_reply.result c.args.out.now.items c.write_map.new.out.items c.write_reply.new.out.items
    (flat_map reply_text i.0) i.2 c.write_reply.ensures.err
