use Rattle.bpf_model.proofs.Prelude.{◌≡◌, Some, sym, ap, ◌∙◌, ◌>>=◌, number, frame_bytes}
use Rattle.model_laws.proofs.Prelude.{Number, value_argument}
use Rattle.reference_store.specs.State.{store_of}
use Rattle.reference_model.specs.RunState.{run_with, loaded_of}
use Rattle.reference_model.proofs.Stores.{shape-within}
use Rattle.reference_model.proofs.call.update.Goals as goal

pub returns-clause-tells : goal.returns-clause-tells
returns-clause-tells c =
    let s = store_of c.args.store.now in
    let run = run_with (loaded_of c.args.program.now) c.args.run.now in
    let at = c.in_ok-at.at in
    let is = c.in_ok-at.ensures in
    let frame = run.state.frame in
    let value : value_argument s run at.map ≡ Some c.in_ok-value.value.items =
    ap (λ o. o >>= λ shape. frame_bytes frame shape.value_len (run.state.regs 3)) is.shape ∙
    ap (frame_bytes frame at.shape.value_len) (sym c.register.ensures) ∙ c.in_ok-value.ensures in
    record {
      map = at.map;
      key = at.key.items;
      value = c.in_ok-value.value.items;
      flags = c.in-Some.flags;
      outcome = c.in_ok-outcome.outcome;
      map_is = is.map;
      key_is = is.key;
      value_is = value;
      flags_are = ap number (sym c.register-2.ensures) ∙ sym c.number.ensures ∙ c.in-Some.is;
      updated = c.in_ok-outcome.ensures.updates (shape-within c.args.store.now.maps.items at.map at.shape is.shape);
      ret_is = ap Number c.ret_word.ensures;
    }
