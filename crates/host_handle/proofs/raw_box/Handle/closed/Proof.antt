-- `closed` makes a handle that owns nothing.
use Rattle.bpf_model.proofs.Prelude.{[], ◌∷◌, refl, lit<, None}
use base.Fml.{ftrue}
use types.Kit.{‵, raw, ◌$◌, ◌∵◌, !, qed, drop, suffices, done, group}
use types.Run.{enter, lit, no_more, and_then, returns}
use types.ByLocal.{alloc_all, pass_all, free_all, look_at, sets}
use types.Part.{agg}
use denote.RawPtr.{null_ptr}
use denote.Steps.{nothing}
use denote.Triple.Entry.{on_entry}
use denote.Triple.Walked.{Stays, walk_of, says, ends_at}
use Rattle.std.proofs.raw_atomic.Walks.{proved}
use Rattle.host_handle.proofs.HandleValues.{word, handle_in}
use Rattle.host_handle.specs.contracts.raw_box.Handle.closed as f
use Rattle.host_handle.proofs.raw_box.Handle.closed.Statement.{statement}
use Rattle.host_handle.proofs.raw_box.Handle.closed.Code as code

abbrev stayed : Stays f.ended.signature.params f.ended.kept
stayed = tt

pub closed_spec : {M : Type 1} → statement M
unfolding Rattle.host_handle.specs.Held.holds
closed_spec 𝓤 𝓛 𝓜 𝓡 wired =
    let c = f.clauses 𝓛 𝓜.mem 𝓡.returns in let W = walk_of 𝓛 f.ended stayed c in
    proved 𝓛 f.ended stayed c 𝓜 𝓡 tt f.Key.name code.function (code.unfolded 𝓤 𝓛.H 𝓜 𝓡 wired)
    (λ κs. tt) (λ κs. tt) (λ κs qs bounds a _ are.
    let y : W.Ghost = ((κs, qs, bounds, a, tt), tt) in
    qed 𝓛 (raw (on_entry 𝓛 f.signature κs qs a y.0.4) ∷ ‵ ftrue ∷ []) ∵ drop ! $ drop ! $
    enter ! _ _ _ _ _ $ alloc_all ! (λ l. pass_all ! refl tt $
    sets ! (agg ! (and_then ! (lit ! tt) (no_more !))) refl (tt, (record { fits = lit< tt }, tt)) $
    returns ! (look_at ! 0 refl) $ free_all ! refl $
    suffices ! _ (ends_at 𝓛 f.ended stayed c y (word null_ptr) (record { at = null_ptr; held = None }) tt tt) $ says ! refl $
    nothing ! $ handle_in ! null_ptr None $ nothing ! $ nothing ! $ group ! 3 $ done !))
