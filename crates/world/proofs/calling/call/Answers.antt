use Rattle.bpf_model.proofs.Prelude.{◌∙◌, ℕ, sym, ap, List, slice_set, MapView}
use Rattle.model_laws.proofs.Prelude.{Update, Delete}
use Rattle.world.proofs.Named.{called_is}
use Rattle.world.proofs.calling.call.Goals as goal

pub returns-in-Update-clause-word : goal.returns-in-Update-clause-word
returns-in-Update-clause-word c =
    let id : ℕ = c.new-id.result in
    let e = called_is c.args.helper Update c.args.bound.now c.args.maps.now.maps c.args.run.now.view c.requires
    c.map_argument.result id c.map_argument.ensures c.new-id.ensures c.map_mut.result.now c.in-Update.is
    c.map_mut.ensures.value in
    c.update.ensures.word id ∙ sym (ap (λ (x : ℕ × List MapView). x.0) e)

pub returns-in-Update-clause-maps : goal.returns-in-Update-clause-maps
returns-in-Update-clause-maps c =
    let id : ℕ = c.new-id.result in
    let e = called_is c.args.helper Update c.args.bound.now c.args.maps.now.maps c.args.run.now.view c.requires
    c.map_argument.result id c.map_argument.ensures c.new-id.ensures c.map_mut.result.now c.in-Update.is
    c.map_mut.ensures.value in
    ap (slice_set c.args.maps.now.maps id) (c.update.ensures.new id) ∙ sym (ap (λ (x : ℕ × List MapView). x.1) e)

pub returns-in-Delete-clause-word : goal.returns-in-Delete-clause-word
returns-in-Delete-clause-word c =
    let id : ℕ = c.new-id.result in
    let e = called_is c.args.helper Delete c.args.bound.now c.args.maps.now.maps c.args.run.now.view c.requires
    c.map_argument.result id c.map_argument.ensures c.new-id.ensures c.map_mut-in-Delete.result.now c.in-Delete.is
    c.map_mut-in-Delete.ensures.value in
    c.delete.ensures.word id ∙ sym (ap (λ (x : ℕ × List MapView). x.0) e)

pub returns-in-Delete-clause-maps : goal.returns-in-Delete-clause-maps
returns-in-Delete-clause-maps c =
    let id : ℕ = c.new-id.result in
    let e = called_is c.args.helper Delete c.args.bound.now c.args.maps.now.maps c.args.run.now.view c.requires
    c.map_argument.result id c.map_argument.ensures c.new-id.ensures c.map_mut-in-Delete.result.now c.in-Delete.is
    c.map_mut-in-Delete.ensures.value in
    ap (slice_set c.args.maps.now.maps id) (c.delete.ensures.new id) ∙ sym (ap (λ (x : ℕ × List MapView). x.1) e)
