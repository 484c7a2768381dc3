use Rattle.bpf_model.proofs.Prelude.{◌∙◌, sym, ap, string_bytes, bytes_eq, Some, position}
use Rattle.maps.proofs.Names.{position_named}
use Rattle.maps.proofs.registry.Registry.id.Goals as goal

pub returns-in-Some : goal.returns-in-Some
returns-in-Some c =
    ap Some c.new.ensures ∙ sym c.in-Some.is ∙ c.get_index_of.ensures.index
    ∙ position_named string_bytes (bytes_eq c.args.name.now) c.self.inside.names.keys
    ∙ ap (λ r. position (bytes_eq c.args.name.now) r.names) c.self.view_is

pub returns-in-None : goal.returns-in-None
returns-in-None c =
    sym c.in-None.is ∙ c.get_index_of.ensures.index
    ∙ position_named string_bytes (bytes_eq c.args.name.now) c.self.inside.names.keys
    ∙ ap (λ r. position (bytes_eq c.args.name.now) r.names) c.self.view_is
