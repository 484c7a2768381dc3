use Rattle.bpf_model.proofs.Prelude.{◌∙◌, ap, string_bytes, bytes_eq}
use Rattle.maps.specs.Registry.{has_name}
use Rattle.maps.proofs.Names.{any_named}
use Rattle.maps.proofs.registry.Registry.has_name.Goals as goal

pub returns : goal.returns
returns c =
    c.contains.ensures ∙ any_named string_bytes (bytes_eq c.args.name.now) c.self.inside.names.keys
    ∙ ap (λ r. has_name r c.args.name.now) c.self.view_is
