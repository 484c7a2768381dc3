use Rattle.bpf_model.proofs.Prelude.{◌≡◌, ◌∙◌, ap, ◌++◌, ◌∷◌, [], if◌then◌else◌, map, false, string_bytes, bytes_eq, list_any}
use Rattle.std.specs.Prelude.{string_eq}
use Rattle.maps.proofs.Names.{any_named, added, one_longer}
use Rattle.maps.proofs.registry.add_name.Goals as goal

absent : (c : goal.In_ok-insert) → list_any (string_eq c.args.text) c.args.names.now.keys ≡ false
absent c =
    any_named string_bytes (bytes_eq (string_bytes c.args.text)) c.args.names.now.keys
    ∙ ap (λ b. list_any (bytes_eq b) (map string_bytes c.args.names.now.keys)) c.requires.text ∙ c.requires.new

at_end : (c : goal.In_ok-insert) → c.insert.new.self.keys ≡ c.args.names.now.keys ++ c.args.text ∷ []
at_end c = c.in_ok-insert.ensures.keys ∙ ap (λ b. if b then c.args.names.now.keys else c.args.names.now.keys ++ c.args.text ∷ []) (absent c)

pub returns-clause-ok : goal.returns-clause-ok
returns-clause-ok c = added string_bytes c.args.names.now.keys c.insert.new.self.keys c.args.text c.args.name.now (at_end c) c.requires.text

pub returns-clause-long : goal.returns-clause-long
returns-clause-long c = one_longer c.args.names.now.keys c.insert.new.self.keys c.args.text (at_end c)
