use Rattle.bpf_model.proofs.Prelude.{◌≡◌, ◌++◌, length, flat_map}
use Rattle.commands.specs.Json.{byte_json}
use Rattle.commands.proofs.json.push_bytes.Given as goal

abbrev pub invariant-loop-rest : goal.invariant-loop-rest
invariant-loop-rest l = l.text.items ++ flat_map (byte_json l.feed) l.rest ≡ l.fn.text.items ++ flat_map (byte_json l.feed) l.bytes

abbrev pub decreases-loop-rest : goal.decreases-loop-rest
decreases-loop-rest l = length l.rest
