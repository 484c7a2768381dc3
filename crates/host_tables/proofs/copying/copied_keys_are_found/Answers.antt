use Rattle.host_tables.proofs.Kept.{found_behind}
use Rattle.host_tables.proofs.copying.copied_keys_are_found.Goals as goal

pub returns : goal.returns
returns c = λ k l w b all key way low here u v is knows other_is other_knows. (
  found_behind k key w.view.seen u is knows (way, here),
  found_behind l key b.view.seen v other_is other_knows (all key way low here),
)
