use Rattle.bpf_model.proofs.Prelude.{◌∙◌, ap}
use Rattle.map_kinds.specs.Arrays.{array_view}
use Rattle.map_kinds.proofs.Arrays.{fresh-array}
use Rattle.map_kinds.proofs.array_map.ArrayMap.new.Goals as goal

pub returns : goal.returns
returns c = ap (array_view c.args.shape) c.in_ok-values.ensures.zero ∙ fresh-array c.args.shape c.requires.array
