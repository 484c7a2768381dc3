use Rattle.bpf_model.proofs.Prelude.{string_bytes}
use Rattle.std.proofs.Common.{Global}
use Rattle.maps.proofs.Names.{same_named, as_long}
use Rattle.maps.proofs.copying.copy_of_names.Goals as goal

pub returns-clause-same : goal.returns-clause-same
returns-clause-same c = same_named (string_bytes {Z = Global}) c.args.names.now.keys c.in_ok-copy.copy.keys c.in_ok-copy.ensures.cases

pub returns-clause-long : goal.returns-clause-long
returns-clause-long c = as_long (string_bytes {Z = Global}) c.args.names.now.keys c.in_ok-copy.copy.keys
    (same_named (string_bytes {Z = Global}) c.args.names.now.keys c.in_ok-copy.copy.keys c.in_ok-copy.ensures.cases)
