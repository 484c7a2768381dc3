use Rattle.disasm.proofs.NameLaws.{named_found}
use Rattle.disasm.proofs.names.mnemonic_named.Goals as goal

pub returns-clause-found : goal.returns-clause-found
returns-clause-found c = named_found _ c.args.name.now c.first_named.result c.first_named.ensures
