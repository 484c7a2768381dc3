use Rattle.world_laws.proofs.Flags.{opened_stays, awaited_stays}
use Rattle.world_laws.proofs.moves_keep_flags.Goals as goal

pub returns-clause-opened : goal.returns-clause-opened
returns-clause-opened c w s m sound r run v new k same = opened_stays w s m sound r run v new k same

pub returns-clause-awaited : goal.returns-clause-awaited
returns-clause-awaited c w s m sound r run v new k same = awaited_stays w s m sound r run v new k same
