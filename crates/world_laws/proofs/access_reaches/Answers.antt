use Rattle.world_laws.proofs.Reaching.{load_reaches, load_signed_reaches, store_reaches}
use Rattle.world_laws.proofs.access_reaches.Goals as goal

pub returns-clause-load : goal.returns-clause-load
returns-clause-load c = load_reaches

pub returns-clause-load_signed : goal.returns-clause-load_signed
returns-clause-load_signed c = load_signed_reaches

pub returns-clause-store : goal.returns-clause-store
returns-clause-store c = store_reaches
