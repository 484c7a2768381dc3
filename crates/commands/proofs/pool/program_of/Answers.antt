use Rattle.commands.proofs.Pooled.{program_found}
use Rattle.commands.proofs.pool.program_of.Goals as goal

pub returns-clause-found : goal.returns-clause-found
returns-clause-found c bytes h =
    program_found bytes c.in_ok-source.source c.in_ok-opened.opened.verified.program
    c.in_ok-opened.opened.verified.shapes c.in_ok-opened.opened.verified.ctx_len (c.in_ok-source.ensures.found bytes h) c.in_ok-opened.ensures.graph
    c.in_ok-opened.ensures.verified c.in_ok-opened.ensures.program c.in_ok-opened.ensures.shapes
    c.in_ok-opened.ensures.context
