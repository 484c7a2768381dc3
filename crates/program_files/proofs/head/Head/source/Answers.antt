use Rattle.bpf_model.proofs.Prelude.{ap}
use Rattle.program_files.specs.Heads.{HeadView}
use Rattle.program_files.specs.declared.program_file.Source.{Source}
use Rattle.program_files.proofs.Heads.{source_is}
use Rattle.program_files.proofs.head.Head.source.Goals as goal

pub returns-clause-says : goal.returns-clause-says
returns-clause-says c =
    let s : Source = record { program = c.args.program; registry = c.self.inside.registry; ctx_len = c.self.inside.ctx_len } in
    (source_is c.args.self s c.lines.ensures.head c.instructions.ensures.program (ap (λ (h : HeadView). h.registry) c.self.view_is)
    (ap (λ (h : HeadView). h.ctx_len) c.self.view_is)).0

pub returns-clause-maps : goal.returns-clause-maps
returns-clause-maps c =
    let s : Source = record { program = c.args.program; registry = c.self.inside.registry; ctx_len = c.self.inside.ctx_len } in
    (source_is c.args.self s c.lines.ensures.head c.instructions.ensures.program (ap (λ (h : HeadView). h.registry) c.self.view_is)
    (ap (λ (h : HeadView). h.ctx_len) c.self.view_is)).1
