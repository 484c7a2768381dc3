use Rattle.commands.proofs.ScriptEnds.{all_answered, stopped_before}
use Rattle.commands.proofs.script.run_explained.Goals as goal

pub returns-in-Ok-clause-answered : goal.returns-in-Ok-clause-answered
returns-in-Ok-clause-answered g c e = all_answered _ _ _ _ c.in-Ok.ensures.text

pub returns-clause-stopped : goal.returns-clause-stopped
returns-clause-stopped g c e = stopped_before _ _ _ _ c.in-Err.why (c.report_stop-status.ensures.bad e) c.in-Err.ensures.failed
