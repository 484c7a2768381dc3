use Rattle.std.proofs.Common.{Some, IfSome, sym, subst}
use Rattle.host_programs.specs.Opened.{OpenProgram}
use Rattle.host_programs.specs.Runs.{GivesEachPacket}
use Rattle.host_handle.specs.Values.{program_in}
use Rattle.host_handle.specs.declared.held.Held.{Held}
use Rattle.bpfrt_c.proofs.running.run_held_on_all.Goals as goal

pub returns-in-Ok-clause-gives : goal.returns-in-Ok-clause-gives
returns-in-Ok-clause-gives c =
    let P : OpenProgram → Type 0 = λ p. GivesEachPacket p c.args.bytes.now c.args.packets.now c.run_on_packets.new.results in
    subst (λ (h : Held). IfSome (program_in (Some h)) P) (sym c.in-Program.is) c.in-Ok.ensures.each
