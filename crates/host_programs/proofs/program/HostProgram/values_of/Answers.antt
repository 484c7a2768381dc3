use Rattle.bpf_model.proofs.Prelude.{arith, ◌∙◌, length-set, get_or_from_slice_get, slice_get_within}
use Rattle.host_programs.proofs.Each.{next-packet}
use Rattle.host_programs.proofs.program.HostProgram.values_of.Goals as goal

pub loop-at-preserved : goal.loop-at-preserved
loop-at-preserved c =
    let i = c.loop-at.invariant in (
      length-set c.loop-at.results c.loop-at.at c.value_of.result ∙ i.0,
      next-packet c.args.self.now c.args.bytes.now c.args.packets.now c.loop-at.at c.value_of.result c.loop-at.results _
          (λ packet is. get_or_from_slice_get c.args.packets.now c.loop-at.at packet _ is) i.1 c.value_of.ensures,
    )

pub returns-clause-each : goal.returns-clause-each
returns-clause-each c = λ k n packet h g.
    let i = c.loop-at.invariant in
    i.1 k n packet (omega (arith, slice_get_within c.args.packets.now k packet h, c.loop-at-test.false)) h g
