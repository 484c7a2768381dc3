use Rattle.bpf_model.proofs.Prelude.{arith, slice_get_within}
use Rattle.machine.proofs.Places.{insn_there}
use Rattle.read_table.proofs.run_laws.moves_below_length.Goals as goal

pub returns : goal.returns
returns g = λ c r insn at here.
    let within = slice_get_within c.program r.index insn (insn_there c.program r.index r.view.place insn here at.place) in
    let paced = at.paced in
    omega (arith, within, paced)
