use Rattle.bpf_model.proofs.Prelude.{◌+◌, [], ◌∷◌, ap, arith, subst}
use Rattle.read_table.proofs.Prelude.{Goes}
use Rattle.read_table.specs.declared.view.Move.TheVariants.{Load}
use Rattle.read_table.specs.declared.view.TableShape.{TableShape}
use Rattle.read_table.proofs.running.ReadRunsServesRuns.load.Goals as goal

pub load-requires-clause-place : goal.load-requires-clause-place
load-requires-clause-place c =
    let same = ap (λ (k : TableShape). k.key_words) c.shape-shape.ensures.shape in
    let place = c.requires.place in
    omega (arith, same, place)

pub returns : goal.returns
returns c = subst (λ (k : TableShape). Goes c.args.seat.now (Load c.args.element (k.key_words + c.args.place) c.load.result ∷ []) c.load.new.seat)
    c.shape-shape.ensures.shape c.load.ensures.step
