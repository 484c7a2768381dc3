use Rattle.bpf_model.proofs.Prelude.{◌+◌, [], ◌∷◌, ap, arith, subst}
use Rattle.read_table.proofs.Prelude.{Goes}
use Rattle.read_table.specs.declared.view.Move.TheVariants.{Store}
use Rattle.read_table.specs.declared.view.TableShape.{TableShape}
use Rattle.read_table.proofs.running.ReadRunsServesRuns.store.Goals as goal

pub store-requires-clause-place : goal.store-requires-clause-place
store-requires-clause-place c =
    let same = ap (λ (k : TableShape). k.key_words) c.shape-shape.ensures.shape in
    let place = c.requires.place in
    omega (arith, same, place)

pub returns : goal.returns
returns c = subst (λ (k : TableShape). Goes c.args.seat.now (Store c.args.element (k.key_words + c.args.place) c.args.word ∷ []) c.store.new.seat)
    c.shape-shape.ensures.shape c.store.ensures.step
