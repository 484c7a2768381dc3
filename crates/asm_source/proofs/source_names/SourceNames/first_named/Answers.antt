use Rattle.bpf_model.proofs.Prelude.{arith, bytes_eq}
use Rattle.asm_source.specs.Names.{Binding}
use Rattle.asm_source.proofs.IndexLaws.{found_at, found_nowhere}
use Rattle.asm_source.proofs.source_names.SourceNames.first_named.Goals as goal

pub returns-in_err-place_of : goal.returns-in_err-place_of
returns-in_err-place_of c = grind (arith, found_nowhere (λ (b : Binding). bytes_eq b.name c.args.name.now) c.args.self.now)

pub returns : goal.returns
returns c = grind (arith, found_at (λ (b : Binding). bytes_eq b.name c.args.name.now) c.args.self.now c.in_ok-place_of.field-0)
