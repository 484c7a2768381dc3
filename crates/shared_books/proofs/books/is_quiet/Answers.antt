use Rattle.bpf_model.proofs.Prelude.{◌≡◌, ◌∙◌, sym, ap, arith, count_by, is_some, nat_tests}
use Rattle.bpf_model.specs.declared.stat.Stat.{Stat}
use Rattle.shared_books.proofs.Quiet.{free-where-none, none-where-free}
use Rattle.shared_books.proofs.books.is_quiet.Goals as goal

pub returns : goal.returns
returns c =
    let e : c.stat.result.runs ≡ count_by is_some c.args.world.now.runs = ap (λ (s : Stat). s.runs) c.stat.ensures in (
      λ t. free-where-none c.args.world.now.runs (let n : c.stat.result.runs ≡ 0 = grind (arith, nat_tests) in sym e ∙ n),
      λ h. let n : c.stat.result.runs ≡ 0 = e ∙ none-where-free c.args.world.now.runs h in grind (arith, nat_tests),
    )
