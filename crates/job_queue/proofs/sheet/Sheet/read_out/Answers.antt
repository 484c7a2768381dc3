use Rattle.std.proofs.Common.{rules, Some, ◌∷◌, ◌++◌, ◌∙◌, [], ap, map, subst, sym}
use Rattle.std.specs.Prelude.{All, IsSome}
use Rattle.std.proofs.lemmas.List.{map-append, nil_from_length}
use Rattle.std.proofs.lemmas.List.Elements.{All-head, All-tail}
use Rattle.job_queue.proofs.Serving.{no_none}
use Rattle.job_queue.proofs.sheet.Sheet.read_out.Goals as goal

pub unreachable-requires : goal.unreachable-requires
unreachable-requires g c = no_none c.in-Some.line c.in-None-line.is
    (All-head IsSome c.in-Some.line c.next.new.self.rest.items (subst (All IsSome) c.in-Some.ensures.steps.0 c.loop-line.invariant.2))

pub loop-line-preserved : goal.loop-line-preserved
loop-line-preserved g c = (
  ap (map Some) c.push_reserved.ensures.items ∙
      (map-append Some c.loop-line.results.items (c.in-Some-line.served ∷ []) ∙
      (ap (λ z. z ++ Some c.in-Some-line.served ∷ []) c.loop-line.invariant.0 ∙
      ap (λ z. c.loop-line.yielded ++ z ∷ []) (sym c.in-Some-line.is))),
  search rules,
  All-tail IsSome c.in-Some.line c.next.new.self.rest.items (subst (All IsSome) c.in-Some.ensures.steps.0 c.loop-line.invariant.2),
)

pub loop-line-init : goal.loop-line-init
loop-line-init g c = (
  ap (map Some) (nil_from_length c.args.results.items (sym c.args.results.ok.0 ∙ c.requires.empty)),
  search rules,
  subst (All IsSome) (sym c.into_iter-line-iterator.ensures.into_iter_gives.0) c.requires.each,
)
