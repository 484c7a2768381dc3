use Rattle.bpf_model.proofs.Prelude.{rules, ◌≡◌, ◌∙◌, ◌<◌, ◌≤◌, ◌∷◌, [], ◌++◌, length, get_or, map, sym, ap, subst, inr, take_all}
use Rattle.commands.specs.Runs.{put_event, AllFit}
use Rattle.commands.proofs.PutFirst.{first_bad, one_put_more, one_fits_more}
use Rattle.commands.proofs.puts.puts_of.Goals as goal

pub loop-number-preserved : goal.loop-number-preserved
loop-number-preserved c =
    let elements = c.args.elements.now in
    let k = c.loop-number.number in
    let e = c.index-elements-number.result in
    let inside : k < length elements = search rules in
    let at : get_or elements k e ≡ e = sym c.index-elements-number.is in
    let pushed : c.push.new.self.items ≡ c.loop-number.puts.items ++ c.in-Ok.put ∷ [] = search rules in (
      one_fits_more c.args.registry.now elements k e inside at c.loop-number.invariant.0 c.in-Ok.ensures.fits,
      pushed ∙ one_put_more c.args.registry.now elements k e c.loop-number.puts.items c.in-Ok.put inside at c.loop-number.invariant.1 c.in-Ok.ensures.put,
    )

pub returns-in-Err-clause-refused : goal.returns-in-Err-clause-refused
returns-in-Err-clause-refused c =
    let elements = c.args.elements.now in
    let k = c.loop-number.number in
    let e = c.index-elements-number.result in
    let inside : k < length elements = search rules in
    inr (
      c.in-Err.refusal,
      first_bad c.args.registry.now elements k e c.in-Err.refusal inside
          (sym c.index-elements-number.is) c.loop-number.invariant.0 c.in-Err.ensures.refused,
      search rules,
    )

pub returns-clause-fit : goal.returns-clause-fit
returns-clause-fit c =
    let elements = c.args.elements.now in
    let all : length elements ≤ c.loop-number.number = search rules in
    subst (AllFit c.args.registry.now) (take_all c.loop-number.number elements all) c.loop-number.invariant.0

pub returns-clause-puts : goal.returns-clause-puts
returns-clause-puts c =
    let elements = c.args.elements.now in
    let all : length elements ≤ c.loop-number.number = search rules in
    c.loop-number.invariant.1 ∙ ap (map (put_event c.args.registry.now)) (take_all c.loop-number.number elements all)
