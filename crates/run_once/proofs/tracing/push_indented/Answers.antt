use Rattle.bpf_model.proofs.Prelude.{rules, ◌≡◌, ◌∙◌, ◌++◌, ◌∷◌, [], false, ap, subst, sym, append-nil}
use Rattle.std.proofs.lemmas.List.{append_assoc}
use Rattle.run_once.specs.Told.{AreIndented, margin}
use Rattle.run_once.proofs.Indented.{IsPartly, ended, one_more}
use Rattle.run_once.proofs.tracing.push_indented.Goals as goal

pub loop-byte-init : goal.loop-byte-init
loop-byte-init c = ([], AreIndented.none, sym (append-nil c.args.text.now.items))

pub loop-byte-preserved : goal.loop-byte-preserved
loop-byte-preserved c =
    let i = c.loop-byte.invariant in
    let byte = c.shown-byte.result in
    let late = margin c.loop-byte.begins ++ byte ∷ [] in
    let items : c.push_byte.new.text.items ≡ c.loop-byte.text.items ++ late = search rules in (
      i.0 ++ late,
      one_more c.loop-byte.begins i.0 byte c.shown-byte.ensures i.1,
      items ∙ (ap (λ l. l ++ late) i.2 ∙ append_assoc c.args.text.now.items i.0 late),
    )

pub returns-in_ok-push : goal.returns-in_ok-push
returns-in_ok-push c =
    let i = c.loop-byte.invariant in
    let unended : c.loop-byte.begins ≡ false = search rules in
    let items : c.push.new.self.items ≡ c.loop-byte.text.items ++ 10 ∷ [] = search rules in (
      i.0 ++ 10 ∷ [],
      ended i.0 (subst (λ b. IsPartly b i.0) unended i.1),
      items ∙ (ap (λ l. l ++ 10 ∷ []) i.2 ∙ append_assoc c.args.text.now.items i.0 (10 ∷ [])),
    )
