use Rattle.bpf_model.proofs.Prelude.{rules, ap, sym, ◌∙◌, ◌++◌}
use Rattle.disasm.specs.Text.{stem_of, suffix_of}
use Rattle.disasm.proofs.NameLaws.{name_goes_on, name_differs}
use Rattle.disasm.proofs.names.is_named.Goals as goal

pub returns-in-Some : goal.returns-in-Some
returns-in-Some c =
    name_goes_on (stem_of c.args.mnemonic.now) (suffix_of c.args.mnemonic.now) c.in-Some.rest.now c.args.name.now
    c.eq.result (c.in-Some.ensures ∙ ap (λ s. s ++ c.in-Some.rest.now) c.stem.ensures) (search rules)

pub returns-in-None : goal.returns-in-None
returns-in-None c = name_differs (stem_of c.args.mnemonic.now) (suffix_of c.args.mnemonic.now) c.args.name.now
    (λ rest e. c.in-None.ensures rest (e ∙ ap (λ s. s ++ rest) (sym c.stem.ensures)))
