use Rattle.bpf_model.proofs.Prelude.{◌≡◌, drop, find}
use Rattle.std.specs.Str.{bytes_eq}
use Rattle.script_lines.specs.Grammar.{verb_name}
use Rattle.script_lines.proofs.verb.first_named.Given as goal

abbrev pub invariant-loop-verb : goal.invariant-loop-verb
invariant-loop-verb l = find (λ v. bytes_eq l.word (verb_name v)) (drop l.verb-index l.verbs) ≡ find (λ v. bytes_eq l.word (verb_name v)) l.verbs
