use Rattle.bpf_model.proofs.Prelude.{◌≡◌, length}
use Rattle.asm_source.specs.Maps.{meanings_of}
use Rattle.asm_source.specs.Plain.{prepended, tokens_text}
use Rattle.asm_source.proofs.words.push_tokens.Given as goal

abbrev pub invariant-loop-token : goal.invariant-loop-token
invariant-loop-token l =
    prepended l.out.items (tokens_text (meanings_of l.given) l.site l.before l.tokens) ≡
    prepended l.initial.out.items (tokens_text (meanings_of l.given) l.site l.initial.before l.initial.tokens)

abbrev pub decreases-loop-token : goal.decreases-loop-token
decreases-loop-token l = length l.tokens
