use Rattle.bpf_model.proofs.Prelude.{sym, ◌∙◌, codes, err_from_is_err_and}
use Rattle.asm_source.specs.Maps.{meanings_of}
use Rattle.asm_source.specs.Plain.{tokens_text}
use Rattle.asm_source.proofs.TextLaws.{token_pushed, tokens_end, token_fault}
use Rattle.asm_source.proofs.words.push_tokens.Goals as goal

pub returns-in_err-push_token-clause-fault : goal.returns-in_err-push_token-clause-fault
returns-in_err-push_token-clause-fault c =
    let p = err_from_is_err_and c.from_residual-in_err-push_token.result c.from_residual-in_err-push_token.ensures.1 in
    rw (p.1, p.2) (token_fault (meanings_of c.args.given.now) c.args.site.now c.loop-token.before.now c.in-Some.token.now
    c.next.new.self c.loop-token.tokens c.is_done.result c.loop-token.out.items c.args.out.now.items
    (tokens_text (meanings_of c.args.given.now) c.args.site.now (codes ",") c.args.tokens.now) c.in_err-push_token.field-0.0
    c.in-Some.ensures.some c.is_done.ensures c.loop-token.invariant c.in_err-push_token.ensures.fault)

pub loop-token-preserved : goal.loop-token-preserved
loop-token-preserved c =
    sym (token_pushed (meanings_of c.args.given.now) c.args.site.now c.loop-token.before.now c.in-Some.token.now
    c.next.new.self c.loop-token.tokens c.is_done.result c.loop-token.out.items c.push_gap.new.out.items
    c.push_token.new.out.items c.in-Some.ensures.some c.is_done.ensures c.in_ok-push_gap.ensures
    c.in_ok-push_token.ensures.added) ∙ c.loop-token.invariant

pub returns-clause-added : goal.returns-clause-added
returns-clause-added c =
    sym c.loop-token.invariant ∙ tokens_end (meanings_of c.args.given.now) c.args.site.now c.loop-token.before.now
    c.loop-token.out.items c.loop-token.tokens c.in_default.ensures.none
