use Rattle.bpf_model.proofs.Prelude.{◌≡◌, ℕ, sym, subst, rules}
use Rattle.machine.proofs.Prelude.{RunWords, Awaits, MayGive}
use Rattle.verifier.proofs.Prelude.{Checked}
use Rattle.bpf_model.specs.declared.call.Helper.{Helper}
use Rattle.bpf_model.specs.declared.call.Helper.TheVariants.{Update, Delete}
use Rattle.machine.specs.declared.request.Request.TheVariants.{Call}
use Rattle.system_tests.proofs.standing.call_word.Goals as goal

-- what one helper may be answered, another that is the same may
same : (c : Checked) (r : RunWords) (helper other : Helper) (word : ℕ) → helper ≡ other → Awaits c (Call helper) r →
    (Awaits c (Call other) r → MayGive c r.view (Call other) word) → MayGive c r.view (Call helper) word
same c r helper other word is waits gives =
    subst (λ h. MayGive c r.view (Call h) word) (sym is) (gives (subst (λ h. Awaits c (Call h) r) is waits))

pub returns-then-register-eq0 : goal.returns-then-register-eq0
returns-then-register-eq0 c =
    same c.args.verified.now c.args.run.now c.args.helper Update 0 c.in-Update.is c.requires.waits
    (λ waits. c.update_may_succeed.ensures c.args.verified.now c.args.run.now c.program-program.ensures.justified
    c.requires.hash waits (search rules))

pub returns-in-Delete : goal.returns-in-Delete
returns-in-Delete c =
    same c.args.verified.now c.args.run.now c.args.helper Delete c.ret_word.result c.in-Delete.is c.requires.waits
    (λ waits. subst (λ word. MayGive c.args.verified.now c.args.run.now.view (Call Delete) word) (sym c.ret_word.ensures)
    (c.delete_may_find_nothing.ensures c.args.verified.now c.args.run.now c.program-program.ensures.justified c.requires.hash waits))
