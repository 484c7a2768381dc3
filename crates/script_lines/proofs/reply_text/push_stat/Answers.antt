use Rattle.bpf_model.proofs.Prelude.{◌≡◌, ℕ, List, ◌++◌, ap, ◌∙◌, append_assoc, codes, on_ok_weaker}
use Rattle.script_lines.specs.ReplyText.{counted}
use Rattle.script_lines.proofs.reply_text.push_stat.Goals as goal

three : (start first second third p q r : List ℕ) → first ≡ start ++ p → second ≡ first ++ q → third ≡ second ++ r → third ≡ start ++ (p ++ q ++ r)
three start first second third p q r one two all =
    all ∙ ap (λ xs. xs ++ r) (two ∙ ap (λ xs. xs ++ q) one ∙ append_assoc start p q) ∙ append_assoc start (p ++ q) r

pub returns-clause-ok : goal.returns-clause-ok
returns-clause-ok c =
    on_ok_weaker c.push_pair-3.result (three c.args.out.now.items c.push_pair.new.out.items
    c.push_pair-2.new.out.items c.push_pair-3.new.out.items
    (counted (codes "stat linked ") c.args.stat.linked ++ counted (codes " unlinked ") c.args.stat.unlinked)
    (counted (codes " given ") c.args.stat.given ++ counted (codes " worn ") c.args.stat.worn)
    (counted (codes " runs ") c.args.stat.runs ++ counted (codes " open ") c.args.stat.«open»)
    c.in_ok-push_pair.ensures.ok c.in_ok-push_pair-2.ensures.ok) c.push_pair-3.ensures.ok
