use Rattle.bpf_model.proofs.Prelude.{◌∙◌, ℕ, Option, sym, subst, option_copied, false≢true}
use Rattle.element_store.proofs.Prelude.{key_at}
use Rattle.hash_index.specs.Order.{IsLess, IsLeastOf}
use Rattle.hash_index.proofs.Least.{least_passed, least_kept, least_replaced, least_first}
use Rattle.hash_index.proofs.chain.better.Goals as goal

pub returns-then-not-is_above-clause-least : goal.returns-then-not-is_above-clause-least
returns-then-not-is_above-clause-least c xs f = least_passed (key_at c.args.arena.now.slots)
    (option_copied c.args.bound) c.args.slot xs c.args.least
    (λ a. false≢true (sym c.if-not-is_above.true ∙ c.is_above.ensures.1 a)) f

pub returns-in-Some-clause-least : goal.returns-in-Some-clause-least
returns-in-Some-clause-least c xs f = least_kept (key_at c.args.arena.now.slots) (option_copied c.args.bound) c.args.slot xs c.in-Some.other
    (λ l. false≢true (sym c.if-not-is_less.true ∙ c.is_less.ensures.1 (subst (IsLess (key_at c.args.arena.now.slots c.args.slot)) (sym c.key.ensures) l)))
    (subst (λ (o : Option ℕ). IsLeastOf (key_at c.args.arena.now.slots) (option_copied c.args.bound) xs o) c.in-Some.is f)

pub returns-in_default-clause-least : goal.returns-in_default-clause-least
returns-in_default-clause-least c xs f = least_replaced (key_at c.args.arena.now.slots) (option_copied c.args.bound) c.args.slot xs c.in-Some.other
    (c.is_above.ensures.0 c.if-not-is_above.false)
    (subst (IsLess (key_at c.args.arena.now.slots c.args.slot)) c.key.ensures (c.is_less.ensures.0 c.if-not-is_less.false))
    (subst (λ (o : Option ℕ). IsLeastOf (key_at c.args.arena.now.slots) (option_copied c.args.bound) xs o) c.in-Some.is f)

pub returns-in_default-2-clause-least : goal.returns-in_default-2-clause-least
returns-in_default-2-clause-least c xs f = least_first (key_at c.args.arena.now.slots) (option_copied c.args.bound)
    c.args.slot xs (c.is_above.ensures.0 c.if-not-is_above.false)
    (subst (λ (o : Option ℕ). IsLeastOf (key_at c.args.arena.now.slots) (option_copied c.args.bound) xs o)
    c.in_default.is f)
