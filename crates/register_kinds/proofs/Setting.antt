-- What a register holds that is set, and what the others do.
use Rattle.bpf_model.proofs.Prelude.{◌≡◌, ℕ, ap, ◌∙◌, if◌then◌else◌, eq-eqb, ne_eqb}
use Rattle.plan_laws.proofs.Prelude.{Kind, AbsState, with_kind, AreAlike}

pub set-there : (r q : ℕ) (k : Kind) (a b : AbsState) → AreAlike (with_kind r k a) b → q ≡ r → b.regs q ≡ k
set-there r q k a b e p = e.regs q ∙ ap (λ t. if t then k else a.regs q) (eq-eqb q r p)

pub set-elsewhere : (r q : ℕ) (k : Kind) (a b : AbsState) → AreAlike (with_kind r k a) b → (q ≡ r → ⊥) → b.regs q ≡ a.regs q
set-elsewhere r q k a b e n = e.regs q ∙ ap (λ t. if t then k else a.regs q) (ne_eqb q r n)
