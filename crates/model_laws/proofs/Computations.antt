-- Computations that may be stuck.
use Rattle.bpf_model.proofs.Prelude.{◌≡◌, Option, Some, None, refl, ap, ◌>>=◌}

-- a computation that isn't stuck had a first step
pub first-step : {A B : Type 0} (o : Option A) (f : A → Option B) (y : B) → (o >>= f) ≡ Some y → (x : A) × (o ≡ Some x) × (f x ≡ Some y)
first-step None f y h = absurd (cc)
first-step (Some x) f y h = (x, refl, h)

-- a step of a computation, and those after it
pub then-step : {A B : Type 0} (o : Option A) (f : A → Option B) (x : A) → o ≡ Some x → (o >>= f) ≡ f x
then-step o f x h = ap (λ z. z >>= f) h
