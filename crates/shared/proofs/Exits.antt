-- An exit value that the world answers is one that some world answered.
use Rattle.bpf_model.proofs.Prelude.{◌≡◌, ℕ, List, Option, Some, None, subst, IfSome, slice_get, IfSome_then, WorldView}
use Rattle.verifier.proofs.Prelude.{Checked}
use Rattle.world_laws.proofs.Prelude.{IsWorld}
use Rattle.world_laws.proofs.Lived.{may_exit_as, exits_as}
use Rattle.shared_books.specs.Receipts.{IsExitOf, HasExitedOnce, IsPossibleExit, IsOwnExit}

pub exits-once : (programs : List Checked) (p : Option Checked) (w : WorldView) (run prog : ℕ) (context : List ℕ)
    (exit : Option ℕ) → IsWorld w → p ≡ slice_get programs prog
    → IfSome exit (λ n. IsExitOf w run p context n) → IfSome exit (λ n. HasExitedOnce programs run prog context n)
exits-once programs p w run prog context exit is same h =
    IfSome_then exit h (λ n e. record { world = w; is_world = is; exited = subst (λ (q : Option Checked). IsExitOf w run q context n) same e })

-- such a value is one of the program's definition
possible : (o : Option Checked) (w : WorldView) (run : ℕ) (context : List ℕ) (n : ℕ) → IsWorld w → IsExitOf w run o context n → IsPossibleExit o context n
possible None w run context n is h = h
possible (Some p) w run context n is h = may_exit_as w run p.program p.shapes p.ctx_len context n is h

own : (o : Option Checked) (context : List ℕ) (n : ℕ) → IsPossibleExit o context n → IsOwnExit o context n
own None context n h = h
own (Some p) context n h = λ none. exits_as p.program p.shapes context n none h

pub possible-once : (programs : List Checked) (run prog : ℕ) (context : List ℕ) (n : ℕ) →
    HasExitedOnce programs run prog context n → IsPossibleExit (slice_get programs prog) context n
possible-once programs run prog context n h = possible (slice_get programs prog) h.world run context n h.is_world h.exited

pub own-once : (programs : List Checked) (run prog : ℕ) (context : List ℕ) (n : ℕ) →
    HasExitedOnce programs run prog context n → IsOwnExit (slice_get programs prog) context n
own-once programs run prog context n h = own (slice_get programs prog) context n (possible-once programs run prog context n h)
