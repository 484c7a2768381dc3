-- An exit value that was asked for, where there is one, is one of the program's definition.
use Rattle.bpf_model.proofs.Prelude.{ℕ, List, Option, IfSome, IfSome_then, HasNoMaps, WorldView}
use Rattle.model_laws.proofs.Prelude.{Insn, MapShape}
use Rattle.world_laws.proofs.Prelude.{HasExited, IsWorld, MayExitAs, ExitsAs}
use Rattle.world_laws.proofs.Lived.{may_exit_as, exits_as}

module _ (w : WorldView) (r : ℕ) (code : List Insn) (shapes : List MapShape) (context_len : ℕ) (context : List ℕ)
    (exit : Option ℕ) (is : IsWorld w) (h : IfSome exit (λ n. HasExited w r code shapes context_len context n)) where
  pub asked_may : IfSome exit (λ n. MayExitAs code shapes context n)
  asked_may = IfSome_then exit h (λ n x. may_exit_as w r code shapes context_len context n is x)

  pub asked_alone : IfSome exit (λ n. HasNoMaps code → ExitsAs code context n)
  asked_alone = IfSome_then exit asked_may (λ n x none. exits_as code shapes context n none x)
