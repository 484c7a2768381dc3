-- The flags of sections change by a lock and an unlock alone.
use Rattle.bpf_model.proofs.Prelude.{◌≡◌, ℕ, sym, ap, ◌∙◌, List, Some, Bool, slice_get, nat_lt, slice_get-map, Run, Schedule, is_open, still_open, RunView}
use Rattle.bpf_model.proofs.Prelude.{WorldView, flattened, set-same}
use Rattle.model_laws.proofs.Prelude.{Matches, with_run}
use Rattle.world_laws.proofs.Prelude.{IsSound, IsRunning}
use Rattle.std.specs.Option.{option_map}
use Rattle.model_laws.proofs.ViewedWorlds.{awaited-same}
use Rattle.world_laws.proofs.Ready.{refines}

module _ (w : WorldView) (s : Schedule) (m : Matches w s) where
  -- no section is awaited that is not open
  pub awaited_open : still_open w.awaited w.opened ≡ w.awaited
  awaited_open =
      ap (λ (l : List Bool). still_open l w.opened) m.refines.awaited
      ∙ ap (still_open s.awaited) m.refines.opened
      ∙ awaited-same w s m.refines m.scheduled
      ∙ sym m.refines.awaited

module _ (w : WorldView) (s : Schedule) (m : Matches w s) (sound : IsSound w s) (r : ℕ) (run : Run) (v new : RunView)
    (k : IsRunning w s r run v) (same : new.depth ≡ v.depth) where
  pub flag : slice_get w.opened r ≡ Some (nat_lt 0 new.depth)
  flag =
      let depth : new.depth ≡ run.depth = same ∙ (refines w s m sound r run v k).words.depth in
      ap (λ (l : List Bool). slice_get l r) m.refines.opened
      ∙ slice_get-map is_open s.machine.runs r
      ∙ ap (option_map is_open) (flattened (slice_get s.machine.runs r) run k.there)
      ∙ ap (λ (n : ℕ). Some (nat_lt 0 n)) (sym depth)

  pub opened_stays : (with_run r (Some new) w).opened ≡ w.opened
  opened_stays = set-same w.opened r (nat_lt 0 new.depth) flag

  pub awaited_stays : (with_run r (Some new) w).awaited ≡ w.awaited
  awaited_stays = ap (still_open w.awaited) opened_stays ∙ awaited_open w s m
