-- Replies while maps and programs are being made.
use Rattle.bpf_model.proofs.Prelude.{◌≡◌, ◌∙◌, ℕ, List, Option, [], ◌∷◌, ◌++◌, sym, ap, subst, refl, flat_map}
use Rattle.model_laws.proofs.Prelude.{Event}
use Rattle.std.proofs.Common.{append-nil}
use Rattle.script_lines.specs.ReplyText.{reply_text}
use Rattle.script_lines.specs.declared.command.ScriptCommand.{ScriptCommand}
use Rattle.script_lines.specs.declared.command.ScriptCommand.TheVariants as commands
use Rattle.script_lines.specs.declared.command.ShapeNumbers.{ShapeNumbers}
use Rattle.script_lines.specs.declared.reply.Reply.{Reply}
use Rattle.control.specs.MapAndLoad.{MapReplies, LoadReplies, shape_of_numbers}
use Rattle.control.specs.Setups.{SetupView}
use Rattle.control.specs.declared.live.Live.{Live}
use Rattle.control.specs.Lives.{LiveReplies}
use Rattle.control.specs.declared.refusal.LineRefusal.{LineRefusal}
use Rattle.control.specs.Refusals.{AreTold, IsAdded}
use Rattle.control.specs.Sessions.{SetupReplies, TracksStart, sealed}
use Rattle.control.specs.declared.session.Session.TheVariants as sessions

-- one reply, and its text
once : (before after : List ℕ) (reply : Reply) → after ≡ before ++ reply_text reply → after ≡ before ++ flat_map reply_text (reply ∷ [])
once before after reply text = text ∙ ap (λ (xs : List ℕ). before ++ xs) (sym (append-nil (reply_text reply)))

pub map_made : (old : SetupView) (command : ScriptCommand) (name : List ℕ) (shape : ShapeNumbers) (reply : Reply)
    (made : SetupView) (before after : List ℕ) (refusal : Option LineRefusal) → command ≡ commands.Map name shape →
    MapReplies old name (shape_of_numbers shape) reply made → IsAdded reply before refusal after →
    (events : List Event) × (replies : List Reply) × SetupReplies old command events replies (sessions.Setup made) ×
    AreTold refusal replies × (after ≡ before ++ flat_map reply_text replies)
map_made old command name shape reply made before after refusal is r (told, text) = (
  [],
  reply ∷ [],
  subst (λ (c : ScriptCommand). SetupReplies old c [] (reply ∷ []) (sessions.Setup made)) (sym is) (reply, made, r, refl, refl, refl),
  told,
  once before after reply text,
)

pub load_made : (old : SetupView) (command : ScriptCommand) (ctx_len : ℕ) (code : List ℕ) (names : List (List ℕ))
    (reply : Reply) (made : SetupView) (before after : List ℕ) (refusal : Option LineRefusal) →
    command ≡ commands.Load ctx_len code names →
    LoadReplies old ctx_len code names reply made → IsAdded reply before refusal after → (events : List Event) ×
    (replies : List Reply) × SetupReplies old command events replies (sessions.Setup made) ×
    AreTold refusal replies × (after ≡ before ++ flat_map reply_text replies)
load_made old command ctx_len code names reply made before after refusal is r (told, text) = (
  [],
  reply ∷ [],
  subst (λ (c : ScriptCommand). SetupReplies old c [] (reply ∷ []) (sessions.Setup made)) (sym is) (reply, made, r, refl, refl, refl),
  told,
  once before after reply text,
)

-- the command that makes the world is neither `map` nor `load`
module _ (old : SetupView) (replies : List Reply) (live : Live) (starts : TracksStart old) where
  pub world_made : (command : ScriptCommand) → ((name : List ℕ) (shape : ShapeNumbers) → command ≡ commands.Map name shape →
      ⊥) → ((ctx_len : ℕ) (code : List ℕ) (names : List (List ℕ)) → command ≡ commands.Load ctx_len code names → ⊥) →
      (r : LiveReplies (sealed old) command replies live) →
      SetupReplies old command r.served.events replies (sessions.Live live)
  world_made (commands.Map name shape) no_map no_load r = absurd (no_map name shape refl)
  world_made (commands.Load ctx_len code names) no_map no_load r = absurd (no_load ctx_len code names refl)
  world_made (commands.Put name key value flags) no_map no_load r = (starts, (live, r, refl, refl))
  world_made (commands.Get name key) no_map no_load r = (starts, (live, r, refl, refl))
  world_made (commands.Del name key) no_map no_load r = (starts, (live, r, refl, refl))
  world_made (commands.Start prog ctx) no_map no_load r = (starts, (live, r, refl, refl))
  world_made (commands.Step run count) no_map no_load r = (starts, (live, r, refl, refl))
  world_made commands.Advance no_map no_load r = (starts, (live, r, refl, refl))
  world_made commands.Reap no_map no_load r = (starts, (live, r, refl, refl))
  world_made (commands.Drop run) no_map no_load r = (starts, (live, r, refl, refl))
  world_made commands.Stat no_map no_load r = (starts, (live, r, refl, refl))
  world_made (commands.Dump name) no_map no_load r = (starts, (live, r, refl, refl))
