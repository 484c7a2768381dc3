-- What is asked is replied, from what is replied and the text that is added.
use Rattle.bpf_model.proofs.Prelude.{◌≡◌, ◌∙◌, ℕ, List, [], ◌∷◌, ◌++◌, sym, ap, subst, IfOk, Option, Result, Ok, Err, flat_map, WorldView}
use Rattle.model_laws.proofs.Prelude.{Event}
use Rattle.std.proofs.Common.{append-nil}
use Rattle.std.specs.declared.alloc.AllocError.{AllocError}
use Rattle.script_lines.specs.declared.reply.Reply.{Reply}
use Rattle.script_lines.specs.ReplyText.{reply_text}
use Rattle.control.specs.declared.asked.Asked.{Asked}
use Rattle.control.specs.declared.live.Live.{Live}
use Rattle.control.specs.Lives.{IsReplied, Happen}
use Rattle.control.specs.declared.refusal.LineRefusal.{LineRefusal}
use Rattle.control.specs.Refusals.{AreTold, IsAdded}
use Rattle.control.specs.Replies.{Replies}

-- many replies
pub replied : (old : Live) (question asked : Asked) (events : List Event) (replies : List Reply) (world : WorldView)
    (before after : List ℕ) (refusal : Option LineRefusal) → question ≡ asked → Happen old.world events world →
    Replies old.world asked events replies world → AreTold refusal replies → after ≡ before ++ flat_map reply_text replies →
    IsReplied old question before refusal after (record { world = world })
replied old question asked events replies world before after refusal is h r told text = record {
  replies = replies;
  served = record {
    events = events;
    happened = h;
    replied = subst (λ (q : Asked). Replies old.world q events replies world) (sym is) r;
  };
  told = told;
  text = text;
}

-- one reply
pub replied_once : (old : Live) (question asked : Asked) (events : List Event) (told reply : Reply)
    (world : WorldView) (before after : List ℕ) (result : Result (Option LineRefusal) AllocError) → question ≡ asked →
    Happen old.world events world → told ≡ reply → Replies old.world asked events (reply ∷ []) world →
    IfOk result (λ refusal. IsAdded told before refusal after) →
    IfOk result (λ refusal. IsReplied old question before refusal after (record { world = world }))
replied_once old question asked events told reply world before after (Ok refusal) is h same r (tells, text) =
    replied old question asked events (reply ∷ []) world before after refusal is h r
    (subst (λ (x : Reply). AreTold refusal (x ∷ [])) same tells)
    (text ∙ ap (λ (xs : List ℕ). before ++ xs) (ap reply_text same ∙ sym (append-nil (reply_text reply))))
replied_once old question asked events told reply world before after (Err e) is h same r added = tt
