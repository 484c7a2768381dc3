-- What a `map` is replied.
use Rattle.bpf_model.proofs.Prelude.{◌≡◌, ◌≢◌, ◌∙◌, ℕ, ◌⊎◌, inl, inr, List, Option, Some, None, Result, Ok, Err, IfOk, IfSome, IfNone, refl, sym, ap, subst}
use Rattle.model_laws.proofs.Prelude.{MapShape}
use Rattle.maps.specs.declared.fault.MapFault.{MapFault}
use Rattle.maps.specs.declared.fault.MapFault.TheVariants.{Memory}
use Rattle.maps.specs.Registry.{creation_fault, map_fault_number}
use Rattle.script_lines.specs.declared.reply.Reply.{Reply}
use Rattle.control.specs.AnswerReplies.{refused}
use Rattle.control.specs.declared.refusal.LineRefusal.{LineRefusal}
use Rattle.control.specs.declared.refusal.LineRefusal.TheVariants as refusals
use Rattle.control.specs.Refusals.{map_reply}
use Rattle.control.specs.MapAndLoad.{MapReplied, MapReplies}
use Rattle.control.specs.Setups.{SetupView}

refused-for : (o : Option MapFault) (s : SetupView) (name : List ℕ) (shape : MapShape) (fault : MapFault) (count : ℕ)
    (made : Result ℕ MapFault) (reply : Reply) → made ≡ Err fault → IfSome o (λ f. made ≡ Err f) →
    IfNone o ((made ≡ Ok count) ⊎ (made ≡ Err Memory)) → fault ≢ Memory → reply ≡ refused (map_fault_number fault) →
    MapReplied o s name shape reply s
refused-for (Some f) s name shape fault count made reply err tested none known is =
    let same : fault ≡ f = cc in
    (is ∙ ap (λ e. refused (map_fault_number e)) same, refl)
refused-for None s name shape fault count made reply err tested none known is =
    absurd (elim none [ inl other ↦ (cc) | inr memory ↦ known (cc) ])

-- a registry that refuses leaves the setup as it was
pub create-refused : {E : Type 0} (s : SetupView) (name : List ℕ) (shape : MapShape) (fault : MapFault)
    (o : Option MapFault) (count : ℕ) (result : Result (Result ℕ LineRefusal) E) (new : SetupView) →
    o ≡ creation_fault s.registry name shape → IfSome o (λ f. ◌≡◌ {A = Result ℕ MapFault} (Err fault) (Err f)) →
    IfNone o (◌≡◌ {A = Result ℕ MapFault} (Err fault) (Ok count)
    ⊎ ◌≡◌ {A = Result ℕ MapFault} (Err fault) (Err Memory)) → IfOk result (λ _. fault ≢ Memory) →
    IfOk result (λ made. made ≡ Err (refusals.Map fault)) → new ≡ s →
    IfOk result (λ made. MapReplies s name shape (map_reply made) new)
create-refused s name shape fault o count (Ok made) new fault-is tested none known is same =
    subst (λ n. MapReplies s name shape (map_reply made) n) (sym same)
    (subst (λ p. MapReplied p s name shape (map_reply made) s) fault-is
    (refused-for o s name shape fault count (Err fault) (map_reply made) refl tested none known (ap map_reply is)))
create-refused s name shape fault o count (Err e) new fault-is tested none known is same = tt
