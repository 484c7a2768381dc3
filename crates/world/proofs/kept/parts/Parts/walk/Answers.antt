use Rattle.bpf_model.proofs.Prelude.{◌≡◌, ◌∙◌, ℕ, ◌<◌, ◌^◌, List, Option, Some, None, true, false, refl, sym, ap, subst, rules, is_some, map, slice_get}
use Rattle.bpf_model.proofs.Prelude.{same_Some, WorldView}
use Rattle.machine.proofs.Prelude.{RunWords}
use Rattle.world.proofs.Prelude.{flag_of, IsFlagged, MakesMoves, WouldBeRefused}
use Rattle.world_laws.proofs.Prelude.{IsWorld}
use Rattle.world.proofs.NextSteps.{ended, flagged-run, no-run, standing, whole}
use Rattle.world.proofs.SlotFlags.{flags-stay}
use Rattle.world.proofs.OwnMoves.{new-world, walk-ahead, walk-kept, walk-moves}
use Rattle.world.proofs.kept.parts.Parts.walk.Goals as goal

some-of : (o : Option ℕ) → is_some o ≡ true → (n : ℕ) × (o ≡ Some n)
some-of (Some n) h = (n, refl)
some-of None h = absurd (cc)

none-of : (o : Option ℕ) → is_some o ≡ false → o ≡ None
none-of (Some n) h = absurd (cc)
none-of None h = refl

same-there : (runs : List (Option RunWords)) (r : ℕ) (x y : RunWords) → slice_get runs r ≡ Some (Some x) → slice_get runs r ≡ Some (Some y) → x ≡ y
same-there runs r x y a b = same_Some x y (same_Some (Some x) (Some y) (sym a ∙ b))

pub returns-in_default-clause-refused : goal.returns-in_default-clause-refused
returns-in_default-clause-refused c =
    subst (λ (w : WorldView). WouldBeRefused w c.args.run) c.self.view_is
    (no-run c.self.inside.registry.names c.self.inside.registry.maps c.self.inside.runs.items c.self.inside.grace
    c.self.inside.programs.items c.self.inside.given c.args.run c.self.invariant.kept
    (λ run e. c.in_default.ensures.none run (subst (λ (l : List (Option RunWords)). slice_get l c.args.run ≡ Some (Some run)) (sym c.deref.ensures.value) e)))

pub returns-then-is_some-clause-refused : goal.returns-then-is_some-clause-refused
returns-then-is_some-clause-refused c =
    let found = c.in-Some.found.now in
    let there : slice_get c.self.inside.runs.items c.args.run ≡ Some (Some found) =
    subst (λ (l : List (Option RunWords)). slice_get l c.args.run ≡ Some (Some found)) c.deref.ensures.value c.in-Some.ensures.some in
    let x = some-of found.view.exit (ap is_some (sym c.exit.ensures) ∙ (sym c.is_some.ensures ∙ c.if-is_some.true)) in
    subst (λ (w : WorldView). WouldBeRefused w c.args.run) c.self.view_is
    (ended c.self.inside.registry.names c.self.inside.registry.maps c.self.inside.runs.items c.self.inside.grace
    c.self.inside.programs.items c.self.inside.given c.args.run c.self.invariant.kept found there x.0 x.1)

pub walk_slot-requires : goal.walk_slot-requires
walk_slot-requires c =
    let found = c.in-Some.found.now in
    let there : slice_get c.self.inside.runs.items c.args.run ≡ Some (Some found) =
    subst (λ (l : List (Option RunWords)). slice_get l c.args.run ≡ Some (Some found)) c.deref.ensures.value c.in-Some.ensures.some in
    let running : found.view.exit ≡ None = none-of found.view.exit (ap is_some (sym c.exit.ensures) ∙ (sym c.is_some.ensures ∙ c.if-is_some.false)) in
    let is : IsWorld (whole c.self.inside.registry.names c.self.inside.registry.maps c.self.inside.runs.items c.self.inside.grace
    c.self.inside.programs.items c.self.inside.given c.args.run c.self.invariant.kept) = subst IsWorld (sym c.self.view_is) c.requires in
    standing c.self.inside.registry.names c.self.inside.registry.maps c.self.inside.runs.items c.self.inside.grace
    c.self.inside.programs.items c.self.inside.given c.args.run c.self.invariant.kept found there is running

pub invariant_of-self : goal.invariant_of-self
invariant_of-self c =
    let found = c.in-Some.found.now in
    let there : slice_get c.self.inside.runs.items c.args.run ≡ Some (Some found) =
    subst (λ (l : List (Option RunWords)). slice_get l c.args.run ≡ Some (Some found)) c.deref.ensures.value c.in-Some.ensures.some in
    let running : found.view.exit ≡ None = none-of found.view.exit (ap is_some (sym c.exit.ensures) ∙ (sym c.is_some.ensures ∙ c.if-is_some.false)) in
    let is : IsWorld (whole c.self.inside.registry.names c.self.inside.registry.maps c.self.inside.runs.items c.self.inside.grace
    c.self.inside.programs.items c.self.inside.given c.args.run c.self.invariant.kept) = subst IsWorld (sym c.self.view_is) c.requires in
    let walked = c.walk_slot.ensures.walked in
    let same : walked.run ≡ found = same-there c.self.inside.runs.items c.args.run walked.run found walked.there there in
    let going : walked.run.view.exit ≡ None = ap (λ (x : RunWords). x.view.exit) same ∙ running in
    let flagged : IsFlagged (whole c.self.inside.registry.names c.self.inside.registry.maps c.self.inside.runs.items c.self.inside.grace
    c.self.inside.programs.items c.self.inside.given c.args.run c.self.invariant.kept) c.args.run walked.run.view =
    flagged-run c.self.inside.registry.names c.self.inside.registry.maps c.self.inside.runs.items c.self.inside.grace
    c.self.inside.programs.items c.self.inside.given c.args.run c.self.invariant.kept walked.run walked.there
    is going in
    record {
      kept = walk-kept c.self.inside.registry.names c.self.inside.registry.maps c.self.inside.runs.items c.walk_slot.new.runs.items
          c.self.inside.grace c.self.inside.programs.items c.self.inside.given c.args.run c.walk_slot.result
          c.self.invariant.kept walked going flagged;
      flagged = flags-stay c.self.inside.runs.items c.self.inside.flags.items c.args.run walked.run walked.new c.self.invariant.flagged walked.there
          ∙ ap (map flag_of) (sym walked.runs_are);
    }

pub returns-clause-moves : goal.returns-clause-moves
returns-clause-moves c =
    let found = c.in-Some.found.now in
    let there : slice_get c.self.inside.runs.items c.args.run ≡ Some (Some found) =
    subst (λ (l : List (Option RunWords)). slice_get l c.args.run ≡ Some (Some found)) c.deref.ensures.value c.in-Some.ensures.some in
    let running : found.view.exit ≡ None = none-of found.view.exit (ap is_some (sym c.exit.ensures) ∙ (sym c.is_some.ensures ∙ c.if-is_some.false)) in
    let is : IsWorld (whole c.self.inside.registry.names c.self.inside.registry.maps c.self.inside.runs.items c.self.inside.grace
    c.self.inside.programs.items c.self.inside.given c.args.run c.self.invariant.kept) = subst IsWorld (sym c.self.view_is) c.requires in
    let walked = c.walk_slot.ensures.walked in
    let same : walked.run ≡ found = same-there c.self.inside.runs.items c.args.run walked.run found walked.there there in
    let going : walked.run.view.exit ≡ None = ap (λ (x : RunWords). x.view.exit) same ∙ running in
    let flagged : IsFlagged (whole c.self.inside.registry.names c.self.inside.registry.maps c.self.inside.runs.items c.self.inside.grace
    c.self.inside.programs.items c.self.inside.given c.args.run c.self.invariant.kept) c.args.run walked.run.view =
    flagged-run c.self.inside.registry.names c.self.inside.registry.maps c.self.inside.runs.items c.self.inside.grace
    c.self.inside.programs.items c.self.inside.given c.args.run c.self.invariant.kept walked.run walked.there
    is going in
    subst (λ (w : WorldView). MakesMoves c.args.run w c.walk_slot.result.moved
    (new-world c.self.inside.registry.names c.self.inside.registry.maps c.self.inside.runs.items c.walk_slot.new.runs.items
    c.self.inside.grace c.self.inside.programs.items c.self.inside.given c.args.run c.walk_slot.result
    c.self.invariant.kept walked going flagged)) c.self.view_is
    (walk-moves c.self.inside.registry.names c.self.inside.registry.maps c.self.inside.runs.items c.walk_slot.new.runs.items
    c.self.inside.grace c.self.inside.programs.items c.self.inside.given c.args.run c.walk_slot.result
    c.self.invariant.kept walked going flagged)

pub returns-clause-ahead : goal.returns-clause-ahead
returns-clause-ahead c =
    let found = c.in-Some.found.now in
    let there : slice_get c.self.inside.runs.items c.args.run ≡ Some (Some found) =
    subst (λ (l : List (Option RunWords)). slice_get l c.args.run ≡ Some (Some found)) c.deref.ensures.value c.in-Some.ensures.some in
    let running : found.view.exit ≡ None = none-of found.view.exit (ap is_some (sym c.exit.ensures) ∙ (sym c.is_some.ensures ∙ c.if-is_some.false)) in
    let is : IsWorld (whole c.self.inside.registry.names c.self.inside.registry.maps c.self.inside.runs.items c.self.inside.grace
    c.self.inside.programs.items c.self.inside.given c.args.run c.self.invariant.kept) = subst IsWorld (sym c.self.view_is) c.requires in
    let walked = c.walk_slot.ensures.walked in
    let same : walked.run ≡ found = same-there c.self.inside.runs.items c.args.run walked.run found walked.there there in
    let going : walked.run.view.exit ≡ None = ap (λ (x : RunWords). x.view.exit) same ∙ running in
    let flagged : IsFlagged (whole c.self.inside.registry.names c.self.inside.registry.maps c.self.inside.runs.items c.self.inside.grace
    c.self.inside.programs.items c.self.inside.given c.args.run c.self.invariant.kept) c.args.run walked.run.view =
    flagged-run c.self.inside.registry.names c.self.inside.registry.maps c.self.inside.runs.items c.self.inside.grace
    c.self.inside.programs.items c.self.inside.given c.args.run c.self.invariant.kept walked.run walked.there
    is going in
    let real : c.args.run < 2 ^ 64 = search rules in
    walk-ahead c.self.inside.registry.names c.self.inside.registry.maps c.self.inside.runs.items c.walk_slot.new.runs.items
    c.self.inside.grace c.self.inside.programs.items c.self.inside.given c.args.run c.walk_slot.result
    c.self.invariant.kept walked going flagged is real
