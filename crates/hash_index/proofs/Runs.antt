-- Runs of commands.
use Rattle.bpf_model.proofs.Prelude.{◌≡◌, ◌∙◌, ℕ, List, [], ◌∷◌, ◌++◌, Option, None, inl, inr, sym, ap, cond, subst, Bool, true, false, append_assoc, is_some}
use Rattle.bpf_model.proofs.Prelude.{nat_cmp, slice_cmp, get, insert, remove, empty, same_map, get-empty, KeyMap, cond-true, cond-false, cases_Bool}
use Rattle.bpf_model.proofs.Prelude.{nat_list_cmp_total, exact_bytes, none-some, same_Some, same_key, same_key-true}
use Rattle.element_store.proofs.Prelude.{ArenaState, key_at}
use Rattle.element_store.proofs.Indexing.{get_at-insert, get_at-remove}
use Rattle.hash_index.specs.declared.commands.Command.{Command}
use Rattle.hash_index.specs.declared.commands.Command.TheVariants.{Link, Find, Unlink, Above}
use Rattle.hash_index.specs.Replies.{IsKeyed, reply_of, after_command, replies}

pub remove_absent : (m : KeyMap) (k : List ℕ) → get m k ≡ None → remove m k ≡ m
remove_absent m k h = same_map nat_list_cmp_total exact_bytes _ _ (λ q. get_at-remove m k q ∙ elim (cases_Bool (same_key q k)) [
  | inl y ↦ cond-true _ _ _ y ∙ sym (ap (get m) (same_key-true q k y) ∙ h)
  | inr n ↦ cond-false _ _ _ n
])

keyed_if : (key : ℕ → List ℕ) (m : KeyMap) (i : ℕ) (b : Bool) → IsKeyed key m → IsKeyed key (cond b m (insert m (key i) i))
keyed_if key m i true h = h
keyed_if key m i false h = λ q j g. elim (cases_Bool (same_key q (key i))) [
  | inl y ↦ ap key (sym (same_Some i j (sym (cond-true _ _ _ y) ∙ (sym (get_at-insert m (key i) i q) ∙ g)))) ∙ sym (same_key-true q (key i) y)
  | inr n ↦ h q j (sym (cond-false _ _ _ n) ∙ (sym (get_at-insert m (key i) i q) ∙ g))
]

-- the slots of the map stand under their own keys after a command too
keyed_after : (key : ℕ → List ℕ) (m : KeyMap) (command : Command) → IsKeyed key m → IsKeyed key (after_command key command m)
keyed_after key m (Link i) h = keyed_if key m i (is_some (get m (key i))) h
keyed_after key m (Find k) h = h
keyed_after key m (Above bound) h = h
keyed_after key m (Unlink k) h = λ q j g. elim (cases_Bool (same_key q k.items)) [
  | inl y ↦ absurd (none-some j (sym (cond-true _ _ _ y) ∙ (sym (get_at-remove m k.items q) ∙ g)))
  | inr n ↦ h q j (sym (cond-false _ _ _ n) ∙ (sym (get_at-remove m k.items q) ∙ g))
]

pub keyed_step : (key was : ℕ → List ℕ) (m n : KeyMap) (command : Command) → was ≡ key → n ≡ after_command was command m → IsKeyed key m → IsKeyed key n
keyed_step key was m n command same step h = subst (IsKeyed key) (sym (step ∙ ap (λ f. after_command f command m) same)) (keyed_after key m command h)

pub keyed_empty : (key : ℕ → List ℕ) → IsKeyed key empty
keyed_empty key k i g = absurd (none-some i (sym (get-empty (slice_cmp nat_cmp) k) ∙ g))

pub keys_still : (a b : ArenaState) → b ≡ record a { links = b.links } → key_at b.slots ≡ key_at a.slots
keys_still a b e = ap (λ (z : ArenaState). key_at z.slots) e

pub links_still : (a b c : ArenaState) → b ≡ record a { links = b.links } → c ≡ record b { links = c.links } → c ≡ record a { links = c.links }
links_still a b c e f = f ∙ ap (λ (z : ArenaState). let w : ArenaState = record z { links = c.links } in w) e

-- one reply more: those so far and those to what is left are those to all
pub told_more : (key was : ℕ → List ℕ) (commands rest left : List Command) (told new : List (Option ℕ)) (command : Command) (r : Option ℕ) (m n : KeyMap) →
    was ≡ key → rest ≡ command ∷ left → new ≡ told ++ r ∷ [] → r ≡ reply_of was command m →
    n ≡ after_command was command m → told ++ replies key rest m ≡ replies key commands empty →
    new ++ replies key left n ≡ replies key commands empty
told_more key was commands rest left told new command r m n same split items reply step h =
    ap (λ l. l ++ replies key left n) items
    ∙ (append_assoc told (r ∷ []) (replies key left n)
    ∙ (ap (λ x. told ++ x ∷ replies key left n) (reply ∙ ap (λ f. reply_of f command m) same)
    ∙ (ap (λ x. told ++ reply_of key command m ∷ replies key left x) (step ∙ ap (λ f. after_command f command m) same)
    ∙ (ap (λ l. told ++ replies key l m) (sym split) ∙ h))))
