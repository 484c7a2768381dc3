-- Slots of a new arena that are taken one after another.
use Rattle.bpf_model.proofs.Prelude.{◌≡◌, ◌∙◌, ℕ, suc, ◌+◌, ◌-◌, ◌<◌, ◌≤◌, List, [], ◌∷◌, ◌++◌, length, drop, Option, Some, None, sym, ap, arith, Bool}
use Rattle.bpf_model.proofs.Prelude.{IfSome, IfNone, range_with_len, length-replicate, length-set}
use Rattle.element_store.proofs.Prelude.{ArenaState, times_in, worn_at, taken, new_arena}
use Rattle.map_kinds.proofs.Fresh.{none-worn}
use Rattle.element_store.proofs.Fresh.{times-before}
use Rattle.hash_index.specs.declared.commands.Command.{Command}
use Rattle.hash_index.specs.declared.commands.Command.TheVariants.{Link, Find, Unlink, Above}
use Rattle.hash_index.specs.Replies.{IsReadyCommand, AreReadyCommands}
use Rattle.system_tests.specs.Stock.{IsStocked, IsFilled, IsLinkable, AreLinkable}

range_step : (slots count : ℕ) → count < slots → range_with_len count (slots - count) ≡ count ∷ range_with_len (count + 1) (slots - (count + 1))
range_step slots count h = let e : slots - count ≡ suc (slots - (count + 1)) = omega arith in ap (range_with_len count) e

pub took : (slots count : ℕ) (a b : ArenaState) (key value : List ℕ) (r : Option ℕ) → IsFilled slots count a →
    count < slots → IfNone r (a.free ≡ []) → IfSome r (λ i. a.free ≡ i ∷ b.free) →
    IfSome r (λ i. b ≡ taken a i b.free key value) → IsFilled slots (count + 1) b
took slots count a b key value None f h none slot new =
    let e : count ∷ range_with_len (count + 1) (slots - (count + 1)) ≡ [] = sym (range_step slots count h) ∙ (sym f.free ∙ none) in
    let l : suc (length (range_with_len (count + 1) (slots - (count + 1)))) ≡ 0 = ap (λ (xs : List ℕ). length xs) e in
    absurd (omega arith)
took slots count a b key value (Some i) f h none slot new =
    let e : count ∷ range_with_len (count + 1) (slots - (count + 1)) ≡ i ∷ b.free = sym (range_step slots count h) ∙ (sym f.free ∙ slot) in
    record {
      long = ap (λ (z : ArenaState). length z.slots) new ∙ (length-set a.slots i _ ∙ f.long);
      room = omega arith;
      free = sym (ap (λ (xs : List ℕ). drop 1 xs) e);
      worn = ap (λ (z : ArenaState). z.worn) new ∙ f.worn;
      key = ap (λ (z : ArenaState). z.key_len) new ∙ f.key;
      value = ap (λ (z : ArenaState). z.value_len) new ∙ f.value;
    }

pub filled_new : (slots limit : ℕ) (a : ArenaState) → a ≡ new_arena slots 2 1 limit → IsFilled slots 0 a
filled_new slots limit a e = let whole : slots ≡ slots - 0 = omega arith in record {
  long = ap (λ (z : ArenaState). length z.slots) e ∙ length-replicate slots _;
  room = omega arith;
  free = ap (λ (z : ArenaState). z.free) e ∙ ap (range_with_len 0) whole;
  worn = ap (λ (z : ArenaState). z.worn) e;
  key = ap (λ (z : ArenaState). z.key_len) e;
  value = ap (λ (z : ArenaState). z.value_len) e;
}

pub stocked_when : (slots count : ℕ) (a : ArenaState) → IsFilled slots count a → IsStocked slots count a
stocked_when slots count a f = record {
  long = f.long;
  taken = λ j h.
      let l : length a.slots ≡ slots = f.long in
      let r : count ≤ slots = f.room in
      record {
        inside = omega arith;
        not_free = ap (times_in j) f.free ∙ times-before count (slots - count) j h;
        not_worn = ap (λ (w : List Bool). worn_at w j) f.worn ∙ none-worn slots j;
      };
}

pub linkable_append : (count : ℕ) (all : List Command) (command : Command) → AreLinkable count all →
    IsLinkable count command → AreLinkable count (all ++ command ∷ [])
linkable_append count [] command h l = (l, tt)
linkable_append count (c ∷ all) command h l = (h.0, linkable_append count all command h.1 l)

ready_one : (slots count : ℕ) (a : ArenaState) (command : Command) → IsStocked slots count a → IsLinkable count command → IsReadyCommand a command
ready_one slots count a (Link slot) s l = s.taken slot l
ready_one slots count a (Find key) s l = tt
ready_one slots count a (Unlink key) s l = tt
ready_one slots count a (Above bound) s l = tt

pub all_ready : (slots count : ℕ) (a : ArenaState) (all : List Command) → IsStocked slots count a → AreLinkable count all → AreReadyCommands a all
all_ready slots count a [] s l = tt
all_ready slots count a (command ∷ all) s l = (ready_one slots count a command s l.0, all_ready slots count a all s l.1)
