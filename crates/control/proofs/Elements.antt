-- The elements of a map, from its slots in the order of their keys.
use Rattle.bpf_model.proofs.Prelude.{◌≡◌, ◌∙◌, ℕ, List, [], ◌∷◌, ◌++◌, Option, Some, None, sym, ap, subst, append_assoc, flat_map, flat_map-append, MapView}
use Rattle.element_store.proofs.Prelude.{key_at, value_at}
use Rattle.std.proofs.Common.{append-nil}
use Rattle.arrayvec.specs.ArrayVec.{ArrayVec}
use Rattle.hash_index.specs.Order.{AreInOrder}
use Rattle.script_lines.specs.declared.reply.Reply.{Reply}
use Rattle.script_lines.specs.declared.reply.Reply.TheVariants as replies
use Rattle.script_lines.specs.declared.reply.Reply.TheVariants.{Element, End}
use Rattle.script_lines.specs.ReplyText.{reply_text}
use Rattle.map_kinds.specs.Shown.{IsNext}
use Rattle.control.specs.Refusals.{AreTold}
use Rattle.control.specs.Replies.{AreElements}

-- the text of the replies so far, and of one more
pub more_text : (start before after : List ℕ) (first : List Reply) (reply : Reply) →
    before ≡ start ++ flat_map reply_text first → after ≡ before ++ reply_text reply →
    after ≡ start ++ flat_map reply_text (first ++ reply ∷ [])
more_text start before after first reply e f =
    f ∙ (ap (λ (xs : List ℕ). xs ++ reply_text reply) e
    ∙ (append_assoc start (flat_map reply_text first) (reply_text reply)
    ∙ ap (λ (xs : List ℕ). start ++ xs)
    (ap (λ (xs : List ℕ). flat_map reply_text first ++ xs) (sym (append-nil (reply_text reply)))
    ∙ sym (flat_map-append reply_text first (reply ∷ [])))))

-- no element is a refusal, nor is the end
pub elements_told : (map : Option MapView) (bound : Option (List ℕ)) (elements : List Reply) →
    AreElements map bound elements → AreTold None (elements ++ End ∷ [])
elements_told map bound [] are = (tt, tt)
elements_told map bound (replies.Element key value ∷ rest) are =
    (tt, elements_told map (Some key.items) rest are.1)
elements_told map bound (replies.Map n ∷ rest) are = absurd are
elements_told map bound (replies.Prog n ∷ rest) are = absurd are
elements_told map bound (replies.Ret r ∷ rest) are = absurd are
elements_told map bound (replies.Value v ∷ rest) are = absurd are
elements_told map bound (replies.Nothing ∷ rest) are = absurd are
elements_told map bound (replies.Run n ∷ rest) are = absurd are
elements_told map bound (replies.Moved ∷ rest) are = absurd are
elements_told map bound (replies.Exit v ∷ rest) are = absurd are
elements_told map bound (replies.Done ∷ rest) are = absurd are
elements_told map bound (replies.Reaped m k g ∷ rest) are = absurd are
elements_told map bound (replies.Stat s ∷ rest) are = absurd are
elements_told map bound (replies.End ∷ rest) are = absurd are
elements_told map bound (replies.Refused c s ∷ rest) are = absurd are

-- The elements so far, which those of the slots that are left complete.
pub record AreBegun (v : MapView) (left : List ℕ) (start text : List ℕ) : Type 0 where
  pub bound : Option (List ℕ)
  pub order : AreInOrder v.index (key_at v.slots) bound left
  pub first : List Reply
  pub completes : (rest : List Reply) → AreElements (Some v) bound rest → AreElements (Some v) None (first ++ rest)
  pub written : text ≡ start ++ flat_map reply_text first

module _ (v : MapView) (start : List ℕ) where
  pub begun : (slots : List ℕ) → AreInOrder v.index (key_at v.slots) None slots → AreBegun v slots start start
  begun slots h = record {
    bound = None;
    order = h;
    first = [];
    completes = λ rest are. are;
    written = sym (append-nil start);
  }

  pub goes-on : (slot : ℕ) (left text after : List ℕ) (key value : ArrayVec ℕ) → AreBegun v (slot ∷ left) start text →
      key.items ≡ key_at v.slots slot → value.items ≡ value_at v.slots slot → after ≡ text ++ reply_text (Element key value) →
      AreBegun v left start after
  goes-on slot left text after key value b k u e =
      let next = b.order.0 in
      let found : IsNext v b.bound (key_at v.slots slot) value.items = record {
        slot = slot;
        linked = next.linked;
        value_is = u;
        above = next.above;
        least = next.least;
      } in
      record {
        bound = Some (key_at v.slots slot);
        order = b.order.1;
        first = b.first ++ Element key value ∷ [];
        completes = λ rest are. subst (λ (xs : List Reply). AreElements (Some v) None xs) (sym (append_assoc b.first (Element key value ∷ []) rest))
            (b.completes (Element key value ∷ rest) (
              subst (λ z. IsNext v b.bound z value.items) (sym k) found,
              subst (λ z. AreElements (Some v) (Some z) rest) (sym k) are,
            ));
        written = more_text start text after b.first (Element key value) b.written e;
      }

  pub all-written : (text : List ℕ) → AreBegun v [] start text →
      (elements : List Reply) × AreElements (Some v) None elements × (text ≡ start ++ flat_map reply_text elements)
  all-written text b = (
    b.first ++ [],
    b.completes [] b.order,
    b.written ∙ ap (λ (xs : List Reply). start ++ flat_map reply_text xs) (sym (append-nil b.first)),
  )
