-- What the writer reads of its linked slots stays so.
use Rattle.bpf_model.proofs.Prelude.{◌≡◌, ◌≢◌, ℕ, suc, ◌%◌, ◌<◌, List, [], ◌∷◌, ◌++◌, refl, sym, ap, ◌∙◌, subst, arith, Some, dite, ℕ_discrete, Contains}
use Rattle.bpf_model.proofs.Prelude.{append_cancel_right}
use Rattle.read_table.proofs.Prelude.{moves_of, header_in, word_at_place, Cleared, IsLawful, OnlySearches, IsLinkedUnder, KeepsHeader, IsKnown, Went}
use Rattle.read_table.proofs.Prelude.{AreSlots, IsFree, IsLinked, IsUnlinked, one_for, times_in}
use Rattle.std.proofs.Common.{eq-eqb}
use Rattle.read_table.specs.declared.view.Move.{Move}
use Rattle.read_table.specs.declared.view.Move.TheVariants.{Open, Close, Learn, Load, Store, Header, Scan}
use Rattle.read_table.specs.declared.view.TableShape.{TableShape}
use Rattle.read_table.specs.declared.view.View.{View}
use Rattle.read_table.proofs.Finding.{header-stays, words-stay}
use Rattle.read_table.proofs.Keeping.{IsQuiet, quiet_none}
use Rattle.read_table.proofs.Lists.{moves_else}
use Rattle.read_table.proofs.Slots.{at_contained, one_other}

pub moves-append : (who : ℕ) (late early : List (ℕ × Move)) → moves_of who (late ++ early) ≡ moves_of who late ++ moves_of who early
moves-append who [] early = refl
moves-append who (e ∷ late) early = dite (ℕ_discrete e.0 who)
    (λ own. let here : moves_of who (e ∷ late) ≡ e.1 ∷ moves_of who late = rw (eq-eqb e.0 who own) refl in
    let all : moves_of who (e ∷ (late ++ early)) ≡ e.1 ∷ moves_of who (late ++ early) = rw (eq-eqb e.0 who own) refl in
    all ∙ (ap (λ z. e.1 ∷ z) (moves-append who late early) ∙ ap (λ z. z ++ moves_of who early) (sym here)))
    (λ ne. moves_else e.0 who e.1 (late ++ early) ne ∙ (moves-append who late early ∙
    ap (λ z. z ++ moves_of who early) (sym (moves_else e.0 who e.1 late ne))))

-- a search changes no header, and tells nothing of sections

pub searches-keep : (k : TableShape) (slot : ℕ) (ns : List Move) → OnlySearches k ns → KeepsHeader slot ns
searches-keep k slot [] n = tt
searches-keep k slot (Open ∷ ns) n = absurd n
searches-keep k slot (Close ∷ ns) n = absurd n
searches-keep k slot (Learn s h ∷ ns) n = searches-keep k slot ns n
searches-keep k slot (Load s p x ∷ ns) n = searches-keep k slot ns n.1
searches-keep k slot (Store s p x ∷ ns) n = absurd n
searches-keep k slot (Header s w ∷ ns) n = absurd n
searches-keep k slot (Scan r x ∷ ns) n = absurd n

quiet-learn : (s h : ℕ) (ns : List Move) → IsQuiet ns → IsQuiet (Learn s h ∷ ns)
quiet-learn s h ns q = record { headers = λ t ms. q.headers t ms; cleared = λ r t ms c. q.cleared r t ms c }

quiet-load : (s p x : ℕ) (ns : List Move) → IsQuiet ns → IsQuiet (Load s p x ∷ ns)
quiet-load s p x ns q = record { headers = λ t ms. q.headers t ms; cleared = λ r t ms c. q.cleared r t ms c }

pub searches-quiet : (k : TableShape) (ns : List Move) → OnlySearches k ns → IsQuiet ns
searches-quiet k [] n = quiet_none
searches-quiet k (Open ∷ ns) n = absurd n
searches-quiet k (Close ∷ ns) n = absurd n
searches-quiet k (Learn s h ∷ ns) n = quiet-learn s h ns (searches-quiet k ns n)
searches-quiet k (Load s p x ∷ ns) n = quiet-load s p x ns (searches-quiet k ns n.1)
searches-quiet k (Store s p x ∷ ns) n = absurd n
searches-quiet k (Header s w ∷ ns) n = absurd n
searches-quiet k (Scan r x ∷ ns) n = absurd n

pub searches-miss : (k : TableShape) (r s : ℕ) (ns ms : List Move) → OnlySearches k ns → Cleared r s (ns ++ ms) → Cleared r s ms
searches-miss k r s [] ms n c = c
searches-miss k r s (Open ∷ ns) ms n c = absurd n
searches-miss k r s (Close ∷ ns) ms n c = absurd n
searches-miss k r s (Learn t h ∷ ns) ms n c = searches-miss k r s ns ms n c
searches-miss k r s (Load t p x ∷ ns) ms n c = searches-miss k r s ns ms n.1 c
searches-miss k r s (Store t p x ∷ ns) ms n c = absurd n
searches-miss k r s (Header t w ∷ ns) ms n c = absurd n
searches-miss k r s (Scan q x ∷ ns) ms n c = absurd n

module _ (k : TableShape) (v w : View) (ns : List Move) (shape : v.shape ≡ k) (writer : v.me ≡ 0) (known : IsKnown v)
    (only : OnlySearches k ns) (g : Went v (ns ++ v.mine) w) where
  own-before : moves_of 0 v.seen ≡ v.mine
  own-before = ap (λ z. moves_of z v.seen) (sym writer) ∙ known.1

  own-between : moves_of 0 g.0 ≡ ns
  own-between = append_cancel_right (moves_of 0 g.0) ns (moves_of 0 v.seen)
      (sym (moves-append 0 g.0 v.seen) ∙ (ap (λ (z : View). moves_of 0 z.seen) (sym g.1) ∙ (ap (λ z. moves_of z w.seen) (sym writer) ∙
      (g.3 ∙ ap (λ z. ns ++ z) (sym own-before)))))

  seen-is : w.seen ≡ g.0 ++ v.seen
  seen-is = ap (λ (z : View). z.seen) g.1

  lawful : IsLawful k (g.0 ++ v.seen)
  lawful = subst (λ (z : TableShape). IsLawful z (g.0 ++ v.seen)) shape (subst (IsLawful v.shape) seen-is g.2)

  module _ (slot : ℕ) (l : IsLinked v slot) where
    kept : KeepsHeader slot (moves_of 0 g.0)
    kept = subst (KeepsHeader slot) (sym own-between) (searches-keep k slot ns only)

    odd : header_in slot (moves_of 0 v.seen) % 2 ≡ 1
    odd = ap (λ z. header_in slot z % 2) own-before ∙ l.odd

    pub odd-now : header_in slot (moves_of 0 w.seen) % 2 ≡ 1
    odd-now = ap (λ z. header_in slot (moves_of 0 z) % 2) seen-is ∙ (ap (λ z. z % 2) (header-stays k slot g.0 v.seen kept) ∙ odd)

    -- a key word that was there before is there now
    pub word-kept : (place : ℕ) → place < k.key_words → word_at_place slot place w.seen ≡ word_at_place slot place v.seen
    word-kept place low = ap (word_at_place slot place) seen-is ∙ words-stay k slot g.0 v.seen lawful odd kept place low

    -- the slot was linked under the key before, if it is now
    pub under-before : (key : List ℕ) → IsLinkedUnder k key slot w.seen → IsLinkedUnder k key slot v.seen
    under-before key u = record { within = u.within; linked = odd; words = λ place low. u.words place low ∙ ap Some (word-kept place low) }

    pub within-now : slot < k.slots
    within-now = subst (λ (z : TableShape). slot < z.slots) shape l.within

-- a slot that stands in the list
pub contained : (slot : ℕ) (xs : List ℕ) → times_in slot xs ≢ 0 → Contains xs slot
contained slot [] some = absurd (some refl)
contained slot (x ∷ xs) some = dite (ℕ_discrete x slot)
    (λ e. (0, omega arith, e))
    (λ ne. let one : one_for slot x ≡ 0 = one_other slot x ne in
    let c = contained slot xs (λ none. some (omega (arith, one, none))) in
    let below = c.1 in
    (suc c.0, omega (arith, below), c.2))

-- a slot with an odd header is linked
pub odd-linked : (v : View) (free linked unlinked : List ℕ) (slot : ℕ) → AreSlots v free linked unlinked → slot < v.shape.slots →
    header_in slot v.mine % 2 ≡ 1 → Contains linked slot
odd-linked v free linked unlinked slot a within odd = contained slot linked (λ none.
    let once = a.once slot within in
    dite (ℕ_discrete (times_in slot free) 0)
    (λ no. let there : times_in slot unlinked ≢ 0 = λ z. absurd (omega (arith, once, none, no, z)) in
    let f : IsUnlinked v slot = at_contained (IsUnlinked v) slot unlinked (contained slot unlinked there) a.are_unlinked in
    let even = f.even in absurd (omega (arith, odd, even)))
    (λ yes. let f : IsFree v slot = at_contained (IsFree v) slot free (contained slot free yes) a.are_free in
    let even = f.even in absurd (omega (arith, odd, even))))
