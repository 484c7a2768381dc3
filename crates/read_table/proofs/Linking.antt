-- A slot that the writer has linked is so under its key.
use Rattle.bpf_model.proofs.Prelude.{◌≡◌, ◌≢◌, ⊎_elim, ℕ, zero, suc, ◌+◌, ◌%◌, ◌<◌, ◌≤◌, List, [], ◌∷◌, ◌++◌, refl, sym, ap, ◌∙◌, subst, arith, append_assoc}
use Rattle.bpf_model.proofs.Prelude.{Some, dite, ℕ_discrete}
use Rattle.read_table.proofs.Prelude.{moves_of, header_in, word_at_place, IsLearnt, IsSpare, MayDo, IsLawful, key_word, IsLinkedUnder, Went, Fills}
use Rattle.std.proofs.Common.{eq-eqb, ne_eqb}
use Rattle.read_table.specs.declared.view.Move.{Move}
use Rattle.read_table.specs.declared.view.Move.TheVariants.{Open, Close, Learn, Load, Store, Header, Scan}
use Rattle.read_table.specs.declared.view.TableShape.{TableShape}
use Rattle.read_table.specs.declared.view.View.{View}
use Rattle.read_table.specs.History.{word_after}
use Rattle.read_table.proofs.Going.{went_known, went_mine}
use Rattle.read_table.proofs.Keeping.{went_me, went_shape}
use Rattle.read_table.proofs.Lists.{moves_else, stored_in_another, stored_beside}

-- the word that a holder stored last at a place of a slot
abbrev own-word : ℕ → ℕ → List Move → ℕ
own-word slot place [] = 0
own-word slot place (m ∷ ms) = word_after slot place m (own-word slot place ms)

-- a reader stores no key word
others : (k : TableShape) (slot place who : ℕ) (m : Move) (es : List (ℕ × Move)) → place < k.key_words → who ≢ 0 → MayDo k es who m →
    word_at_place slot place ((who, m) ∷ es) ≡ word_at_place slot place es
others k slot place who Open es low ne may = refl
others k slot place who Close es low ne may = refl
others k slot place who (Learn s h) es low ne may = refl
others k slot place who (Load s p x) es low ne may = refl
others k slot place who (Store s p x) es low ne may = ⊎_elim
    (λ (w : (who ≡ 0) × IsSpare k.readers s (moves_of 0 es)). absurd (ne w.0))
    (λ (r : IsLearnt s (moves_of who es) × (k.key_words ≤ p)). let high = r.1 in
    dite (ℕ_discrete s slot)
    (λ same. stored_beside who s p slot place x es same (λ e. absurd (omega (arith, high, low, e))))
    (λ other. stored_in_another who s p slot place x es other)) may
others k slot place who (Header s w) es low ne may = refl
others k slot place who (Scan r x) es low ne may = refl

-- so a key word is the one that the writer stored last
own-words : (k : TableShape) (slot place : ℕ) (es : List (ℕ × Move)) → place < k.key_words → IsLawful k es →
    word_at_place slot place es ≡ own-word slot place (moves_of 0 es)
own-words k slot place [] low lawful = refl
own-words k slot place (e ∷ es) low lawful = dite (ℕ_discrete e.0 0)
    (λ own. let is : moves_of 0 (e ∷ es) ≡ e.1 ∷ moves_of 0 es = rw (eq-eqb e.0 0 own) refl in
    ap (word_after slot place e.1) (own-words k slot place es low lawful.1) ∙ ap (own-word slot place) (sym is))
    (λ ne. others k slot place e.0 e.1 es low ne lawful.0 ∙ (own-words k slot place es low lawful.1 ∙
    ap (own-word slot place) (sym (moves_else e.0 0 e.1 es ne))))

own-here : (slot p place x : ℕ) (ms : List Move) → p ≡ place → own-word slot place (Store slot p x ∷ ms) ≡ x
own-here slot p place x ms e = rw (eq-eqb slot slot refl) (rw (eq-eqb p place e) refl)

own-beside : (slot p place x : ℕ) (ms : List Move) → p ≢ place → own-word slot place (Store slot p x ∷ ms) ≡ own-word slot place ms
own-beside slot p place x ms ne = rw (eq-eqb slot slot refl) (rw (ne_eqb p place ne) refl)

-- the words of a value leave those of the key
past-value : (slot from n place : ℕ) (bytes : List ℕ) (ms rest : List Move) → place < from → Fills slot from bytes n ms →
    own-word slot place (ms ++ rest) ≡ own-word slot place rest
past-value slot from zero place bytes ms rest low f = ap (λ z. own-word slot place (z ++ rest)) f
past-value slot from (suc n) place bytes ms rest low f =
    ap (λ z. own-word slot place (z ++ rest)) f.2 ∙
    (own-beside slot (from + n) place f.0 (f.1 ++ rest) (λ e. absurd (omega (arith, low, e))) ∙
    past-value slot from n place bytes f.1 rest low f.4)

-- each word of the key stands at its place
key-there : (slot n place : ℕ) (bytes : List ℕ) (ms rest : List Move) → place < n → Fills slot 0 bytes n ms →
    key_word bytes place ≡ Some (own-word slot place (ms ++ rest))
key-there slot zero place bytes ms rest low f = absurd (omega (arith, low))
key-there slot (suc n) place bytes ms rest low f =
    let here : own-word slot place (ms ++ rest) ≡ own-word slot place (Store slot (0 + n) f.0 ∷ (f.1 ++ rest)) =
    ap (λ z. own-word slot place (z ++ rest)) f.2 in
    dite (ℕ_discrete place n)
    (λ e. ap (key_word bytes) e ∙ (f.3 ∙ ap Some (sym (here ∙ own-here slot (0 + n) place f.0 (f.1 ++ rest) (omega (arith, e))))))
    (λ ne. key-there slot n place bytes f.1 rest (omega (arith, low, ne)) f.4 ∙
    ap Some (sym (here ∙ own-beside slot (0 + n) place f.0 (f.1 ++ rest) (λ e. absurd (omega (arith, ne, e))))))

pub linked-under : (k : TableShape) (v w : View) (slot h : ℕ) (key value : List ℕ) (ks vs : List Move) → v.shape ≡ k → v.me ≡ 0 → slot < k.slots →
    h % 2 ≡ 1 → Fills slot 0 key k.key_words ks → Fills slot k.key_words value k.value_words vs →
    Went v ((Header slot h ∷ (vs ++ ks)) ++ v.mine) w → IsLinkedUnder k key slot w.seen
linked-under k v w slot h key value ks vs shape writer within odd fk fv g =
    let known = went_known v w ((Header slot h ∷ (vs ++ ks)) ++ v.mine) g in
    let all = (Header slot h ∷ (vs ++ ks)) ++ v.mine in
    let own : moves_of 0 w.seen ≡ all = ap (λ z. moves_of z w.seen) (sym (went_me v w all g ∙ writer)) ∙ (known.1 ∙ went_mine v w all g) in
    let now : header_in slot all ≡ h = rw (eq-eqb slot slot refl) refl in
    let lawful : IsLawful k w.seen = subst (λ (z : TableShape). IsLawful z w.seen) (went_shape v w all g ∙ shape) known.0 in
    record {
      within = within;
      linked = ap (λ ms. header_in slot ms % 2) own ∙ (ap (λ z. z % 2) now ∙ odd);
      words = λ place low. key-there slot k.key_words place key ks v.mine low fk ∙ ap Some (sym
          (own-words k slot place w.seen low lawful ∙ (ap (own-word slot place) own ∙
          (ap (own-word slot place) (append_assoc vs ks v.mine) ∙
          past-value slot k.key_words k.value_words place value vs (ks ++ v.mine) low fv))));
    }
