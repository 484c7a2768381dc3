-- What the writer notes of its readers stays right.
use Rattle.bpf_model.proofs.Prelude.{◌≡◌, ◌≢◌, ⊎_elim, ℕ, zero, suc, ◌+◌, ◌-◌, ◌*◌, ◌<◌, ◌≤◌, List, [], ◌∷◌, ◌++◌, length, get_or, refl, sym, ap, ◌∙◌, subst}
use Rattle.bpf_model.proofs.Prelude.{inl, inr, arith, append_assoc, Bool, true, false, MatchBool, ◌&&◌, get_or_default, dite, ℕ_discrete}
use Rattle.read_table.proofs.Prelude.{Cleared, IsSized, Went, most_readers, most_table_slots, AreSightings, noted, ScansInTurn, FoundInside, Tells}
use Rattle.read_table.proofs.Prelude.{writer_after, Fills}
use Rattle.read_table.specs.declared.view.Move.{Move}
use Rattle.read_table.specs.declared.view.Move.TheVariants.{Open, Close, Learn, Load, Store, Header, Scan}
use Rattle.read_table.specs.declared.view.TableShape.{TableShape}
use Rattle.read_table.specs.declared.view.View.{View}
use Rattle.read_table.specs.Sightings.{IsHeldUp}
use Rattle.read_table.proofs.Going.{went_mine}
use Rattle.read_table.proofs.Keeping.{IsQuiet, fills_quiet, quiet_append, quiet_none, quiet_scan, went_shape}

pub true-false : (b : Bool) → b ≡ true → b ≡ false → ⊥
true-false true t f = let e : true ≡ false = f in absurd (cc)
true-false false t f = let e : false ≡ true = t in absurd (cc)

-- the notes stay right where they change as what is so does
sightings-by : (v w : View) (old new : List Bool) → w.shape ≡ v.shape → length new ≡ length old → AreSightings v old →
    ((slot r : ℕ) → r < most_readers → slot < most_table_slots → (noted old slot r ≡ true → Cleared (r + 1) slot v.mine) →
    (Cleared (r + 1) slot v.mine → noted old slot r ≡ true) → slot < v.shape.slots →
    (noted new slot r ≡ true → Cleared (r + 1) slot w.mine) × (Cleared (r + 1) slot w.mine → noted new slot r ≡ true)) →
    AreSightings w new
sightings-by v w old new same long a each =
    let slots : w.shape.slots ≡ v.shape.slots = ap (λ (k : TableShape). k.slots) same in
    let readers : w.shape.readers ≡ v.shape.readers = ap (λ (k : TableShape). k.readers) same in
    let room = a.room in
    let few = a.few in
    let few-slots = a.slots in
    record {
      room = long ∙ room;
      few = omega (arith, few, readers);
      slots = omega (arith, few-slots, slots);
      right = λ slot r low in_readers.
          let in_slots : slot < v.shape.slots = omega (arith, low, slots) in
          let in_old : r < v.shape.readers = omega (arith, in_readers, readers) in
          let b = a.right slot r in_slots in_old in
          let e = each slot r (omega (arith, in_old, few)) (omega (arith, in_slots, few-slots)) (λ t. b.0 t) (λ c. b.1 c) in_slots in
          (e.0, e.1);
    }

-- a stretch that stores words of a slot
fills_cleared : (slot from n : ℕ) (bytes : List ℕ) (ms : List Move) → Fills slot from bytes n ms →
    (r s : ℕ) (qs : List Move) → Cleared r s (ms ++ qs) → Cleared r s qs
fills_cleared slot from zero bytes ms f r s qs c = subst (λ z. Cleared r s (z ++ qs)) f c
fills_cleared slot from (suc n) bytes ms f r s qs c =
    fills_cleared slot from n bytes f.1 f.4 r s qs (subst (λ z. Cleared r s (z ++ qs)) f.2 c)

-- after a stretch that takes nothing back and adds nothing
pub sightings_stay : (v w : View) (ns : List Move) (seen : List Bool) → IsQuiet ns →
    ((r s : ℕ) (qs : List Move) → Cleared r s (ns ++ qs) → Cleared r s qs) → Went v (ns ++ v.mine) w →
    AreSightings v seen → AreSightings w seen
sightings_stay v w ns seen q back g a =
    let mine = went_mine v w (ns ++ v.mine) g in
    sightings-by v w seen seen (went_shape v w (ns ++ v.mine) g) refl a
    (λ slot r low small forth from in_slots. (
      λ t. subst (Cleared (r + 1) slot) (sym mine) (q.cleared (r + 1) slot v.mine (forth t)),
      λ c. from (back (r + 1) slot v.mine (subst (Cleared (r + 1) slot) mine c)),
    ))

fills_both : (slot from n other m : ℕ) (key value : List ℕ) (ks vs : List Move) → Fills slot from key n ks → Fills slot other value m vs →
    (r s : ℕ) (qs : List Move) → Cleared r s ((vs ++ ks) ++ qs) → Cleared r s qs
fills_both slot from n other m key value ks vs fk fv r s qs c =
    fills_cleared slot from n key ks fk r s qs
    (fills_cleared slot other m value vs fv r s (ks ++ qs) (subst (Cleared r s) (append_assoc vs ks qs) c))

-- after the words of a slot were stored
pub sightings_filled : (v w : View) (slot from n other m : ℕ) (key value : List ℕ) (ks vs : List Move) (seen : List Bool) → Fills slot from key n ks →
    Fills slot other value m vs → Went v ((vs ++ ks) ++ v.mine) w → AreSightings v seen → AreSightings w seen
sightings_filled v w slot from n other m key value ks vs seen fk fv g a =
    sightings_stay v w (vs ++ ks) seen (quiet_append vs ks (fills_quiet slot other m value vs fv) (fills_quiet slot from n key ks fk))
    (fills_both slot from n other m key value ks vs fk fv) g a

-- the writer at first
pub sightings_first : (v : View) (n : ℕ) (k : TableShape) (seen : List Bool) → v ≡ writer_after n k → IsSized v.shape →
    length seen ≡ most_readers * most_table_slots → ((slot reader : ℕ) → noted seen slot reader ≡ false) → AreSightings v seen
sightings_first v n k seen first sized room none = record {
  room = room;
  few = sized.readers;
  slots = sized.slots;
  right = λ slot r low in_readers. (
    λ t. absurd (true-false (noted seen slot r) t (none slot r)),
    λ c. absurd (subst (λ (z : View). Cleared (r + 1) slot z.mine) first c),
  );
}

-- a note, as reading the list tells it
pub note_read : (seen : List Bool) (slot reader : ℕ) (x : Bool) → x ≡ get_or seen (reader * most_table_slots + slot) x →
    slot < most_table_slots → reader < most_readers → length seen ≡ most_readers * most_table_slots → x ≡ noted seen slot reader
note_read seen slot reader x e low in_readers room =
    e ∙ get_or_default seen (reader * most_table_slots + slot) x false (omega (arith, low, in_readers, room))

-- after a change of the slot's header, whose notes are forgotten
pub sightings_changed : (v w : View) (slot x : ℕ) (old new : List Bool) → Went v (Header slot x ∷ v.mine) w → length new ≡ length old →
    ((r : ℕ) → r < most_readers → noted new slot r ≡ false) →
    ((s r : ℕ) → s ≢ slot → s < most_table_slots → r < most_readers → noted new s r ≡ noted old s r) → AreSightings v old → AreSightings w new
sightings_changed v w slot x old new g long forgotten others a =
    let mine = went_mine v w (Header slot x ∷ v.mine) g in
    sightings-by v w old new (went_shape v w (Header slot x ∷ v.mine) g) long a
    (λ s r low small forth from in_slots. dite (ℕ_discrete s slot)
    (λ e. (
      λ t. absurd (true-false (noted new s r) t (subst (λ z. noted new z r ≡ false) (sym e) (forgotten r low))),
      λ c. absurd ((subst (Cleared (r + 1) s) mine c).0 (sym e)),
    ))
    (λ ne. (
      λ t. subst (Cleared (r + 1) s) (sym mine) ((λ e. ne (sym e)), forth (sym (others s r ne small low) ∙ t)),
      λ c. others s r ne small low ∙ from (subst (Cleared (r + 1) s) mine c).1,
    )))

-- scans alone

pub scans_wider : (low high lower higher : ℕ) (ns : List Move) → lower ≤ low → high ≤ higher → ScansInTurn low high ns → ScansInTurn lower higher ns
scans_wider low high lower higher [] l h n = tt
scans_wider low high lower higher (Open ∷ ns) l h n = absurd n
scans_wider low high lower higher (Close ∷ ns) l h n = absurd n
scans_wider low high lower higher (Learn w x ∷ ns) l h n = absurd n
scans_wider low high lower higher (Load e p x ∷ ns) l h n = absurd n
scans_wider low high lower higher (Store e p x ∷ ns) l h n = absurd n
scans_wider low high lower higher (Header s w ∷ ns) l h n = absurd n
scans_wider low high lower higher (Scan r x ∷ ns) l h n =
    let a = n.0 in
    let b = n.1 in
    (omega (arith, a, l), omega (arith, b, h), scans_wider low (r - 1) lower (r - 1) ns l (omega arith) n.2)

-- scans of later readers, behind those of earlier ones
pub scans_append : (low mid high : ℕ) (ns ms : List Move) → low ≤ mid → mid ≤ high → ScansInTurn mid high ns → ScansInTurn low mid ms →
    ScansInTurn low high (ns ++ ms)
scans_append low mid high [] ms l h n m = scans_wider low mid low high ms (omega arith) h m
scans_append low mid high (Open ∷ ns) ms l h n m = absurd n
scans_append low mid high (Close ∷ ns) ms l h n m = absurd n
scans_append low mid high (Learn w x ∷ ns) ms l h n m = absurd n
scans_append low mid high (Load e p x ∷ ns) ms l h n m = absurd n
scans_append low mid high (Store e p x ∷ ns) ms l h n m = absurd n
scans_append low mid high (Header s w ∷ ns) ms l h n m = absurd n
scans_append low mid high (Scan r x ∷ ns) ms l h n m =
    let a = n.0 in
    (omega (arith, a, l), n.1, scans_append low mid (r - 1) ns ms l (omega (arith, a)) n.2 m)

pub only_scans_quiet : (low high : ℕ) (ns : List Move) → ScansInTurn low high ns → IsQuiet ns
only_scans_quiet low high [] n = quiet_none
only_scans_quiet low high (Open ∷ ns) n = absurd n
only_scans_quiet low high (Close ∷ ns) n = absurd n
only_scans_quiet low high (Learn s h ∷ ns) n = absurd n
only_scans_quiet low high (Load s p x ∷ ns) n = absurd n
only_scans_quiet low high (Store s p x ∷ ns) n = absurd n
only_scans_quiet low high (Header s w ∷ ns) n = absurd n
only_scans_quiet low high (Scan r x ∷ ns) n = quiet_scan r x ns (only_scans_quiet low (r - 1) ns n.2)

-- a scan of later readers tells nothing of an earlier one
scans_miss : (low high r slot : ℕ) (ns ms : List Move) → r ≤ low → ScansInTurn low high ns → Cleared r slot (ns ++ ms) → Cleared r slot ms
scans_miss low high r slot [] ms l n c = c
scans_miss low high r slot (Open ∷ ns) ms l n c = absurd n
scans_miss low high r slot (Close ∷ ns) ms l n c = absurd n
scans_miss low high r slot (Learn s h ∷ ns) ms l n c = absurd n
scans_miss low high r slot (Load s p x ∷ ns) ms l n c = absurd n
scans_miss low high r slot (Store s p x ∷ ns) ms l n c = absurd n
scans_miss low high r slot (Header s w ∷ ns) ms l n c = absurd n
scans_miss low high r slot (Scan q x ∷ ns) ms l n c = ⊎_elim
    (λ (z : (q ≡ r) × (x ≡ 0)). let a = n.0 in let same = z.0 in absurd (omega (arith, a, l, same)))
    (λ z. scans_miss low (q - 1) r slot ns ms l n.2 z) c

inside_front : (reader : ℕ) (ns ms : List Move) → FoundInside reader ns → FoundInside reader (ns ++ ms)
inside_front reader [] ms f = absurd f
inside_front reader (Open ∷ ns) ms f = inside_front reader ns ms f
inside_front reader (Close ∷ ns) ms f = inside_front reader ns ms f
inside_front reader (Learn s h ∷ ns) ms f = inside_front reader ns ms f
inside_front reader (Load s p x ∷ ns) ms f = inside_front reader ns ms f
inside_front reader (Store s p x ∷ ns) ms f = inside_front reader ns ms f
inside_front reader (Header s w ∷ ns) ms f = inside_front reader ns ms f
inside_front reader (Scan r x ∷ ns) ms f = ⊎_elim (λ z. inl z) (λ z. inr (inside_front reader ns ms z)) f

inside_back : (low high reader : ℕ) (ns ms : List Move) → ScansInTurn low high ns → FoundInside reader ms → FoundInside reader (ns ++ ms)
inside_back low high reader [] ms n f = f
inside_back low high reader (Open ∷ ns) ms n f = absurd n
inside_back low high reader (Close ∷ ns) ms n f = absurd n
inside_back low high reader (Learn s h ∷ ns) ms n f = absurd n
inside_back low high reader (Load s p x ∷ ns) ms n f = absurd n
inside_back low high reader (Store s p x ∷ ns) ms n f = absurd n
inside_back low high reader (Header s w ∷ ns) ms n f = absurd n
inside_back low high reader (Scan r x ∷ ns) ms n f = inr (inside_back low (r - 1) reader ns ms n.2 f)

held_longer : (at slot : ℕ) (ns ms before : List Move) → ScansInTurn at (at + 1) ns → IsHeldUp at slot ms (ms ++ before) →
    IsHeldUp (at + 1) slot (ns ++ ms) (ns ++ (ms ++ before))
held_longer at slot ns ms before n e =
    let within = e.within in
    record {
      reader = e.reader;
      some = e.some;
      within = omega (arith, within);
      never = λ c. e.never (scans_miss at (at + 1) e.reader slot ns (ms ++ before) within n c);
      inside = inside_back at (at + 1) e.reader ns ms n e.inside;
    }

-- a round with one reader more, whose scan is ns
pub tells_more : (at slot : ℕ) (ns ms before : List Move) (each outside : Bool) → ScansInTurn at (at + 1) ns →
    Tells at slot ms (ms ++ before) each →
    MatchBool outside (Cleared (at + 1) slot (ns ++ (ms ++ before)))
    (FoundInside (at + 1) ns × (Cleared (at + 1) slot (ns ++ (ms ++ before)) → ⊥)) →
    Tells (at + 1) slot (ns ++ ms) (ns ++ (ms ++ before)) (each && outside)
tells_more at slot ns ms before true true n e o = λ r some few. dite (ℕ_discrete r (at + 1))
    (λ same. subst (λ z. Cleared z slot (ns ++ (ms ++ before))) (sym same) o)
    (λ ne. (only_scans_quiet at (at + 1) ns n).cleared r slot (ms ++ before) (e r some (omega (arith, few, ne))))
tells_more at slot ns ms before true false n e o = record {
  reader = at + 1;
  some = omega arith;
  within = omega arith;
  never = o.1;
  inside = inside_front (at + 1) ns ms o.0;
}
tells_more at slot ns ms before false true n e o = held_longer at slot ns ms before n e
tells_more at slot ns ms before false false n e o = held_longer at slot ns ms before n e
