-- A row stands for its entry, and goes on to where more bytes come behind its own.
use Rattle.bpf_model.proofs.Prelude.{◌≡◌, ◌∙◌, ℕ, inl, inr, suc, ◌+◌, ◌≤◌, List, [], ◌∷◌, ◌++◌, map, length, take, drop, Some, None, ◌-◌, refl, sym, ap}
use Rattle.bpf_model.proofs.Prelude.{subst, arith, slice_get, append-nil, take-append-le, length-append, length-drop, get-append_cases, replicate}
use Rattle.std.proofs.lemmas.List.{append_assoc, drop_at, take_at, drop-append-le}
use Rattle.bpf_model.specs.declared.limits.TheConstants.{KEY_BYTES, VALUE_BYTES}
use Rattle.arrayvec.specs.ArrayVec.{ArrayVec}
use Rattle.bpf_model.specs.declared.event.Event.TheVariants as events
use Rattle.bpf_model.specs.declared.event.Answer.{Answer}
use Rattle.bpf_model.specs.declared.event.Answer.TheVariants as answers
use Rattle.std.proofs.lemmas.Grind.{flat_map-append}
use Rattle.journal.specs.Rows.{all_entries, answer_bytes, answer_of, entries_of, entry_bytes, entry_from, entry_of, span_of, string_in, IsRowOf, IsStored}
use Rattle.journal.specs.Rows.{AreStored}
use Rattle.bpf_model.specs.declared.entry.Entry.{Entry}
use Rattle.journal.specs.declared.row.Outcome.{Outcome}
use Rattle.journal.specs.declared.row.Row.{Row}
use Rattle.journal.specs.declared.row.Row.TheVariants as rows

-- two strings, one behind the other
module _ (before : List ℕ) (start : ℕ) (at : length before ≡ start) (key value : ArrayVec ℕ) (rest : List ℕ) where
  abbrev all : List ℕ
  all = before ++ ((key.items ++ value.items) ++ rest)

  key-there : string_in all start (length key.items) ≡ key
  key-there =
      let behind : drop start all ≡ (key.items ++ value.items) ++ rest = drop_at before ((key.items ++ value.items) ++ rest) start at in
      let key-first : (key.items ++ value.items) ++ rest ≡ key.items ++ (value.items ++ rest) = append_assoc key.items value.items rest in
      ap (λ (xs : List ℕ). record { items = xs })
      (ap (take (length key.items)) (behind ∙ key-first) ∙ take_at key.items (value.items ++ rest) (length key.items) refl)

  value-there : string_in all (start + length key.items) (length value.items) ≡ value
  value-there =
      let key-first : (key.items ++ value.items) ++ rest ≡ key.items ++ (value.items ++ rest) = append_assoc key.items value.items rest in
      let parted : all ≡ (before ++ key.items) ++ (value.items ++ rest) = ap (λ (xs : List ℕ). before ++ xs) key-first
      ∙ sym (append_assoc before key.items (value.items ++ rest)) in
      let l : length (before ++ key.items) ≡ length before + length key.items = length-append before key.items in
      let n : length (before ++ key.items) ≡ start + length key.items = omega (arith, l, at) in
      let behind : drop (start + length key.items) all ≡ value.items ++ rest =
      ap (drop (start + length key.items)) parted ∙
      drop_at (before ++ key.items) (value.items ++ rest) (start + length key.items) n in
      ap (λ (xs : List ℕ). record { items = xs })
      (ap (take (length value.items)) behind ∙ take_at value.items rest (length value.items) refl)

two-strings : (key value rest : List ℕ) → length ((key ++ value) ++ rest) ≡ (length key + length value) + length rest
two-strings key value rest =
    let a : length ((key ++ value) ++ rest) ≡ length (key ++ value) + length rest = length-append (key ++ value) rest in
    let b : length (key ++ value) ≡ length key + length value = length-append key value in
    omega (arith, a, b)

pub updated-row : (worker start map flags k l : ℕ) (key value : ArrayVec ℕ) (answer : Answer) (outcome : Outcome) →
    answer_of outcome ≡ answer → k ≡ length key.items → l ≡ length value.items → k ≤ KEY_BYTES → l ≤ VALUE_BYTES →
    IsRowOf start (entry_from worker (events.Update map key value flags) answer) (rows.Updated worker outcome k l map flags start)
updated-row worker start map flags k l key value answer outcome same ks ls short_key short_value = record {
  same = λ before at.
      let key-is : string_in (before ++ ((key.items ++ value.items) ++ answer_bytes answer)) start k ≡ key =
      ap (string_in (before ++ ((key.items ++ value.items) ++ answer_bytes answer)) start) ks ∙
      key-there before start at key value (answer_bytes answer) in
      let value-is : string_in (before ++ ((key.items ++ value.items) ++ answer_bytes answer)) (start + k) l ≡ value =
      (ap (λ (n : ℕ). string_in (before ++ ((key.items ++ value.items) ++ answer_bytes answer)) (start + n) l) ks
      ∙ ap (string_in (before ++ ((key.items ++ value.items) ++ answer_bytes answer)) (start + length key.items)) ls)
      ∙ value-there before start at key value (answer_bytes answer) in
      ap (λ (x : ArrayVec ℕ). entry_from worker (events.Update map x
      (string_in (before ++ ((key.items ++ value.items) ++ answer_bytes answer)) (start + k) l) flags)
      (answer_of outcome)) key-is
      ∙ (ap (λ (x : ArrayVec ℕ). entry_from worker (events.Update map key x flags) (answer_of outcome)) value-is
      ∙ ap (entry_from worker (events.Update map key value flags)) same);
  stored = let n = two-strings key.items value.items (answer_bytes answer) in (omega (arith, n, ks, ls), short_key, short_value);
  one = refl;
}

pub found-row : (worker start map k l : ℕ) (key value : ArrayVec ℕ) → k ≡ length key.items → l ≡ length value.items → k ≤ KEY_BYTES → l ≤ VALUE_BYTES →
    IsRowOf start (entry_from worker (events.Read map key) (answers.Found (Some value))) (rows.Found worker k l map start)
found-row worker start map k l key value ks ls short_key short_value = record {
  same = λ before at.
      let whole : before ++ (key.items ++ value.items) ≡ before ++ ((key.items ++ value.items) ++ []) =
      ap (λ (xs : List ℕ). before ++ xs) (sym (append-nil (key.items ++ value.items))) in
      let key-is : string_in (before ++ (key.items ++ value.items)) start k ≡ key =
      (ap (λ (xs : List ℕ). string_in xs start k) whole ∙
      ap (string_in (before ++ ((key.items ++ value.items) ++ [])) start) ks) ∙
      key-there before start at key value [] in
      let value-is : string_in (before ++ (key.items ++ value.items)) (start + k) l ≡ value =
      (ap (λ (xs : List ℕ). string_in xs (start + k) l) whole
      ∙ (ap (λ (n : ℕ). string_in (before ++ ((key.items ++ value.items) ++ [])) (start + n) l) ks
      ∙ ap (string_in (before ++ ((key.items ++ value.items) ++ [])) (start + length key.items)) ls))
      ∙ value-there before start at key value [] in
      ap (λ (x : ArrayVec ℕ). entry_from worker (events.Read map x)
      (answers.Found (Some (string_in (before ++ (key.items ++ value.items)) (start + k) l)))) key-is
      ∙ ap (λ (x : ArrayVec ℕ). entry_from worker (events.Read map key) (answers.Found (Some x))) value-is;
  stored = let n : length (key.items ++ value.items) ≡ length key.items + length value.items =
      length-append key.items value.items in (omega (arith, n, ks, ls), short_key, short_value);
  one = refl;
}

-- more bytes behind
string-kept : (bytes more : List ℕ) (start len : ℕ) → start + len ≤ length bytes → string_in (bytes ++ more) start len ≡ string_in bytes start len
string-kept bytes more start len inside =
    let l : length (drop start bytes) ≡ length bytes - start = length-drop start bytes in
    ap (λ (xs : List ℕ). record { items = xs })
    (ap (take len) (drop-append-le start bytes more (omega (arith, inside))) ∙ take-append-le len (drop start bytes) more (omega (arith, l, inside)))

pub entry-kept : (bytes more : List ℕ) (row : Row) → IsStored (length bytes) row → entry_of (bytes ++ more) row ≡ entry_of bytes row
entry-kept bytes more (rows.Started worker len prog run start) h =
    ap (λ (x : ArrayVec ℕ). entry_from worker (events.Start prog x) (answers.Started run))
    (string-kept bytes more start len h.0)
entry-kept bytes more (rows.NotStarted worker refusal len prog start) h =
    ap (λ (x : ArrayVec ℕ). entry_from worker (events.Start prog x) (answers.Refused refusal))
    (string-kept bytes more start len h.0)
entry-kept bytes more (rows.Moved worker run count) h = refl
entry-kept bytes more (rows.Exited worker run value) h = refl
entry-kept bytes more (rows.NotStepped worker refusal run) h = refl
entry-kept bytes more (rows.Updated worker outcome k l map flags start) h =
    let inside = h.0 in
    ap (λ (x : ArrayVec ℕ). entry_from worker (events.Update map x (string_in (bytes ++ more) (start + k) l) flags)
    (answer_of outcome)) (string-kept bytes more start k (omega (arith, inside)))
    ∙ ap (λ (x : ArrayVec ℕ). entry_from worker (events.Update map (string_in bytes start k) x flags)
    (answer_of outcome)) (string-kept bytes more (start + k) l inside)
entry-kept bytes more (rows.Deleted worker outcome k map start) h =
    ap (λ (x : ArrayVec ℕ). entry_from worker (events.Delete map x) (answer_of outcome))
    (string-kept bytes more start k h.0)
entry-kept bytes more (rows.Found worker k l map start) h =
    let inside = h.0 in
    ap (λ (x : ArrayVec ℕ). entry_from worker (events.Read map x)
    (answers.Found (Some (string_in (bytes ++ more) (start + k) l))))
    (string-kept bytes more start k (omega (arith, inside)))
    ∙ ap (λ (x : ArrayVec ℕ). entry_from worker (events.Read map (string_in bytes start k)) (answers.Found (Some x)))
    (string-kept bytes more (start + k) l inside)
entry-kept bytes more (rows.NotFound worker k map start) h =
    ap (λ (x : ArrayVec ℕ). entry_from worker (events.Read map x) (answers.Found None))
    (string-kept bytes more start k h.0)
entry-kept bytes more (rows.NotRead worker refusal k map start) h =
    ap (λ (x : ArrayVec ℕ). entry_from worker (events.Read map x) (answers.Refused refusal))
    (string-kept bytes more start k h.0)
entry-kept bytes more (rows.Advanced worker) h = refl
entry-kept bytes more (rows.Reclaimed worker given k map start) h =
    ap (λ (x : ArrayVec ℕ). entry_from worker events.Reap
    (answers.Reaped (Some (record { map = map; key = x; given = given })))) (string-kept bytes more start k h.0)
entry-kept bytes more (rows.NothingReady worker) h = refl
entry-kept bytes more (rows.Dropped worker run) h = refl
entry-kept bytes more (rows.NotDropped worker refusal run) h = refl

stored-later : (n m : ℕ) (row : Row) → n ≤ m → IsStored n row → IsStored m row
stored-later n m (rows.Started worker len prog run start) l h = let a = h.0 in (omega (arith, a, l), h.1)
stored-later n m (rows.NotStarted worker refusal len prog start) l h = let a = h.0 in (omega (arith, a, l), h.1)
stored-later n m (rows.Moved worker run count) l h = h
stored-later n m (rows.Exited worker run value) l h = tt
stored-later n m (rows.NotStepped worker refusal run) l h = tt
stored-later n m (rows.Updated worker outcome k v map flags start) l h = let a = h.0 in (omega (arith, a, l), h.1, h.2)
stored-later n m (rows.Deleted worker outcome k map start) l h = let a = h.0 in (omega (arith, a, l), h.1)
stored-later n m (rows.Found worker k v map start) l h = let a = h.0 in (omega (arith, a, l), h.1, h.2)
stored-later n m (rows.NotFound worker k map start) l h = let a = h.0 in (omega (arith, a, l), h.1)
stored-later n m (rows.NotRead worker refusal k map start) l h = let a = h.0 in (omega (arith, a, l), h.1)
stored-later n m (rows.Advanced worker) l h = tt
stored-later n m (rows.Reclaimed worker given k map start) l h = let a = h.0 in (omega (arith, a, l), h.1)
stored-later n m (rows.NothingReady worker) l h = tt
stored-later n m (rows.Dropped worker run) l h = tt
stored-later n m (rows.NotDropped worker refusal run) l h = tt

-- one more row
stored-more : (n : ℕ) (all : List Row) (row : Row) → ((k : ℕ) (r : Row) → slice_get all k ≡ Some r → IsStored n r) →
    IsStored n row → (k : ℕ) (r : Row) → slice_get (all ++ row ∷ []) k ≡ Some r → IsStored n r
stored-more n all row each last k r at =
    elim (get-append_cases all row k r at) [ inl before ↦ each k r before | inr there ↦ subst (IsStored n) there.1 last ]

pub stored-push : (all : List Row) (bytes : List ℕ) (e : Entry) (row : Row) → AreStored all bytes →
    IsRowOf (length bytes) e row → AreStored (all ++ row ∷ []) (bytes ++ entry_bytes e)
stored-push all bytes e row each is =
    let l : length (bytes ++ entry_bytes e) ≡ length bytes + length (entry_bytes e) = length-append bytes (entry_bytes e) in
    stored-more (length (bytes ++ entry_bytes e)) all row
    (λ k r h. stored-later (length bytes) (length (bytes ++ entry_bytes e)) r (omega (arith, l)) (each k r h))
    (subst (λ (n : ℕ). IsStored n row) (sym l) is.stored)

entries-kept : (all : List Row) (bytes more : List ℕ) → AreStored all bytes → all_entries (bytes ++ more) all ≡ all_entries bytes all
entries-kept [] bytes more each = refl
entries-kept (row ∷ all) bytes more each =
    ap (λ (e : Entry). replicate (span_of row) e ++ all_entries (bytes ++ more) all) (entry-kept bytes more row (each 0 row refl))
    ∙ ap (λ (es : List Entry). entries_of bytes row ++ es) (entries-kept all bytes more (λ k r h. each (suc k) r h))

pub entries-push : (all : List Row) (bytes : List ℕ) (e : Entry) (row : Row) → AreStored all bytes →
    IsRowOf (length bytes) e row → all_entries (bytes ++ entry_bytes e) (all ++ row ∷ []) ≡ all_entries bytes all ++ e ∷ []
entries-push all bytes e row each is =
    flat_map-append (entries_of (bytes ++ entry_bytes e)) all (row ∷ [])
    ∙ (ap (λ (es : List Entry). es ++ (entries_of (bytes ++ entry_bytes e) row ++ [])) (entries-kept all bytes (entry_bytes e) each)
    ∙ (ap (λ (n : ℕ). all_entries bytes all ++ (replicate n (entry_of (bytes ++ entry_bytes e) row) ++ [])) is.one
    ∙ ap (λ (x : Entry). all_entries bytes all ++ x ∷ []) (is.same bytes refl)))

-- so many moves more
pub stored-moves : (all : List Row) (bytes : List ℕ) (worker run count : ℕ) → AreStored all bytes → 1 ≤ count →
    AreStored (all ++ rows.Moved worker run count ∷ []) bytes
stored-moves all bytes worker run count each some = stored-more (length bytes) all (rows.Moved worker run count) each some

pub entries-moves : (all : List Row) (bytes : List ℕ) (worker run count : ℕ) →
    all_entries bytes (all ++ rows.Moved worker run count ∷ []) ≡ all_entries bytes all ++ replicate count
    (entry_from worker (events.Step run) answers.Moved)
entries-moves all bytes worker run count =
    flat_map-append (entries_of bytes) all (rows.Moved worker run count ∷ [])
    ∙ ap (λ (es : List Entry). all_entries bytes all ++ es) (append-nil (replicate count (entry_from worker (events.Step run) answers.Moved)))

-- a row has one entry at least, by its kind
pub one-at-least : (n : ℕ) (row : Row) → IsStored n row → 1 ≤ span_of row
one-at-least n (rows.Moved worker run count) h = h
one-at-least n row h = omega arith
