-- Program files, line by line.
use Rattle.bpf_model.proofs.Prelude.{◌≡◌, ◌≢◌, ℕ, ◌==◌, Bool, false, List, [], ◌∷◌, ◌++◌, length, inl, inr, refl, sym, ap, ap₂, subst, ◌∙◌, arith}
use Rattle.bpf_model.proofs.Prelude.{append_assoc, Option, Some, None, Result, Ok, Err, OnOk, codes, false≢true, flat_map-append, none-some, same_Some}
use Rattle.bpf_model.proofs.Prelude.{new_map_view, heads, tails, cons-nil, option_append}
use Rattle.model_laws.proofs.Prelude.{MapKind, MapShape}
use Rattle.std.proofs.Common.{flat_map, append-nil}
use lib.Pointwise.{pointwise}
use Rattle.maps.specs.Registry.{RegistryView, no_maps}
use Rattle.program_files.specs.Lines.{file_words, code_slots, slot_in}
use Rattle.script_lines.specs.Words.{number_in}
use Rattle.program_files.specs.ProgramFile.{FileContent, IsContextLine, AreHashWords, AreArrayWords, AreShapeWords, IsMapLine, AddsMap, AddMaps}
use Rattle.program_files.specs.ProgramFile.{IsProgramFile, IsFileBeginning, IsWrongAfter, IsFirstWrongLine}
use Rattle.program_files.specs.Heads.{AreHeadLines}
use Rattle.program_files.specs.Stages.{IsAtStage}
use Rattle.program_files.proofs.Slots.{joined_nil}
use Rattle.program_files.specs.declared.loader.fault.LineFault.{LineFault}
use Rattle.program_files.specs.declared.loader.lines_read.Stage.{Stage}
use Rattle.program_files.specs.declared.loader.lines_read.Stage.TheVariants.{Context, Maps, Code}

abbrev code_line : List ℕ
code_line = codes "code"

-- a line tells one map, and a registry becomes one other by it

same_number : (v w : List ℕ) (m n : ℕ) → v ≡ w → number_in v ≡ Some m → number_in w ≡ Some n → m ≡ n
same_number v w m n e h k = same_Some m n (sym h ∙ (ap number_in e ∙ k))

same_shape : (s t : MapShape) → s.kind ≡ t.kind → s.key_len ≡ t.key_len → s.value_len ≡ t.value_len →
    s.entries ≡ t.entries → s.spare ≡ t.spare → s.reuse_limit ≡ t.reuse_limit → s ≡ t
same_shape s t k a b c d e =
    ap (λ (n : MapKind). let z : MapShape = record {
      kind = n;
      key_len = s.key_len;
      value_len = s.value_len;
      entries =
          s.entries;
      spare = s.spare;
      reuse_limit = s.reuse_limit;
    } in z) k
    ∙ ap (λ (n : ℕ). let z : MapShape = record {
      kind = t.kind;
      key_len = n;
      value_len = s.value_len;
      entries =
          s.entries;
      spare = s.spare;
      reuse_limit = s.reuse_limit;
    } in z) a
    ∙ ap (λ (n : ℕ). let z : MapShape = record {
      kind = t.kind;
      key_len = t.key_len;
      value_len = n;
      entries =
          s.entries;
      spare = s.spare;
      reuse_limit = s.reuse_limit;
    } in z) b
    ∙ ap (λ (n : ℕ). let z : MapShape = record {
      kind = t.kind;
      key_len = t.key_len;
      value_len = t.value_len;
      entries = n;
      spare = s.spare;
      reuse_limit = s.reuse_limit;
    } in z) c
    ∙ ap (λ (n : ℕ). let z : MapShape = record {
      kind = t.kind;
      key_len = t.key_len;
      value_len = t.value_len;
      entries = t.entries;
      spare = n;
      reuse_limit = s.reuse_limit;
    } in z) d
    ∙ ap (λ (n : ℕ). let z : MapShape = record {
      kind = t.kind;
      key_len = t.key_len;
      value_len = t.value_len;
      entries = t.entries;
      spare = t.spare;
      reuse_limit = n;
    } in z) e

same_words : (a b c d e a2 b2 c2 d2 e2 : List ℕ) → (a ∷ b ∷ c ∷ d ∷ e ∷ []) ≡ a2 ∷ b2 ∷ c2 ∷ d2 ∷ e2 ∷ [] → (a ≡ a2) × (b ≡ b2) × (c ≡ c2) × (d ≡ d2) × (e ≡ e2)
same_words a b c d e a2 b2 c2 d2 e2 h = ((cc), (cc), (cc), (cc), (cc))

-- a line is of one map: its name, and what is behind it
same_line : (m a b : List ℕ) (xs ys : List (List ℕ)) → (m ∷ a ∷ xs) ≡ m ∷ b ∷ ys → (a ≡ b) × (xs ≡ ys)
same_line m a b xs ys e = ((cc), (cc))

same_hash_words : (s t : MapShape) (numbers : List (List ℕ)) → AreHashWords numbers s → AreHashWords numbers t → s ≡ t
same_hash_words s t numbers h k =
    let w = same_words h.key h.value h.entries h.spare h.reuse k.key k.value k.entries k.spare k.reuse (sym h.words_are ∙ k.words_are) in
    same_shape s t (h.kind ∙ sym k.kind) (same_number _ _ _ _ w.0 h.key_len k.key_len)
    (same_number _ _ _ _ w.1 h.value_len k.value_len) (same_number _ _ _ _ w.2 h.entries_is k.entries_is)
    (same_number _ _ _ _ w.3 h.spare_is k.spare_is) (same_number _ _ _ _ w.4 h.reuse_limit k.reuse_limit)

two_words : (w a b c d : List ℕ) → (w ∷ a ∷ b ∷ []) ≡ w ∷ c ∷ d ∷ [] → (a ≡ c) × (b ≡ d)
two_words w a b c d e = ((cc), (cc))

same_array_words : (s t : MapShape) (numbers : List (List ℕ)) → AreArrayWords numbers s → AreArrayWords numbers t → s ≡ t
same_array_words s t numbers h k =
    let w = two_words (codes "array") h.value h.entries k.value k.entries (sym h.words_are ∙ k.words_are) in
    same_shape s t (h.kind ∙ sym k.kind) (h.array.key ∙ sym k.array.key)
    (same_number _ _ _ _ w.0 h.value_len k.value_len) (same_number _ _ _ _ w.1 h.entries_is k.entries_is)
    (h.array.spare ∙ sym k.array.spare) (h.array.reuse ∙ sym k.array.reuse)

-- a hash map's words are five, an array's three
not_both : (s t : MapShape) (numbers : List (List ℕ)) → AreHashWords numbers s → AreArrayWords numbers t → ⊥
not_both s t numbers h k =
    let e : (h.key ∷ h.value ∷ h.entries ∷ h.spare ∷ h.reuse ∷ []) ≡ codes "array" ∷ k.value ∷ k.entries ∷ [] = sym h.words_are ∙ k.words_are in
    let n = ap length e in
    omega (arith, n)

same_shape_words : (s t : MapShape) (numbers : List (List ℕ)) → AreShapeWords numbers s → AreShapeWords numbers t → s ≡ t
same_shape_words s t numbers (inl h) (inl k) = same_hash_words s t numbers h k
same_shape_words s t numbers (inl h) (inr k) = absurd (not_both s t numbers h k)
same_shape_words s t numbers (inr h) (inl k) = absurd (not_both t s numbers k h)
same_shape_words s t numbers (inr h) (inr k) = same_array_words s t numbers h k

pub same_map : (line name name2 : List ℕ) (s t : MapShape) → IsMapLine line name s → IsMapLine line name2 t → (name ≡ name2) × (s ≡ t)
same_map line name name2 s t h k =
    let w = same_line (codes "map") name name2 h.numbers k.numbers (sym h.words ∙ k.words) in
    (w.0, same_shape_words s t k.numbers (subst (λ (n : List (List ℕ)). AreShapeWords n s) w.1 h.shape_is) k.shape_is)

pub same_registry : (r s : RegistryView) → r.names ≡ s.names → r.maps ≡ s.maps → r ≡ s
same_registry r s a b =
    ap (λ (n : List (List ℕ)). let z : RegistryView = record { names = n; maps = r.maps } in z) a
    ∙ ap (λ n. let z : RegistryView = record { names = s.names; maps = n } in z) b

same_added : (old r s : RegistryView) (line : List ℕ) → AddsMap old line r → AddsMap old line s → r ≡ s
same_added old r s line h k =
    let m = same_map line h.name k.name h.shape k.shape h.is k.is in
    same_registry r s
    (h.names ∙ ap (λ n. old.names ++ n ∷ []) m.0 ∙ sym k.names)
    (h.maps ∙ ap (λ t. old.maps ++ new_map_view t ∷ []) m.1 ∙ sym k.maps)

-- `code` tells no map

code_is_no_map : (old new : RegistryView) (line : List ℕ) → line ≡ code_line → AddsMap old line new → ⊥
code_is_no_map old new line e h =
    let w : (code_line ∷ []) ≡ codes "map" ∷ h.name ∷ h.is.numbers = sym (ap file_words e) ∙ h.is.words in
    cons-nil _ _ (sym (tails code_line (codes "map") [] _ w))

-- more lines of maps

pub add_last : (old mid new : RegistryView) (lines : List (List ℕ)) (line : List ℕ) → AddMaps old lines mid →
    AddsMap mid line new → AddMaps old (lines ++ line ∷ []) new
add_last old mid new [] line e h = (new, subst (λ r. AddsMap r line new) e h, refl)
add_last old mid new (first ∷ lines) line h k = (h.0, h.1, add_last h.0 mid new lines line h.2 k)

-- where the maps end

pub same_parts : (old r s : RegistryView) (ms ns cs ds : List (List ℕ)) → AddMaps old ms r → AddMaps old ns s →
    (ms ++ code_line ∷ cs) ≡ ns ++ code_line ∷ ds → (r ≡ s) × (cs ≡ ds)
same_parts old r s [] [] cs ds h k e = (h ∙ sym k, tails code_line code_line cs ds e)
same_parts old r s [] (n ∷ ns) cs ds h k e = absurd (code_is_no_map old k.0 n (sym (heads code_line n cs (ns ++ code_line ∷ ds) e)) k.1)
same_parts old r s (m ∷ ms) [] cs ds h k e = absurd (code_is_no_map old h.0 m (heads m code_line (ms ++ code_line ∷ cs) ds e) h.1)
same_parts old r s (m ∷ ms) (n ∷ ns) cs ds h k e =
    let line : n ≡ m = sym (heads m n (ms ++ code_line ∷ cs) (ns ++ code_line ∷ ds) e) in
    let next : k.0 ≡ h.0 = same_added old k.0 h.0 m (subst (λ l. AddsMap old l k.0) line k.1) h.1 in
    same_parts h.0 r s ms ns cs ds h.2 (subst (λ x. AddMaps x ns s) next k.2) (tails m n (ms ++ code_line ∷ cs) (ns ++ code_line ∷ ds) e)

no_map_line : (old r s : RegistryView) (ms ns ds : List (List ℕ)) (line : List ℕ) (rest : List (List ℕ)) →
    AddMaps old ms r → AddMaps old ns s → line ≢ code_line → ((new : RegistryView) → ¬ (AddsMap r line new)) →
    (ms ++ line ∷ rest) ≡ ns ++ code_line ∷ ds → ⊥
no_map_line old r s [] [] ds line rest h k other wrong e = other (heads line code_line rest ds e)
no_map_line old r s [] (n ∷ ns) ds line rest h k other wrong e =
    wrong k.0 (subst (λ x. AddsMap x line k.0) (sym h) (subst (λ l. AddsMap old l k.0) (sym (heads line n rest (ns ++ code_line ∷ ds) e)) k.1))
no_map_line old r s (m ∷ ms) [] ds line rest h k other wrong e = code_is_no_map old h.0 m (heads m code_line (ms ++ line ∷ rest) ds e) h.1
no_map_line old r s (m ∷ ms) (n ∷ ns) ds line rest h k other wrong e =
    let same : n ≡ m = sym (heads m n (ms ++ line ∷ rest) (ns ++ code_line ∷ ds) e) in
    let next : k.0 ≡ h.0 = same_added old k.0 h.0 m (subst (λ l. AddsMap old l k.0) same k.1) h.1 in
    no_map_line h.0 r s ms ns ds line rest h.2 (subst (λ x. AddMaps x ns s) next k.2) other wrong (tails m n (ms ++ line ∷ rest) (ns ++ code_line ∷ ds) e)

no_code_line : (old r : RegistryView) (ms ns ds : List (List ℕ)) → AddMaps old ms r → ms ≡ ns ++ code_line ∷ ds → ⊥
no_code_line old r [] [] ds h e = cons-nil code_line ds (sym e)
no_code_line old r [] (n ∷ ns) ds h e = cons-nil n (ns ++ code_line ∷ ds) (sym e)
no_code_line old r (m ∷ ms) [] ds h e = code_is_no_map old h.0 m (heads m code_line ms ds e) h.1
no_code_line old r (m ∷ ms) (n ∷ ns) ds h e = no_code_line h.0 r ms ns ds h.2 (tails m n ms (ns ++ code_line ∷ ds) e)

-- the stages

pub none_begins : IsFileBeginning []
none_begins = (
  codes "ctx 0" ∷ code_line ∷ [],
  record { ctx_len = 0; registry = no_maps; code = [] },
  record {
    first = codes "ctx 0";
    map_lines = [];
    code_lines = [];
    parts = refl;
    context = record { word = codes "0"; words = refl; number = refl; limit = omega arith };
    maps = refl;
    code = refl;
  },
)

pub maps_begin : (lines : List (List ℕ)) (context : ℕ) (r : RegistryView) → AreHeadLines lines context r →
    IsProgramFile (lines ++ code_line ∷ []) (record { ctx_len = context; registry = r; code = [] })
maps_begin lines context r h = record {
  first = h.first;
  map_lines = h.map_lines;
  code_lines = [];
  parts = ap (λ ls. ls ++ code_line ∷ []) h.parts;
  context = h.context_is;
  maps = h.maps;
  code = refl;
}

pub file_begins : (lines : List (List ℕ)) (c : FileContent) → IsProgramFile lines c → IsFileBeginning lines
file_begins lines c h = ([], c, subst (λ ls. IsProgramFile ls c) (sym (append-nil lines)) h)

pub stage_begins : (stage : Stage) (lines : List (List ℕ)) (c : FileContent) → IsAtStage stage lines c → IsFileBeginning lines
stage_begins Context lines c h = subst IsFileBeginning (sym h.0) none_begins
stage_begins Maps lines c h = (code_line ∷ [], record { ctx_len = c.ctx_len; registry = c.registry; code = [] }, maps_begin lines c.ctx_len c.registry h.0)
stage_begins Code lines c h = file_begins lines c h

pub context_wrong : (lines : List (List ℕ)) (line : List ℕ) → lines ≡ [] → ((n : ℕ) → ¬ (IsContextLine line n)) → ¬ (IsFileBeginning (lines ++ line ∷ []))
context_wrong lines line e wrong b =
    let h = b.2 in
    let whole : (line ∷ b.0) ≡ h.first ∷ (h.map_lines ++ code_line ∷ h.code_lines) = sym (ap (λ ls. (ls ++ line ∷ []) ++ b.0) e) ∙ h.parts in
    wrong b.1.ctx_len (subst (λ l. IsContextLine l b.1.ctx_len) (sym (heads line h.first b.0 _ whole)) h.context)

pub map_taken : (lines : List (List ℕ)) (line : List ℕ) (n : ℕ) (r s : RegistryView) → AreHeadLines lines n r →
    AddsMap r line s → AreHeadLines (lines ++ line ∷ []) n s
map_taken lines line n r s h k = record {
  first = h.first;
  map_lines = h.map_lines ++ line ∷ [];
  parts = ap (λ ls. ls ++ line ∷ []) h.parts;
  context_is = h.context_is;
  maps = add_last no_maps r s h.map_lines line h.maps k;
}

pub map_wrong : (lines : List (List ℕ)) (line : List ℕ) (n : ℕ) (r : RegistryView) → AreHeadLines lines n r →
    line ≢ code_line → ((s : RegistryView) → ¬ (AddsMap r line s)) → ¬ (IsFileBeginning (lines ++ line ∷ []))
map_wrong lines line n r h other wrong b =
    let k = b.2 in
    let whole : (h.first ∷ (h.map_lines ++ line ∷ b.0)) ≡ k.first ∷ (k.map_lines ++ code_line ∷ k.code_lines) =
    ap (λ (ls : List (List ℕ)). h.first ∷ ls) (sym (append_assoc h.map_lines (line ∷ []) b.0)) ∙ sym (ap (λ ls. (ls ++ line ∷ []) ++ b.0) h.parts) ∙ k.parts in
    no_map_line no_maps r b.1.registry h.map_lines k.map_lines k.code_lines line b.0 h.maps k.maps other wrong (tails h.first k.first _ _ whole)

joined_assoc : (x y z : Option (List ℕ)) → option_append x (option_append y z) ≡ option_append (option_append x y) z
joined_assoc None y z = refl
joined_assoc (Some a) None z = refl
joined_assoc (Some a) (Some b) None = refl
joined_assoc (Some a) (Some b) (Some c) = ap Some (sym (append_assoc a b c))

slots_append : (vs ws : List (List ℕ)) → code_slots (vs ++ ws) ≡ option_append (code_slots vs) (code_slots ws)
slots_append [] ws = joined_nil (code_slots ws)
slots_append (v ∷ vs) ws = ap (option_append (slot_in v)) (slots_append vs ws) ∙ joined_assoc (slot_in v) (code_slots vs) (code_slots ws)

joined_none : (x : Option (List ℕ)) → option_append x None ≡ None
joined_none None = refl
joined_none (Some a) = refl

lines_append : (xs ys : List (List ℕ)) → code_slots (flat_map file_words (xs ++ ys)) ≡ option_append
    (code_slots (flat_map file_words xs)) (code_slots (flat_map file_words ys))
lines_append xs ys = ap code_slots (flat_map-append file_words xs ys) ∙ slots_append (flat_map file_words xs) (flat_map file_words ys)

pub slots_taken : (lines : List (List ℕ)) (line : List ℕ) (n : ℕ) (r : RegistryView) (code new bytes : List ℕ) →
    IsProgramFile lines (record { ctx_len = n; registry = r; code = code }) →
    code_slots (file_words line) ≡ Some bytes → new ≡ code ++ bytes →
    IsProgramFile (lines ++ line ∷ []) (record { ctx_len = n; registry = r; code = new })
slots_taken lines line n r code new bytes h e added =
    let one : code_slots (flat_map file_words (line ∷ [])) ≡ Some bytes = ap code_slots (append-nil (file_words line)) ∙ e in
    record {
      first = h.first;
      map_lines = h.map_lines;
      code_lines = h.code_lines ++ line ∷ [];
      parts = ap (λ ls. ls ++ line ∷ []) h.parts ∙ ap (λ (ls : List (List ℕ)). h.first ∷ ls) (append_assoc h.map_lines (code_line ∷ h.code_lines) (line ∷ []));
      context = h.context;
      maps = h.maps;
      code = lines_append h.code_lines (line ∷ []) ∙ ap₂ option_append h.code one ∙ ap Some (sym added);
    }

pub slots_wrong : (lines : List (List ℕ)) (line : List ℕ) (c : FileContent) → IsProgramFile lines c →
    code_slots (file_words line) ≡ None → ¬ (IsFileBeginning (lines ++ line ∷ []))
slots_wrong lines line c h e b =
    let k = b.2 in
    let whole : (h.first ∷ (h.map_lines ++ code_line ∷ (h.code_lines ++ line ∷ b.0))) ≡ k.first ∷ (k.map_lines ++ code_line ∷ k.code_lines) =
    ap (λ (ls : List (List ℕ)). h.first ∷ ls) (sym (append_assoc h.map_lines (code_line ∷ h.code_lines) (line ∷ b.0)))
    ∙ sym (append_assoc (h.first ∷ (h.map_lines ++ code_line ∷ h.code_lines)) (line ∷ []) b.0)
    ∙ sym (ap (λ ls. (ls ++ line ∷ []) ++ b.0) h.parts) ∙ k.parts in
    let same = same_parts no_maps c.registry b.1.registry h.map_lines k.map_lines (h.code_lines ++ line ∷ b.0)
    k.code_lines h.maps k.maps (tails h.first k.first _ _ whole) in
    let rest : code_slots (flat_map file_words (line ∷ b.0)) ≡ None =
    slots_append (file_words line) (flat_map file_words b.0) ∙
    ap (λ s. option_append s (code_slots (flat_map file_words b.0))) e in
    let none : code_slots (flat_map file_words k.code_lines) ≡ None =
    ap (λ ls. code_slots (flat_map file_words ls)) (sym same.1) ∙ lines_append h.code_lines (line ∷ b.0) ∙
    ap (option_append (code_slots (flat_map file_words h.code_lines))) rest ∙ joined_none _ in
    none-some b.1.code (sym none ∙ k.code)

-- no file ends there

pub none_unfinished : (lines : List (List ℕ)) → lines ≡ [] → (c : FileContent) → ¬ (IsProgramFile lines c)
none_unfinished lines e c h = cons-nil h.first _ (sym (sym e ∙ h.parts))

pub maps_unfinished : (lines : List (List ℕ)) (n : ℕ) (r : RegistryView) → AreHeadLines lines n r → (c : FileContent) → ¬ (IsProgramFile lines c)
maps_unfinished lines n r h c k = no_code_line no_maps r h.map_lines k.map_lines k.code_lines h.maps (tails h.first k.first _ _ (sym h.parts ∙ k.parts))

-- a file says one thing

same_content : (c d : FileContent) → c.ctx_len ≡ d.ctx_len → c.registry ≡ d.registry → c.code ≡ d.code → c ≡ d
same_content c d e f g =
    ap (λ (x : ℕ). let z : FileContent = record { ctx_len = x; registry = c.registry; code = c.code } in z) e
    ∙ ap (λ (x : RegistryView). let z : FileContent = record { ctx_len = d.ctx_len; registry = x; code = c.code } in z) f
    ∙ ap (λ (x : List ℕ). let z : FileContent = record { ctx_len = d.ctx_len; registry = d.registry; code = x } in z) g

second : (w v x y : List ℕ) → (w ∷ x ∷ []) ≡ v ∷ y ∷ [] → x ≡ y
second w v x y e = cc

pub one_content : (lines : List (List ℕ)) (c d : FileContent) → IsProgramFile lines c → IsProgramFile lines d → c ≡ d
one_content lines c d h k =
    let whole = sym h.parts ∙ k.parts in
    let same = same_parts no_maps c.registry d.registry h.map_lines k.map_lines h.code_lines k.code_lines h.maps k.maps (tails h.first k.first _ _ whole) in
    let first : h.first ≡ k.first = heads h.first k.first _ _ whole in
    let word : h.context.word ≡ k.context.word = second _ _ _ _ (sym h.context.words ∙ ap file_words first ∙ k.context.words) in
    same_content c d (same_number _ _ _ _ word h.context.number k.context.number) same.0
    (same_Some c.code d.code (sym h.code ∙ ap (λ ls. code_slots (flat_map file_words ls)) same.1 ∙ k.code))

wrong_after : (front rest : List (List ℕ)) (c : FileContent) → IsWrongAfter front rest → ¬ (IsProgramFile (front ++ rest) c)
wrong_after front [] c wrong h = wrong c (subst (λ ls. IsProgramFile ls c) (append-nil front) h)
wrong_after front (line ∷ rest) c wrong h = wrong (rest, c, subst (λ ls. IsProgramFile ls c) (sym (append_assoc front (line ∷ []) rest)) h)

pub not_wrong : (lines : List (List ℕ)) (n : ℕ) (c : FileContent) → IsFirstWrongLine lines n → ¬ (IsProgramFile lines c)
not_wrong lines n c h k = wrong_after h.front h.rest c h.wrong (subst (λ ls. IsProgramFile ls c) h.parts k)

-- one line at each stage

pub not_code : (line literal : List ℕ) (r : Bool) → r ≡ pointwise ◌==◌ line literal → literal ≡ code_line → r ≡ false → line ≢ code_line
not_code line literal r e f h same = absurd (false≢true (sym h ∙ e ∙ ap₂ (pointwise ◌==◌) same f))

third : (a b c d : List ℕ) (xs ys : List (List ℕ)) → (a ∷ b ∷ xs) ≡ c ∷ d ∷ ys → xs ≡ ys
third a b c d xs ys e = cc

pub shape_words : (line word name1 name2 : List ℕ) (left : List (List ℕ)) (shape : MapShape) → file_words line ≡ word
    ∷ name1 ∷ left → IsMapLine line name2 shape → AreShapeWords left shape
shape_words line word name1 name2 left shape e h =
    subst (λ (n : List (List ℕ)). AreShapeWords n shape) (third (codes "map") name2 word name1 _ _ (sym h.words ∙ e)) h.shape_is

pub context_refuses : (stage : Stage) (lines : List (List ℕ)) (line : List ℕ) (c : FileContent) → stage ≡ Context →
    ((n : ℕ) → ¬ (IsContextLine line n)) → IsAtStage stage lines c → ¬ (IsFileBeginning (lines ++ line ∷ []))
context_refuses stage lines line c e wrong h =
    let k = subst (λ (s : Stage). IsAtStage s lines c) e h in context_wrong lines line k.0 wrong

pub maps_step : (stage : Stage) (lines : List (List ℕ)) (line : List ℕ) (c : FileContent) (s : RegistryView)
    (r : Result (Unit {0}) LineFault) → stage ≡ Maps → OnOk r (AddsMap c.registry line s) → IsAtStage stage lines c →
    OnOk r (IsAtStage stage (lines ++ line ∷ []) (record { ctx_len = c.ctx_len; registry = s; code = c.code }))
maps_step stage lines line c s (Ok x) e added h =
    let k = subst (λ (t : Stage). IsAtStage t lines c) e h in
    subst (λ (t : Stage). IsAtStage t (lines ++ line ∷ [])
    (record { ctx_len = c.ctx_len; registry = s; code = c.code })) (sym e)
    (map_taken lines line c.ctx_len c.registry s k.0 added, k.1)
maps_step stage lines line c s (Err f) e added h = tt

pub maps_refuse : (stage : Stage) (lines : List (List ℕ)) (line : List ℕ) (c : FileContent) → stage ≡ Maps →
    line ≢ code_line → ((s : RegistryView) → ¬ (AddsMap c.registry line s)) → IsAtStage stage lines c →
    ¬ (IsFileBeginning (lines ++ line ∷ []))
maps_refuse stage lines line c e other wrong h =
    let k = subst (λ (t : Stage). IsAtStage t lines c) e h in map_wrong lines line c.ctx_len c.registry k.0 other wrong

pub code_step : (stage : Stage) (lines : List (List ℕ)) (line : List ℕ) (c : FileContent) (new : List ℕ)
    (r : Result (Unit {0}) LineFault) → stage ≡ Code →
    OnOk r ((bytes : List ℕ) × (code_slots (file_words line) ≡ Some bytes) × (new ≡ c.code ++ bytes)) →
    IsAtStage stage lines c → OnOk r (IsAtStage stage (lines ++ line ∷ [])
    (record { ctx_len = c.ctx_len; registry = c.registry; code = new }))
code_step stage lines line c new (Ok x) e added h =
    subst (λ (t : Stage). IsAtStage t (lines ++ line ∷ []) (record { ctx_len = c.ctx_len; registry = c.registry; code = new })) (sym e)
    (slots_taken lines line c.ctx_len c.registry c.code new added.0 (subst (λ (t : Stage). IsAtStage t lines c) e h) added.1 added.2)
code_step stage lines line c new (Err f) e added h = tt

pub code_refuses : (stage : Stage) (lines : List (List ℕ)) (line : List ℕ) (c : FileContent) → stage ≡ Code →
    code_slots (file_words line) ≡ None → IsAtStage stage lines c → ¬ (IsFileBeginning (lines ++ line ∷ []))
code_refuses stage lines line c e none h = slots_wrong lines line c (subst (λ (t : Stage). IsAtStage t lines c) e h) none

pub unfinished : (stage : Stage) (lines : List (List ℕ)) (c d : FileContent) → stage ≢ Code → IsAtStage stage lines c → ¬ (IsProgramFile lines d)
unfinished Context lines c d other h = none_unfinished lines h.0 d
unfinished Maps lines c d other h = maps_unfinished lines c.ctx_len c.registry h.0 d
unfinished Code lines c d other h = absurd (other refl)
