-- Where a number is missing among the words of a map's shape.
use Rattle.bpf_model.proofs.Prelude.{◌≡◌, ◌<◌, ◌∷◌, [], ℕ, List, Option, Some, None, IfNone}
use Rattle.model_laws.proofs.Prelude.{MapShape, MAX_REUSE}
use Rattle.script_lines.specs.Words.{number_in}
use Rattle.program_files.specs.ProgramFile.{AreHashWords, AreArrayWords}

-- the first of these words is no number
abbrev pub BeginsWithNone : List (List ℕ) → Type 0
BeginsWithNone words =
    (w : List ℕ) (ws : List (List ℕ)) (n : ℕ) → words ≡ w ∷ ws → number_in w ≡ Some n → ⊥

pub if_none : {X P : Type 0} (r : Option X) → P → IfNone r P
if_none None p = p
if_none (Some x) p = tt

pub no_value : (words one : List (List ℕ)) (a : List ℕ) (s : MapShape) → words ≡ a ∷ one → BeginsWithNone one → AreHashWords words s → MAX_REUSE < s.reuse_limit
no_value words one a s e none h =
    let f = h.words_are in
    absurd (none h.value (h.entries ∷ h.spare ∷ h.reuse ∷ []) s.value_len (cc) h.value_len)

pub no_entries : (words one two : List (List ℕ)) (a b : List ℕ) (s : MapShape) → words ≡ a ∷ one → one ≡ b ∷ two →
    BeginsWithNone two → AreHashWords words s → MAX_REUSE < s.reuse_limit
no_entries words one two a b s e e2 none h =
    let f = h.words_are in
    absurd (none h.entries (h.spare ∷ h.reuse ∷ []) s.entries (cc) h.entries_is)

pub no_spare : (words one two three : List (List ℕ)) (a b d : List ℕ) (s : MapShape) → words ≡ a ∷ one → one ≡ b ∷ two
    → two ≡ d ∷ three → BeginsWithNone three → AreHashWords words s → MAX_REUSE < s.reuse_limit
no_spare words one two three a b d s e e2 e3 none h =
    let f = h.words_are in
    absurd (none h.spare (h.reuse ∷ []) s.spare (cc) h.spare_is)

pub no_reuse : (words one two three four : List (List ℕ)) (a b d g : List ℕ) (s : MapShape) → words ≡ a ∷ one →
    one ≡ b ∷ two → two ≡ d ∷ three → three ≡ g ∷ four → BeginsWithNone four → AreHashWords words s →
    MAX_REUSE < s.reuse_limit
no_reuse words one two three four a b d g s e e2 e3 e4 none h =
    let f = h.words_are in
    absurd (none h.reuse [] s.reuse_limit (cc) h.reuse_limit)

pub no_array_entries : (words one two : List (List ℕ)) (a b : List ℕ) (s : MapShape) → words ≡ a ∷ one → one ≡ b ∷ two
    → BeginsWithNone two → AreArrayWords words s → ⊥
no_array_entries words one two a b s e e2 none h =
    let f = h.words_are in
    none h.entries [] s.entries (cc) h.entries_is
