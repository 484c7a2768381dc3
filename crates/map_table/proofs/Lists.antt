-- The moves of one holder, after one more event.
use Rattle.table_words.proofs.Prelude.{◌≡◌, ◌≢◌, ℕ, List, ◌∷◌, refl, ap, eq-eqb, ne_eqb, dite, ℕ_discrete, moves_of, section_word, word_in, word_at}
use Rattle.map_table.proofs.Prelude.{Move, Open, Close, Learn, Load, Store, Put, Double, Scan}

pub moves_self : (who : ℕ) (m : Move) (es : List (ℕ × Move)) → moves_of who ((who, m) ∷ es) ≡ m ∷ moves_of who es
moves_self who m es = rw (eq-eqb who who refl) refl

pub moves_else : (me who : ℕ) (m : Move) (es : List (ℕ × Move)) → me ≢ who → moves_of who ((me, m) ∷ es) ≡ moves_of who es
moves_else me who m es ne = rw (ne_eqb me who ne) refl

-- a move that changes no header
abbrev pub IsQuiet : Move → Type 0
IsQuiet (Put s w) = ⊥
IsQuiet (Double f s w) = ⊥
IsQuiet _ = Unit {0}

-- a move that changes no section
abbrev pub IsStill : Move → Type 0
IsStill Open = ⊥
IsStill Close = ⊥
IsStill _ = Unit {0}

quiet_step : (way : ℕ) (m : Move) (ms : List Move) → IsQuiet m → word_in way (m ∷ ms) ≡ word_in way ms
quiet_step way Open ms q = refl
quiet_step way Close ms q = refl
quiet_step way (Learn s h) ms q = refl
quiet_step way (Load s p x) ms q = refl
quiet_step way (Store s p x) ms q = refl
quiet_step way (Put s w) ms q = absurd q
quiet_step way (Double f s w) ms q = absurd q
quiet_step way (Scan r x) ms q = refl

still_step : (m : Move) (ms : List Move) → IsStill m → section_word (m ∷ ms) ≡ section_word ms
still_step Open ms q = absurd q
still_step Close ms q = absurd q
still_step (Learn s h) ms q = refl
still_step (Load s p x) ms q = refl
still_step (Store s p x) ms q = refl
still_step (Put s w) ms q = refl
still_step (Double f s w) ms q = refl
still_step (Scan r x) ms q = refl

pub quiet : (me who way : ℕ) (m : Move) (es : List (ℕ × Move)) → IsQuiet m → word_in way (moves_of who ((me, m) ∷ es)) ≡ word_in way (moves_of who es)
quiet me who way m es q = dite (ℕ_discrete me who)
    (λ e. rw (eq-eqb me who e) (quiet_step way m (moves_of who es) q))
    (λ ne. ap (word_in way) (moves_else me who m es ne))

pub still : (me who : ℕ) (m : Move) (es : List (ℕ × Move)) → IsStill m → section_word (moves_of who ((me, m) ∷ es)) ≡ section_word (moves_of who es)
still me who m es q = dite (ℕ_discrete me who)
    (λ e. rw (eq-eqb me who e) (still_step m (moves_of who es) q))
    (λ ne. ap section_word (moves_else me who m es ne))

-- a move that stores no word
abbrev pub IsIdle : Move → Type 0
IsIdle (Store s p x) = ⊥
IsIdle _ = Unit {0}

pub idle : (me element place : ℕ) (m : Move) (es : List (ℕ × Move)) → IsIdle m → word_at element place ((me, m) ∷ es) ≡ word_at element place es
idle me element place Open es q = refl
idle me element place Close es q = refl
idle me element place (Learn s h) es q = refl
idle me element place (Load s p x) es q = refl
idle me element place (Store s p x) es q = absurd q
idle me element place (Put s w) es q = refl
idle me element place (Double f s w) es q = refl
idle me element place (Scan r x) es q = refl

pub stored_here : (me s p element place x : ℕ) (es : List (ℕ × Move)) → s ≡ element → p ≡ place → word_at element place ((me, Store s p x) ∷ es) ≡ x
stored_here me s p element place x es e f = rw (eq-eqb s element e) (rw (eq-eqb p place f) refl)

pub stored_in_another : (me s p element place x : ℕ) (es : List (ℕ × Move)) → s ≢ element →
    word_at element place ((me, Store s p x) ∷ es) ≡ word_at element place es
stored_in_another me s p element place x es ne = rw (ne_eqb s element ne) refl

pub stored_beside : (me s p element place x : ℕ) (es : List (ℕ × Move)) → s ≡ element → p ≢ place →
    word_at element place ((me, Store s p x) ∷ es) ≡ word_at element place es
stored_beside me s p element place x es e ne = rw (eq-eqb s element e) (rw (ne_eqb p place ne) refl)
