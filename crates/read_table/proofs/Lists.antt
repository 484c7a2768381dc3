-- The moves of one holder, after one more event.
use Rattle.bpf_model.proofs.Prelude.{◌≡◌, ◌≢◌, ℕ, List, ◌∷◌, refl, ap, dite, ℕ_discrete}
use Rattle.read_table.proofs.Prelude.{moves_of, inside, header_in, word_at_place}
use Rattle.std.proofs.Common.{eq-eqb, ne_eqb}
use Rattle.read_table.specs.declared.view.Move.{Move}
use Rattle.read_table.specs.declared.view.Move.TheVariants.{Open, Close, Learn, Load, Store, Header, Scan}

pub moves_self : (who : ℕ) (m : Move) (es : List (ℕ × Move)) → moves_of who ((who, m) ∷ es) ≡ m ∷ moves_of who es
moves_self who m es = rw (eq-eqb who who refl) refl

pub moves_else : (me who : ℕ) (m : Move) (es : List (ℕ × Move)) → me ≢ who → moves_of who ((me, m) ∷ es) ≡ moves_of who es
moves_else me who m es ne = rw (ne_eqb me who ne) refl

-- a move that changes no header
abbrev pub IsQuiet : Move → Type 0
IsQuiet (Header s w) = ⊥
IsQuiet _ = Unit {0}

-- a move that changes no section
abbrev pub IsStill : Move → Type 0
IsStill Open = ⊥
IsStill Close = ⊥
IsStill _ = Unit {0}

quiet_step : (slot : ℕ) (m : Move) (ms : List Move) → IsQuiet m → header_in slot (m ∷ ms) ≡ header_in slot ms
quiet_step slot Open ms q = refl
quiet_step slot Close ms q = refl
quiet_step slot (Learn s h) ms q = refl
quiet_step slot (Load s p x) ms q = refl
quiet_step slot (Store s p x) ms q = refl
quiet_step slot (Header s w) ms q = absurd q
quiet_step slot (Scan r x) ms q = refl

still_step : (m : Move) (ms : List Move) → IsStill m → inside (m ∷ ms) ≡ inside ms
still_step Open ms q = absurd q
still_step Close ms q = absurd q
still_step (Learn s h) ms q = refl
still_step (Load s p x) ms q = refl
still_step (Store s p x) ms q = refl
still_step (Header s w) ms q = refl
still_step (Scan r x) ms q = refl

pub quiet : (me who slot : ℕ) (m : Move) (es : List (ℕ × Move)) → IsQuiet m → header_in slot (moves_of who ((me, m) ∷ es)) ≡ header_in slot (moves_of who es)
quiet me who slot m es q = dite (ℕ_discrete me who)
    (λ e. rw (eq-eqb me who e) (quiet_step slot m (moves_of who es) q))
    (λ ne. ap (header_in slot) (moves_else me who m es ne))

pub still : (me who : ℕ) (m : Move) (es : List (ℕ × Move)) → IsStill m → inside (moves_of who ((me, m) ∷ es)) ≡ inside (moves_of who es)
still me who m es q = dite (ℕ_discrete me who)
    (λ e. rw (eq-eqb me who e) (still_step m (moves_of who es) q))
    (λ ne. ap inside (moves_else me who m es ne))

-- a move that stores no word
abbrev pub IsIdle : Move → Type 0
IsIdle (Store s p x) = ⊥
IsIdle _ = Unit {0}

pub idle : (me slot place : ℕ) (m : Move) (es : List (ℕ × Move)) → IsIdle m → word_at_place slot place ((me, m) ∷ es) ≡ word_at_place slot place es
idle me slot place Open es q = refl
idle me slot place Close es q = refl
idle me slot place (Learn s h) es q = refl
idle me slot place (Load s p x) es q = refl
idle me slot place (Store s p x) es q = absurd q
idle me slot place (Header s w) es q = refl
idle me slot place (Scan r x) es q = refl

pub stored_here : (me s p slot place x : ℕ) (es : List (ℕ × Move)) → s ≡ slot → p ≡ place → word_at_place slot place ((me, Store s p x) ∷ es) ≡ x
stored_here me s p slot place x es e f = rw (eq-eqb s slot e) (rw (eq-eqb p place f) refl)

pub stored_in_another : (me s p slot place x : ℕ) (es : List (ℕ × Move)) → s ≢ slot →
    word_at_place slot place ((me, Store s p x) ∷ es) ≡ word_at_place slot place es
stored_in_another me s p slot place x es ne = rw (ne_eqb s slot ne) refl

pub stored_beside : (me s p slot place x : ℕ) (es : List (ℕ × Move)) → s ≡ slot → p ≢ place →
    word_at_place slot place ((me, Store s p x) ∷ es) ≡ word_at_place slot place es
stored_beside me s p slot place x es e ne = rw (eq-eqb s slot e) (rw (ne_eqb p place ne) refl)
