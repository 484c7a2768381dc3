-- The names that most proofs of tables cite, of this crate and of the library, passed on from one place.
pub use Rattle.std.specs.List.{range_with_len}
pub use Rattle.std.specs.Prelude.{slice_index, All, ◌==◌, if◌then◌else◌, MatchBool}
pub use Rattle.std.proofs.Common.{◌∙◌, ◌≡◌, subst, ap, sym, ◌<◌, refl, ℕ, ◌++◌, [], List, ◌∷◌, ◌≤◌, arith, ◌+◌, ◌≢◌, length, inr, inl, ⊎_elim, ◌*◌, ◌%◌, ◌⊎◌}
pub use Rattle.std.proofs.Common.{rules, suc, ◌^◌, set, ne_eqb, zero, ◌-◌, eq-eqb, vec_capacity, get_or, get_or-set_other, get_or-set_same, drop, ◌/◌}
pub use Rattle.std.proofs.Common.{length-set, append_assoc, take, length-append, add-one, vec_len, Some, None, Bool, true, false}
pub use Rattle.std.proofs.Math.Nat.{min-eq_left, min-eq_right}
pub use Rattle.std.proofs.lemmas.List.{get_or_default, take-append-drop, append_cancel_right, length-drop, length-take-le, get_or-drop}
pub use Rattle.std.proofs.lemmas.Nat.{mul-le, div-mul-add, mul-add-lt}
pub use Rattle.table_words.specs.Found.{IsLinkedUnder, StaysInside, IsLinkedAs, StaysFound, BearsKey, Throughout, IsLinkedSomewhere, KeepsKey}
pub use Rattle.table_words.specs.Found.{OnlyReplaces, Sometime}
pub use Rattle.table_words.specs.History.{word_in, moves_of, IsLawful, Holds, IsSpare, MayDo, word_at, key_of, inside, IsReader, IsSettled, MayLink}
pub use Rattle.table_words.specs.History.{IsOpenTo, section_word, MayDouble, Cleared, IsLinked, Settles, IsMoving, word_after, opened, FoundSince}
pub use Rattle.table_words.specs.History.{since_double, HasLeft, HavePassed, AreOneOrMoved}
pub use Rattle.table_words.specs.Layout.{Names, Layout, IsCandidate, bucket_of, tag_in, bucket_ways}
pub use Rattle.table_words.specs.Lookups.{OnlySearches, HadWord, FoundIn, AnswersLookup, Refuted, IsElse}
pub use Rattle.table_words.specs.Moved.{OnlyMoves}
pub use Rattle.table_words.specs.Once.{AreLinkedOnce, PutsNoKeyTwice, PutNoKeyTwice}
pub use Rattle.table_words.specs.Scanned.{ScansInTurn, OnlyScans, FoundOther, FoundGone, LookedAt, FoundInside}
pub use Rattle.table_words.specs.Walks.{Meets}
pub use mathlib.Core.Logic.{dite}
pub use mathlib.Core.Option.{none}
pub use native.Mathlib.Decide.{ℕ_discrete, dec_lt}
