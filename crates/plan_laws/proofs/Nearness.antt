-- The references of runs of verified programs are near, so that two of them with one word name one location.
use Rattle.bpf_model.proofs.Prelude.{◌≡◌, ℕ, List, ◌∷◌, sym, subst, ◌∙◌, Element, Machine, IsReferenceWord, element_bases, AreReal, IsHistory, AllStates}
use Rattle.bpf_model.proofs.Prelude.{WorldView, Tracks, shapes_of}
use Rattle.model_laws.proofs.Prelude.{Reference, Ctx, Frame, MapRef, Elem, Event, Answer, IsNearLocation, named_location, IsNearReference}
use Rattle.plan_laws.proofs.Prelude.{IsWithinLimits, AreVerified, IsWell}
use Rattle.model_laws.proofs.Words.{words_of_locations, near_words_differ}
use Rattle.plan_laws.specs.Limits.{IsNearMachine}
use Rattle.plan_laws.proofs.Reaching.{reached_is_well, well_along, all-states}

pub well_is_near : (m : Machine) → IsWell m → IsNearMachine m
well_is_near m w r run at going = let t = w.runs r run at going in (t.planned t.safe.verified).describes.near

pub tracked_is_near : (w : WorldView) (events : List Event) (answers : List Answer) →
    AreVerified (shapes_of w) w.programs → AreReal events → (m : Machine) → Tracks w m → (states : List Machine) →
    IsHistory m events answers states → AllStates IsNearMachine (m ∷ states)
tracked_is_near w events answers safe real m t states h =
    all-states IsWell IsNearMachine (m ∷ states) well_is_near
    (well_along m events answers states (subst IsWell t.1
    (reached_is_well (shapes_of w) w.programs t.0 safe t.2.reached)) real h)

near-location : (slots : List ℕ) (es : List Element) (r : Reference) → IsNearReference r → IsWithinLimits slots es r →
    IsNearLocation (named_location slots es r)
near-location slots es (Ctx o) n l = n
near-location slots es (Frame o) n l = n
near-location slots es (MapRef map) n l = l
near-location slots es (Elem b o) n l = (l.0, l.1, n)

pub near_references_differ : (slots : List ℕ) (es : List Element) (r q : Reference) (w : ℕ) → IsNearReference r →
    IsNearReference q → IsWithinLimits slots es r → IsWithinLimits slots es q →
    IsReferenceWord (element_bases slots es) r w → IsReferenceWord (element_bases slots es) q w → named_location slots es r ≡ named_location slots es q
near_references_differ slots es r q w n o l k a b =
    near_words_differ (named_location slots es r) (named_location slots es q) (near-location slots es r n l) (near-location slots es q o k)
    (sym ((words_of_locations slots es r w).0 a) ∙ (words_of_locations slots es q w).0 b)
