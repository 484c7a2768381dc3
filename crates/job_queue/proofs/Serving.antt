-- Results of stations, one after another, and where they stand in the end.
use Rattle.std.proofs.Common.{◌≡◌, ℕ, ◌+◌, ◌<◌, List, [], ◌∷◌, ◌++◌, length, get_or, sym, ap, ◌∙◌, subst, arith, length-append, map, zero, suc, refl, take}
use Rattle.std.proofs.Common.{drop, append-nil, ⊎_elim, inl, inr, true, ◌⊎◌}
use Rattle.std.specs.Prelude.{All, slice_get, slice_set, slice_index_or, Option, Some, None, IsSome, option_map, unwrap_or}
use Rattle.std.specs.List.{AllZip}
use Rattle.std.proofs.lemmas.List.Elements.{All-append, All-map}
use Rattle.crossbeam_queue.specs.Passes.{Pass, view}
use Rattle.job_queue.specs.declared.numbers.PassView.{PassView}
use Rattle.std.proofs.Math.ListN.{get_or-append}
use Rattle.std.proofs.Math.Seq.{get_or-append_seam}
use mathlib.Core.Logic.{dite}
use native.Mathlib.Decide.{ℕ_discrete}
use Rattle.job_queue.specs.declared.station.Numbered.{Numbered}
use Rattle.std.proofs.lemmas.Option.{slice_get_within, slice_get-get_or, slice_get-map, get_or_from_slice_get}
use Rattle.std.proofs.lemmas.List.{take_all, drop_all}
use Rattle.job_queue.specs.declared.station.Station.{Station}
use Rattle.job_queue.specs.Serving.{IsRight, IsRightNumbered, IsServedByOne, IsServedFor, AreRightLines, AreServed}
use Rattle.job_queue.specs.Stations.{IsKept, HasServed, numbers_of}
use Rattle.job_queue.specs.Sheet.{HasLine, IsAmong, HasResult, StandsIn, worker_of}
use Rattle.job_queue.specs.Numbers.{times, WasTaken}
use Rattle.job_queue.specs.Turns.{ServesNumbered}

-- one more result, after which the worker has served more
pub one_more : {J W T : Type 0} (fits : W → W → J → T → Type 0) (jobs : List J) (first was is : W) →
    ((job : J) (served : T) → fits first was job served → fits first is job served)
    → (xs : List (Numbered T)) (d : Numbered T) → All (IsRightNumbered fits jobs first was) xs →
    IsRightNumbered fits jobs first is d → All (IsRightNumbered fits jobs first is) (xs ++ d ∷ [])
one_more {J} {W} {T} fits jobs first was is more xs d all one k e l = dite (ℕ_discrete k (length xs))
    (λ same. subst (λ z. IsRightNumbered fits jobs first is (get_or (xs ++ d ∷ []) z e)) (sym same)
    (subst (IsRightNumbered fits jobs first is) (sym (get_or-append_seam xs d [] e)) one))
    (λ ne.
    let n : length (xs ++ d ∷ []) ≡ length xs + 1 = length-append xs (d ∷ []) in
    let low : k < length xs = omega arith in
    let r = all k e low in
    subst (IsRightNumbered fits jobs first is) (sym (get_or-append xs (d ∷ []) e k low))
    record { job = r.job; at = r.at; right = more r.job (get_or xs k e).served r.right })

-- what a list has, a longer one has too
pub slice_get_left : {X : Type 0} (xs ys : List X) (k : ℕ) (x : X) → slice_get xs k ≡ Some x → slice_get (xs ++ ys) k ≡ Some x
slice_get_left [] ys k x e = absurd (cc)
slice_get_left (z ∷ zs) ys zero x e = e
slice_get_left (z ∷ zs) ys (suc k) x e = slice_get_left zs ys k x e

pub slice_get_right : {X : Type 0} (xs ys : List X) (k : ℕ) (x : X) → slice_get ys k ≡ Some x → slice_get (xs ++ ys) (length xs + k) ≡ Some x
slice_get_right {X} [] ys k x e = let n : k ≡ 0 + k = omega arith in subst (λ z. slice_get ys z ≡ Some x) n e
slice_get_right {X} (z ∷ zs) ys k x e = let n : suc (length zs + k) ≡ length (z ∷ zs) + k =
    omega arith in subst (λ i. slice_get ((z ∷ zs) ++ ys) i ≡ Some x) n (slice_get_right zs ys k x e)

pub among_before : {T : Type 0} (xs : List (Numbered T)) (d : Numbered T) (k : ℕ) (served : T) → IsAmong xs k served → IsAmong (xs ++ d ∷ []) k served
among_before xs d k served a = record { index = a.index; at = slice_get_left xs (d ∷ []) a.index (record { number = k; served = served }) a.at }

pub among_last : {T : Type 0} (xs : List (Numbered T)) (d : Numbered T) (k : ℕ) (served : T) → k ≡ d.number →
    served ≡ d.served → IsAmong (xs ++ d ∷ []) k served
among_last {T} xs d k served number same = record {
  index = length xs + 0;
  at = slice_get_right xs (d ∷ []) 0 (record { number = k; served = served })
      (ap (λ (z : Numbered T). Some z) (λ i. record { number = sym number i; served = sym same i }));
}

-- a line has its result where one was put there, and keeps it where another is put
pub line_set : {T : Type 0} (lines : List (Option T)) (n k : ℕ) (served : T) → HasLine lines k → HasLine (slice_set lines n (Some served)) k
line_set [] n k served (x, at) = absurd (cc)
line_set (l ∷ ls) zero zero served h = (served, refl)
line_set (l ∷ ls) zero (suc k) served h = h
line_set (l ∷ ls) (suc n) zero served h = h
line_set (l ∷ ls) (suc n) (suc k) served h = line_set ls n k served h

pub line_here : {T : Type 0} (lines : List (Option T)) (n : ℕ) (served : T) → n < length lines → HasLine (slice_set lines n (Some served)) n
line_here [] n served low = absurd (omega arith)
line_here (l ∷ ls) zero served low = (served, refl)
line_here (l ∷ ls) (suc n) served low = line_here ls n served (omega arith)

has_some : {T : Type 0} (o : Option T) (x : T) → o ≡ Some x → IsSome o
has_some None x e = absurd (cc)
has_some (Some y) x e = search

pub all_lines : {T : Type 0} (lines : List (Option T)) → ((k : ℕ) → k < length lines → HasLine lines k) → All IsSome lines
all_lines lines each k d low = let h = each k low in has_some (get_or lines k d) h.0 (get_or_from_slice_get lines k (Some h.0) d h.1)

pub no_none : {X : Type 0} (o : Option X) → o ≡ None → IsSome o → ⊥
no_none None e is = cc
no_none (Some x) e is = cc

-- a result among these and one more is one of these or that one
pub result_of_more : {T : Type 0} (xs : List (Numbered T)) (d : Numbered T) (k : ℕ) → HasResult (xs ++ d ∷ []) k →
    HasResult xs k ⊎ (k ≡ d.number)
result_of_more {T} xs d k (served, a) =
    let one : Numbered T = record { number = k; served = served } in
    let low : a.index < length (xs ++ d ∷ []) = slice_get_within (xs ++ d ∷ []) a.index one a.at in
    let n : length (xs ++ d ∷ []) ≡ length xs + 1 = length-append xs (d ∷ []) in
    let is : get_or (xs ++ d ∷ []) a.index one ≡ one = get_or_from_slice_get (xs ++ d ∷ []) a.index one one a.at in
    dite (ℕ_discrete a.index (length xs))
    (λ same. inr (ap (λ (z : Numbered T). z.number)
    (sym is ∙ (ap (λ (i : ℕ). get_or (xs ++ d ∷ []) i one) same ∙ get_or-append_seam xs d [] one))))
    (λ ne. let inside : a.index < length xs = omega (arith, low, n, ne) in
    inl (
      served,
      record {
        index = a.index;
        at = slice_get-get_or xs a.index one inside ∙ ap (λ (z : Numbered T). Some z) (sym (get_or-append xs (d ∷ []) one a.index inside) ∙ is);
      },
    ))

-- one more number that was taken, and its result
pub kept_more : {T : Type 0} (xs : List (Numbered T)) (d : Numbered T) (taken : List ℕ) (k : ℕ) →
    WasTaken k (d.number ∷ taken) → (WasTaken k taken → HasResult xs k) → HasResult (xs ++ d ∷ []) k
kept_more xs d taken k is old = ⊎_elim (λ (e : k ≡ d.number). (d.served, among_last xs d k d.served e refl))
    (λ (t : WasTaken k taken). let r = old t in (r.0, among_before xs d k r.0 r.1)) is

-- what was taken, but a number past the last job
pub taken_before : (x k : ℕ) (taken : List ℕ) (n : ℕ) → (x < n → ⊥) → k < n → WasTaken k (x ∷ taken) → WasTaken k taken
taken_before x k taken n past low is = ⊎_elim (λ (e : k ≡ x). absurd (past (subst (λ z. z < n) e low))) (λ t. t) is

-- a station with the same worker and results, which took no further number of a job
pub still_served : {J W T : Type 0} (fits gains : W → W → J → T → Type 0) (later : W → W → Type 0) (jobs : List J)
    (of_queue : Pass ℕ PassView → Type 0) (ready : W → Type 0) (first : W) (s t : Station W T)
    → HasServed fits gains later jobs of_queue ready first s → of_queue t.pass → (view t.pass).takes ≡ true
    → t.worker ≡ s.worker → t.results.items ≡ s.results.items
    → ((k : ℕ) → WasTaken k (view t.pass).taken → k < length jobs → WasTaken k (view s.pass).taken)
    → ((k : ℕ) → k < length jobs → times k (view t.pass).taken ≡ times k (view s.pass).taken) → HasServed fits gains later jobs of_queue ready first t
still_served {J} {W} {T} fits gains later jobs of_queue ready first s t h pass takes worker results taken counted = record {
  kept = record {
    pass = pass;
    takes = takes;
    results = λ k is low. subst (λ (z : List (Numbered T)). HasResult z k) (sym results) (h.kept.results k (taken k is low) low);
    counted = λ k low. ap (λ (z : List (Numbered T)). times k (numbers_of z)) results ∙ (h.kept.counted k low ∙ sym (counted k low));
  };
  ready_now = subst ready (sym worker) h.ready_now;
  later_now = subst (later first) (sym worker) h.later_now;
  results = subst (λ (z : W × List (Numbered T)). All (IsRightNumbered fits jobs first z.0) z.1) (λ i. (sym worker i, sym results i)) h.results;
  turn = subst (λ (z : W × List (Numbered T)). ServesNumbered gains jobs first z.1 z.0) (λ i. (sym worker i, sym results i)) h.turn;
}

pub stands_before : {W T : Type 0} (xs : List (Station W T)) (s : Station W T) (k : ℕ) (served : T) → StandsIn xs k served → StandsIn (xs ++ s ∷ []) k served
stands_before xs s k served a = record { index = a.index; station = a.station; at = slice_get_left xs (s ∷ []) a.index a.station a.at; among = a.among }

pub stands_last : {W T : Type 0} (xs : List (Station W T)) (s : Station W T) (k : ℕ) (served : T) →
    IsAmong s.results.items k served → StandsIn (xs ++ s ∷ []) k served
stands_last xs s k served a = record { index = length xs + 0; station = s; at = slice_get_right xs (s ∷ []) 0 s refl; among = a }

pub all_zip_same : {X : Type 0} (R : X → X → Type 0) → ((x : X) → R x x) → (xs : List X) → AllZip R xs xs
all_zip_same R same [] = tt
all_zip_same R same (x ∷ xs) = (same x, all_zip_same R same xs)

pub all_zip_join : {J T : Type 0} (R : J → T → Type 0) (us : List J) (vs : List T) (xs : List J) (ys : List T) →
    AllZip R us vs → AllZip R xs ys → AllZip R (us ++ xs) (vs ++ ys)
all_zip_join R [] [] xs ys h r = r
all_zip_join R [] (v ∷ vs) xs ys h r = absurd h
all_zip_join R (u ∷ us) [] xs ys h r = absurd h
all_zip_join R (u ∷ us) (v ∷ vs) xs ys h r = (h.0, all_zip_join R us vs xs ys h.1 r)

-- two lists of stations, one after the other, by a relation that holds at each index
pub all_zip_stations : {W T : Type 0} (R : W → W → Type 0) (xs ys : List (Station W T)) → length ys ≡ length xs
    → ((k : ℕ) (d : Station W T) → k < length xs → R (slice_index_or xs k d).worker (slice_index_or ys k d).worker) →
    AllZip R (map worker_of xs) (map worker_of ys)
all_zip_stations R [] [] e each = tt
all_zip_stations R [] (y ∷ ys) e each = let no : ⊥ = omega arith in absurd no
all_zip_stations R (x ∷ xs) [] e each = let no : ⊥ = omega arith in absurd no
all_zip_stations R (x ∷ xs) (y ∷ ys) e each = (each 0 x (omega arith), all_zip_stations R xs ys (omega arith) (λ k d l. each (suc k) d (omega arith)))

module _ {J W T : Type 0} (fits gains : W → W → J → T → Type 0) (later : W → W → Type 0) (jobs : List J)
    (of_queue : Pass ℕ PassView → Type 0) (ready : W → Type 0)
    (front after : List W) (xs ys : List (Station W T)) (is : after ≡ front ++ map worker_of ys) (same : length ys ≡ length xs)
    (each : (k : ℕ) (d : Station W T) → k < length xs
    → HasServed fits gains later jobs of_queue ready (slice_index_or xs k d).worker (slice_index_or ys k d)) where
  -- what stands in the stations' results is right for its job, by one of the workers
  pub stands_right : (k : ℕ) (served : T) → StandsIn ys k served → IsServedFor fits jobs (front ++ map worker_of xs) after k served
  stands_right k served s =
      let within : s.index < length ys = slice_get_within ys s.index s.station s.at in
      let at_x : slice_get xs s.index ≡ Some (get_or xs s.index s.station) = slice_get-get_or xs s.index s.station (omega arith) in
      let at_y : get_or ys s.index s.station ≡ s.station = get_or_from_slice_get ys s.index s.station s.station s.at in
      let first = (get_or xs s.index s.station).worker in
      let work : HasServed fits gains later jobs of_queue ready first s.station =
      subst (HasServed fits gains later jobs of_queue ready first) at_y (each s.index s.station (omega arith)) in
      let a = s.among in
      let one : Numbered T = record { number = k; served = served } in
      let r : IsRight fits jobs first s.station.worker k served =
      subst (IsRightNumbered fits jobs first s.station.worker)
      (get_or_from_slice_get s.station.results.items a.index one one a.at)
      (work.results a.index one (slice_get_within s.station.results.items a.index one a.at)) in
      record {
        job = r.job;
        at = r.at;
        by_one = record {
          index = length front + s.index;
          first = first;
          last = s.station.worker;
          was = slice_get_right front (map worker_of xs) s.index first (slice_get-map worker_of xs s.index ∙ ap (option_map worker_of) at_x);
          is = subst (λ z. slice_get z (length front + s.index) ≡ Some s.station.worker) (sym is)
              (slice_get_right front (map worker_of ys) s.index s.station.worker (slice_get-map worker_of ys s.index ∙ ap (option_map worker_of) s.at));
          right = r.right;
        };
      }

  -- the workers in their old order, each later than it was
  pub workers_later : AllZip later front front → AllZip later (front ++ map worker_of xs) after
  workers_later none = subst (AllZip later (front ++ map worker_of xs)) (sym is)
      (all_zip_join later front front (map worker_of xs) (map worker_of ys) none (all_zip_stations later xs ys same (λ k d l. (each k d l).later_now)))

  pub workers_ready : All ready front → All ready after
  workers_ready all = subst (All ready) (sym is) (All-append ready front (map worker_of ys) all
      (All-map ready worker_of ys (λ k d l. (each k d (omega arith)).ready_now)))

  -- each number that a station took has a result
  pub stations_kept : All (IsKept of_queue (length jobs)) ys
  stations_kept k d l = (each k d (omega arith)).kept

-- what was read out of the sheet is right for its job
pub results_right : {J W T : Type 0} (fits : W → W → J → T → Type 0) (jobs : List J) (before after : List W)
    (lines : List (Option T)) (results : List T) → AreRightLines fits jobs before after lines
    → map (λ (z : T). Some z) results ≡ lines → AreServed fits jobs before after results
results_right {J} {W} {T} fits jobs before after lines results right same k job served at is =
    let r = right k served (subst (λ z. slice_get z k ≡ Some (Some served)) same
    (slice_get-map (λ (z : T). Some z) results k ∙ ap (option_map (λ (z : T). Some z)) is)) in
    subst (λ z. IsServedByOne fits before after z served) (ap (λ (o : Option J). unwrap_or o job) (sym r.at ∙ at)) r.by_one

-- what a mutable slice of a whole vector leaves in it
pub written_back : {X : Type 0} (n : ℕ) (xs ys : List X) → n ≡ length xs → length ys ≡ length xs → take n (ys ++ drop (length ys) xs) ≡ ys
written_back {X} n xs ys len same =
    ap (λ (z : List X). take n (ys ++ z)) (drop_all (length ys) xs (omega arith)) ∙ (ap (take n) (append-nil ys) ∙ take_all n ys (omega arith))
