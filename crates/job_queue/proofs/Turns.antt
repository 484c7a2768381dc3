-- What each worker served, and that it is all that there was to serve.
use Rattle.std.proofs.Common.{◌≡◌, ◌≢◌, ℕ, zero, suc, ◌+◌, ◌<◌, ◌≤◌, List, [], ◌∷◌, ◌++◌, length, map, take, get_or, refl, sym, ap, ◌∙◌, subst, ⊎_elim, arith}
use Rattle.std.proofs.Math.Seq.{take-suc}
use Rattle.std.specs.Prelude.{All, IsSome, IfOk, OnOk, eqb, sum_by, slice_get, slice_index_or, Option, Some, None, option_map, unwrap_or, Result, Ok, Err}
use Rattle.std.specs.Global.{Vec}
use Rattle.std.specs.Borrow.{Bor}
use Rattle.std.specs.List.{flat_map}
use Rattle.std.proofs.lemmas.List.{map-append}
use Rattle.std.proofs.lemmas.List.Elements.{All-append, All-cons, All-map, All-nil}
use Rattle.std.proofs.lemmas.List.Sums.{sum_by-cons, sum_by-append, sum_by_push}
use Rattle.std.proofs.lemmas.Option.{slice_get_within, slice_get-get_or, slice_get-map, get_or_from_slice_get}
use Rattle.crossbeam_queue.specs.Passes.{Pass, view}
use Rattle.job_queue.specs.declared.numbers.PassView.{PassView}
use Rattle.job_queue.specs.declared.fault.PoolFault.{PoolFault}
use Rattle.job_queue.specs.declared.station.Numbered.{Numbered}
use Rattle.job_queue.specs.declared.station.Station.{Station}
use Rattle.job_queue.specs.Blocks.{jobs_of, results_of, ServesBlock}
use Rattle.job_queue.specs.Numbers.{times, with_taken_of}
use Rattle.job_queue.specs.Serving.{IsRight}
use Rattle.job_queue.specs.Sheet.{HasLine, StandsIn, worker_of}
use Rattle.job_queue.specs.Stations.{HasServed, numbers_of, times_taken}
use Rattle.job_queue.specs.Turns.{Stretch, Turn, times_served, ServesEach, ServesStretches, AreSharedOut, ServesNumbered, ServesLines, AreTurns}
use Rattle.job_queue.proofs.QueueRule.{one_if, is_one}
use Rattle.job_queue.proofs.Serving.{slice_get_left, slice_get_right}

-- a number more, and a number that is no job's
pub counted_more : {T : Type 0} (xs : List (Numbered T)) (one : Numbered T) (taken : List ℕ) (k : ℕ) →
    times k (numbers_of xs) ≡ times k taken → times k (numbers_of (xs ++ one ∷ [])) ≡ times k (one.number ∷ taken)
counted_more {T} xs one taken k same =
    let a = map-append (λ (z : Numbered T). z.number) xs (one ∷ []) in
    let b : times k (numbers_of xs ++ one.number ∷ []) ≡ times k (numbers_of xs) + one_if (eqb one.number k) =
    sum_by_push (λ (z : ℕ). one_if (eqb z k)) (numbers_of xs) one.number in
    let c : times k (one.number ∷ taken) ≡ one_if (eqb one.number k) + times k taken =
    sum_by-cons (λ (z : ℕ). one_if (eqb z k)) one.number taken in
    ap (times k) a ∙ omega (arith, b, c, same)

pub counted_past : (x k n : ℕ) (taken : List ℕ) → (x < n → ⊥) → k < n → times k (x ∷ taken) ≡ times k taken
counted_past x k n taken past low =
    let c : times k (x ∷ taken) ≡ one_if (eqb x k) + times k taken = sum_by-cons (λ (z : ℕ). one_if (eqb z k)) x taken in
    ⊎_elim (λ (t : (x ≡ k) × (one_if (eqb x k) ≡ 1)). absurd (past (subst (λ z. z < n) (sym t.0) low)))
    (λ (t : (x ≢ k) × (one_if (eqb x k) ≡ 0)). let none = t.1 in omega (arith, c, none))
    (is_one x k (eqb x k) refl)

-- one pass more came back
pub took_more : {W T : Type 0} (k : ℕ) (v : PassView) (xs : List (Station W T)) (s : Station W T) → times k v.taken ≡ times_taken k xs →
    times k (with_taken_of v (view s.pass)).taken ≡ times_taken k (xs ++ s ∷ [])
took_more {W} {T} k v xs s same =
    let a : times k ((view s.pass).taken ++ v.taken) ≡ times k (view s.pass).taken + times k v.taken =
    sum_by-append (λ (z : ℕ). one_if (eqb z k)) (view s.pass).taken v.taken in
    let b : times_taken k (xs ++ s ∷ []) ≡ times_taken k xs + times k (view s.pass).taken =
    sum_by_push (λ (z : Station W T). times k (view z.pass).taken) xs s in
    omega (arith, a, b, same)

module _ {J W T : Type 0} (gains : W → W → J → T → Type 0) where
  -- one job more
  each_more : (first mid last : W) (jobs : List J) (results : List T) (job : J) (one : T) → ServesEach gains first jobs results mid →
      gains mid last job one → ServesEach gains first (jobs ++ job ∷ []) (results ++ one ∷ []) last
  each_more first mid last [] [] job one h gain = (last, subst (λ (z : W). gains z last job one) h gain, refl)
  each_more first mid last [] (y ∷ ys) job one h gain = absurd h
  each_more first mid last (x ∷ xs) [] job one h gain = absurd h
  each_more first mid last (x ∷ xs) (y ∷ ys) job one h gain = (h.0, h.1, each_more h.0 mid last xs ys job one h.2 gain)

  pub one_more_served : (first was is : W) (jobs : List J) (k : ℕ) (job : J) (results : List T) (one : T) → k < length jobs
      → ServesEach gains first (take k jobs) results was → gains was is (get_or jobs k job) one →
      ServesEach gains first (take (k + 1) jobs) (results ++ one ∷ []) is
  one_more_served first was is jobs k job results one low served gain = let next : suc k ≡ k + 1 = omega arith in
      subst (λ z. ServesEach gains first z (results ++ one ∷ []) is) (sym (take-suc jobs k job low) ∙ ap (λ z. take z jobs) next)
      (each_more first was is (take k jobs) results (get_or jobs k job) one served gain)

  -- one number more
  pub numbered_more : (jobs : List J) (first mid last : W) (xs : List (Numbered T)) (one : Numbered T) → ServesNumbered gains jobs first xs mid →
      IsRight gains jobs mid last one.number one.served → ServesNumbered gains jobs first (xs ++ one ∷ []) last
  numbered_more jobs first mid last [] one h right = (last, subst (λ (z : W). IsRight gains jobs z last one.number one.served) h right, refl)
  numbered_more jobs first mid last (x ∷ xs) one h right = (h.0, h.1, numbered_more jobs h.0 mid last xs one h.2 right)

  -- numbers whose results stand on their lines
  lines_of : (jobs : List J) (Line : ℕ → T → Type 0) (first last : W) (xs : List (Numbered T)) → ServesNumbered gains jobs first xs last
      → ((j : ℕ) (one : Numbered T) → slice_get xs j ≡ Some one → one.number < length jobs → Line one.number one.served) →
      ServesLines gains jobs Line first (numbers_of xs) last
  lines_of jobs Line first last [] h line = h
  lines_of jobs Line first last (x ∷ xs) h line = (
    x.served,
    line 0 x refl (slice_get_within jobs x.number h.1.job h.1.at),
    h.0,
    h.1,
    lines_of jobs Line h.0 last xs h.2 (λ j. line (suc j)),
  )

  lines_weaker : (jobs : List J) (P Q : ℕ → T → Type 0) → ((k : ℕ) (one : T) → P k one → Q k one) → (first last : W) (ks : List ℕ) →
      ServesLines gains jobs P first ks last → ServesLines gains jobs Q first ks last
  lines_weaker jobs P Q weaker first last [] h = h
  lines_weaker jobs P Q weaker first last (k ∷ ks) h = (h.0, weaker k h.0 h.1, h.2, h.3, lines_weaker jobs P Q weaker h.2 last ks h.4)

  pub turns_weaker : (jobs : List J) (before after : List W) (P Q : ℕ → T → Type 0) → ((k : ℕ) (one : T) → P k one → Q k one) →
      AreTurns gains jobs before after P → AreTurns gains jobs before after Q
  turns_weaker jobs before after P Q weaker t = record {
    turns = t.turns;
    befores = t.befores;
    afters = t.afters;
    each = λ k d low. lines_weaker jobs P Q weaker _ _ _ (t.each k d low);
    once = t.once;
  }

-- who served nothing
abbrev idle : {W : Type 0} → W → Turn W
idle w = record { first = w; numbers = []; last = w }

idle_first : {W : Type 0} (ws : List W) → map (λ (t : Turn W). t.first) (map idle ws) ≡ ws
idle_first [] = refl
idle_first (w ∷ ws) = ap (λ z. w ∷ z) (idle_first ws)

idle_last : {W : Type 0} (ws : List W) → map (λ (t : Turn W). t.last) (map idle ws) ≡ ws
idle_last [] = refl
idle_last (w ∷ ws) = ap (λ z. w ∷ z) (idle_last ws)

idle_none : {W : Type 0} (k : ℕ) (ws : List W) → times_served k (map idle ws) ≡ 0
idle_none k [] = refl
idle_none {W} k (w ∷ ws) =
    let c = sum_by-cons (λ (t : Turn W). times k t.numbers) (idle w) (map idle ws) in
    let r = idle_none k ws in omega (arith, c, r)

-- no jobs
pub none_shared : {J W T : Type 0} (gains : W → W → J → T → Type 0) (jobs : List J) (ws : List W) (results : List T) → jobs ≡ [] → results ≡ [] →
    AreSharedOut gains jobs ws ws results
none_shared {J} {W} {T} gains jobs ws results no_jobs no_results = record {
  stretches = [];
  cut = sym no_jobs;
  joined = sym no_results;
  turns = map idle ws;
  befores = idle_first ws;
  afters = idle_last ws;
  each = All-map (λ (t : Turn W). ServesStretches gains [] t.first t.numbers t.last) idle ws (λ k d low. refl);
  once = λ k low. absurd (omega arith);
}

module _ {W T : Type 0} where
  -- the turns of stations
  abbrev turns_of : List (Station W T) → List (Station W T) → List (Turn W)
  turns_of [] ys = []
  turns_of (x ∷ xs) [] = []
  turns_of (x ∷ xs) (y ∷ ys) = record { first = x.worker; numbers = numbers_of y.results.items; last = y.worker } ∷ turns_of xs ys

  turns_first : (xs ys : List (Station W T)) → length ys ≡ length xs → map (λ (t : Turn W). t.first) (turns_of xs ys) ≡ map worker_of xs
  turns_first [] ys same = refl
  turns_first (x ∷ xs) [] same = let no : ⊥ = omega arith in absurd no
  turns_first (x ∷ xs) (y ∷ ys) same = ap (λ z. x.worker ∷ z) (turns_first xs ys (omega arith))

  turns_last : (xs ys : List (Station W T)) → length ys ≡ length xs → map (λ (t : Turn W). t.last) (turns_of xs ys) ≡ map worker_of ys
  turns_last [] [] same = refl
  turns_last [] (y ∷ ys) same = let no : ⊥ = omega arith in absurd no
  turns_last (x ∷ xs) [] same = let no : ⊥ = omega arith in absurd no
  turns_last (x ∷ xs) (y ∷ ys) same = ap (λ z. y.worker ∷ z) (turns_last xs ys (omega arith))

  turns_all : (P : Turn W → Type 0) (xs ys : List (Station W T)) → length ys ≡ length xs
      → ((k : ℕ) (d : Station W T) → k < length xs → P (record {
        first = (slice_index_or xs k d).worker;
        numbers = numbers_of (slice_index_or ys k d).results.items;
        last = (slice_index_or ys k d).worker;
      })) → All P (turns_of xs ys)
  turns_all P [] ys same each = All-nil P
  turns_all P (x ∷ xs) [] same each = All-nil P
  turns_all P (x ∷ xs) (y ∷ ys) same each = All-cons P _ (turns_of xs ys) (each 0 x (omega arith))
      (turns_all P xs ys (omega arith) (λ k d l. each (suc k) d (omega arith)))

  -- all results of stations, one station behind another
  abbrev results_in : List (Station W T) → List (Numbered T)
  results_in ys = flat_map (λ (y : Station W T). y.results.items) ys

  times_numbers : (k : ℕ) (ys : List (Station W T)) →
      times k (numbers_of (results_in ys)) ≡ sum_by (λ (y : Station W T). times k (numbers_of y.results.items)) ys
  times_numbers k [] = refl
  times_numbers k (y ∷ ys) =
      let a = map-append (λ (z : Numbered T). z.number) y.results.items (results_in ys) in
      let b : times k (numbers_of y.results.items ++ numbers_of (results_in ys)) ≡ times k (numbers_of y.results.items) + times k (numbers_of (results_in ys)) =
      sum_by-append (λ (z : ℕ). one_if (eqb z k)) (numbers_of y.results.items) (numbers_of (results_in ys)) in
      let c = sum_by-cons (λ (z : Station W T). times k (numbers_of z.results.items)) y ys in
      ap (times k) a ∙ (b ∙ (ap (λ n. times k (numbers_of y.results.items) + n) (times_numbers k ys) ∙ sym c))

  times_turns : (k : ℕ) (xs ys : List (Station W T)) → length ys ≡ length xs →
      times_served k (turns_of xs ys) ≡ sum_by (λ (y : Station W T). times k (numbers_of y.results.items)) ys
  times_turns k [] [] same = refl
  times_turns k [] (y ∷ ys) same = let no : ⊥ = omega arith in absurd no
  times_turns k (x ∷ xs) [] same = let no : ⊥ = omega arith in absurd no
  times_turns k (x ∷ xs) (y ∷ ys) same =
      let c = sum_by-cons (λ (z : Station W T). times k (numbers_of z.results.items)) y ys in
      let d = sum_by-cons (λ (t : Turn W). times k t.numbers)
      (record { first = x.worker; numbers = numbers_of y.results.items; last = y.worker }) (turns_of xs ys) in
      d ∙ (ap (λ n. times k (numbers_of y.results.items) + n) (times_turns k xs ys (omega arith)) ∙ sym c)

  -- each station has as many results of a number as it took
  times_same : (k : ℕ) (ys : List (Station W T))
      → ((i : ℕ) (d : Station W T) → i < length ys →
      times k (numbers_of (slice_index_or ys i d).results.items) ≡ times k (view (slice_index_or ys i d).pass).taken)
      → sum_by (λ (y : Station W T). times k (numbers_of y.results.items)) ys ≡ times_taken k ys
  times_same k [] each = refl
  times_same k (y ∷ ys) each =
      let c = sum_by-cons (λ (z : Station W T). times k (numbers_of z.results.items)) y ys in
      let d = sum_by-cons (λ (z : Station W T). times k (view z.pass).taken) y ys in
      c ∙ (ap (λ n. n + sum_by (λ (z : Station W T). times k (numbers_of z.results.items)) ys) (each 0 y (omega arith))
      ∙ (ap (λ n. times k (view y.pass).taken + n) (times_same k ys (λ i e l. each (suc i) e (omega arith))) ∙ sym d))

  -- a result of a station stands among all
  in_all : (ys : List (Station W T)) (i j : ℕ) (y : Station W T) (one : Numbered T) → slice_get ys i ≡ Some y → slice_get y.results.items j ≡ Some one →
      (p : ℕ) × (slice_get (results_in ys) p ≡ Some one)
  in_all [] i j y one at is = absurd (cc)
  in_all (z ∷ zs) zero j y one at is = (
    j,
    slice_get_left z.results.items (results_in zs) j one
        (subst (λ (s : Station W T). slice_get s.results.items j ≡ Some one) (sym (ap (λ o. unwrap_or o y) at)) is),
  )
  in_all (z ∷ zs) (suc i) j y one at is = let r = in_all zs i j y one at is in
      (length z.results.items + r.0, slice_get_right z.results.items (results_in zs) r.0 one r.1)

-- a number that stands in the list
head_counts : {T : Type 0} (x : Numbered T) (xs : List (Numbered T)) (n : ℕ) → x.number ≡ n → times n (numbers_of (x ∷ xs)) ≡ times n (numbers_of xs) + 1
head_counts x xs n same =
    let c : times n (numbers_of (x ∷ xs)) ≡ one_if (eqb x.number n) + times n (numbers_of xs) =
    sum_by-cons (λ (z : ℕ). one_if (eqb z n)) x.number (numbers_of xs) in
    ⊎_elim (λ (t : (x.number ≡ n) × (one_if (eqb x.number n) ≡ 1)). let one = t.1 in omega (arith, c, one))
    (λ (t : (x.number ≢ n) × (one_if (eqb x.number n) ≡ 0)). absurd (t.0 same))
    (is_one x.number n (eqb x.number n) refl)

tail_counts : {T : Type 0} (x : Numbered T) (xs : List (Numbered T)) (n : ℕ) → times n (numbers_of xs) ≤ times n (numbers_of (x ∷ xs))
tail_counts x xs n =
    let c : times n (numbers_of (x ∷ xs)) ≡ one_if (eqb x.number n) + times n (numbers_of xs) =
    sum_by-cons (λ (z : ℕ). one_if (eqb z n)) x.number (numbers_of xs) in omega (arith, c)

at_counts : {T : Type 0} (xs : List (Numbered T)) (p n : ℕ) (one : Numbered T) → slice_get xs p ≡ Some one → one.number ≡ n → 0 < times n (numbers_of xs)
at_counts [] p n one at same = absurd (cc)
at_counts {T} (x ∷ xs) zero n one at same =
    let h = head_counts x xs n (ap (λ (z : Numbered T). z.number) (ap (λ o. unwrap_or o one) at) ∙ same) in omega (arith, h)
at_counts (x ∷ xs) (suc p) n one at same =
    let h = at_counts xs p n one at same in
    let t = tail_counts x xs n in omega (arith, h, t)

-- two results of one number are one, where it stands there once
only_one : {T : Type 0} (xs : List (Numbered T)) (p q n : ℕ) (a b : Numbered T) → slice_get xs p ≡ Some a → slice_get xs q ≡ Some b
    → a.number ≡ n → b.number ≡ n → times n (numbers_of xs) ≤ 1 → a ≡ b
only_one [] p q n a b at_a at_b na nb few = absurd (cc)
only_one (x ∷ xs) zero zero n a b at_a at_b na nb few = sym (ap (λ o. unwrap_or o a) at_a) ∙ ap (λ o. unwrap_or o b) at_b
only_one {T} (x ∷ xs) zero (suc q) n a b at_a at_b na nb few =
    let h = head_counts x xs n (ap (λ (z : Numbered T). z.number) (ap (λ o. unwrap_or o a) at_a) ∙ na) in
    let r = at_counts xs q n b at_b nb in absurd (omega (arith, h, r, few))
only_one {T} (x ∷ xs) (suc p) zero n a b at_a at_b na nb few =
    let h = head_counts x xs n (ap (λ (z : Numbered T). z.number) (ap (λ o. unwrap_or o b) at_b) ∙ nb) in
    let r = at_counts xs p n a at_a na in absurd (omega (arith, h, r, few))
only_one (x ∷ xs) (suc p) (suc q) n a b at_a at_b na nb few =
    let t = tail_counts x xs n in only_one xs p q n a b at_a at_b na nb (omega (arith, t, few))

module _ {J W T : Type 0} (fits gains : W → W → J → T → Type 0) (later : W → W → Type 0) (jobs : List J)
    (of_queue : Pass ℕ PassView → Type 0) (ready : W → Type 0)
    (front after : List W) (xs ys : List (Station W T)) (is : after ≡ front ++ map worker_of ys) (same : length ys ≡ length xs)
    (each : (k : ℕ) (d : Station W T) → k < length xs → HasServed fits gains later jobs of_queue ready (slice_index_or xs k d).worker (slice_index_or ys k d))
    (lines : List (Option T)) (once : (k : ℕ) → k < length jobs → times_taken k ys ≡ 1) (has : (k : ℕ) → k < length jobs → HasLine lines k)
    (from : (k : ℕ) (served : T) → slice_get lines k ≡ Some (Some served) → StandsIn ys k served) where
  summed : (k : ℕ) → k < length jobs → sum_by (λ (y : Station W T). times k (numbers_of y.results.items)) ys ≡ 1
  summed k low = times_same k ys (λ i d l. (each i d (omega arith)).kept.counted k low) ∙ once k low

  -- each result of a station stands on its line
  on_line : (i j : ℕ) (y : Station W T) (one : Numbered T) → slice_get ys i ≡ Some y → slice_get y.results.items j ≡ Some one → one.number < length jobs →
      slice_get lines one.number ≡ Some (Some one.served)
  on_line i j y one at at_one low =
      let h = has one.number low in
      let s = from one.number h.0 h.1 in
      let other : Numbered T = record { number = one.number; served = h.0 } in
      let mine = in_all ys i j y one at at_one in
      let theirs = in_all ys s.index s.among.index s.station other s.at s.among.at in
      let few = times_numbers one.number ys ∙ summed one.number low in
      let e : other ≡ one = only_one (results_in ys) theirs.0 mine.0 one.number other one theirs.1 mine.1 refl refl (omega (arith, few)) in
      h.1 ∙ ap (λ (z : Numbered T). Some (Some z.served)) e

  -- what all workers did, those that had no station among them
  pub turns_are : AreTurns gains jobs (front ++ map worker_of xs) after (λ k served. slice_get lines k ≡ Some (Some served))
  turns_are = record {
    turns = map idle front ++ turns_of xs ys;
    befores = map-append (λ (t : Turn W). t.first) (map idle front) (turns_of xs ys)
        ∙ (ap (λ z. z ++ map (λ (t : Turn W). t.first) (turns_of xs ys)) (idle_first front) ∙ ap (λ z. front ++ z) (turns_first xs ys same));
    afters = map-append (λ (t : Turn W). t.last) (map idle front) (turns_of xs ys)
        ∙ (ap (λ z. z ++ map (λ (t : Turn W). t.last) (turns_of xs ys)) (idle_last front) ∙ (ap (λ z. front ++ z) (turns_last xs ys same) ∙ sym is));
    each =
        let Line = λ (k : ℕ) (served : T). slice_get lines k ≡ Some (Some served) in
        let P = λ (t : Turn W). ServesLines gains jobs Line t.first t.numbers t.last in
        All-append P (map idle front) (turns_of xs ys) (All-map P idle front (λ k d low. refl))
        (turns_all P xs ys same (λ k d l. lines_of gains jobs Line _ _ (slice_index_or ys k d).results.items (each k d l).turn
        (λ j one at_one low. on_line k j (slice_index_or ys k d) one (slice_get-get_or ys k d (omega arith)) at_one low)));
    once = λ k low.
        let a = sum_by-append (λ (t : Turn W). times k t.numbers) (map idle front) (turns_of xs ys) in
        let b = idle_none k front in
        let c = times_turns k xs ys same ∙ summed k low in omega (arith, a, b, c);
  }

-- the results that were read out, in place of the lines
line_read : {T : Type 0} (results : List T) (lines : List (Option T)) → map (λ (z : T). Some z) results ≡ lines
    → (k : ℕ) (served : T) → slice_get lines k ≡ Some (Some served) → slice_get results k ≡ Some served
line_read {T} results lines same k served at = taken_off (slice_get results k)
    (sym (slice_get-map (λ (z : T). Some z) results k) ∙ (ap (λ (z : List (Option T)). slice_get z k) same ∙ at))
  where
    taken_off : (o : Option T) → option_map (λ (z : T). Some z) o ≡ Some (Some served) → o ≡ Some served
    taken_off None e = absurd (cc)
    taken_off (Some x) e = ap (λ o. unwrap_or o None) e

pub turns_read : {J W T : Type 0} (gains : W → W → J → T → Type 0) (jobs : List J) (was before after : List W) (lines : List (Option T)) (results : List T)
    → was ≡ before → map (λ (z : T). Some z) results ≡ lines → AreTurns gains jobs was after (λ k served. slice_get lines k ≡ Some (Some served))
    → AreTurns gains jobs before after (λ k served. slice_get results k ≡ Some served)
turns_read {J} {W} {T} gains jobs was before after lines results whole same t =
    turns_weaker gains jobs before after _ _ (line_read results lines same)
    (subst (λ (z : List W). AreTurns gains jobs z after (λ k served. slice_get lines k ≡ Some (Some served))) whole t)

-- blocks and their results, as stretches of jobs
module _ {J W T : Type 0} (gains : W → W → J → T → Type 0) where
  abbrev stretches_of : List (Bor (List J)) → List (Option (Vec T)) → List (Stretch J T)
  stretches_of [] ss = []
  stretches_of (b ∷ bs) [] = []
  stretches_of (b ∷ bs) (s ∷ ss) = record { jobs = b.now; results = results_of s } ∷ stretches_of bs ss

  stretch_at : (bs : List (Bor (List J))) (ss : List (Option (Vec T))) (k : ℕ) (b : Bor (List J)) (s : Option (Vec T)) → slice_get bs k ≡ Some b →
      slice_get ss k ≡ Some s → slice_get (stretches_of bs ss) k ≡ Some (record { jobs = b.now; results = results_of s })
  stretch_at [] ss k b s at is = absurd (cc)
  stretch_at (x ∷ xs) [] k b s at is = absurd (cc)
  stretch_at (x ∷ xs) (y ∷ ys) zero b s at is =
      let eb : x ≡ b = ap (λ o. unwrap_or o b) at in
      let es : y ≡ s = ap (λ o. unwrap_or o s) is in
      λ i. Some (record { jobs = (eb i).now; results = results_of (es i) })
  stretch_at (x ∷ xs) (y ∷ ys) (suc k) b s at is = stretch_at xs ys k b s at is

  stretch_jobs : (bs : List (Bor (List J))) (ss : List (Option (Vec T))) → length ss ≡ length bs →
      flat_map (λ (s : Stretch J T). s.jobs) (stretches_of bs ss) ≡ flat_map jobs_of bs
  stretch_jobs [] ss same = refl
  stretch_jobs (b ∷ bs) [] same = let no : ⊥ = omega arith in absurd no
  stretch_jobs (b ∷ bs) (s ∷ ss) same = ap (λ z. b.now ++ z) (stretch_jobs bs ss (omega arith))

  stretch_results : (bs : List (Bor (List J))) (ss : List (Option (Vec T))) → length ss ≡ length bs →
      flat_map (λ (s : Stretch J T). s.results) (stretches_of bs ss) ≡ flat_map results_of ss
  stretch_results [] [] same = refl
  stretch_results [] (s ∷ ss) same = let no : ⊥ = omega arith in absurd no
  stretch_results (b ∷ bs) [] same = let no : ⊥ = omega arith in absurd no
  stretch_results (b ∷ bs) (s ∷ ss) same = ap (λ z. results_of s ++ z) (stretch_results bs ss (omega arith))

  stretch_count : (bs : List (Bor (List J))) (ss : List (Option (Vec T))) → length ss ≡ length bs → length (stretches_of bs ss) ≡ length bs
  stretch_count [] ss same = refl
  stretch_count (b ∷ bs) [] same = let no : ⊥ = omega arith in absurd no
  stretch_count (b ∷ bs) (s ∷ ss) same = ap suc (stretch_count bs ss (omega arith))

  whole_block : (first last : W) (block : Bor (List J)) (s : Option (Vec T)) → IsSome s → ServesBlock gains first last block s →
      ServesEach gains first block.now (results_of s) last
  whole_block first last block None is h = absurd (cc)
  whole_block first last block (Some v) is h = h

  stretches_served : (bs : List (Bor (List J))) (ss : List (Option (Vec T))) → All IsSome ss → (first last : W) (ks : List ℕ)
      → ServesLines (ServesBlock gains) bs (λ k served. slice_get ss k ≡ Some served) first ks last → ServesStretches gains (stretches_of bs ss) first ks last
  stretches_served bs ss whole first last [] h = h
  stretches_served bs ss whole first last (k ∷ ks) (s, at, next, right, rest) = (
    record { jobs = right.job.now; results = results_of s },
    stretch_at bs ss k right.job s right.at at,
    next,
    whole_block first next right.job s
        (subst IsSome (get_or_from_slice_get ss k s s at) (whole k s (slice_get_within ss k s at))) right.right,
    stretches_served bs ss whole next last ks rest,
  )

  -- where all blocks have their results
  pub shared_out : (jobs : List J) (before after : List W) (bs : List (Bor (List J))) (ss : List (Option (Vec T))) (result : Result (Vec T) PoolFault)
      → flat_map jobs_of bs ≡ jobs → length ss ≡ length bs → IfOk result (λ v. v.items ≡ flat_map results_of ss) → OnOk result (All IsSome ss)
      → AreTurns (ServesBlock gains) bs before after (λ k served. slice_get ss k ≡ Some served)
      → IfOk result (λ v. AreSharedOut gains jobs before after v.items)
  shared_out jobs before after bs ss (Err e) cut same joined whole t = tt
  shared_out jobs before after bs ss (Ok v) cut same joined whole t = record {
    stretches = stretches_of bs ss;
    cut = stretch_jobs bs ss same ∙ cut;
    joined = stretch_results bs ss same ∙ sym joined;
    turns = t.turns;
    befores = t.befores;
    afters = t.afters;
    each = λ k d low. stretches_served bs ss whole _ _ _ (t.each k d low);
    once = λ k low. t.once k (subst (λ (n : ℕ). k < n) (stretch_count bs ss same) low);
  }
