-- What a stretch of a seat's list leaves of what was known before it: what every table of shared runs keeps.
use Rattle.bpf_model.proofs.Prelude.{◌≡◌, ℕ, ◌≤◌, arith, inl, inr, refl, List, [], ◌∷◌, ◌++◌}
use Rattle.read_table.proofs.Prelude.{IsLearnt, Knows, inside, IsSized, OnlySearches, table_of}
use Rattle.world_laws.proofs.Prelude.{regions}
use Rattle.read_table.specs.declared.view.Move.{Move}
use Rattle.read_table.specs.declared.view.Move.TheVariants.{Close, Header, Learn, Load, Open, Scan, Store}
use Rattle.read_table.specs.declared.view.TableShape.{TableShape}
use Rattle.shared_runs.specs.Tables.{IsSmall, IsTable}

-- a lookup forgets nothing
knows-before : (k : TableShape) (slot header : ℕ) (ns ms : List Move) → OnlySearches k ns → Knows slot header ms → Knows slot header (ns ++ ms)
knows-before k slot header [] ms s h = h
knows-before k slot header (Open ∷ ns) ms s h = absurd s
knows-before k slot header (Close ∷ ns) ms s h = absurd s
knows-before k slot header (Learn t w ∷ ns) ms s h = inr (knows-before k slot header ns ms s h)
knows-before k slot header (Load t p w ∷ ns) ms s h = knows-before k slot header ns ms s.1 h
knows-before k slot header (Store t p w ∷ ns) ms s h = absurd s
knows-before k slot header (Header t w ∷ ns) ms s h = absurd s
knows-before k slot header (Scan r w ∷ ns) ms s h = absurd s

learnt-before : (k : TableShape) (slot : ℕ) (ns ms : List Move) → OnlySearches k ns → IsLearnt slot ms → IsLearnt slot (ns ++ ms)
learnt-before k slot ns ms s h = (h.0, knows-before k slot h.0 ns ms s h.1)

-- what is known by a stretch is known by the whole
knows-in : (slot header : ℕ) (ns ms : List Move) → Knows slot header ns → Knows slot header (ns ++ ms)
knows-in slot header [] ms h = absurd h
knows-in slot header (Open ∷ ns) ms h = absurd h
knows-in slot header (Close ∷ ns) ms h = absurd h
knows-in slot header (Learn t w ∷ ns) ms (inl h) = inl h
knows-in slot header (Learn t w ∷ ns) ms (inr h) = inr (knows-in slot header ns ms h)
knows-in slot header (Load t p w ∷ ns) ms h = knows-in slot header ns ms h
knows-in slot header (Store t p w ∷ ns) ms h = knows-in slot header ns ms h
knows-in slot header (Header t w ∷ ns) ms h = knows-in slot header ns ms h
knows-in slot header (Scan r w ∷ ns) ms h = knows-in slot header ns ms h

learnt-in : (slot : ℕ) (ns ms : List Move) → IsLearnt slot ns → IsLearnt slot (ns ++ ms)
learnt-in slot ns ms h = (h.0, knows-in slot h.0 ns ms h.1)

-- a lookup stays in its section
inside-same : (k : TableShape) (ns ms : List Move) → OnlySearches k ns → inside (ns ++ ms) ≡ inside ms
inside-same k [] ms s = refl
inside-same k (Open ∷ ns) ms s = absurd s
inside-same k (Close ∷ ns) ms s = absurd s
inside-same k (Learn t w ∷ ns) ms s = inside-same k ns ms s
inside-same k (Load t p w ∷ ns) ms s = inside-same k ns ms s.1
inside-same k (Store t p w ∷ ns) ms s = absurd s
inside-same k (Header t w ∷ ns) ms s = absurd s
inside-same k (Scan r w ∷ ns) ms s = absurd s

-- a run's list begins outside every section
inside-over : (ms before : List Move) → inside before ≡ 0 → inside (ms ++ before) ≡ inside ms
inside-over [] before h = h
inside-over (Open ∷ ms) before h = refl
inside-over (Close ∷ ms) before h = refl
inside-over (Learn t w ∷ ms) before h = inside-over ms before h
inside-over (Load t p w ∷ ms) before h = inside-over ms before h
inside-over (Store t p w ∷ ms) before h = inside-over ms before h
inside-over (Header t w ∷ ms) before h = inside-over ms before h
inside-over (Scan r w ∷ ms) before h = inside-over ms before h

pub is_table : (k : TableShape) → IsTable (table_of k)
is_table k = record {
  kept_key = λ map shape kept. kept.0;
  kept_value = λ map shape kept. let long = kept.1 in omega (arith, long);
  outside = refl;
  begun = λ ms. refl;
  ended = λ ms. refl;
  find_inside = λ slot place word ms. refl;
  find_holds = λ slot place word other ms h. h;
  write_inside = λ slot place word ms. refl;
  write_holds = λ slot place word other ms h. h;
  lookup_inside = λ map key ns ms found l. inside-same k ns ms l.0;
  lookup_holds = λ map key ns ms found l other h. learnt-before k other ns ms l.0 h;
  hit_within = λ map key ns slot l. l.1.0;
  hit_holds = λ map key ns ms slot l. learnt-in slot ns ms l.1.1;
  holds_over = λ slot ms before h. learnt-in slot ms before h;
  inside_over = inside-over;
}

few : (k : TableShape) → IsSized k → k.slots ≤ regions
few k sized = let slots = sized.slots in omega (arith, slots)

pub small : (k : TableShape) → IsSized k → IsSmall (table_of k)
small k sized = let value = sized.value in record { few = few k sized; short = omega (arith, value) }
