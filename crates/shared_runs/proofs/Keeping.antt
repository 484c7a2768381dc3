-- A map table keeps what every table of shared runs keeps.
use Rattle.bpf_model.proofs.Prelude.{◌≡◌, ℕ, ◌≤◌, ◌*◌, ◌∙◌, sym, ap, arith, List, [], ◌∷◌, ◌++◌, inl, inr, refl, Option}
use Rattle.table_words.proofs.Prelude.{inside, Holds}
use Rattle.map_table.proofs.Prelude.{Move, Open, Close, Learn, Load, Store, Put, Double, Scan, TableShape, IsSized}
use Rattle.world_laws.proofs.Prelude.{regions}
use Rattle.map_table.proofs.Lookups.{only_holds, only_inside, found_holds}
use Rattle.shared_runs.specs.Tables.{IsSmall, IsTable}
use Rattle.shared_runs.specs.declared.maps.named_map.NamedMap.{NamedMap}
use Rattle.shared_runs.specs.Named.{key_words_in, named_table_of}
use Rattle.shared_runs.specs.MapTables.{table_of}

-- what is held by some moves is held by those and others before them
holds_over : (element : ℕ) (ms before : List Move) → Holds element ms → Holds element (ms ++ before)
holds_over element [] before h = absurd h
holds_over element (Open ∷ ms) before h = absurd h
holds_over element (Close ∷ ms) before h = absurd h
holds_over element (Learn way x ∷ ms) before (inl h) = inl h
holds_over element (Learn way x ∷ ms) before (inr h) = inr (holds_over element ms before h)
holds_over element (Load e p x ∷ ms) before h = holds_over element ms before h
holds_over element (Store e p x ∷ ms) before h = holds_over element ms before h
holds_over element (Put way x ∷ ms) before h = holds_over element ms before h
holds_over element (Double f way x ∷ ms) before h = holds_over element ms before h
holds_over element (Scan r x ∷ ms) before h = holds_over element ms before h

-- a run's list begins outside every section
inside_over : (ms before : List Move) → inside before ≡ 0 → inside (ms ++ before) ≡ inside ms
inside_over [] before h = h
inside_over (Open ∷ ms) before h = refl
inside_over (Close ∷ ms) before h = refl
inside_over (Learn way x ∷ ms) before h = inside_over ms before h
inside_over (Load e p x ∷ ms) before h = inside_over ms before h
inside_over (Store e p x ∷ ms) before h = inside_over ms before h
inside_over (Put way x ∷ ms) before h = inside_over ms before h
inside_over (Double f way x ∷ ms) before h = inside_over ms before h
inside_over (Scan r x ∷ ms) before h = inside_over ms before h

pub is_table : (k : TableShape) (first : ℕ) → IsTable (table_of k first)
is_table k first = record {
  kept_key = λ map shape kept. kept.0;
  kept_value = λ map shape kept. let long = kept.1 in omega (arith, long);
  outside = refl;
  begun = λ ms. refl;
  ended = λ ms. refl;
  find_inside = λ element place word ms. refl;
  find_holds = λ element place word other ms h. h;
  write_inside = λ element place word ms. refl;
  write_holds = λ element place word other ms h. h;
  lookup_inside = λ map bytes ns ms found l. only_inside k ns ms l.looked.only;
  lookup_holds = λ map bytes ns ms found l other h. only_holds k other ns ms l.looked.only h;
  hit_within = λ map bytes ns element l. l.within;
  hit_holds = λ map bytes ns ms element l. found_holds k l.key l.looked.answers.0.0 element ns ms l.looked.only l.looked.answers.0.2;
  holds_over = holds_over;
  inside_over = inside_over;
}

pub small : (k : TableShape) (first : ℕ) → IsSized k → k.elements ≤ regions → IsSmall (table_of k first)
small k first sized few = let value = sized.value in record { few = few; short = omega (arith, value) }

-- and so does one of several maps
pub is_named_table : (k : TableShape) (maps : List NamedMap) (first : ℕ) → IsTable (named_table_of k maps first)
is_named_table k maps first = record {
  kept_key = λ map shape kept. kept.2.lengths.0 ∙ sym (ap (λ (named : Option NamedMap). 8 * key_words_in named) kept.1);
  kept_value = λ map shape kept. let long = kept.2.lengths.1 in let room = kept.2.value in omega (arith, long, room);
  outside = refl;
  begun = λ ms. refl;
  ended = λ ms. refl;
  find_inside = λ element place word ms. refl;
  find_holds = λ element place word other ms h. h;
  write_inside = λ element place word ms. refl;
  write_holds = λ element place word other ms h. h;
  lookup_inside = λ map bytes ns ms found l. only_inside k ns ms l.looked.only;
  lookup_holds = λ map bytes ns ms found l other h. only_holds k other ns ms l.looked.only h;
  hit_within = λ map bytes ns element l. l.within;
  hit_holds = λ map bytes ns ms element l. found_holds k l.key l.looked.answers.0.0 element ns ms l.looked.only l.looked.answers.0.2;
  holds_over = holds_over;
  inside_over = inside_over;
}

pub small_named : (k : TableShape) (maps : List NamedMap) (first : ℕ) → IsSized k → k.elements ≤ regions → IsSmall (named_table_of k maps first)
small_named k maps first sized few = let value = sized.value in record { few = few; short = omega (arith, value) }
