use Rattle.table_words.proofs.Prelude.{rules, refl, ◌≡◌, ◌*◌, length, ap, sym, subst, IsSettled, ℕ}
use Rattle.map_table.proofs.Prelude.{View, HasSeated}
use Rattle.atomic_table.specs.Table.{Me}
use Rattle.map_table.proofs.Lost.{first_none_lost}
use Rattle.map_table.proofs.Seen.{sightings_first}
use Rattle.map_table.proofs.Unlinking.{begins, at_most}
use Rattle.map_table.proofs.writer.Writer.begin.Goals as goal

pub invariant_of-result : goal.invariant_of-result
invariant_of-result c =
    let w = c.requires.writer in
    let view = ap (λ (m : Me ℕ View). m.0) w in
    let elements = ap (λ (v : View). v.shape.elements) view in
    let ways = c.in_ok-ways.ensures in
    let len : length c.in_ok-ways.ways.items ≡ c.args.shape.buckets * 8 = search rules in
    let room : length c.in_ok-seen.seen.items ≡ c.args.shape.readers = search rules in (
      begins _ c.args.seated c.args.shape c.in_ok-ways.ways.items _ _
          view c.requires.sized len ways.zeros c.in_ok-free.ensures.numbers c.in_ok-unlinked.ensures.items,
      ap (λ (m : Me ℕ View). m.1) w,
      at_most _ _ _ elements c.in_ok-free.ensures.capacity,
      at_most _ _ _ elements c.in_ok-unlinked.ensures.capacity,
      sightings_first _ c.args.seated c.args.shape _ _ view room c.in_ok-seen.ensures.none c.in_ok-unlinked.ensures.items,
      first_none_lost _ c.args.seated c.args.shape _ _ view c.in_ok-free.ensures.numbers,
      subst (λ (z : View). IsSettled z.mine) (sym view) (λ f t m. m),
      subst (λ (z : View). HasSeated z c.args.seated) (sym view) record { next = refl; within = c.requires.within },
    )
