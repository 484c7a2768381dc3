use Rattle.table_words.proofs.Prelude.{◌≡◌, ◌<◌, sym, ap, ◌∙◌, subst, arith, length, get_or_default}
use Rattle.map_table.proofs.Prelude.{TableShape, Sighting, no_sighting, sighting_at, IsNoted}
use Rattle.map_table.proofs.Seen.{set_here, sightings_looked}
use Rattle.map_table.proofs.sightings.look_at.Goals as goal

pub returns-clause-seen : goal.returns-clause-seen
returns-clause-seen c =
    let within : c.args.reader < c.args.seat.now.me.0.shape.readers =
    subst (λ (k : TableShape). c.args.reader < k.readers) (sym c.requires.table.1) c.requires.reader in
    let room = c.requires.seen.room in
    let at : c.index.result.now ≡ sighting_at c.args.seen.now.items c.args.reader =
    c.index.ensures ∙ get_or_default c.args.seen.now.items c.args.reader c.index.result.now no_sighting (omega (arith, room, within)) in
    sightings_looked c.args.seat.now.me.0 c.scan-word.new.seat.me.0 c.args.reader c.scan-word.result c.args.unlinked.now c.args.seen.now.items
    c.after_look.result within c.scan-word.ensures.step
    (subst (λ s. IsNoted s c.scan-word.result (length c.args.unlinked.now) c.after_look.result) at c.after_look.ensures) c.requires.seen

pub returns-clause-noted : goal.returns-clause-noted
returns-clause-noted c = λ even.
    let within : c.args.reader < c.args.seat.now.me.0.shape.readers =
    subst (λ (k : TableShape). c.args.reader < k.readers) (sym c.requires.table.1) c.requires.reader in
    let room = c.requires.seen.room in
    let here = set_here c.args.seen.now.items c.args.reader c.after_look.result (omega (arith, room, within)) in
    ap (λ (s : Sighting). s.cleared) here ∙ c.after_look.ensures.outside even
