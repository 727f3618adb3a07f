use Rattle.std.proofs.Common.{◌≡◌, ◌≤◌, arith, length, map, subst, sym}
use Rattle.tx_events.specs.Multis.{multi_by}
use Rattle.place_columns.specs.Owned.{own_of}
use Rattle.multi_rules.specs.MultiReadings.{IsMultiReading, span_of}
use Rattle.reply_lines.specs.declared.known.Known.{Known}
use Rattle.reply_lines.proofs.Askings.{its_links, its_list}
use Rattle.reply_lines.proofs.reading.multi_reading_at.Goals as goal

pub index-requires-2 : goal.index-requires-2
index-requires-2 g c =
    let size = c.requires.1.0.links.size in
    let all = c.requires.1.0.multi_turns.size in
    let few = c.requires.1.1.0 in
    omega (arith, c.args.known.now.multi_links.ok.0)

pub multi_reading_of-requires : goal.multi_reading_of-requires
multi_reading_of-requires g c =
    let k = c.args.known.now in
    let known = c.requires.1.0 in
    let few = c.requires.1.1.0 in
    let all = known.multi_turns.size in
    let own = its_list (map multi_by k.multi_places.events) k.multi_turns.items c.args.by.session c.index.result.now c.as_slice.result.now known.multi_turns few c.index.ensures c.as_slice.ensures.value in
    let links = its_links k.multi_turns.items k.multi_links.items c.args.by.session c.index.result.now c.index-2.result.now c.as_slice.result.now c.as_slice-2.result.now known.links (omega arith) c.index.ensures c.index-2.ensures c.as_slice.ensures.value c.as_slice-2.ensures.value in
    (subst (λ (m : Known). c.as_slice.result.now ≡ own_of c.args.by.session (map multi_by m.multi_places.events)) (sym c.requires.0) own, (links.0, (links.1, c.requires.1.1.1)))

pub returns : goal.returns
returns g c = subst (λ (m : Known). IsMultiReading m.multi_places.events (span_of c.args.start c.args.to) c.args.by c.multi_reading_of.result) c.requires.0 c.multi_reading_of.ensures
