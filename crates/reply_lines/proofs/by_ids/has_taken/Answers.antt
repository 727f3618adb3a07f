use Rattle.std.proofs.Common.{◌≡◌, ◌↔◌, ℕ, List, Option, length, subst, sym, take}
use Rattle.std.specs.Prelude.{IsTrue}
use Rattle.history_places.specs.declared.snaps.SnapMark.{SnapMark}
use Rattle.tx_events.specs.Snapshots.{snapshot_data}
use Rattle.history_places.specs.SnapMarks.{AreSnapMarks}
use Rattle.report_law.specs.Kinds.{IsSnapAt}
use Rattle.event_rules.specs.SnapsTold.{told_by}
use Rattle.place_rules.specs.Runs.{AreItsPlaces}
use Rattle.reply_lines.specs.declared.known.Known.{Known}
use Rattle.report_law.proofs.FrontsAtEvents.{snapped_whole}
use Rattle.reply_lines.specs.At.{base_of, history_of}
use Rattle.reply_lines.proofs.Spots.{asked, few_events, its_places_here, its_within, lift}
use Rattle.reply_lines.proofs.by_ids.has_taken.Goals as goal

pub places-requires : goal.places-requires
places-requires g c = few_events g.s.spot c.args.known.now c.args.asking c.requires.0 c.args.asking.number c.args.asking.by (asked g.s.spot c.args.known.now c.args.asking c.requires.0).number

pub is_snapped-requires : goal.is_snapped-requires
is_snapped-requires g c =
    let s = g.s.spot in
    let k = c.args.known.now in
    let r = c.requires.0 in
    (subst (λ (m : Known). AreItsPlaces m.places.events s.asking.by c.places.result.now) (sym r.known_is) (its_places_here s k c.args.asking r c.places.result.now c.places.ensures), (subst (λ (m : Known). AreSnapMarks s.at.j.begun.counters.next m.places.events (told_by s.at.j) c.as_slice.result.now) (sym r.known_is) (subst (λ (t : List (Option SnapMark)). AreSnapMarks s.at.j.begun.counters.next k.places.events (told_by s.at.j) t) (sym c.as_slice.ensures.value) (asked s k c.args.asking r).known.snaps), c.requires.1.1))

pub returns : goal.returns
returns g c =
    let s = g.s.spot in
    let k = c.args.known.now in
    let a = c.args.asking in
    let r = c.requires.0 in
    let n = length c.args.known.now.places.events in
    lift s k a r (λ b h. (place : ℕ) × IsSnapAt h g.s.spot.asking.by place × (g.s.lists ≡ snapshot_data (base_of g.s.spot).next (take place h))) c.is_snapped.result
    (snapped_whole (base_of s) (history_of s) n s.asking.by g.s.lists (its_within s k a r))
    (subst (λ (m : Known). IsTrue c.is_snapped.result ↔ ((place : ℕ) × IsSnapAt m.places.events g.s.spot.asking.by place × (g.s.lists ≡ snapshot_data (base_of g.s.spot).next (take place m.places.events)))) r.known_is c.is_snapped.ensures)
