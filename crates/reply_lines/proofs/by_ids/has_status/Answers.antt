use Rattle.std.proofs.Common.{length}
use Rattle.report_law.specs.Steps.{IsStatusAt}
use Rattle.report_law.proofs.FrontsAtEvents.{status_whole}
use Rattle.reply_lines.specs.At.{base_of, history_of}
use Rattle.reply_lines.proofs.Spots.{asked, few_events, id_marks_here, its_places_here, its_within, lift}
use Rattle.reply_lines.proofs.by_ids.has_status.Goals as goal

pub places-requires : goal.places-requires
places-requires g c = few_events g.s c.args.known.now c.args.asking c.requires.0 c.args.asking.number c.args.asking.by (asked g.s c.args.known.now c.args.asking c.requires.0).number

pub is_status_at-requires : goal.is_status_at-requires
is_status_at-requires g c =
    (c.requires.1, (id_marks_here g.s c.args.known.now c.args.asking c.requires.0 c.as_slice.result.now c.as_slice.ensures.value, its_places_here g.s c.args.known.now c.args.asking c.requires.0 c.places.result.now c.places.ensures))

pub returns : goal.returns
returns g c =
    let s = g.s in
    let k = c.args.known.now in
    let a = c.args.asking in
    let n = length c.args.known.now.places.events in
    let r = c.requires.0 in
    lift s k a r (λ b h. IsStatusAt b g.s.at.j.begun.committed h g.s.asking.by c.args.x c.args.status) c.is_status_at.result
    (status_whole (base_of g.s) g.s.at.j.begun.committed (history_of g.s) n g.s.asking.by c.args.x c.args.status (its_within s k a r)) c.is_status_at.ensures
