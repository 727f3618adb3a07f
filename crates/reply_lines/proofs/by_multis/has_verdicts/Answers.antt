use Rattle.std.proofs.Common.{◌↔◌, List, length, subst, sym, take}
use Rattle.std.specs.Prelude.{IsTrue}
use Rattle.tx_events.specs.declared.multi.MultiEvent.{MultiEvent}
use Rattle.tx_model.specs.Replies.{taken_by}
use Rattle.multi_rules.specs.Snapped.{AreTaken}
use Rattle.multi_rules.specs.Stored.{AreHomes}
use Rattle.multi_rules.specs.declared.homes.Home.{Home}
use Rattle.report_law.specs.MultiLines.{AreVerdicts}
use Rattle.reply_lines.specs.At.{base_of, history_of, multis_of_life, round_of}
use Rattle.reply_lines.proofs.Spots.{asked, few_multis, fits, its_multis_within, lift_both, multi_places_here, taken_there, within_of}
use Rattle.report_law.proofs.FrontsOfMultis.{verdicts_whole}
use Rattle.reply_lines.proofs.by_multis.has_verdicts.Goals as goal

pub places-requires : goal.places-requires
places-requires g c = few_multis g.s.spot c.args.known.now c.args.asking c.requires.0

pub are_verdicts-requires : goal.are_verdicts-requires
are_verdicts-requires g c =
    let s = g.s.spot in
    let k = c.args.known.now in
    let a = c.args.asking in
    let r = c.requires.0 in
    let x = asked s k a r in
    let by = taken_by s.asking.by g.s.number in
    let taken : AreTaken k.places.base.next k.places.events by c.taken_in.result.now = taken_there s k a r c.line_of-line.result by c.as_slice-2.result.now c.taken_in.result.now c.line_of-line.ensures c.as_slice-2.ensures.value c.taken_in.ensures in
    (c.requires.1.0.committed, (subst (λ (t : List Home). AreHomes c.args.lives.now s.at.j.begun.recorded t) (sym c.as_slice.ensures.value) c.requires.1.0.homes, (taken, (multi_places_here s k a r c.places.result.now c.places.ensures, (x.to, x.within)))))

pub returns : goal.returns
returns g c =
    let s = g.s.spot in
    let k = c.args.known.now in
    let a = c.args.asking in
    let r = c.requires.0 in
    let f = (asked s k a r).known.multi_front in
    let n = length c.args.known.now.places.events in
    let m = length c.args.known.now.multi_places.events in
    let both = verdicts_whole (base_of s) s.at.j.begun.committed s.at.j.begun.recorded (history_of s) n (multis_of_life s) m (round_of s) s.asking.by g.s.number c.args.verdicts.now (fits s k a r) (within_of s k a r (taken_by s.asking.by g.s.number) c.requires.1.1.1) (its_multis_within s k a r) in
    let first : IsTrue c.are_verdicts.result ↔ AreVerdicts k.places.base s.at.j.begun.committed s.at.j.begun.recorded k.places.events (take m (multis_of_life s)) (round_of s) s.asking.by g.s.number c.args.verdicts.now =
    subst (λ (t : List MultiEvent). IsTrue c.are_verdicts.result ↔ AreVerdicts k.places.base s.at.j.begun.committed s.at.j.begun.recorded k.places.events t (round_of s) s.asking.by g.s.number c.args.verdicts.now) f.events_are c.are_verdicts.ensures in
    lift_both s k a r (λ b h. AreVerdicts b s.at.j.begun.committed s.at.j.begun.recorded h (take m (multis_of_life s)) (round_of s) s.asking.by g.s.number c.args.verdicts.now)
    (AreVerdicts (base_of s) s.at.j.begun.committed s.at.j.begun.recorded (history_of s) (multis_of_life s) (round_of s) s.asking.by g.s.number c.args.verdicts.now) c.are_verdicts.result both first
