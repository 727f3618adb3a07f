use Rattle.std.proofs.Common.{subst, sym, ◌∙◌}
use Rattle.multi_rules.specs.Gens.{AreStartsOf}
use Rattle.reply_lines.proofs.Spots.{asked, by_is, few_multis, multi_places_all}
use Rattle.reply_lines.proofs.by_multis.is_waited_for.Goals as goal

pub places-requires : goal.places-requires
places-requires g c = few_multis g.s c.args.known.now c.args.asking c.requires.0

pub is_not_yet-requires : goal.is_not_yet-requires
is_not_yet-requires g c =
    let k = c.args.known.now in
    let a = c.args.asking in
    let x = asked g.s k a c.requires.0 in
    let w = x.known in
    (w.multi_front.base_is, (w.counts, (c.requires.1.1, (c.as_slice.ensures.value ∙ w.oks, (w.multi_front.events_are, (w.late, (subst (AreStartsOf g.s.at.j.begun.recorded) (sym c.as_slice-2.ensures.value) c.requires.1.0.1.starts, (multi_places_all g.s k a c.requires.0 c.places.result.now c.places.ensures, ((x.multi_from, x.multi_to, x.multi_within), sym (by_is g.s k a c.requires.0))))))))))
