use Rattle.reply_lines.proofs.Spots.{asked, few_multis, multi_places_all}
use Rattle.reply_lines.proofs.by_multis.has_pinned.Goals as goal

pub places-requires : goal.places-requires
places-requires g c = few_multis g.s c.args.known.now c.args.asking c.requires.0

pub is_pinned_or_next-requires : goal.is_pinned_or_next-requires
is_pinned_or_next-requires g c =
    ((asked g.s c.args.known.now c.args.asking c.requires.0).known.counts, (c.requires.1, multi_places_all g.s c.args.known.now c.args.asking c.requires.0 c.places.result.now c.places.ensures))
