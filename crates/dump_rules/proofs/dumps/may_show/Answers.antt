use Rattle.std.proofs.Common.{sym, ◌∙◌}
use Rattle.dump_rules.proofs.Showing.{shows_iff}
use Rattle.dump_rules.proofs.dumps.may_show.Goals as goal

pub returns : goal.returns
returns g c =
    let r = c.requires in
    let reach = r.1.1.1.1.1.1.1.0 c.if-not-judged.false in
    let i = shows_iff g.d c.args.places.now.events c.args.place c.args.multis.now.events c.args.multi_place r.1.1.0 r.1.1.1.0 r.1.1.1.1.0 r.1.1.1.1.1.0 reach.0 reach.1 c.args.what c.args.at c.args.bytes.now in (
      λ t. (c.has_size.ensures.0 c.if-not-has_size.false, λ healthy judged. i.0 (c.shows_all.ensures.0 t)),
      λ s. c.shows_all.ensures.1 (i.1 (s.1 (sym r.1.1.1.1.1.1.1.1 ∙ c.if-faulty.false) (r.1.1.1.1.1.1.0.0 c.if-not-judged.false))),
    )
