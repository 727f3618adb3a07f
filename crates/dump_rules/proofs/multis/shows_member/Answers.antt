use Rattle.std.proofs.Common.{◌≡◌, arith}
use Rattle.tx_events.specs.Ids.{low_half}
use Rattle.tx_events.specs.Pages.{member_page}
use Rattle.dump_rules.proofs.Dumped.{member_shown}
use Rattle.dump_rules.proofs.multis.shows_member.Goals as goal

pub returns : goal.returns
returns g c =
    let given = c.is_given_to.ensures.0 c.if-not-is_given_to.false in
    let page : member_page (low_half c.args.offset) ≡ c.args.page = (let p = c.member_page.ensures.page in let l = c.low.ensures in omega arith) in
    let i = member_shown g.b c.args.gens.now c.requires.1.0 c.args.at c.args.bytes.now c.args.page c.args.offset c.count_upto-count.result _ c.count_upto-count.ensures.bound (omega arith) c.count_upto-count.ensures.last c.args.multi_place c.requires.1.1 given.0 given.1 c.if-offset-g.false page in
    (λ t. i.0 (c.shows_member_of.ensures.0 t), λ s. c.shows_member_of.ensures.1 (i.1 s))
