use Rattle.std.proofs.Common.{◌≡◌, ◌-◌, Some, None, sym, subst, ◌∙◌, refl}
use Rattle.tx_events.specs.Ids.{low_half}
use Rattle.tx_events.specs.Modes.{mode_number}
use Rattle.tx_events.specs.declared.multi.Member.{Member}
use Rattle.tx_events.specs.Pages.{id_at, member_place, mode_at}
use Rattle.report_law.specs.Dumps.{HasByte, HasWord}
use Rattle.dump_rules.specs.Shown.{member_in}
use Rattle.dump_rules.proofs.Dumped.{event_is, is_member, member_is}
use Rattle.dump_rules.proofs.multis.shows_member_of.Goals as goal

pub returns-in-Some : goal.returns-in-Some
returns-in-Some g c =
    let mark = c.requires.1.0 in
    let o = c.args.offset in
    let e = c.index-events-g.result in
    let stands = event_is g.b c.args.events.now c.args.g e mark c.requires.0 c.index-events-g.is in
    let is : member_in e (o - c.args.g.offset) ≡ Some c.in-Some.m = sym c.member_in.ensures ∙ c.in-Some.is in (
      λ t members m by s a.
          let both : Some c.in-Some.m ≡ Some m = sym is ∙ member_is g.b.multis c.args.at c.args.bytes.now c.args.g o e stands by members m s a in
          let same : c.in-Some.m ≡ m = cc in
          subst (λ (k : Member). HasByte c.args.at c.args.bytes.now (mode_at (member_place (low_half o))) (mode_number k.mode) × HasWord c.args.at c.args.bytes.now (id_at (member_place (low_half o))) (low_half k.id)) same (c.has_member.ensures.0 t),
      λ s. c.has_member.ensures.1 (s mark.members c.in-Some.m mark.by mark.stands (is_member g.b.multis c.args.at c.args.bytes.now c.args.g o e stands mark.by mark.members c.in-Some.m mark.stands is)),
    )

pub returns-in-None : goal.returns-in-None
returns-in-None g c =
    let mark = c.requires.1.0 in
    let o = c.args.offset in
    let e = c.index-events-g.result in
    let stands = event_is g.b c.args.events.now c.args.g e mark c.requires.0 c.index-events-g.is in
    let is : member_in e (o - c.args.g.offset) ≡ None = sym c.member_in.ensures ∙ c.in-None.is in (
      λ t members m by s a.
          let both : Some m ≡ None = sym (member_is g.b.multis c.args.at c.args.bytes.now c.args.g o e stands by members m s a) ∙ is in
          absurd cc,
      λ s. refl,
    )
