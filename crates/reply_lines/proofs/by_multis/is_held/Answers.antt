use Rattle.std.proofs.Common.{◌↔◌, ◌≤◌, List, length, subst, sym, arith}
use Rattle.multi_rules.specs.declared.limits.LimitAt.{LimitAt}
use Rattle.std.specs.Prelude.{IsTrue}
use Rattle.report_law.specs.MultiLines.{IsHeldBack}
use Rattle.report_law.proofs.FrontsOfMultis.{held_all}
use Rattle.multi_rules.specs.Limits.{AreHeldLimits}
use Rattle.reply_lines.specs.declared.known.Known.{Known}
use Rattle.reply_lines.specs.At.{base_of, multi_round_of, multis_of_life}
use Rattle.reply_lines.proofs.Spots.{asked, lift_multis, multi_fits}
use Rattle.reply_lines.proofs.by_multis.is_held.Goals as goal

pub is_held_back-requires : goal.is_held_back-requires
is_held_back-requires g c =
    let s = g.s in
    let k = c.args.known.now in
    let r = c.requires in
    let t = c.read_before-read.ensures.to in
    let f = multi_fits s k c.args.asking r in
    let inside : c.read_before-read.result.to ≤ length k.multi_places.events = omega arith in
    (subst (λ (m : Known). AreHeldLimits (base_of s) m.multi_places.events c.as_slice.result.now) (sym r.known_is) (subst (λ (t : List LimitAt). AreHeldLimits (base_of s) k.multi_places.events t) (sym c.as_slice.ensures.value) (asked s k c.args.asking r).known.held), (λ p. c.read_before-read.ensures.read p, subst (λ (m : Known). c.read_before-read.result.to ≤ length m.multi_places.events) (sym r.known_is) inside))

pub returns : goal.returns
returns g c =
    let s = g.s in
    let k = c.args.known.now in
    let a = c.args.asking in
    let n = length c.args.known.now.multi_places.events in
    let r = c.requires in
    lift_multis s k a r (λ b h. IsHeldBack (base_of g.s) h (multi_round_of g.s) g.s.asking.by c.args.multi c.args.limit) c.is_held_back.result
    (held_all (multis_of_life g.s) n (multi_round_of g.s) (multi_fits s k a r) (base_of g.s) g.s.asking.by c.args.multi c.args.limit)
    (subst (λ (m : Known). IsTrue c.is_held_back.result ↔ IsHeldBack (base_of g.s) m.multi_places.events (multi_round_of g.s) g.s.asking.by c.args.multi c.args.limit) r.known_is c.is_held_back.ensures)
