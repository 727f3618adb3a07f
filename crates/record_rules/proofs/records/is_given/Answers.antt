use Rattle.std.proofs.Common.{◌≡◌, ◌<◌, ◌≤◌, ◌-◌, List, length, get_or, subst, arith}
use Rattle.std.proofs.lemmas.Bool.{false≢true}
use Rattle.tx_events.specs.declared.multi.MultiEvent.{MultiEvent}
use Rattle.place_columns.specs.Columns.{IsWhere}
use Rattle.history_places.specs.MultiTold.{next_in}
use Rattle.history_places.specs.Starts.{BeginsAs}
use Rattle.record_rules.proofs.Given.{given_iff, never_given, none_given}
use Rattle.record_rules.proofs.records.is_given.Goals as goal

pub returns-then-end-eq0 : goal.returns-then-end-eq0
returns-then-end-eq0 c =
    let m = c.args.multis.now in
    let is = subst (λ n. IsWhere (next_in m.base) m.events n c.where_next-end.result) c.number.ensures.value c.where_next-end.ensures in (
      λ t. absurd (false≢true t),
      λ x. absurd (none_given m.base (BeginsAs m.starts) m.events c.args.multi c.args.offset c.args.members.now c.where_next-end.result c.events-events.ensures.legal is c.if-end-eq0.true x.0 x.1),
    )

pub returns-then-end-events : goal.returns-then-end-events
returns-then-end-events c =
    let m = c.args.multis.now in
    let is = subst (λ n. IsWhere (next_in m.base) m.events n c.where_next-end.result) c.number.ensures.value c.where_next-end.ensures in
    let past : length m.events < c.where_next-end.result.end = subst (λ (h : List MultiEvent). length h < c.where_next-end.result.end) c.events-events.ensures.value c.if-end-events.true in (
      λ t. absurd (false≢true t),
      λ x. absurd (never_given m.base (BeginsAs m.starts) m.events c.args.multi c.args.offset c.args.members.now c.where_next-end.result c.events-events.ensures.legal is c.if-end-eq0.false past x.0 x.1),
    )

pub returns : goal.returns
returns c =
    let m = c.args.multis.now in
    let span = c.where_next-end.result in
    let e = c.index-events-end.result in
    let is = subst (λ n. IsWhere (next_in m.base) m.events n span) c.number.ensures.value c.where_next-end.ensures in
    let within : span.end ≤ length m.events = subst (λ (h : List MultiEvent). span.end ≤ length h) c.events-events.ensures.value c.if-end-events.false in
    let there : e ≡ get_or m.events (span.end - 1) e = subst (λ (h : List MultiEvent). e ≡ get_or h (span.end - 1) e) c.events-events.ensures.value c.index-events-end.is in
    let some : 0 < span.end = omega (arith, c.if-end-eq0.false) in
    given_iff m.base (BeginsAs m.starts) m.events c.args.multi c.args.offset c.args.members.now span c.events-events.ensures.legal is e c.is_gen_of.result some within there c.is_gen_of.ensures
