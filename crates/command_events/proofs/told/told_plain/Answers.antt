use Rattle.std.proofs.Common.{◌≡◌, true, List, sym, subst, ◌∙◌}
use Rattle.tx_events.specs.declared.event.Event.{Event}
use Rattle.report_law.specs.Kinds.{BeginAsTold}
use Rattle.command_events.specs.Told.{plain_events}
use Rattle.command_events.proofs.Alone.{has_plain, nothing_told, told_only}
use Rattle.command_events.proofs.told.told_plain.Goals as goal

pub returns-then-not-begin_as_told-clause-none : goal.returns-then-not-begin_as_told-clause-none
returns-then-not-begin_as_told-clause-none c =
    let are : c.in_ok-events.events.items ≡ plain_events c.args.line.now.by c.args.standing.now c.args.line.now.command c.args.line.now.reply = c.in_ok-events.ensures ∙ c.plain_event-event.ensures in
    nothing_told c.args.line.now.by c.args.standing.now c.args.line.now.command c.args.line.now.reply c.args.own.now c.in_ok-events.events.items
    (λ others h. (has_plain c.args.line.now.by c.args.standing.now c.args.line.now.command c.args.line.now.reply others c.requires).0 h ∙ sym are)
    (λ (b : BeginAsTold c.in_ok-events.events.items c.args.own.now). let t : c.begin_as_told.result ≡ true = c.begin_as_told.ensures.1 (subst (λ (e : List Event). BeginAsTold e c.args.own.now) (sym c.as_slice.ensures.value) b) in cc)

pub returns-clause-some : goal.returns-clause-some
returns-clause-some c =
    let are : c.in_ok-events.events.items ≡ plain_events c.args.line.now.by c.args.standing.now c.args.line.now.command c.args.line.now.reply = c.in_ok-events.ensures ∙ c.plain_event-event.ensures in
    told_only c.args.line.now.by c.args.standing.now c.args.line.now.command c.args.line.now.reply c.args.own.now c.in_ok-events.events.items
    ((has_plain c.args.line.now.by c.args.standing.now c.args.line.now.command c.args.line.now.reply c.in_ok-events.events.items c.requires).1 are)
    (λ others h. (has_plain c.args.line.now.by c.args.standing.now c.args.line.now.command c.args.line.now.reply others c.requires).0 h ∙ sym are)
    (subst (λ (e : List Event). BeginAsTold e c.args.own.now) c.as_slice.ensures.value (c.begin_as_told.ensures.0 c.if-not-begin_as_told.false))
