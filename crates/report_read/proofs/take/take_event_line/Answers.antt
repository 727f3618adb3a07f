use Rattle.std.proofs.Common.{List, refl, sym, ap, ◌∙◌, drop, ◌≡◌}
use Rattle.std.proofs.lemmas.List.{take_rest}
use Rattle.tx_events.specs.Events.{by_of}
use Rattle.tx_events.specs.declared.event.Event.{Event}
use Rattle.report_text.specs.Words.{name_at}
use Rattle.report_read.specs.Item as items
use Rattle.report_read.specs.Grammar.{after, may_stand}
use Rattle.report_words.proofs.Places.{place_again}
use Rattle.report_read.proofs.Noting.{place_noted}
use Rattle.report_read.proofs.Standing.{event_within, plain_taken}
use Rattle.report_read.proofs.take.take_event_line.Goals as goal

pub returns-in_ok-push-in-Some-clause-taken : goal.returns-in_ok-push-in-Some-clause-taken
returns-in_ok-push-in-Some-clause-taken c =
    let t = c.args.told.now in
    let e = c.in-Some.event in
    let f = c.in-Some.ensures in
    let s = (by_of e).session in
    let within = event_within t.names e f.fit in
    plain_taken t (items.event e) _ (drop 1 c.args.line.now) (ap (may_stand (items.event e)) c.requires.stage)
    (record { within = within; noted = place_noted t.names (name_at t.names s) s (place_again t.names s c.requires.few.are.distinct within); few = c.requires.few.few; are = c.requires.few.are }, f.fit)
    (sym (take_rest c.args.line.now 1) ∙ f.text) refl
    (ap (λ (es : List Event). record t { events = es }) c.in_ok-push-in-Some.ensures.ok)
