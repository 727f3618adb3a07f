use Rattle.std.proofs.Common.{List, refl, sym, ap, ◌∙◌, drop, ◌≡◌}
use Rattle.std.proofs.lemmas.List.{take_rest}
use Rattle.tx_events.specs.Multis.{multi_by}
use Rattle.tx_events.specs.declared.multi.MultiEvent.{MultiEvent}
use Rattle.report_text.specs.Words.{name_at}
use Rattle.report_read.specs.Item as items
use Rattle.report_read.specs.Grammar.{after, may_stand}
use Rattle.report_words.proofs.Places.{place_again}
use Rattle.report_read.proofs.Noting.{place_noted}
use Rattle.report_read.proofs.Standing.{multi_within, plain_taken}
use Rattle.report_read.proofs.take.take_multi_line.Goals as goal

pub returns-in_ok-push-in-Some-clause-taken : goal.returns-in_ok-push-in-Some-clause-taken
returns-in_ok-push-in-Some-clause-taken c =
    let t = c.args.told.now in
    let e = c.in-Some.event in
    let f = (rw c.in-Some.is at c.in_ok-event.ensures) in
    let s = (multi_by e).session in
    let within = multi_within t.names e f.fit in
    plain_taken t (items.multi e) _ (drop 1 c.args.line.now) (ap (may_stand (items.multi e)) c.requires.stage)
    (record { within = within; noted = place_noted t.names (name_at t.names s) s (place_again t.names s c.requires.few.are.distinct within); few = c.requires.few.few; are = c.requires.few.are }, f.fit)
    (sym (take_rest c.args.line.now 1) ∙ f.text) refl
    (ap (λ (es : List MultiEvent). record t { multis = es }) c.in_ok-push-in-Some.ensures.ok)
