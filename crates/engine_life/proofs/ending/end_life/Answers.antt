use Rattle.std.proofs.Common.{List, ap, subst, ℕ, ◌++◌, ◌∙◌, ◌≡◌}
use Rattle.tx_events.specs.declared.event.Event.{Event}
use Rattle.tx_events.specs.declared.multi.MultiEvent.{MultiEvent}
use Rattle.report_text.specs.ReportText.{crash_text, history_text, log_text, multis_text}
use Rattle.engine_life.specs.Lives.{life_told, number_of}
use Rattle.engine_life.proofs.Living.{behind_text}
use Rattle.engine_life.proofs.ending.end_life.Goals as goal

pub returns-in-Ok-put_histories-clause-text : goal.returns-in-Ok-put_histories-clause-text
returns-in-Ok-put_histories-clause-text g c = λ base committed recorded.
    let closed = c.args.closed in
    let names = c.args.names.now in
    let crash = c.args.crash in
    let taken = c.into_histories-volumes.ensures in
    let out = c.put_histories.new.out in
    let log = c.in-Ok.log in
    let histories = history_text names closed.events ++ multis_text names closed.multis.value.events in
    let told = life_told (number_of closed) base committed recorded closed.events closed.multis.value.events closed.log in
    let rest : out ≡ histories =
    subst (λ (x : List ℕ × List Event × List MultiEvent). out ≡ x.0 ++ (history_text names x.1 ++ multis_text names x.2))
    (λ j. (c.new-histories.ensures j, taken.events j, (c.events.ensures.value ∙ (ap (λ m. m.events) c.deref.ensures ∙ ap (λ m. m.value.events) taken.multis)) j)) c.in-Ok-put_histories.ensures.ok in
    let ends : log ≡ log_text told ++ crash_text crash =
    subst (λ n. log ≡ log_text (life_told n base committed recorded closed.events closed.multis.value.events closed.log) ++ crash_text crash) c.number.ensures
    ((rw c.in-Ok.is at c.log_end-log.ensures) base committed recorded closed.events closed.multis.value.events) in
    behind_text histories (log_text told) (crash_text crash) out log rest ends
