use Rattle.std.proofs.Common.{◌≡◌, ◌++◌, take}
use Rattle.std.specs.List.{flat_map}
use Rattle.report_text.specs.Words.{line_text}
use Rattle.report_text.specs.EventText.{multi_event_words}
use Rattle.report_text.proofs.event.put_multi_events.Given as goal

abbrev pub invariant-loop-event : goal.invariant-loop-event
invariant-loop-event l = l.out ≡ l.fn.out ++ flat_map (λ e. line_text (multi_event_words l.names e)) (take l.event-index l.events)
