use Rattle.std.proofs.Common.{subst, sym, ap, ◌≡◌, ◌∙◌}
use Rattle.tx_events.specs.declared.event.Event.{Event}
use Rattle.history_check.specs.Opened.{IsNoted, MayAdd}
use Rattle.history_check.proofs.opened.note_opened.Goals as goal
