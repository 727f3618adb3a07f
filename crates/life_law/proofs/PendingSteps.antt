-- What is pending, line by line.
use Rattle.std.proofs.Common.{◌≡◌, List, [], ◌∷◌, ◌++◌, None, Option, ap, refl, ◌∙◌, cond}
use Rattle.std.specs.List.{filter}
use Rattle.std.proofs.lemmas.List.Elements.{filter-append}
use Rattle.tx_events.proofs.ListSteps.{eqb-refl}
use Rattle.tx_events.specs.declared.event.Event.{Event}
use Rattle.tx_events.specs.declared.record.Rec.{Rec}
use Rattle.tx_events.specs.declared.refusal.Refusal.{Refusal}
use Rattle.tx_events.specs.Events.{events_of, given}
use Rattle.tx_model.specs.declared.report.Line.{Line}
use Rattle.tx_model.specs.Lines.{is_line_of, stance}
use Rattle.tx_model.specs.Stance.{Stance, after, nothing_yet, stance_from}
use Rattle.life_law.specs.Pending.{pending, pending_after, pending_from}

from_push : (recs : List Rec) (h : List Event) (lines : List Line) (l : Line) (s : Stance) (old : Option Refusal) → pending_from recs h s old (lines ++ l ∷ []) ≡ pending_after recs (stance_from s h lines) (pending_from recs h s old lines) l.command l.reply
from_push recs h [] l s old = refl
from_push recs h (k ∷ lines) l s old = from_push recs h lines l (after s k.by.command k.command k.reply (given (events_of k.by h))) (pending_after recs s old k.command k.reply)

-- what is pending behind a session's next line
pub pending_push : (recs : List Rec) (h : List Event) (lines : List Line) (l : Line) → pending recs h (lines ++ l ∷ []) l.by.session ≡ pending_after recs (stance h lines l.by.session) (pending recs h lines l.by.session) l.command l.reply
pending_push recs h lines l =
    ap (pending_from recs h nothing_yet None) (filter-append (is_line_of l.by.session) lines (l ∷ []) ∙ ap (λ b. filter (is_line_of l.by.session) lines ++ cond b (l ∷ []) []) (eqb-refl l.by.session))
    ∙ from_push recs h (filter (is_line_of l.by.session) lines) l nothing_yet None
