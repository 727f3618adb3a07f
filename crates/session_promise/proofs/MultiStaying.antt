-- What a command on multixacts was answered stays so while lists grow.
use Rattle.std.proofs.Common.{◌≡◌, ℕ, ◌+◌, ◌<◌, List, ◌∷◌, ◌++◌, IsTrue, Bool, length, append_assoc, length-append, arith, sym, ap, subst, ◌∙◌}
use Rattle.std.proofs.lemmas.List.Elements.{filter_map-append}
use Rattle.notes.specs.Lists.{Grows, at}
use Rattle.tx_core.proofs.Growing.{contains_begins}
use Rattle.tx_core.proofs.Lasting.{history_grows}
use Rattle.tx_core.proofs.Rising.{multis_grow}
use Rattle.tx_core.specs.declared.entry.Entry.{Entry}
use Rattle.tx_core.specs.declared.entry.Kind.TheVariants as kinds
use Rattle.tx_core.specs.declared.entry.Start.{Start}
use Rattle.tx_core.specs.Entries.{AreFewIds, history}
use Rattle.tx_core.specs.Locks.{log_lock, number_of}
use Rattle.tx_core.specs.MultiEntries.{AreFewMultis, multi_history}
use Rattle.tx_events.specs.declared.event.By.{By}
use Rattle.tx_events.specs.declared.event.Event.{Event}
use Rattle.tx_events.specs.declared.multi.MultiEvent.{MultiEvent}
use Rattle.tx_events.specs.declared.refusal.Refusal.TheVariants as refusals
use Rattle.tx_events.specs.Events.{by_of}
use Rattle.tx_events.specs.Multis.{made, made_by, multi_by}
use Rattle.tx_model.specs.declared.command.Command.{Command}
use Rattle.tx_model.specs.declared.reply.Reply.{Reply}
use Rattle.tx_model.specs.declared.reply.Reply.TheVariants as replies
use Rattle.tx_model.specs.Replies.{RoundSpan}
use Rattle.tx_model.specs.Stance.{Stance}
use Rattle.life_law.specs.MultiReplies.{MayReplyMulti}
use Rattle.engine_parts.specs.Met.{MetFault, MetLogFault}
use Rattle.engine_parts.specs.MultiAnswers.{WasNotYet, recorded_in}
use Rattle.engine_parts.specs.Stand.{IsDownAt}
use Rattle.engine_parts.proofs.Answering.{few_before}
use Rattle.engine_parts.proofs.Leaving.{grows_then}
use Rattle.session_promise.specs.MultiGrowth.{MultiAnswersStay, Widens}
use Rattle.session_promise.proofs.MultiRows.{rows_stay}

fault_grows : (lists more : List (List Entry)) (lock : ℕ) (by : By) → Grows lists more → MetFault lists lock by → MetFault more lock by
fault_grows lists more lock by g f = record {
  adder = f.adder;
  callers = f.callers;
  changes = f.changes;
  cut = f.cut;
  count = f.count;
  hit = f.hit;
  stands = contains_begins (at lists lock) (at more lock) _ (g.begins lock) f.stands;
}

log_fault_grows : (lists more : List (List Entry)) (by : By) → Grows lists more → MetLogFault lists by → MetLogFault more by
log_fault_grows lists more by g f = record { count = f.count; stands = contains_begins (at lists log_lock) (at more log_lock) _ (g.begins log_lock) f.stands }

down_grows : (start : Start) (lists more : List (List Entry)) (down : ℕ) → Grows lists more → IsDownAt start (at lists log_lock) down → IsDownAt start (at more log_lock) down
down_grows start lists more down g d =
    let b = g.begins log_lock in
    let x : Entry = record { by = d.by; kind = kinds.LogFault d.asked d.count } in record {
      before = d.before;
      rest = d.rest ++ b.0;
      by = d.by;
      asked = d.asked;
      count = d.count;
      down = d.down;
      split = sym b.1 ∙ (ap (λ (t : List Entry). t ++ b.0) d.split ∙ append_assoc d.before (x ∷ d.rest) b.0);
      flushed_is = d.flushed_is;
    }

pub few_multis : (lists more : List (List Entry)) → Grows lists more → AreFewMultis more → AreFewMultis lists
few_multis lists more g few =
    let b = multis_grow lists more g in
    let long : length (made (multi_history lists ++ b.0)) ≡ length (made (multi_history more)) = ap (λ (h : List MultiEvent). length (made h)) b.1 in
    let parts : length (made (multi_history lists ++ b.0)) ≡ length (made (multi_history lists)) + length (made b.0) = ap length (filter_map-append made_by (multi_history lists) b.0) ∙ length-append (made (multi_history lists)) (made b.0) in
    let below : length (made (multi_history more)) < 2900000 = few in
    omega arith

not_yet_grows : (start : Start) (begun lists more : List (List Entry)) (by : By) (multi : ℕ) → Grows lists more → WasNotYet start begun lists by multi → WasNotYet start begun more by multi
not_yet_grows start begun lists more by multi g n = record {
  seen = n.seen;
  from = n.from;
  upto = grows_then n.seen lists more n.upto g;
  pinned = n.pinned;
  asked = n.asked;
  stands = n.stands;
  from_asked = n.from_asked;
  below = n.below;
  unset = n.unset;
  unrecorded = n.unrecorded;
}

lawful_grows : (tells : Bool) (start : Start) (begun lists more : List (List Entry)) (span wider multis multis' : RoundSpan) (by : By) (s : Stance) (command : Command) (reply : Reply)
    → Grows lists more → Widens by_of by (history lists) (history more) span wider → Widens multi_by by (multi_history lists) (multi_history more) multis multis'
    → MayReplyMulti (IsTrue tells × AreFewIds lists × AreFewMultis lists) (WasNotYet start begun lists by) start.base start.committed (recorded_in start) (history lists) (multi_history lists) span multis by s command reply
    → MayReplyMulti (IsTrue tells × AreFewIds more × AreFewMultis more) (WasNotYet start begun more by) start.base start.committed (recorded_in start) (history more) (multi_history more) wider multis' by s command reply
lawful_grows tells start begun lists more r r' q q' by s command reply g w v a =
    let b = history_grows lists more g in
    let c = multis_grow lists more g in
    let x = rows_stay (IsTrue tells × AreFewIds lists × AreFewMultis lists) (IsTrue tells × AreFewIds more × AreFewMultis more) (WasNotYet start begun lists by) (WasNotYet start begun more by)
    start.base start.committed (recorded_in start) (history lists) b.0 (multi_history lists) c.0 r r' q q' by s command reply
    (λ d. (d.0, few_before lists more g d.1, few_multis lists more g d.2)) (λ m n. not_yet_grows start begun lists more by m g n)
    (subst (λ (h : List Event). Widens by_of by (history lists) h r r') (sym b.1) w) (subst (λ (h : List MultiEvent). Widens multi_by by (multi_history lists) h q q') (sym c.1) v) a in
    subst (λ (h : List Event). MayReplyMulti (IsTrue tells × AreFewIds more × AreFewMultis more) (WasNotYet start begun more by) start.base start.committed (recorded_in start) h (multi_history more) r' q' by s command reply) b.1
    (subst (λ (all : List MultiEvent). MayReplyMulti (IsTrue tells × AreFewIds more × AreFewMultis more) (WasNotYet start begun more by) start.base start.committed (recorded_in start) (history lists ++ b.0) all r' q' by s command reply) c.1 x)

pub multi_answer_grows : MultiAnswersStay
multi_answer_grows tells start begun lists more r r' q q' by s stage command (replies.Refused refusals.Memory) g w v a = a
multi_answer_grows tells start begun lists more r r' q q' by s stage command (replies.Refused refusals.Full) g w v a = a
multi_answer_grows tells start begun lists more r r' q q' by s stage command (replies.Refused (refusals.DiskFault lock)) g w v a = (a.0, fault_grows lists more (number_of lock) by g a.1)
multi_answer_grows tells start begun lists more r r' q q' by s stage command (replies.Refused refusals.LogFault) g w v a = (a.0, log_fault_grows lists more by g a.1)
multi_answer_grows tells start begun lists more r r' q q' by s stage command (replies.Refused (refusals.LogDown down)) g w v a = (a.0, down_grows start lists more down g a.1)
multi_answer_grows tells start begun lists more r r' q q' by s stage command reply g w v a = lawful_grows tells start begun lists more r r' q q' by s command reply g w v a
