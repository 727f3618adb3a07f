-- What a call promised stays true while lists grow, so it holds of the final lists.
use Rattle.std.proofs.Common.{ℕ, ◌+◌, ◌<◌, ◌≤◌, ◌≡◌, List, ◌∷◌, ◌++◌, Contains, IsTrue, length, map, append_assoc, length-append, arith, sym, ap, subst, ◌∙◌}
use Rattle.std.proofs.lemmas.List.{map-append}
use Rattle.std.specs.List.{AllByRecursion}
use Rattle.std.proofs.lemmas.List.Elements.{filter_map-append}
use Rattle.notes.specs.Lists.{Grows, at}
use Rattle.tx_core.proofs.Growing.{contains_begins}
use Rattle.tx_events.specs.declared.event.By.{By}
use Rattle.tx_events.specs.declared.event.Event.{Event}
use Rattle.tx_events.specs.declared.record.Rec.{Rec}
use Rattle.tx_events.specs.declared.refusal.Refusal.TheVariants as refusals
use Rattle.tx_events.specs.Events.{by_of, given, given_by}
use Rattle.tx_model.specs.declared.command.Command.{Command}
use Rattle.tx_model.specs.declared.command.Command.TheVariants as commands
use Rattle.tx_model.specs.declared.reply.Reply.{Reply}
use Rattle.tx_model.specs.declared.reply.Reply.TheVariants as replies
use Rattle.tx_model.specs.Replies.{IsKnown, MayReply, RoundSpan}
use Rattle.tx_model.specs.Stance.{Stance}
use Rattle.tx_model.proofs.Growth.{known_grows, known_less, may_reply_grows}
use Rattle.life_law.specs.DidCommit.{IsDid}
use Rattle.life_law.proofs.DidGrowth.{did_grows}
use Rattle.tx_core.specs.declared.entry.Entry.{Entry}
use Rattle.tx_core.specs.declared.entry.Kind.TheVariants as kinds
use Rattle.tx_core.specs.declared.entry.Start.{Start}
use Rattle.tx_core.specs.Entries.{AreFewIds, appended, history, records_in, recs_in}
use Rattle.tx_core.specs.Locks.{log_lock, number_of}
use Rattle.tx_core.proofs.Lasting.{history_grows}
use Rattle.engine_parts.specs.Answers.{AnswersStay, IsCommitPending, MetFault, MetLogFault}
use Rattle.engine_parts.specs.Stand.{IsDownAt}

fault_grows : (lists more : List (List Entry)) (lock : ℕ) (by : By) → Grows lists more → MetFault lists lock by → MetFault more lock by
fault_grows lists more lock by g f = record {
  adder = f.adder;
  callers = f.callers;
  changes = f.changes;
  cut = f.cut;
  count = f.count;
  hit = f.hit;
  stands = contains_begins (at lists lock) (at more lock) _ (g.begins lock) f.stands;
}

log_fault_grows : (lists more : List (List Entry)) (by : By) → Grows lists more → MetLogFault lists by → MetLogFault more by
log_fault_grows lists more by g f = record { count = f.count; stands = contains_begins (at lists log_lock) (at more log_lock) _ (g.begins log_lock) f.stands }

pending_grows : (lists more : List (List Entry)) (by : By) (s : Stance) → Grows lists more → IsCommitPending lists by s → IsCommitPending more by s
pending_grows lists more by s g p = record {
  top = p.top;
  subs = p.subs;
  other = p.other;
  own = p.own;
  earlier = p.earlier;
  top_is = p.top_is;
  stands = contains_begins (at lists log_lock) (at more log_lock) _ (g.begins log_lock) p.stands;
}

down_grows : (start : Start) (lists more : List (List Entry)) (down : ℕ) → Grows lists more → IsDownAt start (at lists log_lock) down → IsDownAt start (at more log_lock) down
down_grows start lists more down g d =
    let b = g.begins log_lock in
    let x : Entry = record { by = d.by; kind = kinds.LogFault d.asked d.count } in record {
      before = d.before;
      rest = d.rest ++ b.0;
      by = d.by;
      asked = d.asked;
      count = d.count;
      down = d.down;
      split = sym b.1 ∙ (ap (λ (t : List Entry). t ++ b.0) d.split ∙ append_assoc d.before (x ∷ d.rest) b.0);
      flushed_is = d.flushed_is;
    }

lawful_grows : (start : Start) (lists more : List (List Entry)) (span wider : RoundSpan) (by : By) (s : Stance) (command : Command) (reply : Reply) → wider.from ≤ span.from → span.to ≤ wider.to → span.to ≤ length (history lists) → Grows lists more
    → ((rest : List Event) → history lists ++ rest ≡ history more → AllByRecursion (λ e. (by_of e).session ≡ by.session → by.command < (by_of e).command) rest)
    → MayReply start.base start.committed (history lists) span by s command reply → MayReply start.base start.committed (history more) wider by s command reply
lawful_grows start lists more span wider by s command reply from to within g later a =
    let b = history_grows lists more g in
    subst (λ (h : List Event). MayReply start.base start.committed h wider by s command reply) b.1
    (may_reply_grows start.base start.committed (history lists) b.0 span wider by s command reply from to within (later b.0 b.1) a)

pub few_before : (lists more : List (List Entry)) → Grows lists more → AreFewIds more → AreFewIds lists
few_before lists more g few =
    let b = history_grows lists more g in
    let long : length (given (history lists ++ b.0)) ≡ length (given (history more)) = ap (λ (h : List Event). length (given h)) b.1 in
    let parts : length (given (history lists ++ b.0)) ≡ length (given (history lists)) + length (given b.0) = ap length (filter_map-append given_by (history lists) b.0) ∙ length-append (given (history lists)) (given b.0) in
    let below : length (given (history more)) < 2900000 = few in
    omega arith

-- the records stay
pub logged_before : (start : Start) (lists more : List (List Entry)) → Grows lists more → (rec : Rec) → Contains (start.logged ++ recs_in (at lists log_lock)) rec → Contains (start.logged ++ recs_in (at more log_lock)) rec
logged_before start lists more g rec c =
    let b = g.begins log_lock in
    let split : recs_in (at lists log_lock) ++ recs_in b.0 ≡ recs_in (at more log_lock) = sym (recs_both (at lists log_lock) b.0) ∙ ap recs_in b.1 in
    contains_begins (start.logged ++ recs_in (at lists log_lock)) (start.logged ++ recs_in (at more log_lock)) rec
    (recs_in b.0, append_assoc start.logged (recs_in (at lists log_lock)) (recs_in b.0) ∙ ap (λ (t : List Rec). start.logged ++ t) split) c
  where
    recs_both : (xs ys : List Entry) → recs_in (xs ++ ys) ≡ recs_in xs ++ recs_in ys
    recs_both xs ys = ap (map (λ (r : By × Rec). r.1)) (filter_map-append appended xs ys) ∙ map-append (λ (r : By × Rec). r.1) (records_in xs) (records_in ys)

pub answer_grows : AnswersStay
answer_grows tells start lists more r r' by s stage command (replies.Refused refusals.Memory) from to within g later a = a
answer_grows tells start lists more r r' by s stage command (replies.Refused refusals.Full) from to within g later a = a
answer_grows tells start lists more r r' by s stage command (replies.Refused (refusals.DiskFault lock)) from to within g later a = (a.0, fault_grows lists more (number_of lock) by g a.1)
answer_grows tells start lists more r r' by s stage command (replies.Refused refusals.LogFault) from to within g later a = (a.0, log_fault_grows lists more by g a.1)
answer_grows tells start lists more r r' by s stage command (replies.Refused (refusals.LogDown down)) from to within g later a = (a.0, down_grows start lists more down g a.1, a.2)
answer_grows tells start lists more r r' by s stage command (replies.Refused refusals.CommitPending) from to within g later a = pending_grows lists more by s g a
answer_grows tells start lists more r r' by s stage command (replies.Refused refusals.AbortPending) from to within g later a = a
answer_grows tells start lists more r r' by s stage command (replies.Refused refusals.UndoPending) from to within g later a = a
answer_grows tells start lists more r r' by s stage command (replies.Seen verdict) from to within g later a =
    λ t few. lawful_grows start lists more r r' by s command (replies.Seen verdict) from to within g later (a t (few_before lists more g few))
answer_grows tells start lists more r r' by s stage (commands.Status x) (replies.Known status) from to within g later a =
    let b = history_grows lists more g in
    subst (λ (h : List Event). IsKnown (IsTrue tells × AreFewIds more) start.base start.committed h by x status) b.1
    (known_grows (IsTrue tells × AreFewIds more) start.base start.committed (history lists) b.0 by x status
    (known_less (IsTrue tells × AreFewIds lists) (IsTrue tells × AreFewIds more) start.base start.committed (history lists) by x status (λ t. (t.0, few_before lists more g t.1)) a))
answer_grows tells start lists more r r' by s stage (commands.Did x) (replies.Did answer) from to within g later a =
    let b = history_grows lists more g in
    subst (λ (h : List Event). IsDid (IsTrue tells × AreFewIds more) start.base start.committed h (start.logged ++ recs_in (at more log_lock)) r' by x.number answer) b.1
    (did_grows (IsTrue tells × AreFewIds lists) (IsTrue tells × AreFewIds more) start.base start.committed (history lists) b.0 (start.logged ++ recs_in (at lists log_lock)) (start.logged ++ recs_in (at more log_lock)) r r' by x.number answer
    (λ t. (t.0, few_before lists more g t.1)) from to within (later b.0 b.1) (logged_before start lists more g) a)
answer_grows tells start lists more r r' by s stage command reply from to within g later a = lawful_grows start lists more r r' by s command reply from to within g later a
