-- What may be answered in the lists at the end is lawful.
use Rattle.engine_parts.specs.Stages.{pending_in}
use Rattle.std.proofs.Common.{Bool, IsTrue, List, [], append_assoc, arith, refl, sym, zero, suc, ℕ, ◌++◌, ◌-◌, ◌≡◌, ◌∙◌, ◌∷◌, is_some, false}
use Rattle.std.specs.List.{flat_map}
use Rattle.std.proofs.lemmas.Bool.{false≢true, or_left}
use Rattle.notes.specs.Lists.{Begins, Grows, at}
use Rattle.tx_events.specs.declared.event.By.{By}
use Rattle.tx_events.specs.declared.event.Event.{Event}
use Rattle.tx_events.specs.declared.multi.MultiEvent.{MultiEvent}
use Rattle.tx_events.specs.declared.record.Counters.{Counters}
use Rattle.tx_events.specs.declared.refusal.Lock.{Lock}
use Rattle.tx_events.specs.declared.refusal.Lock.TheVariants as locks
use Rattle.tx_events.specs.declared.refusal.Refusal.TheVariants as refusals
use Rattle.tx_events.proofs.Membership.{contains_has}
use Rattle.tx_model.specs.declared.command.Command.{Command}
use Rattle.tx_model.specs.declared.command.Command.TheVariants as commands
use Rattle.tx_model.specs.declared.reply.Reply.{Reply}
use Rattle.tx_model.specs.declared.reply.Reply.TheVariants as replies
use Rattle.tx_model.specs.declared.report.Line.{Line}
use Rattle.tx_model.specs.declared.report.Step.{Step}
use Rattle.tx_model.specs.Rounds.{lines_in}
use Rattle.tx_model.specs.Replies.{RoundSpan}
use Rattle.tx_model.specs.Stance.{Stance, top_level}
use Rattle.tx_model.proofs.Growth.{known_less}
use Rattle.life_law.specs.Answering.{IsLawfulAnswer, IsLawfulMultiReply}
use Rattle.life_law.specs.Facts.{Facts, has_failed_log}
use Rattle.life_law.proofs.DidGrowth.{did_less}
use Rattle.life_law.specs.MultiLines.{IsNotYet}
use Rattle.life_law.specs.MultiPlaces.{Recorded}
use Rattle.life_law.specs.MultiReplies.{MayReplyMulti}
use Rattle.life_law.specs.MultiStanding.{gave_multi}
use Rattle.tx_core.specs.MultiEntries.{AreFewMultis, multi_history}
use Rattle.engine_parts.specs.MultiAnswers.{MayAnswerMulti, WasNotYet, recorded_in}
use Rattle.life_law.specs.Replies.{IsBank, IsLawfulReply, may_append, may_ask, may_flush, may_lack_memory, may_need_log}
use Rattle.tx_core.specs.declared.entry.Entry.{Entry}
use Rattle.tx_core.specs.declared.entry.Kind.TheVariants as kinds
use Rattle.tx_core.specs.declared.entry.Start.{Start}
use Rattle.tx_core.specs.EngineInvariant.{EngineInvariant}
use Rattle.tx_core.specs.Entries.{AreFewIds, flushed_in, flushed_to, history}
use Rattle.tx_core.specs.Locks.{IsPageLock, log_lock, number_of}
use Rattle.tx_core.specs.ProgramOrder.{NeedsStand}
use Rattle.tx_core.proofs.Asking.{upheld_has}
use Rattle.tx_core.proofs.LogLaws.{down_now, down_stays}
use Rattle.tx_core.proofs.LastNumbers.{number_same}
use Rattle.engine_parts.specs.declared.session.Stage.{Stage}
use Rattle.engine_parts.specs.declared.session.Stage.TheVariants as stages
use Rattle.engine_parts.specs.Answers.{MayAnswer, MetFault}
use Rattle.engine_parts.specs.Stand.{IsDownAt}
use Rattle.engine_parts.specs.Standing.{appends, asks_volume, flushes, needs_log, takes_memory}
use Rattle.session_promise.specs.Checkpoints.{AreCheckpointsTold}
use Rattle.session_promise.specs.Closing.{IsOver}
use Rattle.session_promise.specs.Promise.{IsToAsker, MayAnswerIn, recs_of}
use Rattle.session_promise.specs.Told.{Span, ToldRound, all_lines}
use Rattle.session_promise.proofs.HostFaults.{failed}

lacks : (command : Command) (s : Stance) (stage : Stage) → IsTrue (takes_memory command s stage) → IsTrue (may_lack_memory command s (pending_in stage))
lacks commands.Write s stage t = t
lacks commands.Commit s stages.Clear t = t
lacks commands.Commit s stage t = absurd (false≢true t)
lacks (commands.Snap name) s stage t = refl
lacks (commands.Status x) s stage t = t
lacks (commands.Freeze oldest) s stage t = refl
lacks (commands.Multi members) s stage t = refl
lacks (commands.SeeMulti name multi) s stage t = refl
lacks (commands.MultiFreeze multi) s stage t = refl
lacks commands.Trim s stage t = refl
lacks command s stage t = absurd (false≢true t)

logs : (command : Command) (s : Stance) (stage : Stage) → IsTrue (flushes command s stage) → IsTrue (may_flush command s (pending_in stage))
logs commands.Commit s stages.Clear t = or_left (is_some (top_level s.levels)) false t
logs commands.Commit s (stages.Logged number) t = refl
logs commands.Commit s stage t = absurd (false≢true t)
logs commands.Trim s stage t = refl
logs command s stage t = absurd (false≢true t)

fills_log : (command : Command) (s : Stance) (stage : Stage) → IsTrue (appends command s stage) → IsTrue (may_append command s (pending_in stage))
fills_log commands.Commit s stages.Clear t = t
fills_log commands.Commit s stage t = absurd (false≢true t)
fills_log (commands.Multi members) s stage t = refl
fills_log commands.Trim s stage t = refl
fills_log command s stage t = absurd (false≢true t)

needs : (command : Command) (s : Stance) (stage : Stage) → IsTrue (needs_log command s stage) → IsTrue (may_need_log command s (pending_in stage))
needs (commands.Multi members) s stage t = refl
needs command s stage t = logs command s stage t

asks : (command : Command) (s : Stance) (stage : Stage) (lock : Lock) → IsTrue (asks_volume command s stage lock) → IsTrue (may_ask command s (pending_in stage) lock)
asks commands.Write s stage (locks.Xact bank) t = t
asks commands.Write s stage (locks.Subtrans bank) t = refl
asks commands.Commit s stage (locks.Xact bank) t = t
asks commands.Commit s stages.Clear (locks.Subtrans bank) t = t
asks commands.Undo s stage (locks.Xact bank) t = t
asks commands.Abort s stage (locks.Xact bank) t = t
asks (commands.See name x) s stage (locks.Xact bank) t = t
asks (commands.See name x) s stage (locks.Subtrans bank) t = t
asks (commands.Status x) s stage (locks.Xact bank) t = t
asks (commands.Did x) s stage (locks.Xact bank) t = t
asks (commands.Did x) s stage (locks.Subtrans bank) t = t
asks (commands.Multi members) s stage (locks.Offsets bank) t = refl
asks (commands.Multi members) s stage (locks.Members bank) t = refl
asks (commands.SeeMulti name multi) s stage (locks.Xact bank) t = refl
asks (commands.SeeMulti name multi) s stage (locks.Subtrans bank) t = refl
asks (commands.SeeMulti name multi) s stage (locks.Offsets bank) t = refl
asks (commands.SeeMulti name multi) s stage (locks.Members bank) t = refl
asks (commands.MultiFreeze multi) s stage (locks.Offsets bank) t = refl
asks commands.Trim s stage (locks.Xact bank) t = refl
asks commands.Trim s stage (locks.Subtrans bank) t = refl
asks commands.Trim s stage (locks.Offsets bank) t = refl
asks commands.Trim s stage (locks.Members bank) t = refl
asks command s stage lock t = absurd (false≢true t)

bank_of : (start : Start) (lock : Lock) → IsPageLock start (number_of lock) → IsBank start.banks lock
bank_of start locks.Log p = let f = p.from in absurd (omega (arith, f))
bank_of start locks.Proc p = let f = p.from in absurd (omega (arith, f))
bank_of start locks.Multi p = let f = p.from in absurd (omega (arith, f))
bank_of start (locks.Xact bank) p = let t = p.to in omega (arith, t)
bank_of start (locks.Subtrans bank) p = let t = p.to in omega (arith, t)
bank_of start (locks.Offsets bank) p = let t = p.to in omega (arith, t)
bank_of start (locks.Members bank) p = let t = p.to in omega (arith, t)

fault_at : (start : Start) (lists : List (List Entry)) (lock : Lock) (by : By) → EngineInvariant start lists → MetFault lists (number_of lock) by → IsBank start.banks lock
fault_at start lists lock by k m =
    let e : Entry = record { by = m.adder; kind = kinds.Fault m.callers m.changes m.cut m.count } in
    let stands = (upheld_has (NeedsStand start) lists (number_of lock) e k.order.stand (contains_has (at lists (number_of lock)) e m.stands)).1 in
    bank_of start lock stands.0.bank

-- behind the fault that put it down nothing more is flushed
pub down_flushed : (start : Start) (lists : List (List Entry)) (down : ℕ) → EngineInvariant start lists → IsDownAt start (at lists log_lock) down → down ≡ flushed_to start (at lists log_lock)
down_flushed start lists down k d =
    let e : Entry = record { by = d.by; kind = kinds.LogFault d.asked d.count } in
    let front : List Entry = d.before ++ e ∷ [] in
    let grows : Grows (front ∷ []) lists = record { begins = begins front (append_assoc d.before (e ∷ []) d.rest ∙ sym d.split) } in
    d.flushed_is ∙ (sym (number_same flushed_in start.from d.before e refl) ∙ sym (down_stays start (front ∷ []) lists k grows (down_now d.before e d.down)).1)
  where
    begins : (front : List Entry) → front ++ d.rest ≡ at lists log_lock → (place : ℕ) → Begins (at (front ∷ []) place) (at lists place)
    begins front q zero = (d.rest, q)
    begins front q (suc place) = (at lists (suc place), refl)

-- ---- multixacts

-- where more is told, no more is asked
reply_less : (told told' : Type 0) (NotYet NotYet' : ℕ → Type 0) (base : Counters) (committed : List ℕ) (recorded : List Recorded) (h : List Event) (all : List MultiEvent) (span multis : RoundSpan) (by : By) (s : Stance)
    → (told' → told) → ((multi : ℕ) → NotYet multi → NotYet' multi) → (command : Command) (reply : Reply) → MayReplyMulti told NotYet base committed recorded h all span multis by s command reply → MayReplyMulti told' NotYet' base committed recorded h all span multis by s command reply
reply_less told told' NotYet NotYet' base committed recorded h all span multis by s up none (commands.SeeMulti name m) (replies.Verdicts verdicts) a = (a.0, λ t. a.1 (up t))
reply_less told told' NotYet NotYet' base committed recorded h all span multis by s up none (commands.SeeMulti name m) (replies.Refused (refusals.NotYet multi)) a = (a.0, λ t. none multi (a.1 (up t)))
reply_less told told' NotYet NotYet' base committed recorded h all span multis by s up none (commands.MultiFreeze multi) (replies.Refused (refusals.NotYet next)) a = (a.0, λ t. none next (a.1 (up t)))
reply_less told told' NotYet NotYet' base committed recorded h all span multis by s up none command reply a = a

-- what the report of a life that is over is judged by
module _ (tells : Bool) (start : Start) (lists : List (List Entry)) (rounds : List ToldRound) (over : IsOver tells start lists rounds) (few : AreFewIds lists) (few_multis : AreFewMultis lists) (told : List Step) (c : AreCheckpointsTold start lists rounds told) (lines : flat_map lines_in told ≡ all_lines rounds) where
  abbrev pub facts : Facts
  facts = record {
    tells = tells;
    banks = start.banks;
    from = start.from - 1;
    base = start.base;
    committed = start.committed;
    recorded = recorded_in start;
    events = history lists;
    multis = multi_history lists;
    recs = start.logged ++ recs_of lists;
    flushed = flushed_to start (at lists log_lock);
    log_failed = has_failed_log told;
  }

  lawful_reply : (span : RoundSpan) (by : By) (s : Stance) (stage : Stage) (command : Command) (reply : Reply) → IsToAsker command reply → MayAnswer tells start lists span by s stage command reply → IsLawfulReply facts span by s (pending_in stage) command reply
  lawful_reply span by s stage command (replies.Refused refusals.Memory) f a = lacks command s stage a
  lawful_reply span by s stage command (replies.Refused refusals.Full) f a = fills_log command s stage a
  lawful_reply span by s stage command (replies.Refused (refusals.DiskFault lock)) f a = (asks command s stage lock a.0, fault_at start lists lock by over.kept a.1)
  lawful_reply span by s stage command (replies.Refused refusals.LogFault) f a = logs command s stage a.0
  lawful_reply span by s stage command (replies.Refused (refusals.LogDown down)) f a = (needs command s stage a.0, down_flushed start lists down over.kept a.1, failed tells start lists rounds over told c lines down a.1)
  lawful_reply span by s stage command (replies.Refused refusals.CommitPending) f a = tt
  lawful_reply span by s stage command (replies.Refused refusals.AbortPending) f a = tt
  lawful_reply span by s stage command (replies.Refused refusals.UndoPending) f a = tt
  lawful_reply span by s stage command (replies.Seen visible) f a = (f, λ t. a t few)
  lawful_reply span by s stage (commands.Status x) (replies.Known status) f a =
      known_less (IsTrue tells × AreFewIds lists) (IsTrue tells) start.base start.committed (history lists) by x status (λ t. (t, few)) a
  lawful_reply span by s stage (commands.Did x) (replies.Did answer) f a =
      did_less (IsTrue tells × AreFewIds lists) (IsTrue tells) start.base start.committed (history lists) (start.logged ++ recs_of lists) span by x.number answer (λ t. (t, few)) a
  lawful_reply span by s stage command reply f a = a

  -- behind these lines, where no multixact is told as not yet there that is by them
  module _ (begun : List (List Entry)) (span multis : RoundSpan) (by : By) (before : List Line) (none : (multi : ℕ) → WasNotYet start begun lists by multi → IsNotYet start.base (recorded_in start) (multi_history lists) multis (gave_multi before) by multi) where
    multi_reply : (s : Stance) (stage : Stage) (command : Command) (reply : Reply) → MayAnswerMulti tells start begun lists span multis by s stage command reply → IsLawfulMultiReply facts before span multis by s (pending_in stage) command reply
    multi_reply s stage command (replies.Refused refusals.Memory) a = lacks command s stage a
    multi_reply s stage command (replies.Refused refusals.Full) a = fills_log command s stage a
    multi_reply s stage command (replies.Refused (refusals.DiskFault lock)) a = (asks command s stage lock a.0, fault_at start lists lock by over.kept a.1)
    multi_reply s stage command (replies.Refused refusals.LogFault) a = logs command s stage a.0
    multi_reply s stage command (replies.Refused (refusals.LogDown down)) a = (needs command s stage a.0, down_flushed start lists down over.kept a.1, failed tells start lists rounds over told c lines down a.1)
    multi_reply s stage command reply a =
        reply_less (IsTrue tells × AreFewIds lists × AreFewMultis lists) (IsTrue tells) (WasNotYet start begun lists by) (IsNotYet start.base (recorded_in start) (multi_history lists) multis (gave_multi before) by)
        start.base start.committed (recorded_in start) (history lists) (multi_history lists) span multis by s (λ t. (t, few, few_multis)) none command reply a

  pub lawful_answer : (begun : List (List Entry)) (span : Span) (by : By) (before : List Line) (s : Stance) (stage : Stage) (command : Command) (reply : Reply)
      → ((multi : ℕ) → WasNotYet start begun lists by multi → IsNotYet start.base (recorded_in start) (multi_history lists) span.multis (gave_multi before) by multi)
      → IsToAsker command reply → MayAnswerIn tells start begun lists span by s stage command reply → IsLawfulAnswer facts before span.events span.multis by s (pending_in stage) command reply
  lawful_answer begun span by before s stage (commands.Multi pairs) reply none f a = multi_reply begun span.events span.multis by before none s stage (commands.Multi pairs) reply a
  lawful_answer begun span by before s stage (commands.SeeMulti name m) reply none f a = multi_reply begun span.events span.multis by before none s stage (commands.SeeMulti name m) reply a
  lawful_answer begun span by before s stage (commands.MultiFreeze multi) reply none f a = multi_reply begun span.events span.multis by before none s stage (commands.MultiFreeze multi) reply a
  lawful_answer begun span by before s stage commands.Trim reply none f a = multi_reply begun span.events span.multis by before none s stage commands.Trim reply a
  lawful_answer begun span by before s stage command reply none f a = lawful_reply span.events by s stage command reply f a
