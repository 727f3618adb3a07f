-- What the steps of an end add.
use Rattle.std.proofs.Common.{◌≡◌, ℕ, ◌≤◌, ◌<◌, List, ◌∷◌, Result, Ok, Err, ⊎_elim, arith, drop, length, refl, ap, subst}
use Rattle.std.specs.List.{slice_index_or}
use Rattle.tx_events.specs.declared.event.By.{By}
use Rattle.tx_events.specs.declared.record.Rec.{Rec}
use Rattle.tx_events.specs.declared.refusal.Refusal.{Refusal}
use Rattle.tx_events.specs.declared.refusal.Refusal.TheVariants as refusals
use Rattle.tx_events.specs.declared.xact_end.XactEnd.{XactEnd}
use Rattle.tx_events.specs.XactEnds.{end_event}
use Rattle.tx_model.specs.declared.command.Command.{Command}
use Rattle.tx_model.specs.declared.reply.Reply.TheVariants as replies
use Rattle.tx_model.specs.Stance.{Stance}
use Rattle.tx_core.specs.declared.entry.Entry.{Entry}
use Rattle.tx_core.specs.declared.entry.Kind.{Kind}
use Rattle.tx_core.specs.declared.entry.Kind.TheVariants as kinds
use Rattle.tx_core.specs.declared.entry.Start.{Start}
use Rattle.tx_core.specs.Locks.{log_lock}
use Rattle.session_levels.proofs.HeadLemmas.{head_tail}
use Rattle.engine_parts.specs.declared.session.Session.{Session}
use Rattle.engine_parts.specs.declared.session.Stage.{Stage}
use Rattle.engine_parts.specs.Adding.{Adds, IsPlain, IsToldBy, MayAdd, MayFault, MayLeave}
use Rattle.engine_parts.specs.Answers.{reply_of}
use Rattle.engine_parts.specs.Faults.{flush_fault_by, look_of}
use Rattle.engine_parts.specs.Holds.{Knowledge, ProcSection, Section}
use Rattle.engine_parts.specs.Sessions.{IsAt, by_at}
use Rattle.engine_parts.proofs.Adding.{adds_then, adds_wider, may_wider, met_leaves, plain_leaves, plain_wider}
use Rattle.engine_parts.proofs.Sectioning.{proc_section_adds, shared_adds}
use Rattle.log_sections.specs.LogSections.{FlushSection}

-- two steps, one after the other
pub both_add : (by by' : By) (First Second May : ℕ → Kind → Type 0) (a b c : List (List Entry)) → by' ≡ by → ((lock : ℕ) (kind : Kind) → First lock kind → May lock kind) → ((lock : ℕ) (kind : Kind) → Second lock kind → May lock kind) → Adds by First a b → Adds by' Second b c → Adds by May a c
both_add by by' First Second May a b c same f g x y = adds_then by May a b c (adds_wider by First May a b f x) (subst (λ z. Adds z May b c) same (adds_wider by' Second May b c g y))

-- a step that only met a fault
pub fault_wider : (Appends : Rec → Type 0) (Flushes : Type 0) {T : Type 0} (result : Result T Refusal) (lock : ℕ) (kind : Kind) → MayFault result lock kind → MayAdd Appends Flushes (IsToldBy result) lock kind
fault_wider A F (Ok x) lock kind m = plain_wider A F (λ r. ⊥) lock kind m
fault_wider A F (Err told) lock kind m = may_wider (λ rec. ⊥) A ⊥ F (λ r. told ≡ r) (λ r. told ≡ r) (λ rec m. absurd m) (λ m. absurd m) (λ r is. is) lock kind m

-- the reply tells what the result does
pub told_reply : {T : Type 0} (result : Result T Refusal) (r : Refusal) → IsToldBy result r → reply_of (λ x. replies.Done) result ≡ replies.Refused r
told_reply (Ok x) r told = absurd told
told_reply (Err e) r told = ap replies.Refused told

-- a step that only met a fault is one of the whole command
pub fault_leaves : (command : Command) (s : Stance) (stage : Stage) (opened : List ℕ) {T : Type 0} (result : Result T Refusal) (lock : ℕ) (kind : Kind) → MayFault result lock kind → MayLeave command s stage opened (reply_of (λ x. replies.Done) result) lock kind
fault_leaves command s stage opened (Ok x) lock kind m = plain_leaves command s stage opened replies.Done lock kind m
fault_leaves command s stage opened (Err told) lock kind m = met_leaves command s stage opened told lock kind m

-- the end of the transaction
pub end_adds : (start : Start) (v w : Knowledge) (n : ℕ) (s : Session) (how : XactEnd) → IsAt start v n s → 1 ≤ length s.levels.open_ids.items
    → ((top : ℕ) (subs : List ℕ) → s.levels.open_ids.items ≡ top ∷ subs → ProcSection start (record { by = by_at n s.levels.commands; kind = kinds.Event (end_event how (by_at n s.levels.commands) top) }) v w) → Adds (by_at n s.levels.commands) IsPlain v.seen w.seen
end_adds start v w n s how a some section =
    let opened = s.levels.open_ids.items in
    let top : ℕ = slice_index_or opened 0 0 in
    let by = by_at n s.levels.commands in
    proc_section_adds start v w n s (record { by = by; kind = kinds.Event (end_event how by top) }) a refl (section top (drop 1 opened) (head_tail opened 0 some)) IsPlain (λ number. tt) tt

-- a flush, a fault that is told, or a look
pub flush_adds : {T : Type 0} (start : Start) (v w : Knowledge) (by : By) (s : Session) (number : ℕ) (result : Result T Refusal) → IsAt start v by.session s → FlushSection start by number v w result → Adds by (MayAdd (λ rec. ⊥) (Unit {0}) (IsToldBy result)) v.seen w.seen
flush_adds start v w by s number (Ok x) a section =
    ⊎_elim
    (λ (f : (to : ℕ) × (number < to) × Section start log_lock (record { by = by; kind = kinds.Flush to }) v w). shared_adds start v w log_lock (record { by = by; kind = kinds.Flush f.0 }) by s (MayAdd (λ rec. ⊥) (Unit {0}) (λ r. ⊥)) (omega arith) a f.2 refl tt)
    (λ (looked : Section start log_lock (look_of by) v w). shared_adds start v w log_lock (look_of by) by s (MayAdd (λ rec. ⊥) (Unit {0}) (λ r. ⊥)) (omega arith) a looked refl tt)
    section
flush_adds start v w by s number (Err refusals.LogFault) a section =
    shared_adds start v w log_lock (flush_fault_by by section.0) by s (MayAdd (λ rec. ⊥) (Unit {0}) (λ r. refusals.LogFault ≡ r)) (omega arith) a section.1 refl (refl, refl)
flush_adds start v w by s number (Err r) a section = shared_adds start v w log_lock (look_of by) by s (MayAdd (λ rec. ⊥) (Unit {0}) (λ q. r ≡ q)) (omega arith) a section refl tt
