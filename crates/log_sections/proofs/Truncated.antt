-- The record of a truncation, and what it leaves.
use Rattle.std.proofs.Common.{Contains, IsNone, IsTrue, Option, inl, inr, ⊎_elim, ◌≡◌, ℕ, ◌<◌, List, refl, sym, ap, subst, ◌∙◌, length}
use Rattle.std.proofs.lemmas.Bool.{false≢true}
use Rattle.disk_core.specs.declared.log_disk.LogDisk as logs
use Rattle.notes.specs.Lists.{Grows, at}
use Rattle.tx_events.specs.declared.event.By.{By}
use Rattle.tx_events.specs.declared.event.Event.{Event}
use Rattle.tx_events.specs.declared.event.Event.TheVariants as events
use Rattle.tx_events.specs.declared.multi.MultiEvent.TheVariants as multis
use Rattle.tx_events.specs.declared.record.Counters.{Counters}
use Rattle.tx_events.specs.declared.record.Rec.{Rec}
use Rattle.tx_events.specs.declared.record.Rec.TheVariants as records
use Rattle.tx_events.specs.After.{after_record}
use Rattle.tx_events.specs.Base.{IsBase}
use Rattle.tx_events.specs.Ids.{IsFullMulti, IsXidNumber}
use Rattle.tx_events.specs.Running.{open_ids}
use Rattle.tx_events.specs.declared.multi.Member.{Member}
use Rattle.tx_core.specs.MultiEntries.{multi_of}
use Rattle.engine_parts.proofs.Made.{makes_left}
use Rattle.tx_core.specs.declared.entry.Entry.{Entry}
use Rattle.tx_core.specs.declared.entry.Kind.TheVariants as kinds
use Rattle.tx_core.specs.declared.entry.Start.{Start}
use Rattle.tx_core.specs.EngineInvariant.{EngineInvariant}
use Rattle.tx_core.specs.Entries.{IsAppended, event_of, history}
use Rattle.tx_core.specs.Laws.{StaysBase}
use Rattle.tx_core.specs.Locks.{log_lock, multi_lock}
use Rattle.tx_core.specs.MultiEntries.{multi_history, multi_of}
use Rattle.tx_core.specs.RecordsFollow.{IsMultiAnnounced, IsOldestAnnounced}
use Rattle.tx_core.specs.StaysDown.{IsUp}
use Rattle.tx_core.proofs.Growing.{begins_filter_map, contains_begins}
use Rattle.tx_core.proofs.Lasting.{history_grows}
use Rattle.tx_core.proofs.Quiet.{truncate_record_law}
use Rattle.tx_core.proofs.Stepping.{appended_cases}
use Rattle.wal_core.specs.Log.{MayAppend, counters_or_none}
use Rattle.wal_core.specs.LogViews.{log_counters, log_next}
use Rattle.wal_core.specs.Opening.{number_fits}
use Rattle.wal_core.specs.declared.wal_log.WalLog.{WalLog}
use Rattle.log_takes.specs.Takes.{IsTaken}
use Rattle.log_takes.proofs.Taking.{truncations_taken}
use Rattle.session_levels.specs.Stands.{Stands}
use Rattle.engine_parts.specs.declared.session.Session.{Session}
use Rattle.engine_parts.specs.Holds.{Knowledge, Leaves}
use Rattle.engine_parts.specs.Law.{MayKeep}
use Rattle.engine_parts.specs.Parts.{IsLogOf}
use Rattle.engine_parts.specs.Sessions.{IsAt, IsReady, by_at}
use Rattle.engine_parts.proofs.Leaving.{at_left, filed_left, history_same, unaborted_same}
use Rattle.log_sections.specs.LogSections.{IsTruncationOf}
use Rattle.log_sections.proofs.Sections.{append_entry}

-- what was announced stays so
oldest_later : (start : Start) (lists more : List (List Entry)) (oldest : ℕ) → Grows lists more → IsOldestAnnounced start lists oldest → IsOldestAnnounced start more oldest
oldest_later start lists more oldest g a = ⊎_elim inl
    (λ (z : (by : By) × Contains (history lists) (events.Oldest by oldest)). inr (z.0, contains_begins (history lists) (history more) (events.Oldest z.0 oldest) (history_grows lists more g) z.1))
    a

multi_later : (start : Start) (lists more : List (List Entry)) (multi offset : ℕ) → Grows lists more → IsMultiAnnounced start lists multi offset → IsMultiAnnounced start more multi offset
multi_later start lists more multi offset g a = ⊎_elim inl
    (λ (z : (by : By) × Contains (multi_history lists) (multis.Raise by multi offset)). inr (z.0, contains_begins (multi_history lists) (multi_history more) (multis.Raise z.0 multi offset) (begins_filter_map multi_of (at lists multi_lock) (at more multi_lock) (g.begins multi_lock)) z.1))
    a

pub truncation_later : (start : Start) (lists more : List (List Entry)) (rec : Rec) → Grows lists more → IsTruncationOf start lists rec → IsTruncationOf start more rec
truncation_later start lists more rec g t = record {
  oldest = t.oldest;
  multi = t.multi;
  offset = t.offset;
  is = t.is;
  id = oldest_later start lists more t.oldest g t.id;
  first = multi_later start lists more t.multi t.offset g t.first;
}

-- the log can take the record
pub truncation_follows : {D : Type 0} {g : logs.Ghosts D} (start : Start) (log : WalLog D g) (lists : List (List Entry)) (rec : Rec) → EngineInvariant start lists → IsBase start.base → IsLogOf start log (at lists log_lock) → IsTruncationOf start lists rec
    → ((oldest multi offset : ℕ) → rec ≡ records.Truncate oldest multi offset → IsXidNumber oldest × IsFullMulti multi) → MayAppend (log_counters log) (log_next log) rec
truncation_follows start log lists rec k is s t forms =
    let f = forms t.oldest t.multi t.offset t.is in
    let taken : IsTaken start lists rec = subst (IsTaken start lists) (sym t.is) (truncations_taken start lists t.oldest t.multi t.offset k is t.id t.first f.0 f.1) in
    record {
      lawful = taken.lawful;
      first = λ missing. absurd (false≢true (sym (subst IsNone s.counters_are missing)));
      fits = subst (λ (z : Rec). IsTrue (number_fits (log_next log) z)) (sym t.is) refl;
      base = subst (λ (o : Option Counters). IsBase (after_record (counters_or_none o) rec)) (sym s.counters_are) taken.base;
    }

-- the record may be appended
pub may_append_truncation : (start : Start) (v : Knowledge) (n : ℕ) (s : Session) (rec : Rec) (e : Entry) → IsAt start v n s → IsTruncationOf start v.seen rec → StaysBase start v.seen rec → IsUp (at v.seen log_lock) → e ≡ append_entry (by_at n s.levels.commands) rec → MayKeep start v.seen log_lock e
may_append_truncation start v n s rec e a t base up is =
    subst (MayKeep start v.seen log_lock) (sym (is ∙ ap (append_entry (by_at n s.levels.commands)) t.is)) (λ lists k knows inside whole.
    truncate_record_law start v.seen (by_at n s.levels.commands) t.oldest t.multi t.offset (subst (StaysBase start v.seen) t.is base) t.id t.first up lists k knows inside whole (a.turns log_lock))

same_record : (a b : Rec) → kinds.Append a ≡ kinds.Append b → a ≡ b
same_record a b q = cc

-- it is neither a commit record nor an abort record
not_commit : (start : Start) (lists : List (List Entry)) (rec : Rec) (e : Entry) (top : ℕ) (subs : List ℕ) → IsTruncationOf start lists rec → e.kind ≡ kinds.Append rec → e.kind ≡ kinds.Append (records.Commit top subs) → ⊥
not_commit start lists rec e top subs t is k = let z = sym t.is ∙ same_record rec (records.Commit top subs) (sym is ∙ k) in cc

not_abort : (start : Start) (lists : List (List Entry)) (rec : Rec) (e : Entry) (top : ℕ) (subs : List ℕ) → IsTruncationOf start lists rec → e.kind ≡ kinds.Append rec → e.kind ≡ kinds.Append (records.Abort top subs) → ⊥
not_abort start lists rec e top subs t is k = let z = sym t.is ∙ same_record rec (records.Abort top subs) (sym is ∙ k) in cc

not_multi : (start : Start) (lists : List (List Entry)) (rec : Rec) (e : Entry) (multi offset : ℕ) (members : List Member) → IsTruncationOf start lists rec → e.kind ≡ kinds.Append rec → e.kind ≡ kinds.Append (records.Multi multi offset members) → ⊥
not_multi start lists rec e multi offset members t is k = let z = sym t.is ∙ same_record rec (records.Multi multi offset members) (sym is ∙ k) in cc

-- the session stands as before
pub ready_truncated : (start : Start) (v w : Knowledge) (n n' : ℕ) (s s' : Session) (rec : Rec) (e : Entry) → IsAt start v n s → log_lock < length v.seen → e ≡ append_entry (by_at n s.levels.commands) rec → IsTruncationOf start v.seen rec → s' ≡ s → n' ≡ n → Leaves start log_lock e v w → IsReady start w n' s'
ready_truncated start v w n n' s s' rec e a inside is t same number l =
    let kind : e.kind ≡ kinds.Append rec = ap (λ (z : Entry). z.kind) is in
    let still : history w.seen ≡ history v.seen = history_same start v w log_lock e (ap event_of is) inside l in
    subst (λ (z : ℕ × Session). IsReady start w z.0 z.1) (λ j. (sym number j, sym same j))
    (at_left start v w n log_lock s s e a inside (ap (λ (z : Entry). z.by) is) refl l
    (subst (λ (h : List Event). Stands start.base h n s.levels.commands s.levels) (sym still) a.stands)
    (λ q top subs k opened. a.clear q top subs
    (⊎_elim (λ old. old) (λ new. absurd (not_commit start v.seen rec e top subs t kind new.2)) (appended_cases v.seen log_lock e n (records.Commit top subs) inside (subst (λ (z : List (List Entry)). IsAppended z n (records.Commit top subs)) l.seen k)))
    (sym (ap (open_ids n) still) ∙ opened))
    (λ q. unaborted_same start v w n log_lock s e a inside (λ top subs k. not_abort start v.seen rec e top subs t kind k) l q)
    (filed_left start v w n log_lock s e a inside l)
    (makes_left start v w n log_lock s.making e l.kept inside (ap multi_of is) (λ multi offset members k. not_multi start v.seen rec e multi offset members t kind k) l a.makes))
