-- The abort record of what a session has open.
use Rattle.std.proofs.Common.{Contains, ⊎_elim, ◌≡◌, ℕ, ◌<◌, List, false, refl, sym, ap, subst, ◌∙◌, length}
use Rattle.std.proofs.lemmas.Bool.{false≢true}
use Rattle.notes.specs.Lists.{at}
use Rattle.tx_events.specs.declared.event.Event.{Event}
use Rattle.tx_events.specs.declared.record.Rec.{Rec}
use Rattle.tx_events.specs.declared.record.Rec.TheVariants as records
use Rattle.tx_events.specs.Running.{open_ids}
use Rattle.tx_events.specs.declared.multi.Member.{Member}
use Rattle.tx_core.specs.MultiEntries.{multi_of}
use Rattle.engine_parts.proofs.Made.{makes_left}
use Rattle.tx_core.specs.declared.entry.Entry.{Entry}
use Rattle.tx_core.specs.declared.entry.Kind.TheVariants as kinds
use Rattle.tx_core.specs.declared.entry.Start.{Start}
use Rattle.tx_core.specs.Entries.{IsAppended, event_of, history}
use Rattle.tx_core.specs.Laws.{StaysBase}
use Rattle.tx_core.specs.Locks.{log_lock}
use Rattle.tx_core.specs.StaysDown.{IsUp}
use Rattle.tx_core.proofs.Quiet.{abort_record_law}
use Rattle.tx_core.proofs.Stepping.{appended_cases}
use Rattle.session_levels.specs.Stands.{Stands}
use Rattle.engine_parts.specs.declared.session.Session.{Session}
use Rattle.engine_parts.specs.declared.session.Stage.TheVariants as stages
use Rattle.engine_parts.specs.Holds.{Knowledge, Leaves}
use Rattle.engine_parts.specs.Law.{MayKeep}
use Rattle.engine_parts.specs.Sessions.{IsAt, IsReady, MayCall, by_at, inner_id}
use Rattle.engine_parts.specs.Stages.{IsInStage, may_be_aborted, may_be_recorded}
use Rattle.engine_parts.proofs.Leaving.{at_left, filed_left, history_same}
use Rattle.session_levels.proofs.HeadLemmas.{first_top}
use Rattle.log_sections.specs.LogSections.{IsAbortOf}

-- the abort record may be appended
pub may_append_abort : (start : Start) (v : Knowledge) (n : ℕ) (s : Session) (rec : Rec) (e : Entry) → IsAt start v n s → may_be_recorded s.stage ≡ false → may_be_aborted s.stage ≡ false → IsAbortOf s.levels.open_ids.items rec → StaysBase start v.seen rec → IsUp (at v.seen log_lock) → e ≡ record { by = by_at n s.levels.commands; kind = kinds.Append rec } → MayKeep start v.seen log_lock e
may_append_abort start v n s rec e a clear unaborted r base up is =
    subst (MayKeep start v.seen log_lock) (sym (is ∙ ap (λ (z : Rec). record { by = by_at n s.levels.commands; kind = kinds.Append z }) r.is)) (λ lists k knows inside whole.
    abort_record_law start v.seen (by_at n s.levels.commands) r.top r.subs (a.stands.opened ∙ r.ids) (first_top (history v.seen) s.levels.open_ids.items s.levels.level_ids.items r.top r.subs a.stands.nest r.ids)
    (a.clear clear) (λ id k. a.unaborted unaborted id (subst (λ (l : List ℕ). Contains l id) (sym r.ids) k)) (subst (StaysBase start v.seen) r.is base) up lists k knows inside whole (a.turns log_lock))

no_commit : (r s : ℕ) (subs others : List ℕ) → kinds.Append (records.Abort r subs) ≡ kinds.Append (records.Commit s others) → ⊥
no_commit r s subs others e = cc

not_multi : (r : ℕ) (subs : List ℕ) (multi offset : ℕ) (members : List Member) → kinds.Append (records.Abort r subs) ≡ kinds.Append (records.Multi multi offset members) → ⊥
not_multi r subs multi offset members e = cc

-- behind it the session's abort is pending
pub ready_aborted : (start : Start) (v w : Knowledge) (n n' : ℕ) (s s' : Session) (rec : Rec) (e : Entry) → IsAt start v n s → may_be_recorded s.stage ≡ false → IsAbortOf s.levels.open_ids.items rec → log_lock < length v.seen → e ≡ record { by = by_at n s.levels.commands; kind = kinds.Append rec } → s' ≡ record s { stage = stages.Aborting } → n' ≡ n → Leaves start log_lock e v w → IsReady start w n' s'
ready_aborted start v w n n' s s' rec e a clear r inside is same number l =
    let t : Session = record s { stage = stages.Aborting } in
    let still : history w.seen ≡ history v.seen = history_same start v w log_lock e (ap event_of is) inside l in
    let kind : e.kind ≡ kinds.Append (records.Abort r.top r.subs) = ap (λ (z : Entry). z.kind) is ∙ ap (λ (z : Rec). kinds.Append z) r.is in
    subst (λ (z : ℕ × Session). IsReady start w z.0 z.1) (λ j. (sym number j, sym same j))
    (at_left start v w n log_lock s t e a inside (ap (λ (z : Entry). z.by) is) refl l (subst (λ (h : List Event). Stands start.base h n s.levels.commands s.levels) (sym still) a.stands)
    (λ q top subs k opened. a.clear clear top subs
    (⊎_elim (λ old. old) (λ new. absurd (no_commit r.top top r.subs subs (sym kind ∙ new.2))) (appended_cases v.seen log_lock e n (records.Commit top subs) inside (subst (λ (z : List (List Entry)). IsAppended z n (records.Commit top subs)) l.seen k)))
    (sym (ap (open_ids n) still) ∙ opened))
    (λ q. absurd (false≢true (sym q)))
    (filed_left start v w n log_lock s e a inside l)
    (makes_left start v w n log_lock s.making e l.kept inside (ap multi_of is) (λ multi offset members k. not_multi r.top r.subs multi offset members (sym kind ∙ k)) l a.makes))

-- and it may call
pub call_pending : (start : Start) (w : Knowledge) (n n' : ℕ) (s s' : Session) → s' ≡ record s { stage = stages.Aborting } → n' ≡ n → IsReady start w n' s' → MayCall start w n' s'
call_pending start w n n' s s' same number r = record {
  ready = r;
  stage = subst (λ z. IsInStage start w.seen n' (inner_id s') s'.levels.open_ids.items z) (sym (ap (λ (z : Session). z.stage) same)) tt;
}
