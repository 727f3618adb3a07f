-- A transaction ends.
use Rattle.std.proofs.Common.{◌≡◌, ℕ, ◌≤◌, List, [], ◌∷◌, ◌++◌, None, refl, sym, ap, subst, ◌∙◌, drop, get_or, length, arith, true, Contains}
use Rattle.notes.specs.Lists.{Grows, at}
use Rattle.tx_events.specs.declared.event.By.{By}
use Rattle.tx_events.specs.declared.event.Event.{Event}
use Rattle.tx_events.specs.declared.record.Rec.TheVariants as records
use Rattle.tx_events.specs.declared.xact_end.XactEnd.{XactEnd}
use Rattle.tx_events.specs.declared.xact_end.XactEnd.TheVariants as ends
use Rattle.tx_events.specs.Families.{is_top}
use Rattle.tx_events.specs.Running.{open_ids}
use Rattle.tx_events.specs.XactEnds.{end_event}
use Rattle.tx_events.specs.Events.{by_of}
use Rattle.tx_events.proofs.Membership.{contains_has}
use Rattle.tx_core.specs.declared.entry.Entry.{Entry}
use Rattle.tx_core.specs.declared.entry.Kind.TheVariants as kinds
use Rattle.tx_core.specs.declared.entry.Start.{Start}
use Rattle.tx_core.specs.CommitRecordsExact.{HasNoRecord}
use Rattle.tx_core.specs.Entries.{appended, IsAppended, IsMarked, event_of, history}
use Rattle.tx_core.specs.Locks.{proc_lock}
use Rattle.tx_core.specs.PostsFollow.{IsShown}
use Rattle.tx_core.specs.ProgramOrder.{IsInTurn}
use Rattle.tx_core.proofs.EventLaws.{abort_event_law, commit_event_law}
use Rattle.tx_core.proofs.Lasting.{appended_grows, marked_grows}
use Rattle.session_levels.specs.Stands.{Stands}
use Rattle.session_levels.proofs.HeadLemmas.{first_top, head_tail, heads, may_end, tails}
use Rattle.session_levels.proofs.StandsLemmas.{stands, stood, stood_ended}
use Rattle.engine_parts.specs.declared.session.Session.{Session}
use Rattle.engine_parts.specs.declared.session.Stage.TheVariants as stages
use Rattle.engine_parts.specs.Holds.{Knowledge, Leaves}
use Rattle.engine_parts.specs.Law.{MayKeep}
use Rattle.engine_parts.specs.Sessions.{IsAt, IsReady, MayCall, by_at, inner_id}
use Rattle.engine_parts.proofs.Leaving.{at_left, history_event, no_multi}
use Rattle.engine_parts.proofs.Made.{makes_left}
use Rattle.tx_core.specs.MultiEntries.{multi_of}
use Rattle.engine_parts.specs.Makings.{Makes}
use Rattle.engine_parts.proofs.Pending.{record_of}
use Rattle.engine_parts.specs.Stages.{AreUnaborted}
use Rattle.proc_sections.specs.Endings.{MayEnd, end_state}

abbrev pub end_entry : XactEnd → By → ℕ → Entry
end_entry how by top = record { by = by; kind = kinds.Event (end_event how by top) }

pub end_by : (how : XactEnd) (by : By) (top : ℕ) → by_of (end_event how by top) ≡ by
end_by ends.Commit by top = refl
end_by ends.Abort by top = refl

-- the commit record of a commit, and of an abort none
abbrev pub RecordFor : XactEnd → List (List Entry) → ℕ → ℕ → List ℕ → Type 0
RecordFor ends.Commit lists n top subs = IsAppended lists n (records.Commit top subs)
RecordFor ends.Abort lists n top subs = HasNoRecord lists n

pub record_for : (start : Start) (how : XactEnd) (v u : Knowledge) (n top : ℕ) (subs : List ℕ) (s : Session) → MayCall start v n s → IsAt start u n s → Grows v.seen u.seen → s.levels.open_ids.items ≡ top ∷ subs → MayEnd start v.seen s how → RecordFor how u.seen n top subs
record_for start ends.Commit v u n top subs s m a g split end =
    let r = record_of start v.seen n (inner_id s) s.levels.open_ids.items s.stage end.recorded m.stage in
    let same : r.top ∷ r.subs ≡ top ∷ subs = sym r.ids ∙ split in
    appended_grows v.seen u.seen n (records.Commit top subs) g (subst (λ (z : ℕ × List ℕ). IsAppended v.seen n (records.Commit z.0 z.1)) (λ j. (heads r.top top r.subs subs same j, tails r.top top r.subs subs same j)) r.appended)
record_for start ends.Abort v u n top subs s m a g split end = a.clear end.recorded

pub may_add_end : (start : Start) (seen : List (List Entry)) (how : XactEnd) (by : By) (top : ℕ) (subs : List ℕ) (e : Entry) → e ≡ end_entry how by top → IsShown start seen → open_ids by.session (history seen) ≡ top ∷ subs → is_top (history seen) top ≡ true → RecordFor how seen by.session top subs
    → ((id : ℕ) → Contains (top ∷ subs) id → IsMarked start seen id (end_state how)) → IsInTurn start (at seen proc_lock) by → MayKeep start seen proc_lock e
may_add_end start seen ends.Commit by top subs e is shown opened root rec marked turn =
    subst (MayKeep start seen proc_lock) (sym is) (λ lists k knows inside whole. commit_event_law start seen by top subs shown (may_end start.base (history seen) by top subs ends.Commit opened root) rec marked lists k knows inside whole turn)
may_add_end start seen ends.Abort by top subs e is shown opened root rec marked turn =
    subst (MayKeep start seen proc_lock) (sym is) (λ lists k knows inside whole. abort_event_law start seen by top shown (may_end start.base (history seen) by top subs ends.Abort opened root) rec (λ x c. marked x (subst (λ (l : List ℕ). Contains l x) opened c)) lists k knows inside whole turn)

-- the states that were set stand as others go on
pub marked_on : (start : Start) (seen lists : List (List Entry)) (opened : List ℕ) (top : ℕ) (subs : List ℕ) (how : XactEnd) → Grows seen lists → opened ≡ top ∷ subs → ((id : ℕ) → Contains opened id → IsMarked start seen id (end_state how)) → (id : ℕ) → Contains (top ∷ subs) id → IsMarked start lists id (end_state how)
marked_on start seen lists opened top subs how g split marked id c = marked_grows start seen lists id (end_state how) g (marked id (subst (λ (l : List ℕ). Contains l id) (sym split) c))

-- the session stands without a transaction
pub ready_ended : (start : Start) (v w : Knowledge) (n n' : ℕ) (s s' : Session) (how : XactEnd) (top : ℕ) (subs : List ℕ) (e : Entry) → IsAt start v n s → e ≡ end_entry how (by_at n s.levels.commands) top → s.levels.open_ids.items ≡ top ∷ subs → s'.levels.commands ≡ s.levels.commands → s'.levels.level_ids.items ≡ [] → s'.levels.unnamed ≡ 0 → s'.levels.open_ids.items ≡ []
    → s'.levels.registered ≡ s.levels.registered → s'.unlinked ≡ None → s'.making ≡ s.making → n' ≡ n → Leaves start proc_lock e v w → IsReady start w n' s'
ready_ended start v w n n' s s' how top subs e a is split count named unnamed opened registered unlinked making number l =
    let wide = a.wide in
    let h : List Event = history v.seen in
    let event : Event = end_event how (by_at n s.levels.commands) top in
    let grown : history w.seen ≡ h ++ event ∷ [] = history_event start v w e event (ap event_of is) (omega arith) l in
    let st = stood_ended start.base h (by_at n s.levels.commands) top s.levels.unnamed subs s.levels.open_ids.items s.levels.level_ids.items s.levels.registered.items how a.kept.events.legal split (first_top h s.levels.open_ids.items s.levels.level_ids.items top subs a.stands.nest split) (stood start.base h n s.levels.commands s.levels a.stands) in
    subst (λ z. IsReady start w z s') (sym number)
    (at_left start v w n proc_lock s s' e a (omega arith) (ap (λ (z : Entry). z.by) is) count l
    (subst (λ (z : List Event × ℕ). Stands start.base z.0 n z.1 s'.levels) (λ j. (sym grown j, sym count j)) (stands start.base (h ++ event ∷ []) n s.levels.commands s'.levels (rw (opened, named, unnamed, registered) st)))
    (λ q t more k now. absurd (none_open t more (sym st.opened_are ∙ (ap (open_ids n) (sym grown) ∙ now))))
    (λ q. subst (λ (t : List ℕ). AreUnaborted w.seen n t) (sym opened) (λ id c. absurd (contains_has [] id c)))
    (rw (opened, unlinked) (record { linked = λ id c. absurd (contains_has [] id c); pending = tt }))
    (subst (Makes start w.seen n) (sym making) (makes_left start v w n proc_lock s.making e l.kept (omega arith) (ap multi_of is) (no_multi e (ap appended is)) l a.makes)))
  where
    none_open : (t : ℕ) (more : List ℕ) → [] ≡ t ∷ more → ⊥
    none_open t more e = cc

-- and so it may call
pub call_ended : (start : Start) (w : Knowledge) (n : ℕ) (s : Session) → IsReady start w n s → s.levels.open_ids.items ≡ [] → s.stage ≡ stages.Clear → MayCall start w n s
call_ended start w n s ready opened clear = record {
  ready = ready;
  stage = rw (opened, clear) (λ id state c asked. contains_has [] id c);
}

pub split_first : (xs : List ℕ) (x : ℕ) → 1 ≤ length xs → x ≡ get_or xs 0 x → xs ≡ x ∷ drop 1 xs
split_first xs x some is = head_tail xs x some ∙ ap (λ z. z ∷ drop 1 xs) (sym is)
