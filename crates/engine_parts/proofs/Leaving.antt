-- How a session stands when it has left a lock, and how the lists went on.
use Rattle.std.proofs.Common.{Option, None, Contains, Some, ⊎_elim, ◌≡◌, ℕ, ◌≤◌, ◌<◌, List, [], ◌∷◌, ◌++◌, refl, sym, ap, append-nil, subst, ◌∙◌, true, false, Bool, cond, ◌==◌, length, arith, length-set}
use Rattle.std.specs.List.{filter, All, cons_option}
use Rattle.std.proofs.lemmas.Bool.{false≢true}
use Rattle.std.proofs.lemmas.List.Elements.{filter-append, Contains-push, All-append, All-cons, All-nil}
use mathlib.Core.Logic.{dite}
use native.Mathlib.Decide.{ℕ_discrete}
use Rattle.notes.specs.Lists.{Grows, Knows, add, at}
use Rattle.notes.proofs.Growing.{at_here, at_else, begins_then, grows_add}
use Rattle.tx_events.specs.declared.event.By.{By}
use Rattle.tx_events.specs.declared.event.Event.{Event}
use Rattle.tx_events.specs.declared.record.Rec.{Rec}
use Rattle.tx_events.specs.declared.record.Rec.TheVariants as records
use Rattle.tx_events.specs.Events.{by_of, is_of}
use Rattle.tx_events.specs.Running.{open_ids}
use Rattle.tx_events.proofs.ListSteps.{eqb-refl}
use Rattle.tx_events.proofs.Membership.{Has}
use Rattle.tx_core.specs.declared.entry.Entry.{Entry}
use Rattle.tx_core.specs.declared.entry.Kind.TheVariants as kinds
use Rattle.tx_core.specs.declared.entry.Start.{Start}
use Rattle.tx_core.specs.CommitRecordsExact.{HasNoRecord}
use Rattle.tx_core.specs.EngineInvariant.{EngineInvariant}
use Rattle.tx_core.specs.AbortRule.{Asks}
use Rattle.tx_core.specs.Entries.{IsAppended, Mark, appended, appended_in, asks_in, event_of, history, session_of}
use Rattle.tx_core.specs.Locks.{log_lock, proc_lock}
use Rattle.tx_core.specs.MultiEntries.{multi_of}
use Rattle.tx_events.specs.declared.multi.Member.{Member}
use Rattle.engine_parts.specs.Makings.{Makes}
use Rattle.engine_parts.proofs.Made.{makes_left}
use Rattle.tx_core.specs.ProgramOrder.{IsInTurn}
use Rattle.tx_core.proofs.Stepping.{appended_cases, asks_cases, history_at, history_off, own_asks}
use Rattle.session_levels.specs.Stands.{Stands}
use Rattle.engine_parts.specs.declared.session.Session.{Session}
use Rattle.engine_parts.specs.declared.session.Stage.{Stage}
use Rattle.engine_parts.specs.declared.session.Stage.TheVariants as stages
use Rattle.engine_parts.specs.Holds.{Knowledge, Learns, Leaves}
use Rattle.engine_parts.specs.Sessions.{IsAt, IsFiled, IsReady, MayCall, by_at, inner_id}
use Rattle.engine_parts.specs.Stages.{AreUnaborted, AsksNothing, IsInStage, may_be_aborted, may_be_recorded}
use Rattle.engine_parts.proofs.Going.{filed_later, own_events, stage_later}

-- an entry of the command goes in turn
turn_push : (start : Start) (es : List Entry) (by : By) (e : Entry) → e.by ≡ by → IsInTurn start es by → IsInTurn start (es ++ e ∷ []) by
turn_push start es by e own t = record {
  known = t.known;
  after =
      subst (λ (l : List Entry). All (λ f. f.by.command ≤ by.command) l) (sym (filter-append (λ f. f.by.session == by.session) es (e ∷ [])))
      (All-append (λ f. f.by.command ≤ by.command) (filter (λ f. f.by.session == by.session) es) (filter (λ f. f.by.session == by.session) (e ∷ [])) t.after (last (e.by.session == by.session)));
}
  where
    last : (b : Bool) → All (λ (f : Entry). f.by.command ≤ by.command) (cond b (e ∷ []) [])
    last true = All-cons (λ (f : Entry). f.by.command ≤ by.command) e [] (let q : e.by.command ≡ by.command = ap (λ (b : By). b.command) own in omega arith) (All-nil (λ (f : Entry). f.by.command ≤ by.command))
    last false = All-nil (λ (f : Entry). f.by.command ≤ by.command)

-- ---- the lists

pub grows_then : (a b c : List (List Entry)) → Grows a b → Grows b c → Grows a c
grows_then a b c f g = record { begins = λ q. begins_then (at a q) (at b q) (at c q) (f.begins q) (g.begins q) }

-- an entry that was added stands
pub stands_left : (start : Start) (v w : Knowledge) (lock : ℕ) (e : Entry) → lock < length v.seen → Leaves start lock e v w → Contains (at w.seen lock) e
stands_left start v w lock e inside l = subst (λ (t : List Entry). Contains t e) (sym (ap (λ (z : List (List Entry)). at z lock) l.seen ∙ at_here v.seen lock e inside)) (Contains-push (at v.seen lock) e)

pub grown_left : (start : Start) (v w : Knowledge) (lock : ℕ) (e : Entry) → lock < length v.seen → Leaves start lock e v w → Grows v.seen w.seen
grown_left start v w lock e inside l = subst (Grows v.seen) (sym l.seen) (grows_add v.seen lock e inside)

-- an entry without an event leaves the history
pub history_same : (start : Start) (v w : Knowledge) (lock : ℕ) (e : Entry) → event_of e ≡ None → lock < length v.seen → Leaves start lock e v w → history w.seen ≡ history v.seen
history_same start v w lock e looks inside l = ap history l.seen ∙ dite (ℕ_discrete proc_lock lock)
    (λ (q : proc_lock ≡ lock). ap (λ z. history (add v.seen z e)) (sym q) ∙ (history_at v.seen e (subst (λ z. z < length v.seen) (sym q) inside) ∙ (ap (λ o. history v.seen ++ cons_option o []) looks ∙ append-nil (history v.seen))))
    (λ q. history_off v.seen lock e q)

-- the history with the event of the entry
pub history_event : (start : Start) (v w : Knowledge) (e : Entry) (event : Event) → event_of e ≡ Some event → proc_lock < length v.seen → Leaves start proc_lock e v w → history w.seen ≡ history v.seen ++ event ∷ []
history_event start v w e event is inside l = ap history l.seen ∙ (history_at v.seen e inside ∙ ap (λ o. history v.seen ++ cons_option o []) is)

-- between two points, the lists went on and the session has this event more
pub record Added (by : By) (event : Event) (lists lists' : List (List Entry)) : Type 0 where
  pub grows : Grows lists lists'
  pub own : filter (is_of by.session) (history lists') ≡ filter (is_of by.session) (history lists) ++ event ∷ []

pub event_added : (start : Start) (v u w : Knowledge) (by : By) (e : Entry) (event : Event) → v.name ≡ by.session → EngineInvariant start u.seen → Learns v u → event_of e ≡ Some event → by_of event ≡ by → proc_lock < length v.seen → Leaves start proc_lock e u w → Added by event v.seen w.seen
event_added start v u w by e event name k learns is own inside l =
    let long = learns.long in
    let there : proc_lock < length u.seen = omega arith in
    let knows : Knows session_of by.session v.seen u.seen = subst (λ z. Knows session_of z v.seen u.seen) name learns.knows in record {
      grows = grows_then v.seen u.seen w.seen learns.knows.grows (grown_left start u w proc_lock e there l);
      own =
          ap (filter (is_of by.session)) (history_event start u w e event is there l)
          ∙ (filter-append (is_of by.session) (history u.seen) (event ∷ [])
          ∙ ((λ j. own_events start by.session v.seen u.seen k knows j ++ cond (is_of by.session event) (event ∷ []) [])
          ∙ ap (λ b. filter (is_of by.session) (history v.seen) ++ cond b (event ∷ []) []) (ap (λ (b : By). b.session == by.session) own ∙ eqb-refl by.session)));
    }

-- an entry that asks for no state
pub asks_nothing : (start : Start) (v u w : Knowledge) (n lock : ℕ) (e : Entry) → v.name ≡ n → Learns v u → lock < length v.seen → Leaves start lock e u w → asks_in e ≡ [] → AsksNothing n v.seen w.seen
asks_nothing start v u w n lock e name learns inside l none id state a =
    let long = learns.long in
    let knows : Knows session_of n v.seen u.seen = subst (λ z. Knows session_of z v.seen u.seen) name learns.knows in
    own_asks n id state v.seen u.seen knows
    (⊎_elim (λ old. old) (λ new. absurd (subst (λ (ms : List Mark). Has ms (record { caller = new.1; id = id; state = state })) none new.3))
    (asks_cases u.seen lock e n id state (omega arith) (subst (λ (ls : List (List Entry)). Asks ls n id state) l.seen a)))

-- ---- the session

-- a session that added an entry stands by what it left of the history, of its records and of its parents
pub at_left : (start : Start) (v w : Knowledge) (n lock : ℕ) (s s' : Session) (e : Entry) → IsAt start v n s → lock < length v.seen → e.by ≡ by_at n s.levels.commands → s'.levels.commands ≡ s.levels.commands → Leaves start lock e v w
    → Stands start.base (history w.seen) n s'.levels.commands s'.levels → (may_be_recorded s'.stage ≡ false → HasNoRecord w.seen n) → (may_be_aborted s'.stage ≡ false → AreUnaborted w.seen n s'.levels.open_ids.items) → IsFiled start w.seen n s'.levels.open_ids.items s'.unlinked → Makes start w.seen n s'.making → IsReady start w n s'
at_left start v w n lock s s' e a inside own count l st clear unaborted filed makes =
    let turn : (k : ℕ) → IsInTurn start (at (add v.seen lock e) k) (by_at n s.levels.commands) = λ k.
    dite (ℕ_discrete k lock)
    (λ (q : k ≡ lock). subst (λ z. IsInTurn start (at (add v.seen lock e) z) (by_at n s.levels.commands)) (sym q) (subst (λ (t : List Entry). IsInTurn start t (by_at n s.levels.commands)) (sym (at_here v.seen lock e inside)) (turn_push start (at v.seen lock) (by_at n s.levels.commands) e own (a.turns lock))))
    (λ q. subst (λ (t : List Entry). IsInTurn start t (by_at n s.levels.commands)) (sym (at_else v.seen lock k e q)) (a.turns k)) in
    record {
      free = l.free;
      at = record {
        base = a.base;
        before = a.before;
        kept = l.kept;
        name = l.name ∙ a.name;
        known = a.known;
        wide = let g : length w.seen ≡ length v.seen = ap length l.seen ∙ length-set v.seen lock (at v.seen lock ++ e ∷ []) in let f = a.wide in omega arith;
        turns = λ k. subst (λ (z : List (List Entry) × ℕ). IsInTurn start (at z.0 k) (by_at n z.1)) (λ j. (sym l.seen j, sym count j)) (turn k);
        stands = st;
        clear = clear;
        unaborted = unaborted;
        filed = filed;
        makes = makes;
      };
    }

-- an entry that is no record leaves the session without one
pub clear_same : (start : Start) (v w : Knowledge) (n lock : ℕ) (s : Session) (e : Entry) → IsAt start v n s → lock < length v.seen → appended e ≡ None → open_ids n (history w.seen) ≡ open_ids n (history v.seen) → Leaves start lock e v w → may_be_recorded s.stage ≡ false → HasNoRecord w.seen n
clear_same start v w n lock s e a inside none same l q top subs k opened =
    let rec : Rec = records.Commit top subs in
    a.clear q top subs
    (⊎_elim (λ old. old) (λ new. absurd (some_none e rec none new.2)) (appended_cases v.seen lock e n rec inside (subst (λ (z : List (List Entry)). IsAppended z n rec) l.seen k)))
    (sym same ∙ opened)
  where
    some_none : (e : Entry) (rec : Rec) → appended e ≡ None → e.kind ≡ kinds.Append rec → ⊥
    some_none e rec none is = cc

-- and one that is no abort record leaves it so of the ids that were open
pub unaborted_same : (start : Start) (v w : Knowledge) (n lock : ℕ) (s : Session) (e : Entry) → IsAt start v n s → lock < length v.seen → ((top : ℕ) (subs : List ℕ) → e.kind ≡ kinds.Append (records.Abort top subs) → ⊥) → Leaves start lock e v w → may_be_aborted s.stage ≡ false → AreUnaborted w.seen n s.levels.open_ids.items
unaborted_same start v w n lock s e a inside other l q id c top subs named among =
    let rec : Rec = records.Abort top subs in
    a.unaborted q id c top subs
    (⊎_elim (λ old. old) (λ new. absurd (other top subs new.2)) (appended_cases v.seen lock e n rec inside (subst (λ (z : List (List Entry)). IsAppended z n rec) l.seen named))) among

-- no record at all
pub no_abort : (e : Entry) → appended e ≡ None → (top : ℕ) (subs : List ℕ) → e.kind ≡ kinds.Append (records.Abort top subs) → ⊥
no_abort e none top subs is = let some = sym (ap (appended_in e.by) is) ∙ none in cc

pub filed_left : (start : Start) (v w : Knowledge) (n lock : ℕ) (s : Session) (e : Entry) → IsAt start v n s → lock < length v.seen → Leaves start lock e v w → IsFiled start w.seen n s.levels.open_ids.items s.unlinked
filed_left start v w n lock s e a inside l = filed_later start v.seen w.seen n s.levels.open_ids.items s.unlinked (grown_left start v w lock e inside l) a.filed

-- no record of a multixact
pub no_multi : (e : Entry) → appended e ≡ None → (multi offset : ℕ) (members : List Member) → e.kind ≡ kinds.Append (records.Multi multi offset members) → ⊥
no_multi e none multi offset members is = let some = sym (ap (appended_in e.by) is) ∙ none in cc

-- a session that added an entry without an event and without a record stands as before
pub ready_quiet : (start : Start) (v w : Knowledge) (n n' lock : ℕ) (s s' : Session) (e : Entry) → IsAt start v n s → lock < length v.seen → e.by ≡ by_at n s.levels.commands → event_of e ≡ None → appended e ≡ None → multi_of e ≡ None → s' ≡ s → n' ≡ n → Leaves start lock e v w → IsReady start w n' s'
ready_quiet start v w n n' lock s s' e a inside own none no_record no_event same number l =
    let still : history w.seen ≡ history v.seen = history_same start v w lock e none inside l in
    subst (λ (z : ℕ × Session). IsReady start w z.0 z.1) (λ j. (sym number j, sym same j))
    (at_left start v w n lock s s e a inside own refl l (subst (λ (h : List Event). Stands start.base h n s.levels.commands s.levels) (sym still) a.stands) (clear_same start v w n lock s e a inside no_record (ap (open_ids n) still) l) (unaborted_same start v w n lock s e a inside (no_abort e no_record) l) (filed_left start v w n lock s e a inside l) (makes_left start v w n lock s.making e l.kept inside no_event (no_multi e no_record) l a.makes))

-- a session that only looked stands as before
pub ready_looked : (start : Start) (v w : Knowledge) (n n' lock : ℕ) (s s' : Session) (e : Entry) → IsAt start v n s → lock < length v.seen → e ≡ record { by = by_at n s.levels.commands; kind = kinds.Look } → s' ≡ s → n' ≡ n → Leaves start lock e v w → IsReady start w n' s'
ready_looked start v w n n' lock s s' e a inside is same number l =
    ready_quiet start v w n n' lock s s' e a inside (ap (λ (z : Entry). z.by) is) (ap event_of is) (ap appended is) (ap multi_of is) same number l

same_record : (a b : Rec) → kinds.Append a ≡ kinds.Append b → a ≡ b
same_record a b q = cc

-- a session whose commit record stands
pub ready_recorded : (start : Start) (v w : Knowledge) (n n' number : ℕ) (s s' : Session) (rec : Rec) (e : Entry) → IsAt start v n s → log_lock < length v.seen → e ≡ record { by = by_at n s.levels.commands; kind = kinds.Append rec } → ((top : ℕ) (subs : List ℕ) → rec ≡ records.Abort top subs → ⊥) → ((multi offset : ℕ) (members : List Member) → rec ≡ records.Multi multi offset members → ⊥) → s.stage ≡ stages.Clear → s' ≡ record s { stage = stages.Logged number } → n' ≡ n → Leaves start log_lock e v w → IsReady start w n' s'
ready_recorded start v w n n' number s s' rec e a inside is other another clear same name l =
    let still : history w.seen ≡ history v.seen = history_same start v w log_lock e (ap event_of is) inside l in
    let t : Session = record s { stage = stages.Logged number } in
    subst (λ (z : ℕ × Session). IsReady start w z.0 z.1) (λ j. (sym name j, sym same j))
    (at_left start v w n log_lock s t e a inside (ap (λ (z : Entry). z.by) is) refl l (subst (λ (h : List Event). Stands start.base h n s.levels.commands s.levels) (sym still) a.stands)
    (λ q. absurd (false≢true (sym q)))
    (λ q. unaborted_same start v w n log_lock s e a inside (λ top subs k. other top subs (same_record rec (records.Abort top subs) (sym (ap (λ (z : Entry). z.kind) is) ∙ k))) l (ap may_be_aborted clear)) (filed_left start v w n log_lock s e a inside l)
    (makes_left start v w n log_lock s.making e l.kept inside (ap multi_of is) (λ multi offset members k. another multi offset members (same_record rec (records.Multi multi offset members) (sym (ap (λ (z : Entry). z.kind) is) ∙ k))) l a.makes))

-- a call's session at its end, where its one entry asked for no state and it has the same open ids and stage
pub call_left : (start : Start) (v u w : Knowledge) (n n' lock : ℕ) (s s' : Session) (e : Entry) → MayCall start v n s → Learns v u → lock < length v.seen → Leaves start lock e u w → asks_in e ≡ []
    → inner_id s' ≡ inner_id s → s'.levels.open_ids.items ≡ s.levels.open_ids.items → s'.stage ≡ s.stage → n' ≡ n → IsReady start w n' s' → MayCall start w n' s'
call_left start v u w n n' lock s s' e m learns inside l none inner opened stage number r =
    let long = learns.long in
    let grown : Grows v.seen w.seen = grows_then v.seen u.seen w.seen learns.knows.grows (grown_left start u w lock e (omega arith) l) in
    record {
      ready = r;
      stage = subst (λ (z : ((Option ℕ × List ℕ) × Stage) × ℕ). IsInStage start w.seen z.1 z.0.0.0 z.0.0.1 z.0.1) (λ j. (((sym inner j, sym opened j), sym stage j), sym number j))
          (stage_later start v.seen w.seen n (inner_id s) s.levels.open_ids.items s.stage grown (asks_nothing start v u w n lock e m.ready.at.name learns inside l none) m.stage);
    }
