-- How a session stands while others go on.
use Rattle.std.proofs.Common.{Contains, drop, Option, None, Some, IfSome, ⊎_elim, ◌≡◌, ◌≢◌, ℕ, ◌+◌, ◌≤◌, List, [], ◌∷◌, ◌++◌, inl, inr, refl, sym, ap, subst, ◌∙◌, ◌==◌, arith}
use Rattle.std.proofs.lemmas.List.Elements.{All-weaker, Contains-append_left}
use Rattle.std.specs.List.{filter, All}
use Rattle.notes.specs.Lists.{Grows, Knows, at}
use Rattle.tx_events.specs.declared.event.Event.{Event}
use Rattle.tx_events.specs.declared.event.Event.TheVariants as events
use Rattle.tx_events.specs.declared.record.Rec.{Rec}
use Rattle.tx_events.specs.declared.record.Rec.TheVariants as records
use Rattle.tx_events.specs.Events.{by_of, is_of}
use Rattle.tx_events.specs.History.{IsLegal}
use Rattle.tx_events.proofs.ListSteps.{all_weaker}
use Rattle.tx_events.proofs.Membership.{Has}
use Rattle.tx_core.specs.declared.entry.Entry.{Entry}
use Rattle.tx_core.specs.declared.entry.Start.{Start}
use Rattle.tx_core.specs.declared.entry.State.{State}
use Rattle.tx_core.specs.declared.entry.State.TheVariants as states
use Rattle.tx_core.specs.EngineInvariant.{EngineInvariant}
use Rattle.tx_core.specs.Entries.{IsMarked, appended, history, records_of, session_of}
use Rattle.tx_core.specs.Locks.{log_lock}
use Rattle.tx_core.specs.PagesBeforeIds.{IsMade}
use Rattle.tx_core.specs.ParentsFollow.{IsGivenBelow}
use Rattle.tx_core.proofs.Growing.{begins_filter_map, slice_get_begins}
use Rattle.tx_core.proofs.Lasting.{flushed_grows, history_grows, linked_grows, made_grows, marked_grows}
use Rattle.tx_core.proofs.Stepping.{open_seen, others_since, own_appended, own_asks}
use Rattle.session_levels.specs.declared.session.Session as plain
use Rattle.session_levels.specs.Stands.{Stands}
use Rattle.session_levels.proofs.Beside.{AreBeside, own_beside, stands_beside}
use Rattle.engine_parts.specs.declared.session.Session.{Session}
use Rattle.engine_parts.specs.declared.session.Stage.{Stage}
use Rattle.engine_parts.specs.declared.session.Stage.TheVariants as stages
use Rattle.engine_parts.specs.declared.session.Unlinked.{Unlinked}
use Rattle.engine_parts.specs.Holds.{Knowledge, Learns}
use Rattle.engine_parts.specs.Sessions.{CallsStay, IsAt, IsFiled, IsReady, inner_id}
use Rattle.engine_parts.proofs.Made.{makes_on}
use Rattle.engine_parts.specs.Stages.{AsksNothing, IsAppendedAt, IsInStage, IsLogged, state_of}

beside_of : (n : ℕ) (es : List Event) → ((e : Event) → Has es e → (by_of e).session ≢ n) → AreBeside n es
beside_of n [] f = tt
beside_of n (e ∷ es) f = (f e (inl refl), beside_of n es (λ x k. f x (inr k)))

-- what the history has more than was seen is of others
pub record Rest (n : ℕ) (h h' : List Event) : Type 0 where
  pub rest : List Event
  pub split : h ++ rest ≡ h'
  pub beside : AreBeside n rest

pub rest_of : (start : Start) (n : ℕ) (seen lists : List (List Entry)) → EngineInvariant start lists → Knows session_of n seen lists → Rest n (history seen) (history lists)
rest_of start n seen lists k knows = let o = others_since start n seen lists k knows in record { rest = o.rest; split = o.split; beside = beside_of n o.rest o.others }

-- the session's own events are those that it has seen
pub own_events : (start : Start) (n : ℕ) (seen lists : List (List Entry)) → EngineInvariant start lists → Knows session_of n seen lists → filter (is_of n) (history lists) ≡ filter (is_of n) (history seen)
own_events start n seen lists k knows = let r = rest_of start n seen lists k knows in ap (filter (is_of n)) (sym r.split) ∙ own_beside n (history seen) r.rest r.beside

pub stands_on : (start : Start) (n m : ℕ) (s : plain.Session) (seen lists : List (List Entry)) → EngineInvariant start seen → EngineInvariant start lists → Knows session_of n seen lists → Stands start.base (history seen) n m s → Stands start.base (history lists) n m s
stands_on start n m s seen lists before k knows st =
    let r = rest_of start n seen lists k knows in
    subst (λ (h : List Event). Stands start.base h n m s) r.split (stands_beside start.base (history seen) r.rest n m s before.events.legal (subst (IsLegal start.base) (sym r.split) k.events.legal) r.beside st)

-- ---- what was seen stays

pub below_later : (lists more : List (List Entry)) (n parent id : ℕ) → Grows lists more → IsGivenBelow lists n parent id → IsGivenBelow more n parent id
below_later lists more n parent id g b = let h = history_grows lists more g in (b.0, b.1, subst (λ (t : List Event). Contains t (events.Sub b.0 parent id)) h.1 (Contains-append_left (history lists) h.0 (events.Sub b.0 parent id) b.2))

pub filed_later : (start : Start) (lists more : List (List Entry)) (n : ℕ) (opened : List ℕ) (unlinked : Option Unlinked) → Grows lists more → IsFiled start lists n opened unlinked → IsFiled start more n opened unlinked
filed_later start lists more n opened unlinked g f = record {
  linked = λ id k. ⊎_elim (λ p. inl (p.0, linked_grows start lists more id p.0 g p.1)) inr (f.linked id k);
  pending = later unlinked f.pending;
}
  where
    later : (o : Option Unlinked) → IfSome o (λ u. Contains (drop 1 opened) u.id × IsGivenBelow lists n u.parent u.id × IsMade start lists u.id) → IfSome o (λ u. Contains (drop 1 opened) u.id × IsGivenBelow more n u.parent u.id × IsMade start more u.id)
    later None p = tt
    later (Some u) p = (p.0, below_later lists more n u.parent u.id g p.1, made_grows start lists more u.id g p.2)

pub appended_at_later : (start : Start) (lists more : List (List Entry)) (n : ℕ) (rec : Rec) (number : ℕ) → Grows lists more → IsAppendedAt start lists n rec number → IsAppendedAt start more n rec number
appended_at_later start lists more n rec number g a = record {
  place = a.place;
  by = a.by;
  own = a.own;
  stands = slice_get_begins (records_of lists) (records_of more) a.place (a.by, rec) (begins_filter_map appended (at lists log_lock) (at more log_lock) (g.begins log_lock)) a.stands;
  numbered = a.numbered;
}

pub logged_later : (start : Start) (lists more : List (List Entry)) (n : ℕ) (opened : List ℕ) (number : ℕ) → Grows lists more → AsksNothing n lists more → IsLogged start lists n opened number → IsLogged start more n opened number
logged_later start lists more n opened number g asks l = record {
  top = l.top;
  subs = l.subs;
  ids = l.ids;
  appended = appended_at_later start lists more n (records.Commit l.top l.subs) number g l.appended;
  unasked = λ id state c asked. l.unasked id state c (asks id state asked);
}

marked_later : (start : Start) (lists more : List (List Entry)) (id : ℕ) (o : Option State) → Grows lists more → IfSome o (λ state. IsMarked start lists id state) → IfSome o (λ state. IsMarked start more id state)
marked_later start lists more id None g m = tt
marked_later start lists more id (Some state) g m = marked_grows start lists more id state g m

-- where the session asked for no more states
pub stage_later : (start : Start) (lists more : List (List Entry)) (n : ℕ) (inner : Option ℕ) (opened : List ℕ) (stage : Stage) → Grows lists more → AsksNothing n lists more → IsInStage start lists n inner opened stage → IsInStage start more n inner opened stage
stage_later start lists more n inner opened stages.Clear g asks a = λ id state c asked. a id state c (asks id state asked)
stage_later start lists more n inner opened (stages.Logged number) g asks l = logged_later start lists more n opened number g asks l
stage_later start lists more n inner opened (stages.Settling steps) g asks l = record {
  top = l.top;
  subs = l.subs;
  ids = l.ids;
  flushed = flushed_grows start lists more n (records.Commit l.top l.subs) g l.flushed;
  upto = l.upto;
  done = λ j p before found id c. marked_later start lists more id (state_of p.state) g (l.done j p before found id c);
  fresh = λ p found sub id c asked. l.fresh p found sub id c (asks id states.Committed asked);
}
stage_later start lists more n inner opened stages.Aborting g asks a = tt
stage_later start lists more n inner opened stages.Undoing g asks u = record { savepoint = u.savepoint; innermost = u.innermost; unasked = λ id state c below asked. u.unasked id state c below (asks id state asked) }

-- ---- the session

-- a session stands as it did in what it has seen since
pub at_on : (start : Start) (v w : Knowledge) (n : ℕ) (s : Session) → IsAt start v n s → Learns v w → EngineInvariant start w.seen → IsAt start w n s
at_on start v w n s a l k =
    let knows : Knows session_of n v.seen w.seen = subst (λ (z : ℕ). Knows session_of z v.seen w.seen) a.name l.knows in record {
      base = a.base;
      before = a.before;
      kept = k;
      name = l.name ∙ a.name;
      known = a.known;
      wide = let e = l.long in let f = a.wide in omega arith;
      turns = λ lock. let t = a.turns lock in record { known = t.known; after = subst (λ (es : List Entry). All (λ (f : Entry). f.by.command ≤ s.levels.commands) es) (sym (knows.own lock)) t.after };
      stands = stands_on start n s.levels.commands s.levels v.seen w.seen a.kept k knows a.stands;
      clear = λ q top subs appended opened. a.clear q top subs (own_appended n v.seen w.seen (records.Commit top subs) knows appended) (sym (open_seen start n v.seen w.seen k knows) ∙ opened);
      unaborted = λ q id c top subs named among. a.unaborted q id c top subs (own_appended n v.seen w.seen (records.Abort top subs) knows named) among;
      filed = filed_later start v.seen w.seen n s.levels.open_ids.items s.unlinked knows.grows a.filed;
      makes = makes_on start n s.making v.seen w.seen k knows a.makes;
    }

-- and may call as it might
pub calls_stay : CallsStay
calls_stay start v w n s may l k free =
    let a = may.ready.at in
    let knows : Knows session_of n v.seen w.seen = subst (λ (z : ℕ). Knows session_of z v.seen w.seen) a.name l.knows in record {
      ready = record { at = at_on start v w n s a l k; free = free };
      stage = stage_later start v.seen w.seen n (inner_id s) s.levels.open_ids.items s.stage knows.grows (λ id state asked. own_asks n id state v.seen w.seen knows asked) may.stage;
    }

-- a session that goes on to its next command
pub ready_next : (start : Start) (v : Knowledge) (n : ℕ) (s s' : Session) → s' ≡ record s { levels = record s.levels { commands = s.levels.commands + 1 } } → IsReady start v n s → IsReady start v n s'
ready_next start v n s s' is r =
    let a = r.at in
    let st = a.stands in
    let t : Session = record s { levels = record s.levels { commands = s.levels.commands + 1 } } in
    subst (IsReady start v n) (sym is) (record {
      free = r.free;
      at = record {
        base = a.base;
        before = a.before;
        kept = a.kept;
        name = a.name;
        known = a.known;
        wide = a.wide;
        clear = a.clear;
        unaborted = a.unaborted;
        filed = a.filed;
        makes = a.makes;
        turns = λ lock. let t = a.turns lock in record { known = t.known; after = All-weaker (λ (f : Entry). f.by.command ≤ s.levels.commands) (λ (f : Entry). f.by.command ≤ s.levels.commands + 1) (λ f le. omega arith) (filter (λ (f : Entry). f.by.session == n) (at v.seen lock)) t.after };
        stands = record {
          opened = st.opened;
          ascend = st.ascend;
          nest = st.nest;
          depth = st.depth;
          live = st.live;
          snaps = st.snaps;
          turn = all_weaker (λ (e : Event). (by_of e).command ≤ s.levels.commands) (λ (e : Event). (by_of e).command ≤ s.levels.commands + 1) (λ e le. omega arith) (filter (is_of n) (history v.seen)) st.turn;
        };
      };
    })
