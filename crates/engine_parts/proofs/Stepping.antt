-- What one critical section leaves, and several.
use Rattle.std.proofs.Common.{None, Some, refl, ◌≡◌, ℕ, ◌<◌, List, [], ◌∷◌, ◌++◌, append_assoc, append-nil, sym, ap, subst, ◌∙◌, length, arith}
use Rattle.std.specs.List.{filter}
use Rattle.notes.specs.Lists.{Knows, at}
use Rattle.notes.proofs.Growing.{begins_same}
use Rattle.tx_events.specs.declared.event.By.{By}
use Rattle.tx_events.specs.declared.event.Event.{Event}
use Rattle.tx_events.specs.Events.{by_of, is_of}
use Rattle.tx_core.specs.declared.entry.Entry.{Entry}
use Rattle.tx_core.specs.declared.entry.Start.{Start}
use Rattle.tx_core.specs.EngineInvariant.{EngineInvariant}
use Rattle.tx_core.specs.declared.entry.Kind.{Kind}
use Rattle.tx_core.specs.declared.entry.Kind.TheVariants as kinds
use Rattle.tx_core.specs.Entries.{asks_in, event_in, event_of, history, session_of}
use Rattle.tx_core.specs.Locks.{proc_lock}
use Rattle.tx_core.specs.MultiEntries.{multi_in, multi_of}
use Rattle.tx_core.specs.OwnMultis.{is_multi_of, own_multis}
use Rattle.tx_core.proofs.OwnMultis.{own_multis_stay}
use Rattle.engine_parts.proofs.Made.{multis_same}
use Rattle.engine_parts.specs.declared.session.Session.{Session}
use Rattle.engine_parts.specs.Holds.{Knowledge, Learns, Leaves}
use Rattle.engine_parts.specs.Sessions.{IsAt}
use Rattle.engine_parts.specs.Steps.{GoesOn, WentOn}
use Rattle.engine_parts.proofs.Going.{own_events}
use Rattle.engine_parts.proofs.Leaving.{Added, asks_nothing, event_added, grown_left, grows_then, history_same}

-- one critical section without an event of a multixact
pub own_multis_left : (start : Start) (v u w : Knowledge) (n lock : ℕ) (s : Session) (e : Entry) → IsAt start v n s → EngineInvariant start u.seen → Learns v u → lock < length v.seen → multi_of e ≡ None → Leaves start lock e u w → own_multis n w.seen ≡ own_multis n v.seen
own_multis_left start v u w n lock s e a k learns inside none l =
    let long = learns.long in
    let there : lock < length u.seen = omega arith in
    let knows : Knows session_of n v.seen u.seen = subst (λ z. Knows session_of z v.seen u.seen) a.name learns.knows in
    ap (filter (is_multi_of n)) (multis_same start u w lock e none there l) ∙ own_multis_stay start n v.seen u.seen k knows

-- one critical section without an event
pub goes_quiet : (start : Start) (v u w : Knowledge) (n lock : ℕ) (s : Session) (e : Entry) → IsAt start v n s → EngineInvariant start u.seen → Learns v u → lock < length v.seen → event_of e ≡ None → multi_of e ≡ None → Leaves start lock e u w → GoesOn n [] v.seen w.seen
goes_quiet start v u w n lock s e a k learns inside looks none l =
    let long = learns.long in
    let there : lock < length u.seen = omega arith in
    let knows : Knows session_of n v.seen u.seen = subst (λ z. Knows session_of z v.seen u.seen) a.name learns.knows in record {
      grows = grows_then v.seen u.seen w.seen learns.knows.grows (grown_left start u w lock e there l);
      own = ap (filter (is_of n)) (history_same start u w lock e looks there l) ∙ (own_events start n v.seen u.seen k knows ∙ sym (append-nil (filter (is_of n) (history v.seen))));
      multis = own_multis_left start v u w n lock s e a k learns inside none l;
    }

-- and without a state asked for
pub went_quiet : (start : Start) (v u w : Knowledge) (n lock : ℕ) (s : Session) (e : Entry) → IsAt start v n s → EngineInvariant start u.seen → Learns v u → lock < length v.seen → event_of e ≡ None → multi_of e ≡ None → asks_in e ≡ [] → Leaves start lock e u w → WentOn n [] v.seen w.seen
went_quiet start v u w n lock s e a k learns inside looks no_multi none l = record {
  on = goes_quiet start v u w n lock s e a k learns inside looks no_multi l;
  asks = asks_nothing start v u w n lock e a.name learns inside l none;
}

-- an entry with an event has none of a multixact
pub no_multi : (e : Entry) (event : Event) → event_of e ≡ Some event → multi_of e ≡ None
no_multi e event is = by_kind e.kind is
  where
    by_kind : (kind : Kind) → event_in kind ≡ Some event → multi_in kind ≡ None
    by_kind (kinds.Event x) q = refl
    by_kind _ q = absurd cc

-- with an event
pub went_event : (start : Start) (v u w : Knowledge) (by : By) (s : Session) (e : Entry) (event : Event) → IsAt start v by.session s → EngineInvariant start u.seen → Learns v u → event_of e ≡ Some event → by_of event ≡ by → asks_in e ≡ [] → Leaves start proc_lock e u w → WentOn by.session (event ∷ []) v.seen w.seen
went_event start v u w by s e event a k learns is own none l =
    let wide = a.wide in
    let d : Added by event v.seen w.seen = event_added start v u w by e event a.name k learns is own (omega arith) l in record {
      on = record { grows = d.grows; own = d.own; multis = own_multis_left start v u w by.session proc_lock s e a k learns (omega arith) (no_multi e event is) l };
      asks = asks_nothing start v u w by.session proc_lock e a.name learns (omega arith) l none;
    }

-- none
pub went_nowhere : (n : ℕ) (lists : List (List Entry)) → WentOn n [] lists lists
went_nowhere n lists = record {
  on = record { grows = record { begins = λ q. begins_same (at lists q) }; own = sym (append-nil (filter (is_of n) (history lists))); multis = refl };
  asks = λ id state a. a;
}

-- one after the other
pub goes_then : (n : ℕ) (xs ys : List Event) (a b c : List (List Entry)) → GoesOn n xs a b → GoesOn n ys b c → GoesOn n (xs ++ ys) a c
goes_then n xs ys a b c f g = record {
  grows = grows_then a b c f.grows g.grows;
  own = g.own ∙ (ap (λ (t : List Event). t ++ ys) f.own ∙ append_assoc (filter (is_of n) (history a)) xs ys);
  multis = g.multis ∙ f.multis;
}

pub went_then : (n : ℕ) (xs ys : List Event) (a b c : List (List Entry)) → WentOn n xs a b → WentOn n ys b c → WentOn n (xs ++ ys) a c
went_then n xs ys a b c f g = record { on = goes_then n xs ys a b c f.on g.on; asks = λ id state asked. f.asks id state (g.asks id state asked) }
