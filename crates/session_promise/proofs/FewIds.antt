-- A life gives no more ids than its commands made levels.
use Rattle.std.proofs.Common.{List, None, Option, Some, [], arith, cond, length, refl, subst, sym, ℕ, ⊎_elim, ◌+◌, ◌<◌, ◌==◌, ◌≡◌, ◌≤◌, ◌∷◌}
use Rattle.std.specs.List.{cons_option, count_by, filter, sum_by}
use Rattle.std.proofs.lemmas.List.Sums.{sum_by-cons}
use Rattle.notes.specs.Lists.{at}
use Rattle.tx_events.specs.declared.event.By.{By}
use Rattle.tx_events.specs.declared.event.Event.{Event}
use Rattle.tx_events.specs.Events.{by_of, given, given_by, given_to, is_of}
use Rattle.tx_events.proofs.Membership.{Has, all_from, has_contains, has_filter_map}
use Rattle.tx_model.specs.declared.report.Line.{Line}
use Rattle.tx_core.specs.declared.entry.Entry.{Entry}
use Rattle.tx_core.specs.declared.entry.Start.{Start}
use Rattle.tx_core.specs.declared.entry.Kind.{Kind}
use Rattle.tx_core.specs.declared.entry.Kind.TheVariants as kinds
use Rattle.tx_core.specs.Consequences.{IsHosts}
use Rattle.tx_core.specs.EngineInvariant.{EngineInvariant}
use Rattle.tx_core.specs.Entries.{event_in, event_of, history}
use Rattle.tx_core.specs.EventsLegal.{NeedsOwn}
use Rattle.tx_core.specs.Locks.{proc_lock}
use Rattle.tx_core.specs.ProgramOrder.{IsOfHost}
use Rattle.tx_core.proofs.Asking.{own_event, upheld_has}
use Rattle.tx_core.proofs.Opening.{sessions_known}
use Rattle.session_promise.specs.Closing.{LevelsBoundIds}
use Rattle.session_promise.specs.Promise.{is_made_level}
use Rattle.session_promise.specs.Told.{all_lines, lines_by}
use Rattle.session_promise.proofs.Summing.{keyed, total_less}
use Rattle.session_promise.proofs.Telling.{lines_told}

-- how many ids an event gives
abbrev gives : Event → ℕ
gives e = length (cons_option (given_by e) [])

given_length : (h : List Event) → length (given h) ≡ sum_by gives h
given_length [] = refl
given_length (e ∷ h) =
    let s = sum_by-cons gives e h in
    let i = given_length h in
    let o : length (cons_option (given_by e) (given h)) ≡ gives e + length (given h) = one (given_by e) in
    omega (arith, s, i, o)
  where
    one : (o : Option ℕ) → length (cons_option o (given h)) ≡ length (cons_option o []) + length (given h)
    one None = omega arith
    one (Some id) = omega arith

-- the host adds none
hosts_no_event : (kind : Kind) (event : Event) → event_in kind ≡ Some event → IsOfHost kind → ⊥
hosts_no_event (kinds.Event other) event is his = absurd his
hosts_no_event _ event is his = absurd cc

-- each event is of one of the sessions
pub event_known : (start : Start) (lists : List (List Entry)) → EngineInvariant start lists → (e : Event) → Has (history lists) e → (by_of e).session < start.sessions
event_known start lists k e h =
    let from = has_filter_map event_of (at lists proc_lock) e h in
    let mine = own_event lists proc_lock [] from.0 e (upheld_has NeedsOwn lists proc_lock from.0 k.events.own from.1).1 from.2 in
    subst (λ (b : By). b.session < start.sessions) (sym mine)
    (⊎_elim (λ (low : from.0.by.session < start.sessions). low) (λ (his : IsHosts start from.0). absurd (hosts_no_event from.0.kind e from.2 his.1)) (sessions_known start lists k proc_lock from.0 (has_contains (at lists proc_lock) from.0 from.1)))

pub levels_bound_ids : LevelsBoundIds
levels_bound_ids tells start lists rounds over few =
    let h : List Event = history lists in
    let lines : List Line = all_lines rounds in
    let ids = keyed gives (λ (e : Event). (by_of e).session) start.sessions h (all_from (λ e. (by_of e).session < start.sessions) h (event_known start lists over.kept)) in
    let made = keyed (λ (l : Line). cond (is_made_level l) 1 0) (λ (l : Line). l.by.session) start.sessions lines over.lines in
    let less = total_less (λ k. sum_by gives (filter (λ (e : Event). (by_of e).session == k) h)) (λ k. sum_by (λ (l : Line). cond (is_made_level l) 1 0) (filter (λ (l : Line). l.by.session == k) lines)) start.sessions (λ k low. each k low) in
    let total_given = given_length h in
    omega (arith, ids, made, less, total_given, few)
  where
    each : (k : ℕ) → k < start.sessions → sum_by gives (filter (is_of k) (history lists)) ≤ count_by is_made_level (lines_by k (all_lines rounds))
    each k low =
        let p = (over.each k low).1 in
        let g = given_length (filter (is_of k) (history lists)) in
        let bound = subst (λ ls. length (given_to k (history lists)) ≤ count_by is_made_level ls) (lines_told k rounds) (let i = p.ids in omega (arith, i)) in
        omega (arith, g, bound)
