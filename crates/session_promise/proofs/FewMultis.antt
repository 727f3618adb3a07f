-- A life gives no more multixacts than its commands asked for.
use Rattle.std.proofs.Common.{List, None, Option, Some, [], arith, cond, length, refl, subst, sym, ℕ, ⊎_elim, ◌+◌, ◌<◌, ◌==◌, ◌≡◌, ◌≤◌, ◌∷◌}
use Rattle.std.specs.List.{cons_option, count_by, filter, sum_by}
use Rattle.std.proofs.lemmas.List.Sums.{sum_by-cons}
use Rattle.notes.specs.Lists.{at}
use Rattle.tx_events.specs.declared.event.By.{By}
use Rattle.tx_events.specs.declared.multi.MultiEvent.{MultiEvent}
use Rattle.tx_events.specs.Multis.{made, made_by, multi_by}
use Rattle.tx_events.proofs.Membership.{Has, all_from, has_contains}
use Rattle.tx_model.specs.declared.report.Line.{Line}
use Rattle.tx_core.specs.declared.entry.Entry.{Entry}
use Rattle.tx_core.specs.declared.entry.Start.{Start}
use Rattle.tx_core.specs.Consequences.{IsHosts}
use Rattle.tx_core.specs.EngineInvariant.{EngineInvariant}
use Rattle.tx_core.specs.Locks.{multi_lock}
use Rattle.tx_core.specs.MultiEntries.{multi_history}
use Rattle.tx_core.specs.OwnMultis.{is_multi_of, own_multis}
use Rattle.tx_core.proofs.Opening.{sessions_known}
use Rattle.session_promise.specs.Closing.{LinesBoundMultis}
use Rattle.session_promise.specs.Promise.{is_made_multi}
use Rattle.session_promise.specs.Told.{all_lines, lines_by}
use Rattle.session_promise.proofs.OwnNone.{entry_of, not_hosts}
use Rattle.session_promise.proofs.Summing.{keyed, total_less}
use Rattle.session_promise.proofs.Telling.{lines_told}

-- how many an event gives
abbrev gives : MultiEvent → ℕ
gives e = length (cons_option (made_by e) [])

made_length : (h : List MultiEvent) → length (made h) ≡ sum_by gives h
made_length [] = refl
made_length (e ∷ h) =
    let s = sum_by-cons gives e h in
    let i = made_length h in
    let o : length (cons_option (made_by e) (made h)) ≡ gives e + length (made h) = one (made_by e) in
    omega (arith, s, i, o)
  where
    one : (o : Option ℕ) → length (cons_option o (made h)) ≡ length (cons_option o []) + length (made h)
    one None = omega arith
    one (Some multi) = omega arith

-- each event is of one of the sessions
pub multi_known : (start : Start) (lists : List (List Entry)) → EngineInvariant start lists → (e : MultiEvent) → Has (multi_history lists) e → (multi_by e).session < start.sessions
multi_known start lists k e h =
    let f = entry_of start lists e k h in
    subst (λ (b : By). b.session < start.sessions) (sym f.3)
    (⊎_elim (λ (low : f.0.by.session < start.sessions). low) (λ (his : IsHosts start f.0). absurd (not_hosts f.0.kind e his.1 f.2)) (sessions_known start lists k multi_lock f.0 (has_contains (at lists multi_lock) f.0 f.1)))

pub lines_bound_multis : LinesBoundMultis
lines_bound_multis tells start lists rounds over few =
    let h : List MultiEvent = multi_history lists in
    let lines : List Line = all_lines rounds in
    let given = keyed gives (λ (e : MultiEvent). (multi_by e).session) start.sessions h (all_from (λ e. (multi_by e).session < start.sessions) h (multi_known start lists over.kept)) in
    let asked = keyed (λ (l : Line). cond (is_made_multi l) 1 0) (λ (l : Line). l.by.session) start.sessions lines over.lines in
    let less = total_less (λ k. sum_by gives (filter (λ (e : MultiEvent). (multi_by e).session == k) h)) (λ k. sum_by (λ (l : Line). cond (is_made_multi l) 1 0) (filter (λ (l : Line). l.by.session == k) lines)) start.sessions (λ k low. each k low) in
    let total_given = made_length h in
    omega (arith, given, asked, less, total_given, few)
  where
    each : (k : ℕ) → k < start.sessions → sum_by gives (filter (is_multi_of k) (multi_history lists)) ≤ count_by is_made_multi (lines_by k (all_lines rounds))
    each k low =
        let p = (over.each k low).1 in
        let g = made_length (filter (is_multi_of k) (multi_history lists)) in
        let bound = subst (λ ls. length (made (own_multis k lists)) ≤ count_by is_made_multi ls) (lines_told k rounds) p.gens in
        omega (arith, g, bound)
