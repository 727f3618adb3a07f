-- A session that has done nothing promises of no line.
use Rattle.std.proofs.Common.{Bool, List, Some, [], ap, arith, eq-eqb, eqb-true, false, length, map, refl, subst, sym, true, ℕ, ◌==◌, ◌≡◌, ◌∙◌}
use Rattle.std.specs.List.{slice_get}
use Rattle.std.proofs.lemmas.Option.{slice_get_within}
use Rattle.notes.specs.Lists.{at, own}
use Rattle.tx_events.specs.declared.event.By.{By}
use Rattle.tx_events.specs.declared.event.Event.{Event}
use Rattle.tx_events.specs.declared.multi.MultiEvent.{MultiEvent}
use Rattle.tx_events.specs.declared.multi.MultiEvent.TheVariants as multis
use Rattle.tx_events.specs.Events.{by_of, given, given_to, is_of}
use Rattle.tx_events.specs.Multis.{made, multi_by}
use Rattle.tx_events.proofs.Membership.{Has, contains_has, filter_has, filter_none_on, has_filter_map}
use Rattle.tx_model.specs.Stance.{Stance, lacking, nothing_yet}
use Rattle.tx_core.specs.declared.entry.Entry.{Entry}
use Rattle.tx_core.specs.declared.entry.Kind.TheVariants as kinds
use Rattle.tx_core.specs.declared.entry.Start.{Start}
use Rattle.tx_core.specs.Entries.{event_of, history, session_of}
use Rattle.tx_core.specs.EventsLegal.{NeedsOwn}
use Rattle.tx_core.specs.Locks.{log_lock, multi_lock, proc_lock}
use Rattle.tx_core.specs.MultiEntries.{multi_history}
use Rattle.tx_core.specs.OwnMultis.{is_multi_of}
use Rattle.tx_core.proofs.Asking.{own_event, upheld_has}
use Rattle.session_levels.specs.Stands.{levels_of, told_of}
use Rattle.engine_parts.specs.declared.session.Session.{Session}
use Rattle.engine_parts.specs.Sessions.{stance_of}
use Rattle.engine_parts.specs.Stages.{pending_in}
use Rattle.session_promise.specs.Promise.{HasDoneNothing, Promise, PromiseBegins}
use Rattle.session_promise.proofs.OwnNone.{none_multi}

module _ (tells : Bool) (start : Start) (lists : List (List Entry)) (n : ℕ) (s : Session) (d : HasDoneNothing start lists n s) where
  none_own : (lock : ℕ) (e : Entry) → Has (at lists lock) e → e.by.session ≡ n → ⊥
  none_own lock e k own =
      let there = filter_has (λ (f : Entry). session_of f == n) (at lists lock) e k (eq-eqb e.by.session n own) in
      subst (λ (es : List Entry). Has es e) (d.empty lock) there

  no_event : (e : Event) → Has (history lists) e → (by_of e).session ≡ n → ⊥
  no_event e k own =
      let from = has_filter_map event_of (at lists proc_lock) e k in
      let mine = own_event lists proc_lock [] from.0 e (upheld_has NeedsOwn lists proc_lock from.0 d.kept.events.own from.1).1 from.2 in
      none_own proc_lock from.0 from.1 (ap (λ (b : By). b.session) (sym mine) ∙ own)

  nothing : nothing_yet ≡ stance_of s
  nothing = λ j. record { levels = levels_of (sym d.fresh.1 j) (sym d.fresh.2 j); snaps = map told_of (sym d.fresh.4 j) }

  given_none : given_to n (history lists) ≡ []
  given_none = ap given (filter_none_on (is_of n) (history lists) (λ e k. is_not e k))
    where
      is_not : (e : Event) → Has (history lists) e → is_of n e ≡ false
      is_not e k = step (is_of n e) refl
        where
          step : (b : Bool) → is_of n e ≡ b → b ≡ false
          step true q = absurd (no_event e k (eqb-true (by_of e).session n q))
          step false q = refl

  no_multis : (e : MultiEvent) → Has (multi_history lists) e → (multi_by e).session ≡ n → ⊥
  no_multis e h own = subst (λ (es : List MultiEvent). Has es e) (none_multi start lists n d.kept (d.empty multi_lock)) (filter_has (is_multi_of n) (multi_history lists) e h (eq-eqb (multi_by e).session n own))

  pub begun : Promise tells start lists n [] s
  begun = record {
    each = λ p t e. absurd (none_at p e);
    no_other = λ e c own. absurd (no_event e (contains_has (history lists) e c) own);
    no_multi = λ e c own. absurd (no_multis e (contains_has (multi_history lists) e c) own);
    stance_is = nothing;
    pending_is = sym (ap pending_in d.stage);
    making = d.making;
    count = d.fresh.0;
    ids = let g = ap length given_none in let l = ap (λ (z : Stance). lacking z.levels) (sym nothing) in omega (arith, g, l);
    raises = λ t few by multi offset own c low. absurd (no_multis (multis.Raise by multi offset) (contains_has (multi_history lists) (multis.Raise by multi offset) c) own);
    gens = let g = ap (λ (h : List MultiEvent). length (made h)) (none_multi start lists n d.kept (d.empty multi_lock)) in omega (arith, g);
    faults = λ by asked count own c. absurd (none_own log_lock (record { by = by; kind = kinds.LogFault asked count }) (contains_has (at lists log_lock) _ c) own);
    ends = λ by rec own c. absurd (none_own log_lock (record { by = by; kind = kinds.Append rec }) (contains_has (at lists log_lock) _ c) own);
  }
    where
      none_at : {X : Type 0} {x : X} (p : ℕ) → slice_get [] p ≡ Some x → ⊥
      none_at {x = x} p e = let w = slice_get_within [] p x e in omega (arith, w)

pub promise_begins : PromiseBegins
promise_begins tells start lists n s d = begun tells start lists n s d
