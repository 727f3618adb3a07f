-- Whose the events of multixacts are.
use Rattle.std.proofs.Common.{List, Some, [], ap, eq-eqb, eqb-true, false, refl, subst, sym, true, Bool, ℕ, ◌==◌, ◌∙◌, ◌≡◌}
use Rattle.notes.specs.Lists.{at, own}
use Rattle.tx_events.specs.declared.event.By.{By}
use Rattle.tx_events.specs.declared.multi.MultiEvent.{MultiEvent}
use Rattle.tx_events.specs.Multis.{InBase, MultiMayCome, multi_by}
use Rattle.tx_events.proofs.Membership.{Has, filter_has, filter_none_on, has_filter_map}
use Rattle.tx_core.specs.declared.entry.Entry.{Entry}
use Rattle.tx_core.specs.declared.entry.Kind.{Kind}
use Rattle.tx_core.specs.declared.entry.Kind.TheVariants as kinds
use Rattle.tx_core.specs.declared.entry.Start.{Start}
use Rattle.tx_core.specs.EngineInvariant.{EngineInvariant}
use Rattle.tx_core.specs.Entries.{session_of}
use Rattle.tx_core.specs.Locks.{multi_lock}
use Rattle.tx_core.specs.MultiEntries.{multi_history, multi_in, multi_of, multis_in}
use Rattle.tx_core.specs.MultisLegal.{NeedsMulti, ToldOf}
use Rattle.tx_core.specs.OwnMultis.{is_multi_of, own_multis}
use Rattle.tx_core.specs.ProgramOrder.{IsOfHost}
use Rattle.tx_core.proofs.Asking.{if_some, upheld_has}

-- an entry's event is of the entry's command
pub multi_own : (start : Start) (lists : List (List Entry)) (lock : ℕ) (before : List Entry) (e : Entry) (event : MultiEvent) → NeedsMulti start lists lock before e → multi_of e ≡ Some event → multi_by event ≡ e.by
multi_own start lists lock before e event need is =
    (if_some (multi_of e) (λ (event : MultiEvent). (multi_by event ≡ e.by) × MultiMayCome start.base (InBase start.base) (multis_in before) event × ToldOf start event) event need is).0

-- the entry of an event of a multixact, which is of the event's command
pub entry_of : (start : Start) (lists : List (List Entry)) (e : MultiEvent) → EngineInvariant start lists → Has (multi_history lists) e → (f : Entry) × Has (at lists multi_lock) f × (multi_of f ≡ Some e) × (multi_by e ≡ f.by)
entry_of start lists e k h =
    let from = has_filter_map multi_of (at lists multi_lock) e h in
    let need = upheld_has (NeedsMulti start) lists multi_lock from.0 k.multis.each from.1 in
    (from.0, from.1, from.2, (if_some (multi_of from.0) (λ (event : MultiEvent). (multi_by event ≡ from.0.by) × MultiMayCome start.base (InBase start.base) (multis_in need.0) event × ToldOf start event) e need.1 from.2).0)

-- a session without entries has no such event
pub none_multi : (start : Start) (lists : List (List Entry)) (n : ℕ) → EngineInvariant start lists → own session_of n (at lists multi_lock) ≡ [] → own_multis n lists ≡ []
none_multi start lists n k empty = filter_none_on (is_multi_of n) (multi_history lists) (λ e h. is_not e h (is_multi_of n e) refl)
  where
    is_not : (e : MultiEvent) → Has (multi_history lists) e → (b : Bool) → is_multi_of n e ≡ b → is_multi_of n e ≡ false
    is_not e h true q =
        let f = entry_of start lists e k h in
        let mine : f.0.by.session ≡ n = ap (λ (b : By). b.session) (sym f.3) ∙ eqb-true (multi_by e).session n q in
        absurd (subst (λ (es : List Entry). Has es f.0) empty (filter_has (λ (g : Entry). session_of g == n) (at lists multi_lock) f.0 f.1 (eq-eqb f.0.by.session n mine)))
    is_not e h false q = q

-- the host has none
pub not_hosts : (kind : Kind) (e : MultiEvent) → IsOfHost kind → multi_in kind ≡ Some e → ⊥
not_hosts (kinds.Multi event) e host is = host
not_hosts kind e host is = cc
