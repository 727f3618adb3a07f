-- What a critical section of the generator leaves.
use Rattle.std.proofs.Common.{List, None, [], ap, append-nil, arith, cond, length, refl, subst, sym, ℕ, ◌++◌, ◌<◌, ◌==◌, ◌∙◌, ◌∷◌, ◌≡◌}
use Rattle.std.proofs.lemmas.List.Elements.{filter-append, filter_map-append}
use Rattle.std.specs.List.{cons_option, filter}
use Rattle.notes.specs.Lists.{Knows, add, at}
use Rattle.notes.proofs.Growing.{at_here}
use Rattle.tx_events.specs.declared.event.By.{By}
use Rattle.tx_events.specs.declared.multi.MultiEvent.{MultiEvent}
use Rattle.tx_events.specs.Events.{is_of}
use Rattle.tx_events.specs.Multis.{InBase, MultiMayCome, multi_by}
use Rattle.multi_store.specs.Generator.{Generator}
use Rattle.tx_events.proofs.ListSteps.{eqb-refl}
use Rattle.tx_core.specs.declared.entry.Entry.{Entry}
use Rattle.tx_core.specs.declared.entry.Kind.TheVariants as kinds
use Rattle.tx_core.specs.declared.entry.Start.{Start}
use Rattle.tx_core.specs.Entries.{asks_in, event_of, session_of}
use Rattle.tx_core.specs.Locks.{multi_lock}
use Rattle.tx_core.specs.MultiEntries.{multi_history, multi_of, multis_in}
use Rattle.tx_core.specs.MultisLegal.{ToldOf}
use Rattle.tx_core.specs.ProgramOrder.{IsInTurn}
use Rattle.tx_core.proofs.Quiet.{multi_event_law}
use Rattle.engine_parts.specs.declared.session.Session.{Session}
use Rattle.engine_parts.specs.Faults.{look_of}
use Rattle.engine_parts.specs.Holds.{Enters, Knowledge, Leaves}
use Rattle.engine_parts.specs.Law.{MayKeep}
use Rattle.engine_parts.specs.Sessions.{IsAt}
use Rattle.engine_parts.specs.Stand.{MultiStands}
use Rattle.engine_parts.proofs.Multing.{multi_adds}
use Rattle.engine_parts.proofs.Going.{own_events}
use Rattle.engine_parts.proofs.Leaving.{asks_nothing, grown_left, grows_then, history_same}
use Rattle.tx_core.specs.OwnMultis.{is_multi_of, own_multis}
use Rattle.tx_core.proofs.OwnMultis.{own_multis_stay}
use Rattle.multi_sections.specs.Leavings.{Made}
use Rattle.engine_parts.specs.Steps.{WentMulti}
use Rattle.multi_sections.specs.Steps.{entry_of}

-- ---- the history of multixacts behind a section

multis_at : (lists : List (List Entry)) (e : Entry) → multi_lock < length lists → multi_history (add lists multi_lock e) ≡ multi_history lists ++ cons_option (multi_of e) []
multis_at lists e inside = ap multis_in (at_here lists multi_lock e inside) ∙ filter_map-append multi_of (at lists multi_lock) (e ∷ [])

pub multis_left : (start : Start) (u w : Knowledge) (event : MultiEvent) → multi_lock < length u.seen → Leaves start multi_lock (entry_of event) u w → multi_history w.seen ≡ multi_history u.seen ++ event ∷ []
multis_left start u w event inside l = ap multi_history l.seen ∙ multis_at u.seen (entry_of event) inside

pub multis_looked : (start : Start) (u w : Knowledge) (by : By) → multi_lock < length u.seen → Leaves start multi_lock (look_of by) u w → multi_history w.seen ≡ multi_history u.seen
multis_looked start u w by inside l = ap multi_history l.seen ∙ (multis_at u.seen (look_of by) inside ∙ append-nil (multi_history u.seen))

-- the lock is one of the engine's
pub is_laid : (start : Start) (v u : Knowledge) (n : ℕ) (s : Session) → IsAt start v n s → Enters start multi_lock v u → multi_lock < length u.seen
is_laid start v u n s a entered = let wide = a.wide in let long = entered.learns.long in omega arith

-- ---- the session's step

-- whatever the entry is, where it has no event of an id and asks for no state
module _ (start : Start) (v u w : Knowledge) (n : ℕ) (s : Session) (e : Entry) (a : IsAt start v n s) (entered : Enters start multi_lock v u) (none : event_of e ≡ None) (quiet : asks_in e ≡ []) (l : Leaves start multi_lock e u w) where
  knows_own : Knows session_of n v.seen u.seen
  knows_own = subst (λ (z : ℕ). Knows session_of z v.seen u.seen) a.name entered.learns.knows

  went_on : (added : List MultiEvent) → own_multis n w.seen ≡ own_multis n u.seen ++ added → WentMulti n added v.seen w.seen
  went_on added multis =
      let wide = a.wide in
      let there = is_laid start v u n s a entered in record {
        grows = grows_then v.seen u.seen w.seen entered.learns.knows.grows (grown_left start u w multi_lock e there l);
        own = ap (filter (is_of n)) (history_same start u w multi_lock e none there l) ∙ own_events start n v.seen u.seen entered.kept knows_own;
        multis = multis ∙ ap (λ (t : List MultiEvent). t ++ added) (own_multis_stay start n v.seen u.seen entered.kept knows_own);
        asks = asks_nothing start v u w n multi_lock e a.name entered.learns (omega arith) l quiet;
      }

pub went_multi : (start : Start) (v u w : Knowledge) (by : By) (s : Session) (event : MultiEvent) → IsAt start v by.session s → Enters start multi_lock v u → multi_by event ≡ by → Leaves start multi_lock (entry_of event) u w
    → WentMulti by.session (event ∷ []) v.seen w.seen
went_multi start v u w by s event a entered own l =
    went_on start v u w by.session s (entry_of event) a entered refl refl l (event ∷ [])
    (ap (filter (is_multi_of by.session)) (multis_left start u w event (is_laid start v u by.session s a entered) l)
    ∙ (filter-append (is_multi_of by.session) (multi_history u.seen) (event ∷ [])
    ∙ ap (λ b. own_multis by.session u.seen ++ cond b (event ∷ []) []) (ap (λ (b : By). b.session == by.session) own ∙ eqb-refl by.session)))

pub looked_multi : (start : Start) (v u w : Knowledge) (n : ℕ) (s : Session) (by : By) → IsAt start v n s → Enters start multi_lock v u → Leaves start multi_lock (look_of by) u w → WentMulti n [] v.seen w.seen
looked_multi start v u w n s by a entered l =
    went_on start v u w n s (look_of by) a entered refl refl l []
    (ap (filter (is_multi_of n)) (multis_looked start u w by (is_laid start v u n s a entered) l) ∙ sym (append-nil (own_multis n u.seen)))

-- ---- the entry

pub may_make : (start : Start) (seen : List (List Entry)) (by : By) (event : MultiEvent) (e : Entry) → e ≡ record { by = by; kind = kinds.Multi event } → multi_by event ≡ by → MultiMayCome start.base (InBase start.base) (multi_history seen) event → ToldOf start event
    → IsInTurn start (at seen multi_lock) by → MayKeep start seen multi_lock e
may_make start seen by event e is own rule told turn = subst (MayKeep start seen multi_lock) (sym is) (λ lists k knows inside whole. multi_event_law start seen by event own rule told lists k knows inside whole turn)

pub made_stands : (start : Start) (new : Generator) (es : List Entry) (by : By) (event : MultiEvent) (e : Entry) → e ≡ record { by = by; kind = kinds.Multi event } → Made start new es event → MultiStands start new (es ++ e ∷ [])
made_stands start new es by event e is m = subst (λ (d : Entry). MultiStands start new (es ++ d ∷ [])) (sym is) (multi_adds start m.old new es by event m.stood m.adds)
