-- The pages of the next id are made where the ProcArray was told so.
use Rattle.std.proofs.Common.{max, None, ◌<◌, Bool, ◌≡◌, ℕ, ◌%◌, ◌≤◌, List, [], ◌∷◌, ◌++◌, refl, append-nil, sym, ap, subst, ◌∙◌, inl, inr, ⊎_elim, length, arith, take, drop}
use Rattle.std.proofs.lemmas.List.{take-append-drop}
use Rattle.std.proofs.lemmas.List.Elements.{filter_map-append}
use Rattle.notes.specs.Lists.{Grows, at}
use Rattle.notes.proofs.Growing.{at_here}
use Rattle.tx_events.specs.declared.event.By.{By}
use Rattle.tx_events.specs.declared.event.Event.{Event}
use Rattle.tx_events.specs.Events.{given}
use Rattle.tx_events.specs.History.{next_given}
use Rattle.tx_events.proofs.IdOrder.{nth_from}
use Rattle.tx_events.proofs.Membership.{contains_has, has_place}
use Rattle.tx_events.specs.Ids.{low_half}
use Rattle.tx_core.specs.declared.entry.Entry.{Entry}
use Rattle.tx_core.specs.declared.entry.Kind.TheVariants as kinds
use Rattle.tx_core.specs.declared.entry.Start.{Start}
use Rattle.tx_core.specs.EngineInvariant.{EngineInvariant}
use Rattle.tx_core.specs.Entries.{Stands, event_of, events_in, history}
use Rattle.tx_core.specs.Locks.{proc_lock, subtrans_lock, subtrans_lock_of, subtrans_page, xact_lock, xact_lock_of, xact_page}
use Rattle.tx_core.specs.PagesBeforeIds.{IsMade, IsTold}
use Rattle.tx_core.specs.ProgramOrder.{IsInTurn}
use Rattle.tx_core.proofs.EventLaws.{made_law}
use Rattle.tx_core.proofs.Growing.{begins_filter_map}
use Rattle.tx_core.proofs.Lasting.{history_grows}
use Rattle.tx_core.proofs.Rising.{given_more}
use Rattle.proc_table.specs.Table.{IsGiven, Table, next_of, page_of}
use Rattle.proc_table.specs.declared.answers.Given.{Given}
use Rattle.proc_table.specs.declared.answers.Given.TheVariants as gives
use Rattle.engine_parts.specs.Holds.{Knowledge, Leaves}
use Rattle.engine_parts.specs.Law.{MayKeep}
use Rattle.engine_parts.specs.Stand.{ProcStands, frontier_of, told_in}
use Rattle.engine_parts.proofs.Tabling.{frontier_push, frontier_same, frontier_told, told_within}

xact_same : (a b : ℕ) → subtrans_page a ≡ subtrans_page b → xact_page a ≡ xact_page b
xact_same a b q = omega arith

lock_same : (a b : ℕ) → xact_page a ≡ xact_page b → xact_page (low_half a) ≡ xact_page (low_half b)
lock_same a b q = omega arith

sub_lock_same : (a b : ℕ) → subtrans_page a ≡ subtrans_page b → subtrans_page (low_half a) ≡ subtrans_page (low_half b)
sub_lock_same a b q = omega arith

-- what is made of an id is made of each other one on its pages
made_same : (start : Start) (lists : List (List Entry)) (a b : ℕ) → subtrans_page a ≡ subtrans_page b → IsMade start lists a → IsMade start lists b
made_same start lists a b q m =
    let x : xact_page a ≡ xact_page b = xact_same a b q in
    let lx : xact_lock_of start a ≡ xact_lock_of start b = ap (λ z. xact_lock (z % start.banks)) (lock_same a b x) in
    let ls : subtrans_lock_of start a ≡ subtrans_lock_of start b = ap (λ z. subtrans_lock (z % start.banks)) (sub_lock_same a b q) in (
      ⊎_elim (λ (h : xact_page a ≡ xact_page start.base.next). inl (sym x ∙ h)) (λ (h : Stands lists (xact_lock_of start a) (kinds.Zero (xact_page a))). inr (subst (λ (z : ℕ × ℕ). Stands lists z.0 (kinds.Zero z.1)) (λ j. (lx j, x j)) h)) m.0,
      ⊎_elim (λ (h : subtrans_page a ≡ subtrans_page start.base.next). inl (sym q ∙ h)) (λ (h : Stands lists (subtrans_lock_of start a) (kinds.Zero (subtrans_page a))). inr (subst (λ (z : ℕ × ℕ). Stands lists z.0 (kinds.Zero z.1)) (λ j. (ls j, q j)) h)) m.1,
    )

-- the pages of the next id are made where the table was told of them
pub made_here : (start : Start) (seen : List (List Entry)) (t : Table) (id : ℕ) → EngineInvariant start seen → ProcStands start t (at seen proc_lock) → id ≡ next_of t → page_of id ≤ t.initialised_up_to → IsMade start seen id × IsTold start (at seen proc_lock) id
made_here start seen t id k s next within =
    let is : id ≡ next_given start.base.next (history seen) = next ∙ (λ j. next_given (s.base j).next (s.events j)) in
    let from : start.base.next ≤ next_given start.base.next (history seen) = nth_from start.base.next (length (given (history seen))) in
    ⊎_elim
    (λ (f : frontier_of start (at seen proc_lock) ≡ subtrans_page start.base.next).
    let first : t.initialised_up_to ≡ subtrans_page start.base.next = s.frontier ∙ f in
    let q : subtrans_page id ≡ subtrans_page start.base.next = omega arith in
    ((inl (xact_same id start.base.next q), inl q), inl q))
    (λ f.
    let e : Entry = record { by = f.0; kind = kinds.Made f.1 } in
    let p = has_place (at seen proc_lock) e (contains_has (at seen proc_lock) e f.2) in
    let need = k.pages.ids.each proc_lock p.0 e p.1 in
    let es = at seen proc_lock in
    let rises : next_given start.base.next (events_in (take p.0 es)) ≤ next_given start.base.next (history seen) =
    given_more start.base (events_in (take p.0 es)) (history seen) (begins_filter_map event_of (take p.0 es) es (drop p.0 es, take-append-drop p.0 es)) in
    let told_to : f.1 ≤ next_given start.base.next (events_in (take p.0 es)) = need.1 in
    let page : t.initialised_up_to ≡ subtrans_page f.1 = s.frontier ∙ f.3 in
    let q : subtrans_page f.1 ≡ subtrans_page id = omega arith in
    (made_same start seen f.1 id q need.0, inr (f.0, f.1, q, f.2)))
    (frontier_told start (at seen proc_lock))

-- what is no id is a page that has to be made
pub need_page : (old new : Table) (event : ℕ → Event) (x : Given) → IsGiven old new event x → ((id : ℕ) (warn : Bool) → x ≡ gives.Id id warn → ⊥) → (id : ℕ) × (x ≡ gives.NeedPage id) × (id ≡ next_of old) × (old.initialised_up_to < page_of id) × (new ≡ old)
need_page old new event (gives.Id id warn) g other = absurd (other id warn refl)
need_page old new event (gives.NeedPage id) g other = (id, refl, g.0, g.1, g.2)

-- the ProcArray was told of no page past the table's last, also behind an entry that tells of none
pub untold : (start : Start) (t : Table) (u w : Knowledge) (id : ℕ) (e : Entry) → proc_lock < length u.seen → told_in e.kind ≡ None → Leaves start proc_lock e u w → ProcStands start t (at u.seen proc_lock) → t.initialised_up_to < page_of id → IsTold start (at w.seen proc_lock) id → ⊥
untold start t u w id e inside none l s past told =
    let es = at u.seen proc_lock in
    let grown : at w.seen proc_lock ≡ es ++ e ∷ [] = ap (λ (z : List (List Entry)). at z proc_lock) l.seen ∙ at_here u.seen proc_lock e inside in
    let within : subtrans_page id ≤ frontier_of start (es ++ e ∷ []) = told_within start (es ++ e ∷ []) id (subst (λ (z : List Entry). IsTold start z id) grown told) in
    let same : t.initialised_up_to ≡ frontier_of start (es ++ e ∷ []) = s.frontier ∙ sym (frontier_same start es e none) in
    omega arith

-- an id that isn't past the next one isn't later
pub next_later : (start : Start) (seen lists : List (List Entry)) (id : ℕ) → Grows seen lists → id ≤ next_given start.base.next (history seen) → id ≤ next_given start.base.next (history lists)
next_later start seen lists id grows le = let up = given_more start.base (history seen) (history lists) (history_grows seen lists grows) in omega arith

pub may_told : (start : Start) (seen : List (List Entry)) (by : By) (id : ℕ) (e : Entry) → e ≡ record { by = by; kind = kinds.Made id } → IsMade start seen id → id ≤ next_given start.base.next (history seen) → IsInTurn start (at seen proc_lock) by → MayKeep start seen proc_lock e
may_told start seen by id e is made next turn = subst (MayKeep start seen proc_lock) (sym is) (λ lists k knows inside whole. made_law start seen by id made next lists k knows inside whole turn)

abbrev pub told_entry : By → ℕ → Entry
told_entry by id = record { by = by; kind = kinds.Made id }

-- the frontier is the table's or the id's page
pub proc_told : (start : Start) (old new : Table) (es : List Entry) (by : By) (id : ℕ) → ProcStands start old es → new ≡ record old { initialised_up_to = max old.initialised_up_to (page_of id) } → ProcStands start new (es ++ record { by = by; kind = kinds.Made id } ∷ [])
proc_told start old new es by id s is =
    let e : Entry = record { by = by; kind = kinds.Made id } in
    subst (λ (t : Table). ProcStands start t (es ++ e ∷ [])) (sym is) (record {
      base = s.base;
      sessions = s.sessions;
      events = s.events ∙ sym (filter_map-append event_of es (e ∷ []) ∙ append-nil (events_in es));
      frontier = ap (λ z. max z (page_of id)) s.frontier ∙ sym (frontier_push start es e id refl);
    })
