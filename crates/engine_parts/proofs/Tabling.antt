-- The ProcArray stands for its list after each call.
use Rattle.std.proofs.Common.{Contains, None, Some, max, inl, inr, ⊎_elim, ◌⊎◌, ◌≡◌, ◌≤◌, ℕ, List, [], ◌∷◌, ◌++◌, refl, sym, ap, append-nil, subst, ◌∙◌, arith}
use Rattle.std.specs.List.{cons_option, filter_map, fold}
use Rattle.std.proofs.lemmas.List.Elements.{filter_map-append, Contains-append_left, Contains-push}
use Rattle.std.proofs.lemmas.List.Sums.{fold_push}
use Rattle.tx_events.specs.declared.event.By.{By}
use Rattle.tx_events.specs.declared.event.Event.{Event}
use Rattle.tx_events.proofs.Membership.{Has, by_end, contains_has, has_cases, has_contains}
use Rattle.proc_table.specs.Table.{Table, Adds}
use Rattle.tx_core.specs.declared.entry.Entry.{Entry}
use Rattle.tx_core.specs.declared.entry.Kind.{Kind}
use Rattle.tx_core.specs.declared.entry.Kind.TheVariants as kinds
use Rattle.tx_core.specs.declared.entry.Start.{Start}
use Rattle.tx_core.specs.Entries.{event_of, events_in}
use Rattle.tx_core.specs.Locks.{subtrans_page}
use Rattle.tx_core.specs.PagesBeforeIds.{IsTold}
use Rattle.engine_parts.specs.Stand.{ProcStands, frontier_of, told_in}

abbrev told_ids : List Entry → List ℕ
told_ids es = filter_map (λ (d : Entry). told_in d.kind) es

abbrev farthest : Start → List ℕ → ℕ
farthest start ids = fold (λ page id. max page (subtrans_page id)) (subtrans_page start.base.next) ids

pub frontier_same : (start : Start) (es : List Entry) (e : Entry) → told_in e.kind ≡ None → frontier_of start (es ++ e ∷ []) ≡ frontier_of start es
frontier_same start es e none = ap (farthest start) (filter_map-append (λ (d : Entry). told_in d.kind) es (e ∷ []) ∙ (ap (λ o. told_ids es ++ cons_option o []) none ∙ append-nil (told_ids es)))

pub frontier_push : (start : Start) (es : List Entry) (e : Entry) (id : ℕ) → told_in e.kind ≡ Some id → frontier_of start (es ++ e ∷ []) ≡ max (frontier_of start es) (subtrans_page id)
frontier_push start es e id is = ap (farthest start) (filter_map-append (λ (d : Entry). told_in d.kind) es (e ∷ []) ∙ ap (λ o. told_ids es ++ cons_option o []) is) ∙ fold_push (λ page id. max page (subtrans_page id)) (subtrans_page start.base.next) (told_ids es) id

-- the frontier is the page of the start's next id, or of an id that was told
abbrev pub IsOfTold : Start → List Entry → Type 0
IsOfTold start es =
    (frontier_of start es ≡ subtrans_page start.base.next)
    ⊎ ((by : By) × (told : ℕ) × Contains es (record { by = by; kind = kinds.Made told }) × (frontier_of start es ≡ subtrans_page told))

either : (a b : ℕ) → (max a b ≡ a) ⊎ (max a b ≡ b)
either a b = grind arith

pub frontier_told : (start : Start) (es : List Entry) → IsOfTold start es
frontier_told start es = by_end (IsOfTold start) (inl refl) (λ es e before. each es e e.kind refl before) es
  where
    older : (es : List Entry) (e : Entry) → frontier_of start (es ++ e ∷ []) ≡ frontier_of start es → IsOfTold start es → IsOfTold start (es ++ e ∷ [])
    older es e same before = ⊎_elim (λ h. inl (same ∙ h)) (λ h. inr (h.0, h.1, Contains-append_left es (e ∷ []) (record { by = h.0; kind = kinds.Made h.1 }) h.2, same ∙ h.3)) before

    each : (es : List Entry) (e : Entry) (kind : Kind) → e.kind ≡ kind → IsOfTold start es → IsOfTold start (es ++ e ∷ [])
    each es e (kinds.Made id) is before =
        let same : e ≡ record { by = e.by; kind = kinds.Made id } = ap (λ (k : Kind). record { by = e.by; kind = k }) is in
        let told = frontier_push start es e id (ap told_in is) in
        ⊎_elim
        (λ (h : max (frontier_of start es) (subtrans_page id) ≡ frontier_of start es). older es e (told ∙ h) before)
        (λ (h : max (frontier_of start es) (subtrans_page id) ≡ subtrans_page id). inr (e.by, id, subst (λ (d : Entry). Contains (es ++ e ∷ []) d) same (Contains-push es e), told ∙ h))
        (either (frontier_of start es) (subtrans_page id))
    each es e _ is before = older es e (frontier_same start es e (ap told_in is)) before

-- no page that was told lies behind it
pub told_within : (start : Start) (es : List Entry) (id : ℕ) → IsTold start es id → subtrans_page id ≤ frontier_of start es
told_within start es = by_end (λ es. (id : ℕ) → IsTold start es id → subtrans_page id ≤ frontier_of start es)
    (λ id t. ⊎_elim (λ q. omega arith) (λ h. absurd (contains_has [] (record { by = h.0; kind = kinds.Made h.1 }) h.3)) t)
    (λ es e before id t. step es e before id t) es
  where
    higher : (a b : ℕ) → a ≤ max a b
    higher a b = grind arith

    reached : (a b : ℕ) → b ≤ max a b
    reached a b = grind arith

    rises : (es : List Entry) (e : Entry) (kind : Kind) → e.kind ≡ kind → frontier_of start es ≤ frontier_of start (es ++ e ∷ [])
    rises es e (kinds.Made id) is = subst (λ z. frontier_of start es ≤ z) (sym (frontier_push start es e id (ap told_in is))) (higher (frontier_of start es) (subtrans_page id))
    rises es e _ is = let same = frontier_same start es e (ap told_in is) in omega arith

    step : (es : List Entry) (e : Entry) → ((id : ℕ) → IsTold start es id → subtrans_page id ≤ frontier_of start es) → (id : ℕ) → IsTold start (es ++ e ∷ []) id → subtrans_page id ≤ frontier_of start (es ++ e ∷ [])
    step es e before id t =
        let up = rises es e e.kind refl in
        ⊎_elim
        (λ (q : subtrans_page id ≡ subtrans_page start.base.next). let b = before id (inl q) in omega arith)
        (λ h.
        let d : Entry = record { by = h.0; kind = kinds.Made h.1 } in
        ⊎_elim
        (λ (k : Has es d). let b = before id (inr (h.0, h.1, h.2, has_contains es d k)) in omega arith)
        (λ (k : Has (e ∷ []) d). ⊎_elim
        (λ (q : e ≡ d).
        let told = frontier_push start es e h.1 (ap (λ (z : Entry). told_in z.kind) q) in
        let r = reached (frontier_of start es) (subtrans_page h.1) in
        let page = h.2 in subst (λ z. z ≤ frontier_of start (es ++ e ∷ [])) page (subst (λ z. subtrans_page h.1 ≤ z) (sym told) r))
        (λ n. absurd n) k)
        (has_cases es (e ∷ []) d (contains_has (es ++ e ∷ []) d h.3)))
        t

-- the table has the event of the entry too
pub proc_adds : (start : Start) (old new : Table) (es : List Entry) (by : By) (event : Event) → ProcStands start old es → Adds old new event → ProcStands start new (es ++ record { by = by; kind = kinds.Event event } ∷ [])
proc_adds start old new es by event s a =
    let e : Entry = record { by = by; kind = kinds.Event event } in record {
      base = a.base ∙ s.base;
      sessions = a.sessions ∙ s.sessions;
      events = a.events ∙ (ap (λ t. t ++ event ∷ []) s.events ∙ sym (filter_map-append event_of es (e ∷ [])));
      frontier = a.initialised_up_to ∙ (s.frontier ∙ sym (frontier_same start es e refl));
    }

-- and where nothing happened, the table stands for the list with the look too
pub proc_looks : (start : Start) (t : Table) (es : List Entry) (by : By) → ProcStands start t es → ProcStands start t (es ++ record { by = by; kind = kinds.Look } ∷ [])
proc_looks start t es by s =
    let e : Entry = record { by = by; kind = kinds.Look } in record {
      base = s.base;
      sessions = s.sessions;
      events = s.events ∙ sym (filter_map-append event_of es (e ∷ []) ∙ append-nil (events_in es));
      frontier = s.frontier ∙ sym (frontier_same start es e refl);
    }
