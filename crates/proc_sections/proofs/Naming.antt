-- A level is given its id.
use Rattle.std.proofs.Common.{◌≡◌, ◌⊎◌, ℕ, ◌<◌, ◌≤◌, List, [], ◌∷◌, ◌++◌, Some, None, Option, IfSome, refl, sym, ap, subst, ◌∙◌, inl, inr, ⊎_elim, Contains, take, drop, length, suc, arith}
use Rattle.std.proofs.lemmas.List.{take-append-drop}
use Rattle.std.proofs.lemmas.List.Elements.{Contains-push}
use Rattle.notes.specs.Lists.{Grows, at}
use Rattle.tx_events.specs.declared.event.By.{By}
use Rattle.tx_events.specs.declared.event.Event.{Event}
use Rattle.tx_events.specs.declared.event.Event.TheVariants as events
use Rattle.tx_events.specs.declared.record.Counters.{Counters}
use Rattle.tx_events.specs.declared.record.Rec.{Rec}
use Rattle.tx_events.specs.declared.record.Rec.TheVariants as records
use Rattle.tx_events.specs.Events.{by_of, given_to}
use Rattle.tx_events.specs.History.{IsLegal, MayCome, next_given}
use Rattle.tx_events.specs.Running.{open_ids}
use Rattle.tx_events.proofs.GivenIds.{given_below, given_to_given, legal_take, open_below}
use Rattle.tx_events.proofs.Membership.{Has, contains_has, has_cases, has_contains, has_right}
use Rattle.tx_model.specs.CommandEvents.{giving}
use Rattle.tx_core.specs.declared.entry.Entry.{Entry}
use Rattle.tx_core.specs.declared.entry.Kind.TheVariants as kinds
use Rattle.tx_core.specs.declared.entry.Start.{Start}
use Rattle.tx_core.specs.declared.entry.State.{State}
use Rattle.tx_core.specs.AbortRule.{Asks}
use Rattle.tx_core.specs.CommitRecordsExact.{HasNoRecord}
use Rattle.tx_core.specs.EngineInvariant.{EngineInvariant}
use Rattle.tx_core.specs.Entries.{IsAppended, IsLinked, appended, event_of, history}
use Rattle.tx_core.specs.Locks.{proc_lock, log_lock}
use Rattle.tx_core.specs.PagesBeforeIds.{IsMade, IsTold}
use Rattle.tx_core.specs.ParentsFollow.{IsGivenBelow}
use Rattle.tx_core.specs.ProgramOrder.{IsInTurn}
use Rattle.tx_core.proofs.EventLaws.{id_event_law, sub_event_law}
use Rattle.tx_core.proofs.Lasting.{history_grows, linked_grows, made_grows}
use Rattle.tx_core.proofs.Opening.{asked_given}
use Rattle.tx_core.proofs.Rising.{given_more}
use Rattle.tx_core.proofs.Stepping.{appended_cases}
use Rattle.session_levels.specs.Stands.{Nest, Stands, last_of}
use Rattle.session_levels.proofs.GivingLemmas.{last_some, next_may, stood_given}
use Rattle.session_levels.proofs.StandsLemmas.{Stood, stands, stood}
use Rattle.engine_parts.specs.declared.session.Session.{Session}
use Rattle.engine_parts.specs.declared.session.Stage.TheVariants as stages
use Rattle.engine_parts.specs.declared.session.Unlinked.{Unlinked}
use Rattle.engine_parts.specs.Holds.{Knowledge, Leaves}
use Rattle.engine_parts.specs.Law.{MayKeep}
use Rattle.engine_parts.specs.Sessions.{IsAt, IsFiled, IsReady, IsThe, MayCall, by_at, inner_id}
use Rattle.engine_parts.specs.Stages.{AreUnasked, AsksNothing, IsInStage, may_be_recorded, AreUnaborted, may_be_aborted}
use Rattle.engine_parts.proofs.Leaving.{at_left, grown_left, history_event, no_multi}
use Rattle.engine_parts.proofs.Made.{makes_left}
use Rattle.tx_core.specs.MultiEntries.{multi_of}
use Rattle.engine_parts.specs.Makings.{Makes}
use Rattle.tx_core.proofs.Asking.{upheld_has}
use Rattle.tx_core.specs.PostsFollow.{IsShown}
use Rattle.tx_core.specs.RecordsFollow.{NeedsNamed}
use Rattle.tx_core.specs.AbortRecordsExact.{HasNoAbortRecord}
use Rattle.proc_sections.specs.Givings.{IsNamed, naming, unlinked_of}

abbrev pub giving_entry : By → Option ℕ → ℕ → Entry
giving_entry by parent id = record { by = by; kind = kinds.Event (giving by parent id) }

pub giving_by : (by : By) (p : Option ℕ) (id : ℕ) → by_of (giving by p id) ≡ by
giving_by by None id = refl
giving_by by (Some q) id = refl

pub may_giving : (start : Start) (seen : List (List Entry)) (by : By) (parent : Option ℕ) (id : ℕ) (e : Entry) → e ≡ giving_entry by parent id → IsShown start seen → MayCome start.base (history seen) (giving by parent id) → IsMade start seen id × IsTold start (at seen proc_lock) id → HasNoRecord seen by.session → HasNoAbortRecord seen by.session → IsInTurn start (at seen proc_lock) by → MayKeep start seen proc_lock e
may_giving start seen by None id e is shown may made none unaborted turn = subst (MayKeep start seen proc_lock) (sym is) (λ lists k knows inside whole. id_event_law start seen by id shown may made.0 made.1 lists k knows inside whole turn)
may_giving start seen by (Some parent) id e is shown may made none unaborted turn = subst (MayKeep start seen proc_lock) (sym is) (λ lists k knows inside whole. sub_event_law start seen by parent id shown may made.0 made.1 none unaborted lists k knows inside whole turn)

no_record : (e : Entry) (rec : Rec) → appended e ≡ None → e.kind ≡ kinds.Append rec → ⊥
no_record e rec none is = cc

-- an id that is given now was open at no place before
not_open_before : (base : Counters) (h : List Event) (p session id : ℕ) → IsLegal base h → id ≡ next_given base.next h → Contains (open_ids session (take p h)) id → ⊥
not_open_before base h p session id legal is k =
    let below = open_below base (take p h) session id (legal_take base h p legal) k in
    let rises : next_given base.next (take p h) ≤ next_given base.next h = given_more base (take p h) h (drop p h, take-append-drop p h) in
    omega arith

drop_push : (xs : List ℕ) (x y : ℕ) → Has (drop 1 (xs ++ x ∷ [])) y → Has (drop 1 xs) y ⊎ ((x ≡ y) × (1 ≤ length xs))
drop_push [] x y k = absurd k
drop_push (z ∷ zs) x y k = ⊎_elim inl (λ o. ⊎_elim (λ q. inr (q, omega arith)) (λ n. absurd n) o) (has_cases zs (x ∷ []) y k)

drop_last : (xs : List ℕ) (x : ℕ) → 1 ≤ length xs → Contains (drop 1 (xs ++ x ∷ [])) x
drop_last [] x some = absurd (omega arith)
drop_last (z ∷ zs) x some = Contains-push zs x

-- a session whose outermost level without an id is given one
module _ (start : Start) (v w : Knowledge) (n : ℕ) (s s' : Session) (id : ℕ) (e : Entry) (a : IsAt start v n s) (is : e ≡ giving_entry (by_at n s.levels.commands) (last_of s.levels.level_ids.items) id) (may : MayCome start.base (history v.seen) (naming n s id)) (made : IsMade start v.seen id) (record_free : s.stage ≡ stages.Clear) (linked_up : s.unlinked ≡ None) (g : IsNamed s s' id) (l : Leaves start proc_lock e v w) where
  abbrev event : Event
  event = naming n s id

  inside : proc_lock < length v.seen
  inside = let wide = a.wide in omega arith

  grown : history w.seen ≡ history v.seen ++ event ∷ []
  grown = history_event start v w e event (ap event_of is) inside l

  st : Stood start.base (history v.seen ++ event ∷ []) n s.levels.commands (s.levels.open_ids.items ++ id ∷ []) (s.levels.level_ids.items ++ id ∷ []) s'.levels.unnamed s.levels.registered.items
  st = stood_given start.base (history v.seen) (by_at n s.levels.commands) id s.levels.unnamed s'.levels.unnamed s.levels.open_ids.items s.levels.level_ids.items s.levels.registered.items a.kept.events.legal may g.unnamed (stood start.base (history v.seen) n s.levels.commands s.levels a.stands)

  next_is : id ≡ next_given start.base.next (history v.seen)
  next_is = (next_may start.base (history v.seen) (by_at n s.levels.commands) (last_of s.levels.level_ids.items) id may).next

  clear : HasNoRecord w.seen n
  clear top subs k opened =
      let before : IsAppended v.seen n (records.Commit top subs) = ⊎_elim (λ old. old) (λ new. absurd (no_record e (records.Commit top subs) (ap appended is) new.2)) (appended_cases v.seen proc_lock e n (records.Commit top subs) inside (subst (λ (z : List (List Entry)). IsAppended z n (records.Commit top subs)) l.seen k)) in
      let now : top ∷ subs ≡ s.levels.open_ids.items ++ id ∷ [] = sym opened ∙ (ap (open_ids n) grown ∙ st.opened_are) in
      let mine : Contains (top ∷ subs) id = subst (λ (t : List ℕ). Contains t id) (sym now) (has_contains (s.levels.open_ids.items ++ id ∷ []) id (has_right s.levels.open_ids.items (id ∷ []) id (inl refl))) in
      ⊎_elim
      (λ o. a.clear (ap may_be_recorded record_free) top subs before o)
      (λ c. not_open_before start.base (history v.seen) c.0 n id a.kept.events.legal next_is (subst (λ (t : List ℕ). Contains t id) (sym c.4) mine))
      (a.kept.records.exact n top subs before).ids

  -- no abort record names an id that is given now
  unnamed : (top : ℕ) (subs : List ℕ) → IsAppended v.seen n (records.Abort top subs) → Contains (top ∷ subs) id → ⊥
  unnamed top subs k among =
      let x : Entry = record { by = k.0; kind = kinds.Append (records.Abort top subs) } in
      let named = (upheld_has (NeedsNamed start) v.seen log_lock x a.kept.log.named (contains_has (at v.seen log_lock) x k.2)).1 in
      let below = given_below start.base (history v.seen) a.kept.events.legal id (given_to_given k.0.session (history v.seen) id (contains_has (given_to k.0.session (history v.seen)) id (named id among))) in
      let same = next_is in
      omega arith

  unaborted : AreUnaborted w.seen n (s.levels.open_ids.items ++ id ∷ [])
  unaborted x k top subs named among =
      let before : IsAppended v.seen n (records.Abort top subs) = ⊎_elim (λ old. old) (λ new. absurd (no_record e (records.Abort top subs) (ap appended is) new.2)) (appended_cases v.seen proc_lock e n (records.Abort top subs) inside (subst (λ (z : List (List Entry)). IsAppended z n (records.Abort top subs)) l.seen named)) in
      ⊎_elim
      (λ o. a.unaborted (ap may_be_aborted record_free) x (has_contains s.levels.open_ids.items x o) top subs before among)
      (λ q. ⊎_elim (λ (same : id ≡ x). unnamed top subs before (subst (λ z. Contains (top ∷ subs) z) (sym same) among)) (λ z. absurd z) q)
      (has_cases s.levels.open_ids.items (id ∷ []) x (contains_has (s.levels.open_ids.items ++ id ∷ []) x k))

  pub ready_given : IsReady start w n s'
  ready_given =
      at_left start v w n proc_lock s s' e a inside (ap (λ (z : Entry). z.by) is) g.count l
      (subst (λ (z : List Event × ℕ). Stands start.base z.0 n z.1 s'.levels) (λ j. (sym grown j, sym g.count j)) (stands start.base (history v.seen ++ event ∷ []) n s.levels.commands s'.levels (rw (g.opened, g.named, g.registered) st)))
      (λ q. clear)
      (λ q. subst (λ (t : List ℕ). AreUnaborted w.seen n t) (sym g.opened) unaborted)
      (subst (λ (z : List ℕ × Option Unlinked). IsFiled start w.seen n z.0 z.1) (λ j. (sym g.opened j, sym g.unlinked j)) (record { linked = links; pending = pend (last_of s.levels.level_ids.items) refl grown }))
      (subst (Makes start w.seen n) (sym g.making) (makes_left start v w n proc_lock s.making e l.kept inside (ap multi_of is) (no_multi e (ap appended is)) l a.makes))
    where
      no_open : (named opened : List ℕ) → last_of named ≡ None → 1 ≤ length opened → Nest (history v.seen) opened named → ⊥
      no_open [] opened q some nest = let z : length opened ≡ 0 = ap length nest in omega arith
      no_open (y ∷ ys) opened q some nest = let r = last_some y ys in let z : Some r.0 ≡ None = sym r.1 ∙ q in cc

      links : (x : ℕ) → Contains (drop 1 (s.levels.open_ids.items ++ id ∷ [])) x → ((parent : ℕ) × IsLinked start w.seen x parent) ⊎ IsThe (unlinked_of id (last_of s.levels.level_ids.items)) x
      links x k = ⊎_elim
          (λ o. ⊎_elim (λ p. inl (p.0, linked_grows start v.seen w.seen x p.0 (grown_left start v w proc_lock e inside l) p.1)) (λ t. absurd (subst (λ z. IsThe z x) linked_up t)) (a.filed.linked x (has_contains (drop 1 s.levels.open_ids.items) x o)))
          (λ q. inr (the (last_of s.levels.level_ids.items) refl q.0 q.1))
          (drop_push s.levels.open_ids.items id x (contains_has (drop 1 (s.levels.open_ids.items ++ id ∷ [])) x k))
        where
          the : (o : Option ℕ) → last_of s.levels.level_ids.items ≡ o → id ≡ x → 1 ≤ length s.levels.open_ids.items → IsThe (unlinked_of id o) x
          the (Some p) q same some = same
          the None q same some = absurd (no_open s.levels.level_ids.items s.levels.open_ids.items q some a.stands.nest)

      some_open : (named opened : List ℕ) (p : ℕ) → last_of named ≡ Some p → Nest (history v.seen) opened named → 1 ≤ length opened
      some_open [] opened p q nest = absurd cc
      some_open (y ∷ ys) opened p q nest = let z : length opened ≡ suc (length nest.0) = ap length nest.1 in omega arith

      pend : (o : Option ℕ) → last_of s.levels.level_ids.items ≡ o → history w.seen ≡ history v.seen ++ giving (by_at n s.levels.commands) o id ∷ []
          → IfSome (unlinked_of id o) (λ u. Contains (drop 1 (s.levels.open_ids.items ++ id ∷ [])) u.id × IsGivenBelow w.seen n u.parent u.id × IsMade start w.seen u.id)
      pend None last q = tt
      pend (Some p) last q = (drop_last s.levels.open_ids.items id (some_open s.levels.level_ids.items s.levels.open_ids.items p last a.stands.nest), (by_at n s.levels.commands, refl, subst (λ (h : List Event). Contains h (events.Sub (by_at n s.levels.commands) p id)) (sym q) (Contains-push (history v.seen) (events.Sub (by_at n s.levels.commands) p id))), made_grows start v.seen w.seen id (grown_left start v w proc_lock e inside l) made)

pub ready_given_at : (start : Start) (v w : Knowledge) (n n' : ℕ) (s s' : Session) (id : ℕ) (e : Entry) → IsAt start v n s → e ≡ giving_entry (by_at n s.levels.commands) (last_of s.levels.level_ids.items) id → MayCome start.base (history v.seen) (naming n s id) → IsMade start v.seen id → s.stage ≡ stages.Clear → s.unlinked ≡ None → IsNamed s s' id → Leaves start proc_lock e v w → n' ≡ n → IsReady start w n' s'
ready_given_at start v w n n' s s' id e a is may made free up g l q = subst (λ z. IsReady start w z s') (sym q) (ready_given start v w n s s' id e a is may made free up g l)

-- the session asked for no state of an id that it is given
unasked_given : (start : Start) (v : Knowledge) (n id : ℕ) (more : List Event) → EngineInvariant start v.seen → id ≡ next_given start.base.next more → ((rest : List Event) × (history v.seen ++ rest ≡ more)) → (state : State) → Asks v.seen n id state → ⊥
unasked_given start v n id more k is on state asked =
    let mine = asked_given start v.seen n id state k asked in
    let below = given_below start.base (history v.seen) k.events.legal id (given_to_given n (history v.seen) id (contains_has _ id mine)) in
    let rises = given_more start.base (history v.seen) more on in
    omega arith

-- a call's session that was given an id
pub call_given : (start : Start) (v u w : Knowledge) (n n' : ℕ) (s s' : Session) (id : ℕ) → MayCall start v n s → s.stage ≡ stages.Clear → Grows v.seen u.seen → id ≡ next_given start.base.next (history u.seen) → AsksNothing n v.seen w.seen → IsNamed s s' id → n' ≡ n → IsReady start w n' s' → MayCall start w n' s'
call_given start v u w n n' s s' id m clear grows is asks g name ready =
    let free : AreUnasked v.seen n s.levels.open_ids.items = subst (IsInStage start v.seen n (inner_id s) s.levels.open_ids.items) clear m.stage in
    let all : AreUnasked w.seen n (s.levels.open_ids.items ++ id ∷ []) = λ x state c asked.
    ⊎_elim
    (λ o. free x state (has_contains s.levels.open_ids.items x o) (asks x state asked))
    (λ q. ⊎_elim (λ (same : id ≡ x). unasked_given start v n id (history u.seen) m.ready.at.kept is (history_grows v.seen u.seen grows) state (subst (λ z. Asks v.seen n z state) (sym same) (asks x state asked))) (λ z. absurd z) q)
    (has_cases s.levels.open_ids.items (id ∷ []) x (contains_has (s.levels.open_ids.items ++ id ∷ []) x c)) in
    record {
      ready = ready;
      stage = subst (λ (z : ℕ × List ℕ). IsInStage start w.seen z.0 (inner_id s') z.1 s'.stage) (λ j. (sym name j, sym g.opened j)) (subst (IsInStage start w.seen n (inner_id s') (s.levels.open_ids.items ++ id ∷ [])) (sym (g.stage ∙ clear)) all);
    }
