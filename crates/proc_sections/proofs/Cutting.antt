-- The innermost savepoint is closed.
use Rattle.std.proofs.Common.{◌≡◌, ℕ, zero, suc, ◌+◌, ◌-◌, ◌≤◌, ◌<◌, nat_le, not, cond, Bool, true, false, List, [], ◌∷◌, ◌++◌, Option, None, Some, IfSome, refl, sym, ap, subst, ◌∙◌, inl, inr, ⊎_elim, take, drop, length, arith, Contains}
use Rattle.std.proofs.lemmas.Bool.Decides.{nat_tests}
use Rattle.std.proofs.lemmas.Option.{same_Some}
use Rattle.std.specs.List.{filter}
use Rattle.notes.specs.Lists.{at}
use Rattle.tx_events.specs.declared.event.By.{By}
use Rattle.tx_events.specs.declared.event.Event.{Event}
use Rattle.tx_events.specs.declared.event.Event.TheVariants as events
use Rattle.tx_events.specs.declared.record.Rec.TheVariants as records
use Rattle.tx_events.specs.Families.{enclosing}
use Rattle.tx_events.specs.Running.{open_ids}
use Rattle.tx_events.specs.Savepoints.{is_inside}
use Rattle.tx_events.proofs.IdListSteps.{all_has, contains_true}
use Rattle.tx_events.proofs.ListSteps.{length_push}
use Rattle.tx_events.proofs.Membership.{Has, contains_has, filter_has, has_contains, has_filter}
use Rattle.tx_model.specs.CommandEvents.{innermost}
use Rattle.tx_core.specs.declared.entry.Entry.{Entry}
use Rattle.tx_core.specs.declared.entry.Kind.TheVariants as kinds
use Rattle.tx_core.specs.declared.entry.Start.{Start}
use Rattle.tx_core.specs.declared.entry.State.TheVariants as states
use Rattle.tx_core.specs.AbortRule.{Asks}
use Rattle.tx_core.specs.CommitRecordsExact.{HasNoRecord}
use Rattle.tx_core.specs.Entries.{IsAppended, IsMarked, appended, event_of, history}
use Rattle.tx_core.specs.Locks.{proc_lock}
use Rattle.tx_core.specs.PagesBeforeIds.{IsMade}
use Rattle.tx_core.specs.ParentsFollow.{IsGivenBelow}
use Rattle.tx_core.specs.PostsFollow.{IsShown}
use Rattle.tx_core.specs.ProgramOrder.{IsInTurn}
use Rattle.tx_core.proofs.EventLaws.{undo_event_law}
use Rattle.tx_core.proofs.Stepping.{appended_cases}
use Rattle.session_levels.specs.Stands.{IsSavepointIn, Nest, Stands, last_of, levels_of}
use Rattle.session_levels.proofs.CutLemmas.{last_apart}
use Rattle.session_levels.proofs.LevelLemmas.{innermost_named, innermost_nameless, last_push}
use Rattle.session_levels.proofs.StandsLemmas.{Stood, last_savepoint, stands, stood, stood_undone}
use Rattle.engine_parts.specs.declared.session.Session.{Session}
use Rattle.engine_parts.specs.declared.session.Stage.TheVariants as stages
use Rattle.engine_parts.specs.declared.session.Unlinked.{Unlinked}
use Rattle.engine_parts.specs.Holds.{Knowledge, Leaves}
use Rattle.engine_parts.specs.Law.{MayKeep}
use Rattle.engine_parts.specs.Sessions.{IsAt, IsFiled, IsReady, IsThe, MayCall, by_at, inner_id}
use Rattle.engine_parts.specs.Stages.{AreUnaborted, AsksNothing, IsInStage, IsUndoing, may_be_aborted, may_be_recorded}
use Rattle.engine_parts.proofs.Leaving.{at_left, filed_left, history_event, no_abort, no_multi, unaborted_same}
use Rattle.engine_parts.proofs.Made.{makes_left}
use Rattle.tx_core.specs.MultiEntries.{multi_of}
use Rattle.engine_parts.specs.Makings.{Makes}
use Rattle.engine_parts.proofs.Unrecorded.{open_unrecorded}
use Rattle.tx_core.specs.AbortRecordsExact.{HasNoAbortRecord}
use Rattle.proc_sections.specs.Undos.{AreRolledBack, IsUndone, unlinked_below}

abbrev pub undo_entry : By → ℕ → Entry
undo_entry by id = record { by = by; kind = kinds.Event (events.Undo by id) }

-- ---- the innermost level

pub inner_last : (named : List ℕ) (unnamed id : ℕ) → innermost (levels_of named unnamed) ≡ Some id → (unnamed ≡ 0) × (last_of named ≡ Some id)
inner_last named zero id e = (refl, sym (innermost_named named) ∙ e)
inner_last named (suc n) id e = absurd (no_some (sym (innermost_nameless named n) ∙ e))
  where
    no_some : None ≡ Some id → ⊥
    no_some q = cc

-- the level that was taken off
pub popped : (named left : List ℕ) (id : ℕ) → 2 ≤ length named → last_of named ≡ Some id → left ≡ take (length named - 1) named → named ≡ left ++ id ∷ []
popped named left id two last is =
    let r = last_apart named (length named - 1) (omega arith) in
    let rest : List ℕ = take (length named - 1) named in
    let same : r.0 ≡ id = same_Some r.0 id (sym (last_push rest r.0) ∙ (ap last_of (sym r.1) ∙ last)) in
    r.1 ∙ (λ j. sym is j ++ same j ∷ [])

pub savepoint_of : (h : List Event) (opened named : List ℕ) (unnamed id : ℕ) → 2 ≤ length named → innermost (levels_of named unnamed) ≡ Some id → Nest h opened named → IsSavepointIn h opened id
savepoint_of h opened named unnamed id two inner nest =
    let left : List ℕ = take (length named - 1) named in
    let is : named ≡ left ++ id ∷ [] = popped named left id two (inner_last named unnamed id inner).1 refl in
    last_savepoint h opened left id (let long = ap length is ∙ length_push left id in omega arith) (subst (Nest h opened) is nest)

-- ---- the event

at_or_past : (a b : ℕ) → nat_le a b ≡ true → a ≤ b
at_or_past a b e = grind (arith, nat_tests)

below_it : (a b : ℕ) → nat_le a b ≡ false → b < a
below_it a b e = grind (arith, nat_tests)

closed_aborted : (start : Start) (seen : List (List Entry)) (n : ℕ) (opened : List ℕ) (id : ℕ) → open_ids n (history seen) ≡ opened → IsSavepointIn (history seen) opened id → AreRolledBack start seen opened id
    → (x : ℕ) → Contains (open_ids n (history seen)) x → Contains (enclosing (history seen) x) id → IsMarked start seen x states.Aborted
closed_aborted start seen n opened id is sp aborted x c e =
    let here : Contains opened x = subst (λ (l : List ℕ). Contains l x) is c in
    let past : nat_le id x ≡ true = sym (all_has (λ y. is_inside (history seen) id y ≡ nat_le id y) opened x sp.2 (contains_true opened x here)) ∙ contains_true (enclosing (history seen) x) id e in
    aborted x here (at_or_past id x past)

pub may_add_undo : (start : Start) (seen : List (List Entry)) (by : By) (opened : List ℕ) (id : ℕ) (e : Entry) → e ≡ undo_entry by id → IsShown start seen → open_ids by.session (history seen) ≡ opened → IsSavepointIn (history seen) opened id → HasNoRecord seen by.session → HasNoAbortRecord seen by.session → AreRolledBack start seen opened id → IsInTurn start (at seen proc_lock) by → MayKeep start seen proc_lock e
may_add_undo start seen by opened id e is shown opened_is sp none unaborted aborted turn =
    subst (MayKeep start seen proc_lock) (sym is)
    (λ lists k knows inside whole. undo_event_law start seen by id shown (subst (λ (l : List ℕ). Contains l id) (sym opened_is) sp.0, sp.1) none unaborted (closed_aborted start seen by.session opened id opened_is sp aborted) lists k knows inside whole turn)

-- ---- what stays

abbrev below_of : ℕ → ℕ → Bool
below_of id x = not (nat_le id x)

in_tail : (xs : List ℕ) (x : ℕ) → Has (drop 1 xs) x → Has xs x
in_tail [] x h = h
in_tail (y ∷ ys) x h = inr h

tail_filter : (p : ℕ → Bool) (xs : List ℕ) (x : ℕ) → Has (drop 1 (filter p xs)) x → Has (drop 1 xs) x × (p x ≡ true)
tail_filter p [] x h = absurd h
tail_filter p (t ∷ ys) x h = has_filter p ys x (of (p t) h)
  where
    of : (b : Bool) → Has (drop 1 (cond b (t ∷ filter p ys) (filter p ys))) x → Has (filter p ys) x
    of true k = k
    of false k = in_tail (filter p ys) x k

filter_tail : (p : ℕ → Bool) (t : ℕ) (ys : List ℕ) (x : ℕ) → p t ≡ true → Has ys x → p x ≡ true → Has (drop 1 (filter p (t ∷ ys))) x
filter_tail p t ys x first h e = subst (λ (b : Bool). Has (drop 1 (cond b (t ∷ filter p ys) (filter p ys))) x) (sym first) (filter_has p ys x h e)

-- the transaction's id stays
head_kept : (h h' : List Event) (opened named : List ℕ) (id : ℕ) → 1 ≤ length named → Nest h opened (named ++ id ∷ []) → Nest h' (filter (below_of id) opened) named → (rest : List ℕ) × (t : ℕ) × (opened ≡ t ∷ rest) × (below_of id t ≡ true)
head_kept h h' opened [] id some nest nest' = absurd (omega arith)
head_kept h h' opened (t ∷ named) id some nest nest' =
    (nest.0, t, nest.1, (has_filter (below_of id) opened t (subst (λ (l : List ℕ). Has l t) (sym nest'.1) (inl refl))).1)

not_false : (b : Bool) → not b ≡ true → b ≡ false
not_false false e = refl
not_false true e = absurd cc

the_below : (id : ℕ) (o : Option Unlinked) (x : ℕ) → nat_le id x ≡ false → IsThe o x → IsThe (unlinked_below id o) x
the_below id None x below t = t
the_below id (Some u) x below t = subst (λ (b : Bool). IsThe (cond b None (Some u)) x) (sym (ap (nat_le id) t ∙ below)) t

no_record : (e : Entry) (top : ℕ) (subs : List ℕ) → appended e ≡ None → e.kind ≡ kinds.Append (records.Commit top subs) → ⊥
no_record e top subs none is = cc

-- the session behind the section, which took the level and its ids off
pub undone_is : (id from last : ℕ) (s t s' : Session) → t ≡ s → last + 1 ≡ length t.levels.level_ids.items → 2 ≤ length s.levels.level_ids.items → inner_id s ≡ Some id → take from s.levels.open_ids.items ≡ filter (below_of id) s.levels.open_ids.items → s'.levels.level_ids.items ≡ take last t.levels.level_ids.items → s'.levels.unnamed ≡ t.levels.unnamed
    → s'.levels.open_ids.items ≡ take from t.levels.open_ids.items → s'.levels.registered ≡ t.levels.registered → s'.levels.commands ≡ t.levels.commands → s'.stage ≡ stages.Clear → s'.unlinked ≡ unlinked_below id t.unlinked → s'.making ≡ t.making → IsUndone id s s'
undone_is id from last s t s' same long two inner cut named unnamed opened registered count stage unlinked making = record {
  named = popped s.levels.level_ids.items s'.levels.level_ids.items id two (inner_last s.levels.level_ids.items s.levels.unnamed id inner).1 (named ∙ (ap (λ z. take z t.levels.level_ids.items) (less last t.levels.level_ids.items long) ∙ ap (λ (z : Session). take (length z.levels.level_ids.items - 1) z.levels.level_ids.items) same));
  unnamed = unnamed ∙ ap (λ (z : Session). z.levels.unnamed) same;
  opened = opened ∙ (ap (λ (z : Session). take from z.levels.open_ids.items) same ∙ cut);
  registered = registered ∙ ap (λ (z : Session). z.levels.registered) same;
  count = count ∙ ap (λ (z : Session). z.levels.commands) same;
  stage = stage;
  unlinked = unlinked ∙ ap (λ (z : Session). unlinked_below id z.unlinked) same;
  making = making ∙ ap (λ (z : Session). z.making) same;
}
  where
    less : (k : ℕ) (xs : List ℕ) → k + 1 ≡ length xs → k ≡ length xs - 1
    less k xs e = omega arith

-- a session whose innermost savepoint is closed
module _ (start : Start) (v w : Knowledge) (n : ℕ) (s s' : Session) (id : ℕ) (e : Entry) (a : IsAt start v n s) (is : e ≡ undo_entry (by_at n s.levels.commands) id) (pending : s.stage ≡ stages.Undoing) (two : 2 ≤ length s.levels.level_ids.items) (u : IsUndone id s s') (l : Leaves start proc_lock e v w) where
  abbrev event : Event
  event = events.Undo (by_at n s.levels.commands) id

  abbrev kept : List ℕ
  kept = filter (below_of id) s.levels.open_ids.items

  inside : proc_lock < length v.seen
  inside = let wide = a.wide in omega arith

  grown : history w.seen ≡ history v.seen ++ event ∷ []
  grown = history_event start v w e event (ap event_of is) inside l

  some : 1 ≤ length s'.levels.level_ids.items
  some = let long = ap length u.named ∙ length_push s'.levels.level_ids.items id in omega arith

  st : Stood start.base (history v.seen ++ event ∷ []) n s.levels.commands kept s'.levels.level_ids.items s.levels.unnamed s.levels.registered.items
  st = stood_undone start.base (history v.seen) (by_at n s.levels.commands) id s.levels.unnamed s.levels.open_ids.items s'.levels.level_ids.items s.levels.registered.items some
      (subst (λ (z : List ℕ). Stood start.base (history v.seen) n s.levels.commands s.levels.open_ids.items z s.levels.unnamed s.levels.registered.items) u.named (stood start.base (history v.seen) n s.levels.commands s.levels a.stands))

  below : (x : ℕ) → Contains kept x → Contains s.levels.open_ids.items x × (nat_le id x ≡ false)
  below x c = let f = has_filter (below_of id) s.levels.open_ids.items x (contains_has kept x c) in (has_contains s.levels.open_ids.items x f.0, not_false (nat_le id x) f.1)

  clear : HasNoRecord w.seen n
  clear top subs k opened =
      let before : IsAppended v.seen n (records.Commit top subs) = ⊎_elim (λ old. old) (λ new. absurd (no_record e top subs (ap appended is) new.2)) (appended_cases v.seen proc_lock e n (records.Commit top subs) inside (subst (λ (z : List (List Entry)). IsAppended z n (records.Commit top subs)) l.seen k)) in
      let first : Contains (top ∷ subs) top = has_contains (top ∷ subs) top (inl refl) in
      let now : top ∷ subs ≡ kept = sym opened ∙ (ap (open_ids n) grown ∙ st.opened_are) in
      let there = (below top (subst (λ (z : List ℕ). Contains z top) now first)).0 in
      open_unrecorded start v.seen n top top subs a.kept (a.clear (ap may_be_recorded pending)) (subst (λ (z : List ℕ). Contains z top) (sym a.stands.opened) there) before first

  unaborted : AreUnaborted w.seen n kept
  unaborted x c = unaborted_same start v w n proc_lock s e a inside (no_abort e (ap appended is)) l (ap may_be_aborted pending) x (below x c).0

  filed : IsFiled start w.seen n kept (unlinked_below id s.unlinked)
  filed =
      let old = filed_left start v w n proc_lock s e a inside l in
      let first = head_kept (history v.seen) (history v.seen ++ event ∷ []) s.levels.open_ids.items s'.levels.level_ids.items id some (subst (Nest (history v.seen) s.levels.open_ids.items) u.named a.stands.nest) st.nest in
      record {
        linked = λ x c.
            let f = tail_filter (below_of id) s.levels.open_ids.items x (contains_has (drop 1 kept) x c) in
            ⊎_elim inl (λ t. inr (the_below id s.unlinked x (not_false (nat_le id x) f.1) t)) (old.linked x (has_contains (drop 1 s.levels.open_ids.items) x f.0));
        pending = pend first.0 first.1 first.2 first.3 s.unlinked old.pending;
      }
    where
      pend : (rest : List ℕ) (t : ℕ) → s.levels.open_ids.items ≡ t ∷ rest → below_of id t ≡ true → (o : Option Unlinked)
          → IfSome o (λ u. Contains (drop 1 s.levels.open_ids.items) u.id × IsGivenBelow w.seen n u.parent u.id × IsMade start w.seen u.id)
          → IfSome (unlinked_below id o) (λ u. Contains (drop 1 kept) u.id × IsGivenBelow w.seen n u.parent u.id × IsMade start w.seen u.id)
      pend rest t split first None p = tt
      pend rest t split first (Some missing) p = of (nat_le id missing.id) refl
        where
          of : (b : Bool) → nat_le id missing.id ≡ b → IfSome (cond b None (Some missing)) (λ u. Contains (drop 1 kept) u.id × IsGivenBelow w.seen n u.parent u.id × IsMade start w.seen u.id)
          of true q = tt
          of false q = (
            subst (λ (z : List ℕ). Contains (drop 1 (filter (below_of id) z)) missing.id) (sym split)
                (has_contains (drop 1 (filter (below_of id) (t ∷ rest))) missing.id
                (filter_tail (below_of id) t rest missing.id first (contains_has rest missing.id (subst (λ (z : List ℕ). Contains (drop 1 z) missing.id) split p.0)) (ap not q))),
            p.1,
            p.2,
          )

  pub ready_undone : IsReady start w n s'
  ready_undone =
      at_left start v w n proc_lock s s' e a inside (ap (λ (z : Entry). z.by) is) u.count l
      (subst (λ (z : List Event × ℕ). Stands start.base z.0 n z.1 s'.levels) (λ j. (sym grown j, sym u.count j)) (stands start.base (history v.seen ++ event ∷ []) n s.levels.commands s'.levels (rw (u.opened, u.unnamed, u.registered) st)))
      (λ q. clear)
      (λ q. subst (λ (z : List ℕ). AreUnaborted w.seen n z) (sym u.opened) unaborted)
      (subst (λ (z : List ℕ × Option Unlinked). IsFiled start w.seen n z.0 z.1) (λ j. (sym u.opened j, sym u.unlinked j)) filed)
      (subst (Makes start w.seen n) (sym u.making) (makes_left start v w n proc_lock s.making e l.kept inside (ap multi_of is) (no_multi e (ap appended is)) l a.makes))

pub ready_undone_at : (start : Start) (v w : Knowledge) (n n' : ℕ) (s s' : Session) (id : ℕ) (e : Entry) → IsAt start v n s → e ≡ undo_entry (by_at n s.levels.commands) id → s.stage ≡ stages.Undoing → 2 ≤ length s.levels.level_ids.items → IsUndone id s s' → Leaves start proc_lock e v w → n' ≡ n → IsReady start w n' s'
ready_undone_at start v w n n' s s' id e a is pending two u l q = subst (λ z. IsReady start w z s') (sym q) (ready_undone start v w n s s' id e a is pending two u l)

-- and so it may call
pub call_undone : (start : Start) (v w : Knowledge) (n n' : ℕ) (s s' : Session) (id : ℕ) → MayCall start v n s → s.stage ≡ stages.Undoing → inner_id s ≡ Some id → AsksNothing n v.seen w.seen → IsUndone id s s' → n' ≡ n → IsReady start w n' s' → MayCall start w n' s'
call_undone start v w n n' s s' id m pending inner asks u number ready =
    let g : IsUndoing v.seen n (inner_id s) s.levels.open_ids.items = subst (IsInStage start v.seen n (inner_id s) s.levels.open_ids.items) pending m.stage in
    let same : g.savepoint ≡ id = same_Some g.savepoint id (sym g.innermost ∙ inner) in
    record {
      ready = ready;
      stage = subst (IsInStage start w.seen n' (inner_id s') s'.levels.open_ids.items) (sym u.stage)
          (λ x state c asked.
          let f = has_filter (below_of id) s.levels.open_ids.items x (contains_has (filter (below_of id) s.levels.open_ids.items) x (subst (λ (z : List ℕ). Contains z x) u.opened c)) in
          g.unasked x state (has_contains s.levels.open_ids.items x f.0) (subst (λ z. x < z) (sym same) (below_it id x (not_false (nat_le id x) f.1))) (asks x state (subst (λ z. Asks w.seen z x state) number asked)));
    }
