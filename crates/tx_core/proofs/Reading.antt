-- What is read of an id's state.
use Rattle.std.proofs.lemmas.Option.{same_Some}
use Rattle.std.proofs.Common.{Bool, Contains, List, None, Option, Some, [], ap, append-nil, cond, eq-eqb, false, inl, inr, length, refl, subst, sym, take, true, ℕ, ⊎_elim, ◌++◌, ◌==◌, ◌∙◌, ◌∷◌, ◌≡◌, ◌⊎◌}
use Rattle.std.proofs.Math.Seq.{take-append_seam}
use Rattle.std.proofs.lemmas.Bool.{eqb-true}
use Rattle.std.proofs.lemmas.Grind.{flat_map-append}
use Rattle.std.proofs.lemmas.List.Elements.{filter_map-append}
use Rattle.std.specs.List.{cons_option, filter_map, last_or, slice_get}
use Rattle.tx_events.specs.declared.event.By.{By}
use Rattle.tx_events.specs.declared.record.Rec.{Rec}
use Rattle.tx_events.proofs.GivenIds.{given_to_given}
use Rattle.tx_events.proofs.PlaceLemmas.{last_at, slice_get-grows, take-grows}
use Rattle.tx_events.proofs.Membership.{Has, by_end, contains_has, has_cases, has_contains, has_filter_map, has_flat_map, place_has}
use Rattle.tx_events.specs.Events.{given}
use Rattle.tx_core.specs.declared.entry.Entry.{Entry}
use Rattle.tx_core.specs.declared.entry.Kind.{Kind}
use Rattle.tx_core.specs.declared.entry.Start.{Start}
use Rattle.tx_core.specs.declared.entry.State.{State}
use Rattle.tx_core.proofs.Asking.{alike_of, asks_marks, given_of, later_of, logged_of, upheld_has}
use Rattle.tx_core.specs.AbortRule.{NeedsGiven, NeedsSame}
use Rattle.tx_core.specs.EngineInvariant.{EngineInvariant}
use Rattle.tx_core.specs.Entries.{IsAppended, IsFlushed, IsMarked, Mark, appended, appended_in, history, marks, marks_in, records_of}
use Rattle.notes.specs.Lists.{at}
use Rattle.tx_core.specs.Locks.{log_lock, xact_lock_of}
use Rattle.tx_core.specs.LogBeforeStatus.{IsDurable, NeedsRecords, RecordOf}
use Rattle.tx_core.specs.Verdict.{state_for, state_read}
use Rattle.tx_core.specs.declared.entry.Kind.TheVariants as kinds
use Rattle.tx_events.specs.declared.record.Rec.TheVariants as records
use Rattle.tx_core.specs.declared.entry.State.TheVariants as states

module _ {A : Type 0} where
  pub last_or-append : (o : Option A) (xs ys : List A) → last_or o (xs ++ ys) ≡ last_or (last_or o xs) ys
  last_or-append o [] ys = refl
  last_or-append o (x ∷ xs) ys = last_or-append (Some x) xs ys

  -- the last of items that are all one
  last_same : (o : Option A) (xs : List A) (s : A) → ((y : A) → Has xs y → y ≡ s) → (last_or o xs ≡ o) × (xs ≡ []) ⊎ (last_or o xs ≡ Some s)
  last_same o [] s each = inl (refl, refl)
  last_same o (x ∷ xs) s each =
      let here : Some x ≡ Some s = ap (λ z. Some z) (each x (inl refl)) in
      inr (⊎_elim (λ h. h.0 ∙ here) (λ h. h) (last_same (Some x) xs s (λ y k. each y (inr k))))

  -- the last is the one that o is, or an item
  pub last_has : (o : Option A) (xs : List A) (s : A) → last_or o xs ≡ Some s → (o ≡ Some s) ⊎ Has xs s
  last_has o [] s e = inl e
  last_has o (x ∷ xs) s e = inr (⊎_elim (λ (q : Some x ≡ Some s). inl (same_Some x s q)) inr (last_has (Some x) xs s e))

-- a state read of an id is one that was set of it
pub state_from : (x : ℕ) (mark : Mark) (s : State) → state_for x mark ≡ Some s → (mark.id ≡ x) × (mark.state ≡ s)
state_from x mark s e =
    let step : (b : Bool) → (mark.id == x) ≡ b → cond b (Some mark.state) None ≡ Some s → (mark.id ≡ x) × (mark.state ≡ s) = elim [
      | true ↦ λ q g. (eqb-true mark.id x q, same_Some mark.state s g)
      | false ↦ λ q g. absurd cc
    ] in
    step (mark.id == x) refl e

state_to : (x : ℕ) (mark : Mark) → mark.id ≡ x → state_for x mark ≡ Some mark.state
state_to x mark q = ap (λ b. cond b (Some mark.state) None) (eq-eqb mark.id x q)

-- the states of an id in a list of marks
states_has : (x : ℕ) (ms : List Mark) (mark : Mark) → Has ms mark → mark.id ≡ x → Has (filter_map (state_for x) ms) mark.state
states_has x [] mark k q = absurd k
states_has x (m ∷ ms) mark k q =
    ⊎_elim
    (λ (e : m ≡ mark). subst (λ o. Has (cons_option o (filter_map (state_for x) ms)) mark.state) (sym (ap (state_for x) e ∙ state_to x mark q)) (inl refl))
    (λ t. let r = states_has x ms mark t q in elim (state_for x m) as (λ o. Has (cons_option o (filter_map (state_for x) ms)) mark.state) [ None ↦ r | Some s ↦ inr r ])
    k

-- once an id is set committed, committed is read
pub committed_last : (o : Option State) (x : ℕ) (b : By) (es : List Entry) → ((p : ℕ) (e : Entry) → slice_get es p ≡ Some e → NeedsSame [] 0 (take p es) e) → Has (marks es) (record { caller = b; id = x; state = states.Committed }) → last_or o (filter_map (state_for x) (marks es)) ≡ Some states.Committed
committed_last o x b = by_end (λ es. ((p : ℕ) (e : Entry) → slice_get es p ≡ Some e → NeedsSame [] 0 (take p es) e) → Has (marks es) (record { caller = b; id = x; state = states.Committed }) → last_or o (filter_map (state_for x) (marks es)) ≡ Some states.Committed)
    (λ each k. absurd k)
    (λ es e before each k.
    let mark : Mark = record { caller = b; id = x; state = states.Committed } in
    let split : marks (es ++ e ∷ []) ≡ marks es ++ marks_in e = flat_map-append marks_in es (e ∷ []) ∙ ap (λ t. marks es ++ t) (append-nil (marks_in e)) in
    let olds : List State = filter_map (state_for x) (marks es) in let news : List State = filter_map (state_for x) (marks_in e) in
    let both : filter_map (state_for x) (marks (es ++ e ∷ [])) ≡ olds ++ news = ap (filter_map (state_for x)) split ∙ filter_map-append (state_for x) (marks es) (marks_in e) in
    let last : NeedsSame [] 0 es e = subst (λ t. NeedsSame [] 0 t e) (take-append_seam es (e ∷ [])) (each (length es) e (last_at es e)) in
    let front = before (λ p f g. subst (λ t. NeedsSame [] 0 t f) (take-grows es (e ∷ []) f p g) (each p f (slice_get-grows es (e ∷ []) f p g))) in
    let new_of : (s : State) → Has news s → (m : Mark) × Has (marks_in e) m × (m.id ≡ x) × (m.state ≡ s) = λ s j. let r = has_filter_map (state_for x) (marks_in e) s j in let t = state_from x r.0 s r.2 in (r.0, r.1, t.0, t.1) in
    ap (last_or o) both ∙ last_or-append o olds news
    ∙ ⊎_elim
    (λ (old : Has (marks es) mark).
    let all : (s : State) → Has news s → s ≡ states.Committed = λ s j. let m = new_of s j in
    ⊎_elim (λ (q : states.Committed ≡ m.0.state). sym m.3 ∙ sym q) (λ (q : states.Committed ≡ states.SubCommitted). absurd cc) (later_of [] 0 es e m.0 last m.1 mark (has_contains _ _ old) (sym m.2)) in
    ⊎_elim (λ h. h.0 ∙ front old) (λ h. h) (last_same (last_or o olds) news states.Committed all))
    (λ (new : Has (marks_in e) mark).
    let all : (s : State) → Has news s → s ≡ states.Committed = λ s j. let m = new_of s j in sym m.3 ∙ alike_of [] 0 es e mark m.0 last new m.1 m.2 in
    ⊎_elim (λ h. absurd (subst (λ t. Has t states.Committed) h.1 (states_has x (marks_in e) mark new refl))) (λ h. h) (last_same (last_or o olds) news states.Committed all))
    (has_cases (marks es) (marks_in e) mark (subst (λ t. Has t mark) split k)))

pub committed_read : (start : Start) (lists : List (List Entry)) (shown : ℕ → Option State) (x : ℕ) → EngineInvariant start lists → IsMarked start lists x states.Committed → state_read shown (marks (at lists (xact_lock_of start x))) x ≡ Some states.Committed
committed_read start lists shown x k m =
    let lock : ℕ = xact_lock_of start x in
    committed_last (shown x) x m.0 (at lists lock) (λ p e g. let n = k.aborts.final.each lock p e g in record { later = n.later; alike = n.alike }) (contains_has _ _ m.1)

pub appended_is : (by : By) (kind : Kind) (found : By × Rec) → appended_in by kind ≡ Some found → kind ≡ kinds.Append found.1
appended_is by (kinds.Append rec) found e = let q : (by, rec) ≡ found = same_Some _ _ e in ap (λ (z : By × Rec). kinds.Append z.1) q
appended_is by _ found e = absurd cc

pub appended_by : (by : By) (kind : Kind) (found : By × Rec) → appended_in by kind ≡ Some found → by ≡ found.0
appended_by by (kinds.Append rec) found e = let q : (by, rec) ≡ found = same_Some _ _ e in ap (λ (z : By × Rec). z.0) q
appended_by by _ found e = absurd cc

-- a record at a place of the log has its entry
pub record_entry : (lists : List (List Entry)) (rec : Rec) (place : ℕ) (by : By) → slice_get (records_of lists) place ≡ Some (by, rec) → Has (at lists log_lock) (record { by = by; kind = kinds.Append rec })
record_entry lists rec place by stands =
    let r = has_filter_map appended (at lists log_lock) (by, rec) (place_has (records_of lists) place (by, rec) stands) in
    let same : r.0 ≡ record { by = by; kind = kinds.Append rec } = λ i. record { by = appended_by r.0.by r.0.kind (by, rec) r.2 i; kind = appended_is r.0.by r.0.kind (by, rec) r.2 i } in
    subst (λ (e : Entry). Has (at lists log_lock) e) same r.1

-- so it was appended
pub appended_at : (lists : List (List Entry)) (session : ℕ) (rec : Rec) (place : ℕ) (by : By) → by.session ≡ session → slice_get (records_of lists) place ≡ Some (by, rec) → IsAppended lists session rec
appended_at lists session rec place by own stands = (by, own, has_contains (at lists log_lock) (record { by = by; kind = kinds.Append rec }) (record_entry lists rec place by stands))

pub flushed_appended : (start : Start) (lists : List (List Entry)) (session : ℕ) (rec : Rec) → IsFlushed start lists session rec → IsAppended lists session rec
flushed_appended start lists session rec f = appended_at lists session rec f.0 f.2 f.3 f.4

-- a committed id is one of an appended commit record
pub record IsOfRecord (lists : List (List Entry)) (x : ℕ) : Type 0 where
  pub session : ℕ
  pub top : ℕ
  pub subs : List ℕ
  pub appended : IsAppended lists session (records.Commit top subs)
  pub among : Contains (top ∷ subs) x

of_durable : (start : Start) (lists : List (List Entry)) (session x : ℕ) → IsDurable start lists session x → IsOfRecord lists x
of_durable start lists session x d = record { session = session; top = d.0; subs = d.1; appended = flushed_appended start lists session (records.Commit d.0 d.1) d.2; among = d.3 }

-- an id whose state was set was given
pub marked_given : (start : Start) (lists : List (List Entry)) (mark : Mark) (lock : ℕ) → EngineInvariant start lists → Has (marks (at lists lock)) mark → Has (given (history lists)) mark.id
marked_given start lists mark lock k h =
    let found = has_flat_map marks_in (at lists lock) mark h in
    given_to_given mark.caller.session (history lists) mark.id
    (contains_has _ _ (given_of lists lock [] found.0 mark (upheld_has NeedsGiven lists lock found.0 k.aborts.given found.1).1 (asks_marks found.0 mark found.2)))

-- committed is read only of an id of a commit record, where the start shows nothing
pub read_committed : (start : Start) (lists : List (List Entry)) (shown : ℕ → Option State) (x : ℕ) → EngineInvariant start lists → shown x ≡ None → state_read shown (marks (at lists (xact_lock_of start x))) x ≡ Some states.Committed → IsOfRecord lists x
read_committed start lists shown x k none e =
    let lock : ℕ = xact_lock_of start x in
    ⊎_elim
    (λ (q : shown x ≡ Some states.Committed). let z : None ≡ Some states.Committed = sym none ∙ q in absurd cc)
    (λ j.
    let r = has_filter_map (state_for x) (marks (at lists lock)) states.Committed j in
    let t = state_from x r.0 states.Committed r.2 in
    let found = has_flat_map marks_in (at lists lock) r.0 r.1 in
    let d = logged_of start lists lock [] found.0 r.0 (upheld_has (NeedsRecords start) lists lock found.0 k.status.logged found.1).1 found.2 in
    of_durable start lists r.0.caller.session x (subst (λ z. IsDurable start lists r.0.caller.session z) t.0 (subst (λ s. RecordOf start lists r.0.caller.session r.0.id s) t.1 d)))
    (last_has (shown x) (filter_map (state_for x) (marks (at lists lock))) states.Committed e)

-- an id that wasn't given shows what the start shows
pub read_start : (start : Start) (lists : List (List Entry)) (shown : ℕ → Option State) (x : ℕ) → EngineInvariant start lists → (Has (given (history lists)) x → ⊥) → state_read shown (marks (at lists (xact_lock_of start x))) x ≡ shown x
read_start start lists shown x k n =
    let lock : ℕ = xact_lock_of start x in
    let ms : List Mark = marks (at lists lock) in
    let none : (states : List State) → ((s : State) → Has states s → ⊥) → last_or (shown x) states ≡ shown x = elim [ [] ↦ λ no. refl | ◌∷◌ s rest ↦ λ no. absurd (no s (inl refl)) ] in
    none (filter_map (state_for x) ms) (λ s j.
    let r = has_filter_map (state_for x) ms s j in let t = state_from x r.0 s r.2 in
    n (subst (λ z. Has (given (history lists)) z) t.0 (marked_given start lists r.0 lock k r.1)))
