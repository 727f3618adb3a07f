-- A climb over the parents that were read ends at the top, or at an ancestor before the xmin.
use Rattle.tx_events.proofs.ListSteps.{le_or_over}
use Rattle.std.proofs.Common.{List, Some, [], ap, arith, drop, false, inl, inr, length, refl, reverse, subst, sym, take, true, ℕ, ⊎_elim, ◌<◌, ◌∙◌, ◌∷◌, ◌≡◌, ◌≤◌, ◌⊎◌}
use Rattle.std.proofs.lemmas.Bool.{eqb-true, or_parts, cases_Bool}
use Rattle.std.proofs.lemmas.List.{take-append-drop, take-take, take_all}
use Rattle.std.specs.List.{flat_map, list_any, slice_get}
use Rattle.tx_events.specs.declared.event.By.{By}
use Rattle.tx_events.specs.declared.event.Event.{Event}
use Rattle.tx_events.specs.declared.record.Counters.{Counters}
use Rattle.tx_events.proofs.Closing.{Later, is_open_by, later, later_take, never_undone, one_top, open_is}
use Rattle.tx_events.proofs.GivenIds.{family_session, given_to_given, legal_take}
use Rattle.tx_events.proofs.Membership.{Has, contains_has, filter_has, has_contains, has_filter, has_flat_map}
use Rattle.tx_events.proofs.Lineages.{line_up_self, top_in, enclosing_line, enclosing_of_sub, top_line}
use Rattle.tx_events.proofs.ParentLines.{sub_line}
use Rattle.std.proofs.lemmas.Option.{slice_get_within}
use Rattle.tx_events.proofs.Trees.{family}
use Rattle.tx_events.specs.Events.{given, given_to, is_end_of, is_undo_of}
use Rattle.tx_events.specs.Families.{enclosing, lineage, top}
use Rattle.tx_events.specs.History.{IsLegal}
use Rattle.tx_events.specs.Running.{is_ended, is_open, is_undone, open_ids}
use Rattle.tx_events.specs.Snapshots.{is_overflowed, snapshot_xmin}
use Rattle.tx_core.specs.declared.entry.Entry.{Entry}
use Rattle.tx_core.specs.declared.entry.Start.{Start}
use Rattle.tx_core.proofs.Asking.{sub_of, upheld_has}
use Rattle.tx_core.proofs.Deciding.{decides_by}
use Rattle.notes.proofs.Growing.{begins_then}
use Rattle.tx_core.proofs.Lasting.{history_grows}
use Rattle.tx_core.proofs.Saying.{says_exact, says_over}
use Rattle.tx_core.proofs.Taking.{get_in_take, taken_twice}
use Rattle.tx_core.specs.CommitRecordsExact.{IsExactIn, NeedsLinks}
use Rattle.tx_core.specs.EngineInvariant.{EngineInvariant}
use Rattle.tx_core.specs.Entries.{IsAppended, IsLinked, Link, appended, history, links_in}
use Rattle.notes.specs.Lists.{Begins, at}
use Rattle.tx_core.specs.Locks.{log_lock, subtrans_lock_of}
use Rattle.tx_core.specs.ParentsFollow.{NeedsSubs}
use Rattle.tx_core.specs.Verdict.{Decides, IsClimb}
use Rattle.tx_events.specs.declared.event.Event.TheVariants as events
use Rattle.tx_core.specs.declared.entry.Kind.TheVariants as kinds
use Rattle.tx_events.specs.declared.record.Rec.TheVariants as records

-- the parent of an id that a session has open is open too
parent_open : (base : Counters) (f more : List Event) (session : ℕ) (by : By) (parent x : ℕ) → IsLegal base f → IsLegal base more → Begins f more → Has (open_ids session f) x → Has more (events.Sub by parent x) → Has (open_ids session f) parent
parent_open base f more session by parent x legal legal_more begins mine sub =
    let o = has_filter (is_open f) (given_to session f) x mine in
    let given_x = given_to_given session f x o.0 in
    let l = sub_line base more legal_more by parent x sub in
    let after : (y : ℕ) → Has (given f) y → Later f more y = λ y k. subst (λ t. Later f t y) begins.1 (later base f begins.0 (subst (IsLegal base) (sym begins.1) legal_more) y k) in
    let line : lineage f x ≡ x ∷ lineage more parent = sym (after x given_x).line ∙ l.line in
    let in_line : Has (lineage f x) parent = subst (λ t. Has t parent) (sym line) (inr (line_up_self (reverse more) parent)) in
    let fam = family base f legal x given_x in
    let of_session = family_session base f legal session x parent o.0 in_line in
    let short : lineage f x ≡ x ∷ lineage f parent = line ∙ ap (λ (t : List ℕ). x ∷ t) (after parent (fam.within parent in_line)).line in
    let shut = open_is f x o.1 in
    let ended : is_ended f parent ≡ false = ap (λ z. list_any (is_end_of z) f) (fam.tops parent in_line) ∙ shut.0 in
    let enclosed : enclosing f x ≡ x ∷ enclosing f parent = ap enclosing_line short ∙ enclosing_of_sub f parent x in
    let undone : is_undone f parent ≡ false = (or_parts (list_any (is_undo_of x) f) (is_undone f parent) (sym (ap (λ (t : List ℕ). list_any (λ y. list_any (is_undo_of y) f) t) enclosed) ∙ shut.1)).1 in
    filter_has (is_open f) (given_to session f) parent of_session (is_open_by f parent ended undone)

-- where a climb from an id of a commit record ends
climbs : (start : Start) (lists more : List (List Entry)) (f : List Event) (session top : ℕ) (subs : List ℕ) (xmin topmost : ℕ) → EngineInvariant start lists → EngineInvariant start more → IsLegal start.base f → Begins f (history more) → open_ids session f ≡ top ∷ subs → IsAppended lists session (records.Commit top subs)
    → (parents : List ℕ) (x : ℕ) → Has (open_ids session f) x → IsClimb start lists more xmin x parents topmost → Has (open_ids session f) topmost × ((topmost < xmin) ⊎ (topmost ≡ top))
climbs start lists more f session top subs xmin topmost k m legal begins ids appended [] x mine climb = (
  subst (λ z. Has (open_ids session f) z) (sym climb.0) mine,
  ⊎_elim
      (λ (low : x < xmin). inl (let q = climb.0 in omega arith))
      (λ (none : (parent : ℕ) → IsLinked start lists x parent → ⊥).
      ⊎_elim
      (λ (q : top ≡ x). inr (climb.0 ∙ sym q))
      (λ (sub : Has subs x).
      let there = upheld_has (NeedsLinks start) lists log_lock (record { by = appended.0; kind = kinds.Append (records.Commit top subs) }) k.records.parents (contains_has (at lists log_lock) (record { by = appended.0; kind = kinds.Append (records.Commit top subs) }) appended.2) in
      let l = there.1 x (has_contains subs x sub) in absurd (none l.0 l.1))
      (subst (λ t. Has t x) ids mine))
      climb.1,
)
climbs start lists more f session top subs xmin topmost k m legal begins ids appended (parent ∷ parents) x mine climb =
    let lock : ℕ = subtrans_lock_of start x in
    let link : Link = record { caller = climb.0.0; id = x; parent = parent } in
    let found = has_flat_map links_in (at more lock) link (contains_has (flat_map links_in (at more lock)) link climb.0.1) in
    let sub = sub_of more lock [] found.0 link (upheld_has NeedsSubs more lock found.0 m.parents.each found.1).1 found.2 in
    let opened = parent_open start.base f (history more) session sub.0 parent x legal m.events.legal begins mine (contains_has (history more) (events.Sub sub.0 parent x) sub.2) in
    climbs start lists more f session top subs xmin topmost k m legal begins ids appended parents parent opened climb.1

-- a place at which the ids of an exact record were open: its commit's, or one not before p
front_of : (h : List Event) (p session top : ℕ) (subs : List ℕ) → p ≤ length h → IsExactIn h session top subs → (q : ℕ) × (open_ids session (take q h) ≡ top ∷ subs) × ((p ≤ q) ⊎ ((by : By) × (slice_get h q ≡ Some (events.Commit by top))))
front_of h p session top subs within exact =
    ⊎_elim
    (λ e. (length h, ap (open_ids session) (take_all (length h) h (omega arith)) ∙ e, inl within))
    (λ e. (e.0, e.4, inr (e.1, e.3)))
    exact.ids

pub decides : Decides
decides start lists more shown p by name x topmost parents k m grows is taken full oldest few climb =
    let h = history lists in let g = take p h in
    let base = start.base in let first = base.next in
    let legal = k.events.legal in let legal_g = legal_take base h p legal in
    decides_by start lists shown p x topmost k is full oldest few (λ r was below.
    ⊎_elim
    (λ (over : is_overflowed first g ≡ true).
    let exact = k.records.exact r.session r.top r.subs r.appended in
    let long = slice_get_within h p (events.Snap name by) taken in
    let front = front_of h p r.session r.top r.subs (omega arith) exact in
    let q = front.0 in let f = take q h in
    let legal_f = legal_take base h q legal in
    let mine : Has (open_ids r.session f) x = subst (λ t. Has t x) (sym front.1) (contains_has (r.top ∷ r.subs) x r.among) in
    let top_mine : Has (open_ids r.session f) r.top = subst (λ t. Has t r.top) (sym front.1) (inl refl) in
    let opened = has_filter (is_open f) (given_to r.session f) x mine in
    let given_f = given_to_given r.session f x opened.0 in
    let given_top = given_to_given r.session f r.top (has_filter (is_open f) (given_to r.session f) r.top top_mine).0 in
    let line_f = later_take base h q x legal given_f in
    let now = later_take base h p x legal was in
    let root_f : top f r.top ≡ r.top = sym (ap (λ (l : List ℕ). top_line l r.top) (later_take base h q r.top legal given_top).line) ∙ eqb-true (top h r.top) r.top exact.root in
    let over_f : top f x ≡ r.top = one_top base f legal_f r.session x r.top mine top_mine ∙ root_f in
    let over_h : top h x ≡ r.top = ap (λ (l : List ℕ). top_line l x) line_f.line ∙ over_f in
    let over_g : top g x ≡ r.top = sym (ap (λ (l : List ℕ). top_line l x) now.line) ∙ over_h in
    let begins : Begins f (history more) = begins_then f h (history more) (drop q h, take-append-drop q h) (history_grows lists more grows) in
    let c = climbs start lists more f r.session r.top r.subs (snapshot_xmin first g) topmost k m legal_f begins front.1 r.appended parents x mine (climb over) in
    let end_open = has_filter (is_open f) (given_to r.session f) topmost c.0 in
    let end_family = family base f legal_f topmost (given_to_given r.session f topmost end_open.0) in
    let end_top : top f topmost ≡ r.top = one_top base f legal_f r.session topmost r.top c.0 top_mine ∙ root_f in
    let low : top g x ≤ topmost = let a = end_family.below (top f topmost) (top_in f topmost) in omega arith in
    let undone : is_undone g x ≡ false = ⊎_elim
    (λ (late : p ≤ q).
    let same : take p f ≡ g = take-take p q h late in
    subst (λ l. is_undone l x ≡ false) same ((later_take base f p x legal_f (subst (λ l. Has (given l) x) (sym same) was)).undone (open_is f x opened.1).1))
    (λ (early : q < p). ⊎_elim
    (λ (z : p ≤ q). absurd (omega arith))
    (λ (z : (by : By) × (slice_get h q ≡ Some (events.Commit by r.top))).
    let there = get_in_take p q h (events.Commit z.0 r.top) early z.1 in
    never_undone base g legal_g q x r.top z.0 was there over_g (ap (λ l. is_undone l x) (taken_twice p q h (events.Commit z.0 r.top) there) ∙ (open_is f x opened.1).1))
    front.2)
    (le_or_over p q) in
    says_over base g x topmost legal_g over was below undone (⊎_elim (λ a. inl (a, low)) (λ a. inr (a ∙ sym over_g)) c.1))
    (λ (whole : is_overflowed first g ≡ false). says_exact base g x legal_g whole was below topmost)
    (cases_Bool (is_overflowed first g)))
