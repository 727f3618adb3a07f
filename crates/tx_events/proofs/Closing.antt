-- What is closed stays closed, and what a commit closes.
use Rattle.std.proofs.Common.{List, None, Some, [], ap, append-nil, append_assoc, drop, eq-eqb, false, inl, inr, length, ne_eqb, not, refl, subst, sym, take, true, ℕ, ⊎_elim, ◌&&◌, ◌++◌, ◌<◌, ◌∙◌, ◌∷◌, ◌≡◌, ◌⊎◌}
use Rattle.std.proofs.Math.Seq.{take-append_seam}
use Rattle.std.proofs.lemmas.Bool.{eqb-true, and_parts, false_from_ne_true, not-true, or_left}
use Rattle.std.proofs.lemmas.List.{take-append-drop}
use Rattle.std.specs.List.{list_any, slice_get}
use Rattle.std.proofs.lemmas.Option.{same_Some}
use Rattle.tx_events.specs.declared.event.By.{By}
use Rattle.tx_events.specs.declared.event.Event.{Event}
use Rattle.tx_events.specs.declared.record.Counters.{Counters}
use Rattle.tx_events.proofs.GivenIds.{commit_given, family_session, fresh, given_to_cases, given_to_given, given_to_some, legal_front, legal_last, one_session, given_stays}
use Rattle.tx_events.proofs.Lineages.{lineage_push, lineage_sub, enclosing_in, top_in, top_line, top_of_sub}
use Rattle.tx_events.proofs.Membership.{Has, any_has, by_end, contains_has, filter_has, has_filter, place_has}
use Rattle.tx_events.proofs.OpenGrowth.{ended_push, undone_push, undone_kept}
use Rattle.tx_events.proofs.PlaceLemmas.{slice_get-push, take-grows}
use Rattle.tx_events.proofs.Trees.{IsNewSub, IsNewTop, IsOld, family, given_cases}
use Rattle.tx_events.specs.Events.{by_of, given, given_by, given_to, is_end_of, is_undo_of}
use Rattle.tx_events.specs.Families.{enclosing, lineage, top}
use Rattle.tx_events.specs.History.{IsLegal, MayCome}
use Rattle.tx_events.specs.Running.{is_ended, is_open, is_undone, open_ids}
use Rattle.tx_events.proofs.ListSteps.{not_both}
use Rattle.tx_events.specs.declared.event.Event.TheVariants as events

-- an open id is neither ended nor undone
pub open_is : (h : List Event) (x : ℕ) → is_open h x ≡ true → (is_ended h x ≡ false) × (is_undone h x ≡ false)
open_is h x e =
    let r = and_parts (not (is_ended h x)) (not (is_undone h x)) e in
    (not-true (is_ended h x) r.0, not-true (is_undone h x) r.1)

pub is_open_by : (h : List Event) (x : ℕ) → is_ended h x ≡ false → is_undone h x ≡ false → is_open h x ≡ true
is_open_by h x a b = ap (λ z. not z && not (is_undone h x)) a ∙ ap (λ z. not z) b

-- the line of an id that was given stays
pub line_step : (base : Counters) (h : List Event) (e : Event) (x : ℕ) → IsLegal base (h ++ e ∷ []) → Has (given h) x → lineage (h ++ e ∷ []) x ≡ lineage h x
line_step base h e x legal k = lineage_push h e x (λ g. fresh base h e x (legal_front base h e legal) (legal_last base h e legal) g k)

ended_step : (base : Counters) (h : List Event) (e : Event) (x : ℕ) → IsLegal base (h ++ e ∷ []) → Has (given h) x → is_ended h x ≡ true → is_ended (h ++ e ∷ []) x ≡ true
ended_step base h e x legal k t = ended_push h e x (line_step base h e x legal k) ∙ or_left (is_ended h x) (is_end_of (top h x) e) t

undone_step : (base : Counters) (h : List Event) (e : Event) (x : ℕ) → IsLegal base (h ++ e ∷ []) → Has (given h) x → is_undone h x ≡ true → is_undone (h ++ e ∷ []) x ≡ true
undone_step base h e x legal k t = undone_push h e x (line_step base h e x legal k) ∙ or_left (is_undone h x) (list_any (λ y. is_undo_of y e) (enclosing h x)) t

-- what isn't undone wasn't before
pub undone_back : (base : Counters) (h : List Event) (e : Event) (x : ℕ) → IsLegal base (h ++ e ∷ []) → Has (given h) x → is_undone (h ++ e ∷ []) x ≡ false → is_undone h x ≡ false
undone_back base h e x legal k u = false_from_ne_true (is_undone h x) (λ t. not_both (is_undone (h ++ e ∷ []) x) (undone_step base h e x legal k t) u)

-- what is open was open before
pub open_back : (base : Counters) (h : List Event) (e : Event) (x : ℕ) → IsLegal base (h ++ e ∷ []) → Has (given h) x → is_open (h ++ e ∷ []) x ≡ true → is_open h x ≡ true
open_back base h e x legal k o =
    let r = open_is (h ++ e ∷ []) x o in
    is_open_by h x
    (false_from_ne_true (is_ended h x) (λ t. not_both (is_ended (h ++ e ∷ []) x) (ended_step base h e x legal k t) r.0))
    (undone_back base h e x legal k r.1)

-- the same over the rest of a history
pub record Later (h more : List Event) (x : ℕ) : Type 0 where
  pub line : lineage more x ≡ lineage h x
  pub opened : is_open more x ≡ true → is_open h x ≡ true
  pub undone : is_undone more x ≡ false → is_undone h x ≡ false
  pub given : Has (given more) x

pub later : (base : Counters) (h es : List Event) → IsLegal base (h ++ es) → (x : ℕ) → Has (given h) x → Later h (h ++ es) x
later base h = by_end (λ es. IsLegal base (h ++ es) → (x : ℕ) → Has (given h) x → Later h (h ++ es) x)
    (λ legal x k. subst (λ t. Later h t x) (sym (append-nil h)) (record { line = refl; opened = λ o. o; undone = λ o. o; given = k }))
    (λ es e before legal x k.
    let split : h ++ (es ++ e ∷ []) ≡ (h ++ es) ++ e ∷ [] = sym (append_assoc h es (e ∷ [])) in
    let l : IsLegal base ((h ++ es) ++ e ∷ []) = subst (IsLegal base) split legal in
    let b = before (legal_front base (h ++ es) e l) x k in
    subst (λ t. Later h t x) (sym split) (record {
      line = line_step base (h ++ es) e x l b.given ∙ b.line;
      opened = λ o. b.opened (open_back base (h ++ es) e x l b.given o);
      undone = λ o. b.undone (undone_back base (h ++ es) e x l b.given o);
      given = given_stays (h ++ es) e x b.given;
    }))

-- the first p events and all
pub later_take : (base : Counters) (h : List Event) (p x : ℕ) → IsLegal base h → Has (given (take p h)) x → Later (take p h) h x
later_take base h p x legal k = subst (λ t. Later (take p h) t x) (take-append-drop p h) (later base (take p h) (drop p h) (subst (IsLegal base) (sym (take-append-drop p h)) legal) x k)

-- a commit of its top ends an id
pub commit_ends : (h : List Event) (by : By) (t x : ℕ) → Has h (events.Commit by t) → top h x ≡ t → is_ended h x ≡ true
commit_ends h by t x k same = ap (λ z. list_any (is_end_of z) h) same ∙ any_has (is_end_of t) h (events.Commit by t) k (eq-eqb t t refl)

-- an id that the session has open after one event more: it had it open, or the event gives it to a
-- session with nothing open, or under an open parent
pub record OldOpen (s : ℕ) (h : List Event) (e : Event) (x : ℕ) : Type 0 where
  pub opened : Has (open_ids s h) x
  pub same : top (h ++ e ∷ []) x ≡ top h x

pub record NewOpen (s : ℕ) (h : List Event) (e : Event) (x : ℕ) : Type 0 where
  pub gives : given_by e ≡ Some x
  pub under : (open_ids s h ≡ []) ⊎ ((parent : ℕ) × Has (open_ids s h) parent × (top (h ++ e ∷ []) x ≡ top h parent))

new_open : (base : Counters) (h : List Event) (e : Event) (s x : ℕ) → IsLegal base (h ++ e ∷ []) → given_by e ≡ Some x → (by_of e).session ≡ s → NewOpen s h e x
new_open base h (events.Id by id) s x legal g q =
    let may = legal_last base h (events.Id by id) legal in
    record { gives = g; under = inl (ap (λ z. open_ids z h) (sym q) ∙ may.1) }
new_open base h (events.Sub by parent id) s x legal g q =
    let may = legal_last base h (events.Sub by parent id) legal in
    let i : id ≡ x = cc in
    record {
      gives = g;
      under = inr (
        parent,
        subst (λ z. Has (open_ids z h) parent) q (contains_has (open_ids by.session h) parent may.1),
        ap (λ z. top (h ++ events.Sub by parent z ∷ []) x) i ∙ ap (λ (l : List ℕ). top_line l x) (lineage_sub h by parent x) ∙ top_of_sub h parent x,
      );
    }
new_open base h e s x legal g q = absurd cc

open_cases : (base : Counters) (h : List Event) (e : Event) (s x : ℕ) → IsLegal base (h ++ e ∷ []) → Has (open_ids s (h ++ e ∷ [])) x → OldOpen s h e x ⊎ NewOpen s h e x
open_cases base h e s x legal k =
    let f = has_filter (is_open (h ++ e ∷ [])) (given_to s (h ++ e ∷ [])) x k in
    ⊎_elim
    (λ a.
    let g = given_to_given s h x a in
    inl (record { opened = filter_has (is_open h) (given_to s h) x a (open_back base h e x legal g f.1); same = ap (λ (l : List ℕ). top_line l x) (line_step base h e x legal g) }))
    (λ b. inr (new_open base h e s x legal b.0 b.1))
    (given_to_cases s h e x f.0)

-- a session's open ids are of one top
pub one_top : (base : Counters) (h : List Event) → IsLegal base h → (s x y : ℕ) → Has (open_ids s h) x → Has (open_ids s h) y → top h x ≡ top h y
one_top base = by_end (λ h. IsLegal base h → (s x y : ℕ) → Has (open_ids s h) x → Has (open_ids s h) y → top h x ≡ top h y)
    (λ legal s x y k j. absurd k)
    (λ h e before legal s x y k j.
    let front = legal_front base h e legal in
    let mixed : (a b : ℕ) → OldOpen s h e a → NewOpen s h e b → top (h ++ e ∷ []) a ≡ top (h ++ e ∷ []) b = λ a b o n.
    ⊎_elim
    (λ (none : open_ids s h ≡ []). absurd (subst (λ l. Has l a) none o.opened))
    (λ (u : (parent : ℕ) × Has (open_ids s h) parent × (top (h ++ e ∷ []) b ≡ top h parent)). o.same ∙ before front s a u.0 o.opened u.1 ∙ sym u.2)
    n.under in
    ⊎_elim
    (λ (a : OldOpen s h e x). ⊎_elim (λ (b : OldOpen s h e y). a.same ∙ before front s x y a.opened b.opened ∙ sym b.same) (λ (b : NewOpen s h e y). mixed x y a b) (open_cases base h e s y legal j))
    (λ (a : NewOpen s h e x). ⊎_elim (λ (b : OldOpen s h e y). sym (mixed y x b a)) (λ (b : NewOpen s h e y). let q : x ≡ y = same_Some x y (sym a.gives ∙ b.gives) in ap (top (h ++ e ∷ [])) q) (open_cases base h e s y legal j))
    (open_cases base h e s x legal k))

-- an id whose session commits its top, and that wasn't undone, was open at the commit
pub commit_open : (base : Counters) (h : List Event) → IsLegal base h → (q x t : ℕ) (by : By) → Has (given h) x → slice_get h q ≡ Some (events.Commit by t) → top h x ≡ t → is_undone h x ≡ false → Has (open_ids by.session (take q h)) x
commit_open base = by_end (λ h. IsLegal base h → (q x t : ℕ) (by : By) → Has (given h) x → slice_get h q ≡ Some (events.Commit by t) → top h x ≡ t → is_undone h x ≡ false → Has (open_ids by.session (take q h)) x)
    (λ legal q x t by k g same u. absurd k)
    (λ h e before legal q x t by k g same u.
    let front = legal_front base h e legal in let may = legal_last base h e legal in
    ⊎_elim
    (λ (a : (q < length h) × (slice_get h q ≡ Some (events.Commit by t))).
    let stays : Has (open_ids by.session (take q h)) x → Has (open_ids by.session (take q (h ++ e ∷ []))) x = λ z. subst (λ l. Has (open_ids by.session l) x) (sym (take-grows h (e ∷ []) (events.Commit by t) q a.1)) z in
    ⊎_elim
    (λ (o : IsOld h e x).
    let undone = undone_back base h e x legal o.given u in
    stays (before front q x t by o.given a.1 (sym (ap (λ (l : List ℕ). top_line l x) o.line) ∙ same) undone))
    (λ r. ⊎_elim
    (λ (n : IsNewTop h e x).
    let own : x ≡ t = sym (ap (λ (l : List ℕ). top_line l x) n.line) ∙ same in
    absurd (fresh base h e x front may (ap given_by n.is) (subst (λ z. Has (given h) z) (sym own) (commit_given base h front by t (place_has h q (events.Commit by t) a.1)))))
    (λ (n : IsNewSub h e x).
    let over : top h n.parent ≡ t = sym (top_of_sub h n.parent x) ∙ sym (ap (λ (l : List ℕ). top_line l x) n.line) ∙ same in
    let ended = commit_ends h by t n.parent (place_has h q (events.Commit by t) a.1) over in
    absurd (not_both (is_ended h n.parent) ended (open_is h n.parent (has_filter (is_open h) (given_to n.by.session h) n.parent n.opened).1).0))
    r)
    (given_cases base h e x front may k))
    (λ (a : (q ≡ length h) × (e ≡ events.Commit by t)).
    let is : take q (h ++ e ∷ []) ≡ h = ap (λ z. take z (h ++ e ∷ [])) a.0 ∙ take-append_seam h (e ∷ []) in
    let rule : MayCome base h (events.Commit by t) = subst (MayCome base h) a.1 may in
    let mine = has_filter (is_open h) (given_to by.session h) t (contains_has (open_ids by.session h) t rule.0) in
    let none : given_by e ≡ None = ap given_by a.1 in
    ⊎_elim
    (λ (o : IsOld h e x).
    let top_same : top h x ≡ t = sym (ap (λ (l : List ℕ). top_line l x) o.line) ∙ same in
    let undone = undone_back base h e x legal o.given u in
    let of_top : top h t ≡ t = eqb-true (top h t) t rule.1 in
    let ended : is_ended h x ≡ false = ap (λ z. list_any (is_end_of z) h) (top_same ∙ sym of_top) ∙ (open_is h t mine.1).0 in
    let s = given_to_some h x o.given in
    let theirs : Has (given_to s.0 h) t = subst (λ z. Has (given_to s.0 h) z) top_same (family_session base h front s.0 x (top h x) s.1 (top_in h x)) in
    let one : s.0 ≡ by.session = one_session base h front s.0 by.session t theirs mine.0 in
    subst (λ l. Has (open_ids by.session l) x) (sym is) (filter_has (is_open h) (given_to by.session h) x (subst (λ z. Has (given_to z h) x) one s.1) (is_open_by h x ended undone)))
    (λ r. ⊎_elim (λ (n : IsNewTop h e x). let z : Some x ≡ None = sym (ap given_by n.is) ∙ none in absurd cc) (λ (n : IsNewSub h e x). let z : Some x ≡ None = sym (ap given_by n.is) ∙ none in absurd cc) r)
    (given_cases base h e x front may k))
    (slice_get-push h e (events.Commit by t) q g))

-- no event undoes an id that is ended
pub closed_not_undone : (base : Counters) (h : List Event) (e : Event) (y : ℕ) → MayCome base h e → is_ended h y ≡ true → is_undo_of y e ≡ false
closed_not_undone base h (events.Undo by u) y may ended = ne_eqb u y (λ (q : u ≡ y).
    not_both (is_ended h y) ended (open_is h y (subst (λ z. is_open h z ≡ true) q (has_filter (is_open h) (given_to by.session h) u (contains_has (open_ids by.session h) u may.0)).1)).0)
closed_not_undone base h e y may ended = refl

-- after its top has committed, an id that wasn't undone isn't
pub never_undone : (base : Counters) (h : List Event) → IsLegal base h → (q x t : ℕ) (by : By) → Has (given h) x → slice_get h q ≡ Some (events.Commit by t) → top h x ≡ t → is_undone (take q h) x ≡ false → is_undone h x ≡ false
never_undone base = by_end (λ h. IsLegal base h → (q x t : ℕ) (by : By) → Has (given h) x → slice_get h q ≡ Some (events.Commit by t) → top h x ≡ t → is_undone (take q h) x ≡ false → is_undone h x ≡ false)
    (λ legal q x t by k g same u. absurd k)
    (λ h e before legal q x t by k g same u.
    let front = legal_front base h e legal in let may = legal_last base h e legal in
    ⊎_elim
    (λ (a : (q < length h) × (slice_get h q ≡ Some (events.Commit by t))).
    let there = place_has h q (events.Commit by t) a.1 in
    ⊎_elim
    (λ (o : IsOld h e x).
    let top_same : top h x ≡ t = sym (ap (λ (l : List ℕ). top_line l x) o.line) ∙ same in
    let old : is_undone h x ≡ false = before front q x t by o.given a.1 top_same (subst (λ l. is_undone l x ≡ false) (take-grows h (e ∷ []) (events.Commit by t) q a.1) u) in
    let f = family base h front x o.given in
    undone_kept h e x o.line (λ y j. closed_not_undone base h e y may (commit_ends h by t y there (f.tops y (enclosing_in h x y j) ∙ top_same)))
    ∙ old)
    (λ r. ⊎_elim
    (λ (n : IsNewTop h e x).
    let own : x ≡ t = sym (ap (λ (l : List ℕ). top_line l x) n.line) ∙ same in
    absurd (fresh base h e x front may (ap given_by n.is) (subst (λ z. Has (given h) z) (sym own) (commit_given base h front by t there))))
    (λ (n : IsNewSub h e x).
    let over : top h n.parent ≡ t = sym (top_of_sub h n.parent x) ∙ sym (ap (λ (l : List ℕ). top_line l x) n.line) ∙ same in
    absurd (not_both (is_ended h n.parent) (commit_ends h by t n.parent there over) (open_is h n.parent (has_filter (is_open h) (given_to n.by.session h) n.parent n.opened).1).0))
    r)
    (given_cases base h e x front may k))
    (λ (a : (q ≡ length h) × (e ≡ events.Commit by t)).
    let is : take q (h ++ e ∷ []) ≡ h = ap (λ z. take z (h ++ e ∷ [])) a.0 ∙ take-append_seam h (e ∷ []) in
    let n : given_by e ≡ Some x → ⊥ = λ g. let z : Some x ≡ None = sym g ∙ ap given_by a.1 in cc in
    undone_kept h e x (lineage_push h e x n) (λ y _. ap (is_undo_of y) a.1)
    ∙ subst (λ l. is_undone l x ≡ false) is u)
    (slice_get-push h e (events.Commit by t) q g))
