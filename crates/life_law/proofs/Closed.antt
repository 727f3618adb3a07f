-- What an abort or an undo has closed is in no commit record.
use Rattle.std.proofs.Common.{◌≡◌, ℕ, suc, ◌<◌, ◌≤◌, List, [], ◌∷◌, ◌++◌, ◌&&◌, Bool, true, false, not, Some, refl, sym, ap, subst, ◌∙◌, ⊎_elim, arith, take, ◌==◌, eqb-true, slice_get}
use Rattle.std.proofs.Math.Seq.{take-suc}
use Rattle.std.proofs.lemmas.List.{take-take}
use Rattle.std.proofs.lemmas.Option.{get_or_from_slice_get, slice_get_within}
use Rattle.tx_events.specs.declared.event.By.{By}
use Rattle.tx_events.specs.declared.event.Event.{Event}
use Rattle.tx_events.specs.declared.event.Event.TheVariants as events
use Rattle.tx_events.specs.declared.record.Counters.{Counters}
use Rattle.tx_events.specs.declared.xact_end.XactEnd.{XactEnd}
use Rattle.tx_events.specs.declared.xact_end.XactEnd.TheVariants as ends
use Rattle.tx_events.specs.Events.{given, given_to}
use Rattle.tx_events.specs.Families.{top}
use Rattle.tx_events.specs.History.{IsLegal}
use Rattle.tx_events.specs.Running.{is_open, is_undone, open_ids}
use Rattle.tx_events.specs.XactEnds.{end_event}
use Rattle.tx_events.proofs.Closing.{later_take, never_undone, one_top, open_is}
use Rattle.tx_events.proofs.ClosingGrowth.{closing_abort, closing_commit}
use Rattle.tx_events.proofs.GivenIds.{given_stays, legal_take, open_given}
use Rattle.tx_events.proofs.Lineages.{top_line}
use Rattle.tx_events.proofs.ListSteps.{eqb-refl, le_or_over, not_both}
use Rattle.tx_events.proofs.Membership.{Has, contains_has, has_filter}
use Rattle.life_law.specs.LifeLog.{IsTransaction}

-- the events up to one and with it
take_next : (h : List Event) (q : ℕ) (e : Event) → slice_get h q ≡ Some e → take (suc q) h ≡ take q h ++ e ∷ []
take_next h q e at = take-suc h q e (slice_get_within h q e at) ∙ ap (λ x. take q h ++ x ∷ []) (get_or_from_slice_get h q e e at)

given_next : (h : List Event) (q x : ℕ) (e : Event) → slice_get h q ≡ Some e → Has (given (take q h)) x → Has (given (take (suc q) h)) x
given_next h q x e at k = subst (λ g. Has (given g) x) (sym (take_next h q e at)) (given_stays (take q h) e x k)

-- what is open was open before
open_before : (base : Counters) (h : List Event) (m p x : ℕ) → IsLegal base h → m ≤ p → Has (given (take m h)) x → is_open (take p h) x ≡ true → is_open (take m h) x ≡ true
open_before base h m p x legal l k o =
    let same : take m (take p h) ≡ take m h = take-take m p h l in
    subst (λ g. is_open g x ≡ true) same ((later_take base (take p h) m x (legal_take base h p legal) (subst (λ g. Has (given g) x) (sym same) k)).opened o)

closed_with : (g : List Event) (e : Event) (x t : ℕ) → is_open (g ++ e ∷ []) x ≡ (is_open g x && not (t == top g x)) → top g x ≡ t → is_open (g ++ e ∷ []) x ≡ false
closed_with g e x t opens same = opens ∙ ap (λ b. is_open g x && not b) (ap (λ y. t == y) same ∙ eqb-refl t) ∙ none (is_open g x)
  where
    none : (b : Bool) → (b && false) ≡ false
    none true = refl
    none false = refl

-- what a session has open at its commit is of the transaction that commits
family_of : (base : Counters) (h : List Event) (q t x : ℕ) (by : By) → IsLegal base h → slice_get h q ≡ Some (events.Commit by t) → Has (open_ids by.session (take q h)) x → top (take q h) x ≡ t
family_of base h q t x by legal at k =
    let g = take q h in
    let may = legal.rules q (events.Commit by t) at in
    one_top base g (legal_take base h q legal) by.session x t k (contains_has (open_ids by.session g) t may.0) ∙ eqb-true (top g t) t may.1

-- an end closes all that its session has open
end_closes : (base : Counters) (h : List Event) (how : XactEnd) (q t x : ℕ) (by : By) → IsLegal base h → slice_get h q ≡ Some (end_event how by t) → Has (open_ids by.session (take q h)) x → is_open (take (suc q) h) x ≡ false
end_closes base h ends.Commit q t x by legal at k =
    let g = take q h in
    ap (λ z. is_open z x) (take_next h q (events.Commit by t) at) ∙ closed_with g (events.Commit by t) x t ((closing_commit g by t).opens x) (family_of base h q t x by legal at k)
end_closes base h ends.Abort q t x by legal at k =
    let g = take q h in
    let may = legal.rules q (events.Abort by t) at in
    let same : top g x ≡ t = one_top base g (legal_take base h q legal) by.session x t k (contains_has (open_ids by.session g) t may.0) ∙ eqb-true (top g t) t may.1 in
    ap (λ z. is_open z x) (take_next h q (events.Abort by t) at) ∙ closed_with g (events.Abort by t) x t ((closing_abort g by t).opens x) same

opened_is : (s : ℕ) (h : List Event) (x : ℕ) → Has (open_ids s h) x → is_open h x ≡ true
opened_is s h x k = (has_filter (is_open h) (given_to s h) x k).1

-- No transaction that committed, or is open at the end, has an id that an abort closed.
pub aborted_unrecorded : (base : Counters) (h : List Event) (q t x c_top : ℕ) (by : By) (subs : List ℕ) → IsLegal base h → slice_get h q ≡ Some (events.Abort by t) → Has (open_ids by.session (take q h)) x → IsTransaction h ends.Commit c_top subs → Has (c_top ∷ subs) x → ⊥
aborted_unrecorded base h q t x c_top by subs legal at k transaction among = ⊎_elim
    (λ (e : open_ids transaction.session h ≡ c_top ∷ subs).
    let o = opened_is transaction.session h x (subst (λ ids. Has ids x) (sym e) among) in
    not_both (is_open (take (suc q) h) x) ((later_take base h (suc q) x legal given_then).opened o) closed)
    (λ (e : (p : ℕ) × (c : By) × (c.session ≡ transaction.session) × (slice_get h p ≡ Some (end_event ends.Commit c c_top)) × (open_ids transaction.session (take p h) ≡ c_top ∷ subs)).
    let p : ℕ = e.0 in
    let c : By = e.1 in
    let opened : Has (open_ids c.session (take p h)) x = subst (λ s. Has (open_ids s (take p h)) x) (sym e.2) (subst (λ ids. Has ids x) (sym e.4) among) in
    let o = opened_is c.session (take p h) x opened in
    ⊎_elim
    (λ (l : suc q ≤ p). not_both (is_open (take (suc q) h) x) (open_before base h (suc q) p x legal l given_then o) closed)
    (λ (l : p < suc q). ⊎_elim
    (λ (m : suc p ≤ q).
    let given_there = given_next h p x (events.Commit c c_top) e.3 (open_given c.session (take p h) x opened) in
    not_both (is_open (take (suc p) h) x) (open_before base h (suc p) q x legal m given_there (opened_is by.session (take q h) x k)) (end_closes base h ends.Commit p c_top x c legal e.3 opened))
    (λ (m : q < suc p).
    let same : p ≡ q = omega arith in
    let both : Some (events.Commit c c_top) ≡ Some (events.Abort by t) = sym e.3 ∙ ap (λ n. slice_get h n) same ∙ at in
    absurd cc)
    (le_or_over (suc p) q))
    (le_or_over (suc q) p))
    transaction.ids
  where
    closed : is_open (take (suc q) h) x ≡ false
    closed = end_closes base h ends.Abort q t x by legal at k

    given_then : Has (given (take (suc q) h)) x
    given_then = given_next h q x (events.Abort by t) at (open_given by.session (take q h) x k)

-- nor one of which a savepoint was rolled back
pub undone_unrecorded : (base : Counters) (h : List Event) (x t : ℕ) (subs : List ℕ) → IsLegal base h → is_undone h x ≡ true → IsTransaction h ends.Commit t subs → Has (t ∷ subs) x → ⊥
undone_unrecorded base h x t subs legal undone transaction among = ⊎_elim
    (λ (e : open_ids transaction.session h ≡ t ∷ subs). not_both (is_undone h x) undone (open_is h x (opened_is transaction.session h x (subst (λ ids. Has ids x) (sym e) among))).1)
    (λ (e : (p : ℕ) × (c : By) × (c.session ≡ transaction.session) × (slice_get h p ≡ Some (end_event ends.Commit c t)) × (open_ids transaction.session (take p h) ≡ t ∷ subs)).
    let p : ℕ = e.0 in
    let c : By = e.1 in
    let g : List Event = take p h in
    let opened : Has (open_ids c.session g) x = subst (λ s. Has (open_ids s g) x) (sym e.2) (subst (λ ids. Has ids x) (sym e.4) among) in
    let after = later_take base h p x legal (open_given c.session g x opened) in
    let same : top h x ≡ t = ap (λ line. top_line line x) after.line ∙ family_of base h p t x c legal e.3 opened in
    not_both (is_undone h x) undone (never_undone base h legal p x t c after.given e.3 same (open_is g x (opened_is c.session g x opened)).1))
    transaction.ids
