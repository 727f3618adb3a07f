-- An id that was visible stays so.
use Rattle.std.proofs.Common.{◌≡◌, ℕ, ◌+◌, ◌-◌, ◌<◌, ◌≤◌, ◌⊎◌, List, [], ◌∷◌, ◌++◌, length, take, drop, refl, ap, sym, subst, ◌∙◌, arith, inl, inr, ⊎_elim, Bool, true, false, ◌||◌, ◌==◌, append-nil, append_assoc}
use Rattle.std.specs.List.{list_any}
use Rattle.std.proofs.lemmas.Bool.{cases_Bool, false_from_ne_true}
use Rattle.tx_events.specs.declared.event.Event.{Event}
use Rattle.tx_events.specs.declared.event.Event.TheVariants as events
use Rattle.tx_events.specs.declared.record.Counters.{Counters}
use Rattle.tx_events.specs.Events.{by_of, given, is_commit_of}
use Rattle.tx_events.specs.History.{IsLegal, MayCome}
use Rattle.tx_events.specs.IdLists.{has}
use Rattle.tx_events.specs.Running.{open_ids}
use Rattle.tx_events.specs.Visible.{is_visible}
use Rattle.tx_events.proofs.GivenIds.{legal_front, legal_last, legal_take}
use Rattle.tx_events.proofs.IdListSteps.{has_true, true_has}
use Rattle.tx_events.proofs.ListSteps.{not_both}
use Rattle.tx_events.proofs.Membership.{Has, by_end}
use Rattle.tx_events.proofs.Visibility.{never_given}
use Rattle.history_check.specs.GivenIds.{is_committed}
use Rattle.history_check.proofs.Commits.{committed_now, committed_still}
use Rattle.place_columns.proofs.ColumnSteps.{parts}

or_left : (a b : Bool) → a ≡ true → (a || b) ≡ true
or_left a b t = ap (λ z. z || b) t

step : (base : Counters) (h : List Event) (e : Event) (x : ℕ) → IsLegal base h → MayCome base h e → Has (given h) x → is_committed h x ≡ true → is_committed (h ++ e ∷ []) x ≡ true
step base h (events.Commit by t) x legal may k c = committed_now base h by t x legal may k ∙ or_left (is_committed h x) (has (open_ids by.session h) x) c
step base h (events.Id by y) x legal may k c = committed_still base h (events.Id by y) x legal may k (λ t. refl) ∙ c
step base h (events.Sub by under y) x legal may k c = committed_still base h (events.Sub by under y) x legal may k (λ t. refl) ∙ c
step base h (events.Undo by y) x legal may k c = committed_still base h (events.Undo by y) x legal may k (λ t. refl) ∙ c
step base h (events.Abort by t) x legal may k c = committed_still base h (events.Abort by t) x legal may k (λ t. refl) ∙ c
step base h (events.Snap name by) x legal may k c = committed_still base h (events.Snap name by) x legal may k (λ t. refl) ∙ c
step base h (events.SnapDrop name by) x legal may k c = committed_still base h (events.SnapDrop name by) x legal may k (λ t. refl) ∙ c
step base h (events.Oldest by oldest) x legal may k c = committed_still base h (events.Oldest by oldest) x legal may k (λ t. refl) ∙ c
step base h (events.Ask by y) x legal may k c = committed_still base h (events.Ask by y) x legal may k (λ t. refl) ∙ c

-- only what was given has committed
committed_given : (base : Counters) (h : List Event) (x : ℕ) → IsLegal base h → is_committed h x ≡ true → Has (given h) x
committed_given base h x legal c = ⊎_elim
    (λ (t : has (given h) x ≡ true). true_has (given h) x t)
    (λ (f : has (given h) x ≡ false). absurd (not_both (is_committed h x) c (never_given base h x legal (λ k. not_both (has (given h) x) (sure h x k) f))))
    (cases_Bool (has (given h) x))
  where
    sure : (h : List Event) (x : ℕ) → Has (given h) x → has (given h) x ≡ true
    sure h x k = has_true (given h) x k

more : (base : Counters) (h es : List Event) (x : ℕ) → IsLegal base (h ++ es) → is_committed h x ≡ true → is_committed (h ++ es) x ≡ true
more base h es x legal c =
    by_end (λ (es : List Event). IsLegal base (h ++ es) → is_committed (h ++ es) x ≡ true)
    (λ l. subst (λ (t : List Event). is_committed t x ≡ true) (sym (append-nil h)) c)
    (λ es e before l.
    let split : h ++ (es ++ e ∷ []) ≡ (h ++ es) ++ e ∷ [] = sym (append_assoc h es (e ∷ [])) in
    let m : IsLegal base ((h ++ es) ++ e ∷ []) = subst (IsLegal base) split l in
    let front = legal_front base (h ++ es) e m in
    let a = before front in
    subst (λ (t : List Event). is_committed t x ≡ true) (sym split) (step base (h ++ es) e x front (legal_last base (h ++ es) e m) (committed_given base (h ++ es) x front a) a))
    es legal

stays_committed : (base : Counters) (h : List Event) (x p q : ℕ) → IsLegal base h → p ≤ q → is_committed (take p h) x ≡ true → is_committed (take q h) x ≡ true
stays_committed base h x p q legal l c =
    let split = parts p q h l in
    subst (λ (t : List Event). is_committed t x ≡ true) (sym split) (more base (take p h) (take (q - p) (drop p h)) x (subst (IsLegal base) split (legal_take base h q legal)) c)

-- what isn't visible wasn't before
pub hidden_before : (base : Counters) (ids : List ℕ) (h : List Event) (x p q : ℕ) → IsLegal base h → p ≤ q → is_visible ids (take q h) x ≡ false → is_visible ids (take p h) x ≡ false
hidden_before base ids h x p q legal l f =
    last_off (x == 1) (x == 2) (list_any (λ y. y == x) ids) (is_committed (take p h) x) (is_committed (take q h) x) (λ t. stays_committed base h x p q legal l t) f
  where
    last_off : (a b c d e : Bool) → (d ≡ true → e ≡ true) → (a || b || c || e) ≡ false → (a || b || c || d) ≡ false
    last_off true b c d e g f = f
    last_off false true c d e g f = f
    last_off false false true d e g f = f
    last_off false false false d e g f = false_from_ne_true d (λ t. not_both e (g t) f)
