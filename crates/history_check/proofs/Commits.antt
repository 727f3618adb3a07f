-- What one more event does to what is kept of an id.
use Rattle.tx_events.proofs.IdListSteps.{true_has, has_true}
use Rattle.tx_events.proofs.ListSteps.{same_tests}
use Rattle.tx_events.proofs.OpenGrowth.{undone_kept}
use Rattle.std.proofs.Common.{◌≡◌, ℕ, List, [], ◌∷◌, ◌++◌, refl, ap, sym, subst, ◌∙◌, ⊎_elim, Bool, true, false, not, ◌&&◌, ◌||◌, ◌==◌, eq-eqb}
use Rattle.std.proofs.Math.Bool.{or-false}
use Rattle.std.proofs.lemmas.Bool.{eqb-true, cases_Bool, and_parts, not-true}
use Rattle.std.proofs.lemmas.List.Folds.{list_any-append}
use Rattle.std.specs.List.{list_any}
use Rattle.tx_events.specs.declared.event.By.{By}
use Rattle.tx_events.specs.declared.event.Event.{Event}
use Rattle.tx_events.specs.declared.record.Counters.{Counters}
use Rattle.tx_events.specs.Events.{given, given_to, is_commit_of, is_end_of, is_undo_of}
use Rattle.tx_events.specs.Families.{lineage, top}
use Rattle.tx_events.specs.History.{IsLegal, MayCome}
use Rattle.tx_events.specs.IdLists.{has}
use Rattle.tx_events.specs.Running.{is_ended, is_open, is_undone, open_ids}
use Rattle.tx_events.proofs.Closing.{commit_ends, is_open_by, one_top, open_is, closed_not_undone}
use Rattle.tx_events.proofs.GivenIds.{family_session, fresh, given_to_some, one_session}
use Rattle.tx_events.proofs.Lineages.{lineage_push, enclosing_in, top_in, top_line}
use Rattle.tx_events.proofs.Membership.{Has, contains_has, filter_has, has_filter, place_has}
use Rattle.tx_events.proofs.Trees.{family}
use Rattle.tx_events.proofs.Visibility.{commit_found}
use Rattle.history_check.specs.GivenIds.{is_committed}
use Rattle.tx_events.specs.declared.event.Event.TheVariants as events

commits_push : (h : List Event) (e : Event) (x : ℕ) → lineage (h ++ e ∷ []) x ≡ lineage h x → list_any (is_commit_of (top (h ++ e ∷ []) x)) (h ++ e ∷ []) ≡ (list_any (is_commit_of (top h x)) h || is_commit_of (top h x) e)
commits_push h e x same =
    ap (λ (t : List ℕ). list_any (is_commit_of (top_line t x)) (h ++ e ∷ [])) same
    ∙ list_any-append (is_commit_of (top h x)) h (e ∷ []) ∙ ap (λ b. list_any (is_commit_of (top h x)) h || b) (or-false (is_commit_of (top h x) e))

-- an event that undoes nothing of x leaves it as undone as it was
undone_still : (h : List Event) (e : Event) (x : ℕ) → lineage (h ++ e ∷ []) x ≡ lineage h x → ((y : ℕ) → Has (lineage h x) y → is_undo_of y e ≡ false) → is_undone (h ++ e ∷ []) x ≡ is_undone h x
undone_still h e x same none = undone_kept h e x same (λ y j. none y (enclosing_in h x y j))

-- a commit that an id's top has had ended the id
committed_ends : (h : List Event) (x : ℕ) → list_any (is_commit_of (top h x)) h ≡ true → is_ended h x ≡ true
committed_ends h x e = let f = commit_found h (top h x) e in commit_ends h f.by (top h x) x (place_has h f.place (events.Commit f.by (top h x)) f.at) refl

-- an event that is no commit commits nothing, and undoes nothing that has committed
pub committed_still : (base : Counters) (h : List Event) (e : Event) (x : ℕ) → IsLegal base h → MayCome base h e → Has (given h) x → ((t : ℕ) → is_commit_of t e ≡ false) → is_committed (h ++ e ∷ []) x ≡ is_committed h x
committed_still base h e x legal may k none =
    let same : lineage (h ++ e ∷ []) x ≡ lineage h x = lineage_push h e x (λ g. fresh base h e x legal may g k) in
    let commits : list_any (is_commit_of (top (h ++ e ∷ []) x)) (h ++ e ∷ []) ≡ list_any (is_commit_of (top h x)) h = commits_push h e x same ∙ ap (λ b. list_any (is_commit_of (top h x)) h || b) (none (top h x)) ∙ or-false (list_any (is_commit_of (top h x)) h) in
    let f = family base h legal x k in
    ⊎_elim
    (λ (c : list_any (is_commit_of (top h x)) h ≡ true).
    let ended = committed_ends h x c in
    let undone : is_undone (h ++ e ∷ []) x ≡ is_undone h x = undone_still h e x same (λ y j. closed_not_undone base h e y may (ap (λ t. list_any (is_end_of t) h) (f.tops y j) ∙ ended)) in
    ap (λ b. b && not (is_undone (h ++ e ∷ []) x)) commits ∙ ap (λ b. list_any (is_commit_of (top h x)) h && not b) undone)
    (λ (c : list_any (is_commit_of (top h x)) h ≡ false).
    ap (λ b. b && not (is_undone (h ++ e ∷ []) x)) (commits ∙ c) ∙ sym (ap (λ b. b && not (is_undone h x)) c))
    (cases_Bool (list_any (is_commit_of (top h x)) h))

-- whether x is one of the ids that the session has open, by its top and its savepoints
open_of_top : (base : Counters) (h : List Event) (by : By) (t x : ℕ) → IsLegal base h → MayCome base h (events.Commit by t) → Has (given h) x → has (open_ids by.session h) x ≡ ((t == top h x) && not (is_undone h x))
open_of_top base h by t x legal may k =
    let mine : Has (open_ids by.session h) t = contains_has (open_ids by.session h) t may.0 in
    let opened = has_filter (is_open h) (given_to by.session h) t mine in
    let root : top h t ≡ t = eqb-true (top h t) t may.1 in
    same_tests (has (open_ids by.session h) x) ((t == top h x) && not (is_undone h x))
    (λ e.
    let here = true_has (open_ids by.session h) x e in
    let one : t ≡ top h x = sym root ∙ one_top base h legal by.session t x mine here in
    let o = open_is h x (has_filter (is_open h) (given_to by.session h) x here).1 in
    ap (λ b. b && not (is_undone h x)) (eq-eqb t (top h x) one) ∙ ap not o.1)
    (λ e.
    let two = and_parts (t == top h x) (not (is_undone h x)) e in
    let over : t ≡ top h x = eqb-true t (top h x) two.0 in
    let undone : is_undone h x ≡ false = not-true (is_undone h x) two.1 in
    let ended : is_ended h x ≡ false = ap (λ z. list_any (is_end_of z) h) (sym over ∙ sym root) ∙ (open_is h t opened.1).0 in
    let s = given_to_some h x k in
    let theirs : Has (given_to s.0 h) t = subst (λ z. Has (given_to s.0 h) z) (sym over) (family_session base h legal s.0 x (top h x) s.1 (top_in h x)) in
    let one : s.0 ≡ by.session = one_session base h legal s.0 by.session t theirs opened.0 in
    has_true (open_ids by.session h) x (filter_has (is_open h) (given_to by.session h) x (subst (λ z. Has (given_to z h) x) one s.1) (is_open_by h x ended undone)))

-- a commit commits the ids that its session has open
pub committed_now : (base : Counters) (h : List Event) (by : By) (t x : ℕ) → IsLegal base h → MayCome base h (events.Commit by t) → Has (given h) x → is_committed (h ++ events.Commit by t ∷ []) x ≡ (is_committed h x || has (open_ids by.session h) x)
committed_now base h by t x legal may k =
    let e = events.Commit by t in
    let same : lineage (h ++ events.Commit by t ∷ []) x ≡ lineage h x = lineage_push h (events.Commit by t) x (λ g. fresh base h (events.Commit by t) x legal may g k) in
    let undone : is_undone (h ++ events.Commit by t ∷ []) x ≡ is_undone h x = undone_still h (events.Commit by t) x same (λ y j. refl) in
    ap (λ b. b && not (is_undone (h ++ events.Commit by t ∷ []) x)) (commits_push h (events.Commit by t) x same)
    ∙ ap (λ b. (list_any (is_commit_of (top h x)) h || (t == top h x)) && not b) undone
    ∙ spread (list_any (is_commit_of (top h x)) h) (t == top h x) (not (is_undone h x))
    ∙ ap (λ b. is_committed h x || b) (sym (open_of_top base h by t x legal may k))
  where
    spread : (a b c : Bool) → ((a || b) && c) ≡ ((a && c) || (b && c))
    spread true b true = refl
    spread true true false = refl
    spread true false false = refl
    spread false b c = refl
