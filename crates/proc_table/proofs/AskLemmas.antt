-- Which ids are of an entry.
use Rattle.proc_table.specs.Entries.{IsEntryAt, is_of_entry, SubsAscend}
use Rattle.proc_table.specs.Lists.{tops_of}
use Rattle.proc_table.specs.State.{IsState}
use Rattle.proc_table.specs.declared.entry.Entry.{Entry}
use Rattle.proc_table.specs.declared.live.LiveSnapshots.{LiveSnapshots}
use Rattle.std.proofs.Common.{◌≡◌, ℕ, List, [], ◌∷◌, refl, ap, sym, ◌∙◌, Bool, true, false, not, ◌&&◌, ◌==◌, ◌||◌, subst, ⊎_elim, eqb-true}
use Rattle.std.proofs.lemmas.Bool.{false≢true, and_parts, or_cases}
use Rattle.std.proofs.lemmas.List.Elements.{All-from_recursion}
use Rattle.std.specs.List.{AllByRecursion, list_any, All}
use Rattle.tx_events.proofs.RunningFamily.{family_member}
use Rattle.tx_events.proofs.IdListSteps.{ascending_filtered, has-filter}
use Rattle.tx_events.proofs.Soundness.{legal_sound, root_runs}
use Rattle.std.proofs.Math.Bool.{or-true}
use Rattle.tx_events.proofs.ListSteps.{all_weaker, eqb-refl, same_tests}
use Rattle.tx_events.specs.Events.{given}
use Rattle.tx_events.specs.Families.{top, is_top}
use Rattle.tx_events.specs.IdLists.{has, Ascending}
use Rattle.tx_events.specs.Running.{is_open, running}
use Rattle.tx_events.specs.declared.event.Event.{Event}
use Rattle.tx_events.specs.declared.record.Counters.{Counters}

entry_runs : (first : ℕ) (h : List Event) (x : ℕ) (e : Entry) → IsEntryAt first h e → is_of_entry x e ≡ true → has (running h) x ≡ true
entry_runs first h x e i f =
    ⊎_elim
    (λ k. ap (has (running h)) (eqb-true x e.top k) ∙ (family_member h e.top e.top i.here).0)
    (λ k. (and_parts (has (running h) x) ((top h x == e.top) && not (is_top h x)) (sym (ap (λ l. has l x) i.subs_are ∙ has-filter (λ x. (top h x == e.top) && not (is_top h x)) (running h) x) ∙ k)).0)
    (or_cases (x == e.top) (has e.subs.items x) f)

any_runs : (first : ℕ) (h : List Event) (x : ℕ) (es : List Entry) → AllByRecursion (IsEntryAt first h) es → list_any (is_of_entry x) es ≡ true → has (running h) x ≡ true
any_runs first h x [] a f = absurd (false≢true f)
any_runs first h x (e ∷ es) a f = ⊎_elim (λ k. entry_runs first h x e a.0 k) (λ k. any_runs first h x es a.1 k) (or_cases (is_of_entry x e) (list_any (is_of_entry x) es) f)

of_its_top : (first : ℕ) (h : List Event) (x : ℕ) (e : Entry) → IsEntryAt first h e → top h x ≡ e.top → has (running h) x ≡ true → is_of_entry x e ≡ true
of_its_top first h x e i t f = one (is_top h x) refl
  where
    one : (b : Bool) → is_top h x ≡ b → is_of_entry x e ≡ true
    one true k = ap (λ b. b || has e.subs.items x) (ap (λ y. x == y) (sym t ∙ eqb-true (top h x) x k) ∙ eqb-refl x)
    one false k =
        ap (λ b. (x == e.top) || b)
        (ap (λ l. has l x) i.subs_are ∙ has-filter (λ x. (top h x == e.top) && not (is_top h x)) (running h) x
        ∙ ap (λ b. b && ((top h x == e.top) && not (is_top h x))) f ∙ ap (λ b. (top h x == e.top) && not b) k ∙ ap (λ y. (y == e.top) && true) t ∙ ap (λ b. b && true) (eqb-refl e.top))
        ∙ or-true (x == e.top)

top_listed : (first : ℕ) (h : List Event) (x : ℕ) (es : List Entry) → AllByRecursion (IsEntryAt first h) es → has (tops_of es) (top h x) ≡ true → has (running h) x ≡ true → list_any (is_of_entry x) es ≡ true
top_listed first h x [] a f g = absurd (false≢true f)
top_listed first h x (e ∷ es) a f g =
    ⊎_elim
    (λ k. ap (λ b. b || list_any (is_of_entry x) es) (of_its_top first h x e a.0 (eqb-true (top h x) e.top k) g))
    (λ k. ap (λ b. is_of_entry x e || b) (top_listed first h x es a.1 k g) ∙ or-true (is_of_entry x e))
    (or_cases (top h x == e.top) (has (tops_of es) (top h x)) f)

-- an id is of an entry exactly where it runs
pub asked_is : (base : Counters) (h : List Event) (n oldest late promised : ℕ) (entries : List Entry) (lives : LiveSnapshots) (x : ℕ) → IsState base h n oldest late promised entries lives → list_any (is_of_entry x) entries ≡ has (running h) x
asked_is base h n oldest late promised entries lives x s =
    same_tests (list_any (is_of_entry x) entries) (has (running h) x)
    (any_runs base.next h x entries s.each)
    (λ f. top_listed base.next h x entries s.each (ap (λ l. has l (top h x)) s.tops ∙ (root_runs base.next h x (legal_sound base h s.legal) f).0) f)

-- the subids of each entry ascend
pub subs_ascend : (base : Counters) (h : List Event) (n oldest late promised : ℕ) (entries : List Entry) (lives : LiveSnapshots) → IsState base h n oldest late promised entries lives → All SubsAscend entries
subs_ascend base h n oldest late promised entries lives s =
    All-from_recursion SubsAscend entries
    (all_weaker (IsEntryAt base.next h) SubsAscend
    (λ e i. subst Ascending (sym i.subs_are) (ascending_filtered (λ x. (top h x == e.top) && not (is_top h x)) (running h) (ascending_filtered (is_open h) (given h) (legal_sound base h s.legal).ascending)))
    entries s.each)
