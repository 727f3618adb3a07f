-- What the table tells of one session.
use Rattle.proc_table.proofs.EntryLists.{any_all}
use Rattle.proc_table.specs.Entries.{IsEntryAt}
use Rattle.proc_table.specs.State.{IsState}
use Rattle.proc_table.specs.declared.entry.Entry.{Entry}
use Rattle.proc_table.specs.declared.live.LiveSnapshots.{LiveSnapshots}
use Rattle.std.proofs.Common.{◌≡◌, ℕ, suc, ◌<◌, List, [], ◌∷◌, length, Some, ap, sym, ◌∙◌, arith, true, false, ◌==◌, Contains, ⊎_elim, Option, None, eqb-true}
use Rattle.std.proofs.lemmas.Bool.{false≢true, or_cases}
use Rattle.std.specs.List.{Any}
use Rattle.std.specs.Prelude.{IfSome, IfNone}
use Rattle.tx_events.proofs.ListSteps.{eqb-refl}
use Rattle.tx_events.proofs.RunningFamily.{family_member}
use Rattle.tx_events.specs.Families.{is_top}
use Rattle.tx_events.specs.IdLists.{has}
use Rattle.tx_events.specs.Running.{open_ids}
use Rattle.tx_events.specs.Savepoints.{family}
use Rattle.tx_events.specs.declared.event.Event.{Event}
use Rattle.tx_events.specs.declared.record.Counters.{Counters}

pub contains_has : (xs : List ℕ) (x : ℕ) → has xs x ≡ true → Contains xs x
contains_has [] x f = absurd (false≢true f)
contains_has (y ∷ xs) x f =
    ⊎_elim
    (λ e. (0, (let l : 0 < length (y ∷ xs) = omega arith in l), sym (eqb-true x y e)))
    (λ e. let c = contains_has xs x e in let l : c.0 < length xs = c.1 in (suc c.0, (let m : suc c.0 < length (y ∷ xs) = omega arith in m), c.2))
    (or_cases (x == y) (has xs x) f)

-- the top of the session's entry is open, and a top
pub open_top_is : (base : Counters) (h : List Event) (n oldest late promised : ℕ) (entries : List Entry) (lives : LiveSnapshots) (session t : ℕ) → IsState base h n oldest late promised entries lives → Any (λ (e : Entry). (e.session ≡ session) × (t ≡ e.top)) entries →
    Contains (open_ids session h) t × (is_top h t ≡ true)
open_top_is base h n oldest late promised entries lives session t s a =
    let e = any_all (λ (e : Entry). (e.session ≡ session) × (t ≡ e.top)) (IsEntryAt base.next h) entries a s.each in
    let own : open_ids session h ≡ family h e.0.top = ap (λ r. open_ids r h) (sym e.1.0.0) ∙ e.1.1.own in
    let member = family_member h e.0.top e.0.top e.1.1.here in (
      contains_has (open_ids session h) t (ap (has (open_ids session h)) e.1.0.1 ∙ ap (λ l. has l e.0.top) own ∙ e.1.1.here),
      ap (is_top h) e.1.0.1 ∙ ap (λ u. u == e.0.top) member.1 ∙ eqb-refl e.0.top,
    )

pub some_weaker : {A : Type 0} (P Q : A → Type 0) (o : Option A) → ((x : A) → P x → Q x) → IfSome o P → IfSome o Q
some_weaker P Q None f s = s
some_weaker P Q (Some x) f s = f x s

pub none_weaker : {A P Q : Type 0} (o : Option A) → (P → Q) → IfNone o P → IfNone o Q
none_weaker None f s = f s
none_weaker (Some x) f s = s
