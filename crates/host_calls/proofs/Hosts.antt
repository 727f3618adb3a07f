-- What the host added leaves the sessions' entries as they were.
use Rattle.std.proofs.Common.{◌≡◌, ℕ, ◌<◌, ◌≤◌, ◌==◌, ◌⊎◌, ⊎_elim, ne_eqb, List, [], ◌∷◌, ◌++◌, append-nil, append_assoc, inl, inr, sym, ap, subst, ◌∙◌, arith}
use Rattle.std.proofs.lemmas.List.Elements.{filter-append}
use Rattle.std.specs.List.{AllByRecursion}
use mathlib.Core.Logic.{dite}
use native.Mathlib.Decide.{ℕ_discrete}
use Rattle.notes.specs.Lists.{Grows, Knows, at, own}
use Rattle.tx_events.specs.declared.event.By.{By}
use Rattle.tx_events.proofs.Membership.{all_at, filter_none_on}
use Rattle.tx_core.specs.declared.entry.Entry.{Entry}
use Rattle.tx_core.specs.declared.entry.Start.{Start}
use Rattle.tx_core.specs.Entries.{session_of}
use Rattle.host_sections.specs.HostEntries.{sync_by}
use Rattle.host_calls.specs.Added.{AddsAt, AddsSyncs}

-- these entries are the host's
abbrev pub AreHosts : Start → List Entry → Type 0
AreHosts start es = AllByRecursion (λ e. e.by.session ≡ start.sessions) es

pub hosts_both : (start : Start) (xs ys : List Entry) → AreHosts start xs → AreHosts start ys → AreHosts start (xs ++ ys)
hosts_both start [] ys first second = second
hosts_both start (x ∷ xs) ys first second = (first.0, hosts_both start xs ys first.1 second)

-- and so is all that each list has more
pub record AddsHosts (start : Start) (old new : List (List Entry)) : Type 0 where
  pub added : ℕ → List Entry
  pub grown : (lock : ℕ) → at new lock ≡ at old lock ++ added lock
  pub theirs : (lock : ℕ) → AreHosts start (added lock)

pub hosts_none : (start : Start) (old new : List (List Entry)) → new ≡ old → AddsHosts start old new
hosts_none start old new same = record {
  added = λ lock. [];
  grown = λ lock. ap (λ (z : List (List Entry)). at z lock) same ∙ sym (append-nil (at old lock));
  theirs = λ lock. tt;
}

pub hosts_then : (start : Start) (old mid new : List (List Entry)) → AddsHosts start old mid → AddsHosts start mid new → AddsHosts start old new
hosts_then start old mid new a b = record {
  added = λ lock. a.added lock ++ b.added lock;
  grown = λ lock. b.grown lock ∙ (ap (λ (es : List Entry). es ++ b.added lock) (a.grown lock) ∙ append_assoc (at old lock) (a.added lock) (b.added lock));
  theirs = λ lock. hosts_both start (a.added lock) (b.added lock) (a.theirs lock) (b.theirs lock);
}

-- of one list with more, or the same
record Grown (start : Start) (old new : List Entry) : Type 0 where
  more : List Entry
  is : new ≡ old ++ more
  hosts : AreHosts start more

each_grown : (start : Start) (old new : List (List Entry)) → ((lock : ℕ) → Grown start (at old lock) (at new lock)) → AddsHosts start old new
each_grown start old new each = record { added = λ lock. (each lock).more; grown = λ lock. (each lock).is; theirs = λ lock. (each lock).hosts }

pub hosts_at : (start : Start) (lock : ℕ) (added : List Entry) (old new : List (List Entry)) → AreHosts start added → AddsAt lock added old new → AddsHosts start old new
hosts_at start lock added old new hosts a = each_grown start old new (λ k. dite (ℕ_discrete k lock)
    (λ (q : k ≡ lock). subst (λ n. Grown start (at old n) (at new n)) (sym q) (record { more = added; is = a.here; hosts = hosts }))
    (λ apart. record { more = []; is = a.others k apart ∙ sym (append-nil (at old k)); hosts = tt }))

pub hosts_syncs : (start : Start) (by : By) (from upto : ℕ) (old new : List (List Entry)) → by.session ≡ start.sessions → AddsSyncs by from upto old new → AddsHosts start old new
hosts_syncs start by from upto old new his s = each_grown start old new (λ k. ⊎_elim
    (λ (q : (from ≤ k) × (k < upto)). record { more = sync_by by ∷ []; is = s.here k q.0 q.1; hosts = (his, tt) })
    (λ (out : from ≤ k → k < upto → ⊥). record { more = []; is = s.others k out ∙ sym (append-nil (at old k)); hosts = tt })
    (inside k))
  where
    inside : (k : ℕ) → ((from ≤ k) × (k < upto)) ⊎ (from ≤ k → k < upto → ⊥)
    inside k = ⊎_elim
        (λ (low : from ≤ k). ⊎_elim (λ (high : k < upto). inl (low, high)) (λ (past : upto ≤ k). inr (λ a b. omega (arith, past, b))) (which k upto))
        (λ (before : k < from). inr (λ a b. omega (arith, before, a)))
        (other from k)
      where
        which : (a b : ℕ) → (a < b) ⊎ (b ≤ a)
        which a b = grind arith

        other : (a b : ℕ) → (a ≤ b) ⊎ (b < a)
        other a b = grind arith

-- ---- what that says

pub hosts_grow : (start : Start) (old new : List (List Entry)) → AddsHosts start old new → Grows old new
hosts_grow start old new a = record { begins = λ lock. (a.added lock, sym (a.grown lock)) }

pub hosts_idle : (start : Start) (old new : List (List Entry)) → AddsHosts start old new → (n : ℕ) → n < start.sessions → Knows session_of n old new
hosts_idle start old new a n low = record {
  grows = hosts_grow start old new a;
  own = λ lock.
      let none : own session_of n (a.added lock) ≡ [] = filter_none_on (λ (e : Entry). session_of e == n) (a.added lock) (λ e has.
      let his : e.by.session ≡ start.sessions = all_at (λ (f : Entry). f.by.session ≡ start.sessions) (a.added lock) e (a.theirs lock) has in
      ne_eqb (session_of e) n (λ q. omega (arith, his, q, low))) in
      ap (own session_of n) (a.grown lock) ∙ (filter-append (λ (e : Entry). session_of e == n) (at old lock) (a.added lock) ∙ (ap (λ (es : List Entry). own session_of n (at old lock) ++ es) none ∙ append-nil (own session_of n (at old lock))));
}
