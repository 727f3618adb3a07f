-- A truncation names what is announced, and comes before a commit record.
use Rattle.std.proofs.Common.{inl, inr, ◌≡◌, ℕ, List, [], Ok, refl, sym, subst}
use Rattle.tx_events.specs.declared.record.Rec.{Rec}
use Rattle.tx_events.specs.Horizon.{oldest_id}
use Rattle.tx_core.specs.declared.entry.Entry.{Entry}
use Rattle.tx_core.specs.declared.entry.Kind.{Kind}
use Rattle.tx_core.specs.declared.entry.Start.{Start}
use Rattle.tx_core.specs.Entries.{history}
use Rattle.tx_core.proofs.StopLimits.{found_announced}
use Rattle.proc_sections.specs.Horizons.{truncation_behind}
use Rattle.engine_parts.specs.declared.session.Session.{Session}
use Rattle.engine_parts.specs.Adding.{IsAbortOf, IsCommitOf, IsOfAbort, IsOfCommit, IsTruncation, MayAdd}
use Rattle.engine_parts.specs.Steps.{WentOn}
use Rattle.engine_parts.proofs.Adding.{may_wider}
use Rattle.engine_parts.proofs.Stepping.{went_then}
use Rattle.log_sections.specs.declared.appending.Appended.{Appended}
use Rattle.log_sections.specs.declared.appending.Appended.TheVariants as came
use Rattle.log_sections.specs.LogSections.{Appends, IsTruncationOf, TakesAbort}

-- so the truncation that was read names what was announced
pub truncation_found : (start : Start) (seen : List (List Entry)) (rec : Rec) → rec ≡ truncation_behind start.base (history seen) → IsTruncationOf start seen rec
truncation_found start seen rec is = record {
  oldest = oldest_id start.base.oldest (history seen);
  multi = start.base.oldest_multi;
  offset = start.base.oldest_offset;
  is = is;
  id = found_announced start.base.oldest (history seen);
  first = inl (refl, refl);
}

pub is_truncation : (start : Start) (seen : List (List Entry)) (rec : Rec) → rec ≡ truncation_behind start.base (history seen) → IsTruncation rec
is_truncation start seen rec is = subst IsTruncation (sym is) tt

-- two steps without an event
pub went_on : (n m : ℕ) (a b c : List (List Entry)) → m ≡ n → WentOn n [] a b → WentOn m [] b c → WentOn n [] a c
went_on n m a b c same first second = went_then n [] [] a b c first (subst (λ z. WentOn z [] b c) same second)

-- what the two kinds of records may add is what the commit may
pub commit_wider : (opened : List ℕ) (rec : Rec) → IsCommitOf opened rec → (lock : ℕ) (kind : Kind) → MayAdd (λ z. z ≡ rec) ⊥ (λ r. ⊥) lock kind → MayAdd (IsOfCommit opened) ⊥ (λ r. ⊥) lock kind
commit_wider opened rec of = may_wider (λ z. z ≡ rec) (IsOfCommit opened) ⊥ ⊥ (λ r. ⊥) (λ r. ⊥) (λ z is. inl (subst (IsCommitOf opened) (sym is) of)) (λ m. m) (λ r m. m)

pub truncation_wider : (opened : List ℕ) (lock : ℕ) (kind : Kind) → MayAdd IsTruncation ⊥ (λ r. ⊥) lock kind → MayAdd (IsOfCommit opened) ⊥ (λ r. ⊥) lock kind
truncation_wider opened = may_wider IsTruncation (IsOfCommit opened) ⊥ ⊥ (λ r. ⊥) (λ r. ⊥) (λ z t. inr t) (λ m. m) (λ r m. m)

-- where the log couldn't take the record, the session stands as before
pub unlogged_same : (start : Start) (lists : List (List Entry)) (rec : Rec) (s s' : Session) (appended : Appended) → appended ≡ came.NoBase → Appends start lists rec s s' (Ok appended) → s' ≡ s
unlogged_same start lists rec s s' appended is a = (subst (λ (z : Appended). Appends start lists rec s s' (Ok z)) is a).0

-- so of an abort
pub abort_wider : (opened : List ℕ) (rec : Rec) → IsAbortOf opened rec → (lock : ℕ) (kind : Kind) → MayAdd (λ z. z ≡ rec) ⊥ (λ r. ⊥) lock kind → MayAdd (IsOfAbort opened) ⊥ (λ r. ⊥) lock kind
abort_wider opened rec of = may_wider (λ z. z ≡ rec) (IsOfAbort opened) ⊥ ⊥ (λ r. ⊥) (λ r. ⊥) (λ z is. inl (subst (IsAbortOf opened) (sym is) of)) (λ m. m) (λ r m. m)

pub truncation_wider_abort : (opened : List ℕ) (lock : ℕ) (kind : Kind) → MayAdd IsTruncation ⊥ (λ r. ⊥) lock kind → MayAdd (IsOfAbort opened) ⊥ (λ r. ⊥) lock kind
truncation_wider_abort opened = may_wider IsTruncation (IsOfAbort opened) ⊥ ⊥ (λ r. ⊥) (λ r. ⊥) (λ z t. inr t) (λ m. m) (λ r m. m)

pub unaborted_record_same : (start : Start) (lists : List (List Entry)) (rec : Rec) (s s' : Session) (appended : Appended) → appended ≡ came.NoBase → TakesAbort start lists rec s s' (Ok appended) → s' ≡ s
unaborted_record_same start lists rec s s' appended is a = (subst (λ (z : Appended). TakesAbort start lists rec s s' (Ok z)) is a).0
