-- What sessions have open at the end of a history.
use Rattle.std.proofs.Common.{◌≡◌, ◌≢◌, ◌↔◌, ℕ, zero, suc, ◌+◌, ◌<◌, ◌≤◌, List, [], ◌∷◌, ◌++◌, Option, Some, None, Bool, true, false, ◌==◌, length, get_or, is_none, refl, ap, sym, subst, ◌∙◌, ⊎_elim, inl, eqb-true, arith, IsTrue, IfSome, IfNone, Contains}
use Rattle.std.proofs.lemmas.Bool.{cases_lt, false≢true}
use Rattle.std.specs.List.{AllByRecursion, HoldsAt, filter, find, slice_get}
use Rattle.tx_events.specs.declared.event.Event.{Event}
use Rattle.tx_events.specs.declared.record.Counters.{Counters}
use Rattle.tx_events.specs.declared.refusal.Refusal.TheVariants as refusals
use Rattle.tx_events.specs.declared.xact_end.XactEnd.TheVariants as ends
use Rattle.tx_events.specs.Events.{by_of, given, is_of}
use Rattle.tx_events.specs.Families.{is_top, top}
use Rattle.tx_events.specs.History.{IsLegal}
use Rattle.tx_events.specs.Running.{is_open, open_ids}
use Rattle.tx_events.proofs.Closing.{one_top}
use Rattle.tx_events.proofs.ListSteps.{eqb-refl, filter_none}
use Rattle.tx_events.proofs.Membership.{Has, contains_has}
use Rattle.tx_model.specs.declared.reply.Reply.{Reply}
use Rattle.tx_model.specs.declared.reply.Reply.TheVariants as replies
use Rattle.tx_model.specs.declared.report.Line.{Line}
use Rattle.report_law.specs.Records.{IsDiskFault, IsOpenOf, is_abort, is_commit, last_answer}
use Rattle.record_rules.specs.declared.transactions.OpenXact.{OpenXact}
use Rattle.record_rules.specs.Answered.{is_disk_fault, is_not_done, may_have, was_told}
use Rattle.record_rules.specs.Ends.{IsOpenXact, is_same}

-- ---- the first open id

-- all that a session has open have one top
pub first_is_top : (base : Counters) (h : List Event) (s : ℕ) (o : Option ℕ) (x : ℕ) (rest : List ℕ) → IsLegal base h → IfSome o (λ t. Contains (open_ids s h) t × (is_top h t ≡ true)) → IfNone o (open_ids s h ≡ []) → open_ids s h ≡ x ∷ rest → is_same o x ≡ is_top h x
first_is_top base h s None x rest legal some none is = let f : [] ≡ x ∷ rest = sym none ∙ is in absurd cc
first_is_top base h s (Some t) x rest legal some none is =
    let own : Has (open_ids s h) x = subst (λ l. Has l x) (sym is) (inl refl) in
    let same : top h x ≡ t = one_top base h legal s x t own (contains_has (open_ids s h) t some.0) ∙ eqb-true (top h t) t some.1 in
    ap (λ y. y == x) (sym same)

-- ---- what one session more has open

get_or-append_left : (xs ys : List OpenXact) (s : ℕ) (d : OpenXact) → s < length xs → get_or (xs ++ ys) s d ≡ get_or xs s d
get_or-append_left [] ys s d l = absurd (omega arith)
get_or-append_left (x ∷ xs) ys zero d l = refl
get_or-append_left (x ∷ xs) ys (suc s) d l = get_or-append_left xs ys s d (omega arith)

get_or_last : (xs : List OpenXact) (x d : OpenXact) → get_or (xs ++ x ∷ []) (length xs) d ≡ x
get_or_last [] x d = refl
get_or_last (y ∷ xs) x d = get_or_last xs x d

pub one_xact_more : (h : List Event) (lines : List Line) (xacts : List OpenXact) (x : OpenXact) (n : ℕ) → length xacts ≡ n → ((s : ℕ) → s < n → HoldsAt (IsOpenXact h lines s) xacts s) → IsOpenXact h lines n x → (s : ℕ) → s < n + 1 → HoldsAt (IsOpenXact h lines s) (xacts ++ x ∷ []) s
one_xact_more h lines xacts x n size each is s l d =
    ⊎_elim
    (λ (m : s < n). subst (IsOpenXact h lines s) (sym (get_or-append_left xacts (x ∷ []) s d (subst (λ k. s < k) (sym size) m))) (each s m d))
    (λ (m : n ≤ s).
    let same : n ≡ s = omega arith in
    let at : get_or (xacts ++ x ∷ []) s d ≡ x = ap (λ k. get_or (xacts ++ x ∷ []) k d) (sym same ∙ sym size) ∙ get_or_last xacts x d in
    subst (IsOpenXact h lines s) (sym at) (subst (λ k. IsOpenXact h lines k x) same is))
    (cases_lt s n)

-- ---- sessions that have no event

none_of : (s : ℕ) (h : List Event) → AllByRecursion (λ (e : Event). (by_of e).session < 64) h → 64 ≤ s → filter (is_of s) h ≡ []
none_of s h each l = filter_none (λ (e : Event). (by_of e).session < 64) (is_of s) h (λ e m. apart e m ((by_of e).session == s) refl) each
  where
    apart : (e : Event) → (by_of e).session < 64 → (b : Bool) → ((by_of e).session == s) ≡ b → is_of s e ≡ false
    apart e m true q = absurd (let same : (by_of e).session ≡ s = eqb-true (by_of e).session s q in omega arith)
    apart e m false q = q

pub below_64 : (h : List Event) (s t : ℕ) (subs : List ℕ) → AllByRecursion (λ (e : Event). (by_of e).session < 64) h → IsOpenOf h s t subs → s < 64
below_64 h s t subs each o =
    ⊎_elim (λ (l : s < 64). l)
    (λ (l : 64 ≤ s).
    let none : open_ids s h ≡ [] = ap (λ (xs : List Event). filter (is_open h) (given xs)) (none_of s h each l) in
    let both : [] ≡ t ∷ subs = sym none ∙ o.ids in
    absurd cc)
    (cases_lt s 64)

-- ---- the rules in the law's words

not_done_iff : (r : Reply) → (is_not_done r ≡ true) ↔ (r ≢ replies.Done)
not_done_iff replies.Done = (λ e. absurd cc, λ f. absurd (f refl))
not_done_iff (replies.Wrote warn ids) = (λ e q. absurd cc, λ f. refl)
not_done_iff (replies.Snapped lists) = (λ e q. absurd cc, λ f. refl)
not_done_iff (replies.Seen visible) = (λ e q. absurd cc, λ f. refl)
not_done_iff (replies.Known status) = (λ e q. absurd cc, λ f. refl)
not_done_iff (replies.Did answer) = (λ e q. absurd cc, λ f. refl)
not_done_iff (replies.Multi multi offset warn) = (λ e q. absurd cc, λ f. refl)
not_done_iff (replies.Verdicts verdicts) = (λ e q. absurd cc, λ f. refl)
not_done_iff (replies.Horizon oldest_xmin) = (λ e q. absurd cc, λ f. refl)
not_done_iff (replies.Bytes bytes) = (λ e q. absurd cc, λ f. refl)
not_done_iff (replies.Cut cutoff) = (λ e q. absurd cc, λ f. refl)
not_done_iff (replies.Pending session refusal) = (λ e q. absurd cc, λ f. refl)
not_done_iff (replies.Refused refusal) = (λ e q. absurd cc, λ f. refl)

fault_iff : (r : Reply) → (is_disk_fault r ≡ true) ↔ IsDiskFault r
fault_iff replies.Done = (λ e. absurd cc, λ f. absurd f)
fault_iff (replies.Wrote warn ids) = (λ e. absurd cc, λ f. absurd f)
fault_iff (replies.Snapped lists) = (λ e. absurd cc, λ f. absurd f)
fault_iff (replies.Seen visible) = (λ e. absurd cc, λ f. absurd f)
fault_iff (replies.Known status) = (λ e. absurd cc, λ f. absurd f)
fault_iff (replies.Did answer) = (λ e. absurd cc, λ f. absurd f)
fault_iff (replies.Multi multi offset warn) = (λ e. absurd cc, λ f. absurd f)
fault_iff (replies.Verdicts verdicts) = (λ e. absurd cc, λ f. absurd f)
fault_iff (replies.Horizon oldest_xmin) = (λ e. absurd cc, λ f. absurd f)
fault_iff (replies.Bytes bytes) = (λ e. absurd cc, λ f. absurd f)
fault_iff (replies.Cut cutoff) = (λ e. absurd cc, λ f. absurd f)
fault_iff (replies.Pending session refusal) = (λ e. absurd cc, λ f. absurd f)
fault_iff (replies.Refused refusals.AlreadyOpen) = (λ e. absurd cc, λ f. absurd f)
fault_iff (replies.Refused refusals.NoTransaction) = (λ e. absurd cc, λ f. absurd f)
fault_iff (replies.Refused refusals.NoSavepoint) = (λ e. absurd cc, λ f. absurd f)
fault_iff (replies.Refused refusals.DepthLimit) = (λ e. absurd cc, λ f. absurd f)
fault_iff (replies.Refused refusals.CommitPending) = (λ e. absurd cc, λ f. absurd f)
fault_iff (replies.Refused refusals.AbortPending) = (λ e. absurd cc, λ f. absurd f)
fault_iff (replies.Refused refusals.UndoPending) = (λ e. absurd cc, λ f. absurd f)
fault_iff (replies.Refused (refusals.Stop next stop)) = (λ e. absurd cc, λ f. absurd f)
fault_iff (replies.Refused (refusals.DiskFault lock)) = (λ e. tt, λ f. refl)
fault_iff (replies.Refused refusals.LogFault) = (λ e. absurd cc, λ f. absurd f)
fault_iff (replies.Refused (refusals.LogDown at)) = (λ e. absurd cc, λ f. absurd f)
fault_iff (replies.Refused refusals.Full) = (λ e. absurd cc, λ f. absurd f)
fault_iff (replies.Refused refusals.NameTaken) = (λ e. absurd cc, λ f. absurd f)
fault_iff (replies.Refused refusals.SnapLimit) = (λ e. absurd cc, λ f. absurd f)
fault_iff (replies.Refused refusals.NoSnapshot) = (λ e. absurd cc, λ f. absurd f)
fault_iff (replies.Refused (refusals.TooOld oldest)) = (λ e. absurd cc, λ f. absurd f)
fault_iff (replies.Refused (refusals.Future next)) = (λ e. absurd cc, λ f. absurd f)
fault_iff (replies.Refused refusals.TwoUpdaters) = (λ e. absurd cc, λ f. absurd f)
fault_iff (replies.Refused refusals.MemberCount) = (λ e. absurd cc, λ f. absurd f)
fault_iff (replies.Refused (refusals.NotGiven x)) = (λ e. absurd cc, λ f. absurd f)
fault_iff (replies.Refused (refusals.MultiStop next stop)) = (λ e. absurd cc, λ f. absurd f)
fault_iff (replies.Refused (refusals.MemberStop next stop)) = (λ e. absurd cc, λ f. absurd f)
fault_iff (replies.Refused (refusals.NotYet multi)) = (λ e. absurd cc, λ f. absurd f)
fault_iff (replies.Refused (refusals.MultiTooOld oldest)) = (λ e. absurd cc, λ f. absurd f)
fault_iff (replies.Refused (refusals.MultiFuture next)) = (λ e. absurd cc, λ f. absurd f)
fault_iff (replies.Refused (refusals.Backward now)) = (λ e. absurd cc, λ f. absurd f)
fault_iff (replies.Refused (refusals.TooNew limit)) = (λ e. absurd cc, λ f. absurd f)
fault_iff (replies.Refused (refusals.Held limit)) = (λ e. absurd cc, λ f. absurd f)
fault_iff (replies.Refused refusals.MultiPending) = (λ e. absurd cc, λ f. absurd f)
fault_iff (replies.Refused refusals.Memory) = (λ e. absurd cc, λ f. absurd f)

told_iff : (P : Reply → Type 0) (is : Reply → Bool) (o : Option Reply) → ((r : Reply) → (is r ≡ true) ↔ P r) → (was_told is o ≡ true) ↔ (IfSome o P × (o ≢ None))
told_iff P is None iff = (λ e. absurd cc, λ f. absurd (f.1 refl))
told_iff P is (Some r) iff = (λ e. ((iff r).0 e, λ q. absurd cc), λ f. (iff r).1 f.0)

pub commit_told : (lines : List Line) (s : ℕ) → (may_have ends.Commit lines s ≡ true) ↔ (IfSome (last_answer is_commit lines s) (λ r. r ≢ replies.Done) × (last_answer is_commit lines s ≢ None))
commit_told lines s = told_iff (λ r. r ≢ replies.Done) is_not_done (last_answer is_commit lines s) not_done_iff

pub abort_told : (lines : List Line) (s : ℕ) → (may_have ends.Abort lines s ≡ true) ↔ (IfSome (last_answer is_abort lines s) IsDiskFault × (last_answer is_abort lines s ≢ None))
abort_told lines s = told_iff IsDiskFault is_disk_fault (last_answer is_abort lines s) fault_iff
