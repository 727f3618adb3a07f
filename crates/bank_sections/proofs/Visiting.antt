-- What one critical section of a bank leaves of the lists.
use Rattle.std.proofs.Common.{None, ◌≡◌, ℕ, ◌^◌, ◌<◌, Bool, true, false, IsTrue, Contains, List, [], ◌∷◌, ◌++◌, refl, ap, subst, sym, ◌∙◌, length, arith}
use Rattle.slru_bank.specs.declared.refusal.BankRefusal.{BankRefusal}
use Rattle.slru_bank.specs.declared.refusal.BankRefusal.TheVariants as refused
use Rattle.tx_events.specs.PageOrder.{Ids, is_cut}
use Rattle.notes.specs.Lists.{at}
use Rattle.notes.proofs.Growing.{at_here}
use Rattle.tx_events.specs.declared.event.By.{By}
use Rattle.tx_core.specs.declared.entry.Entry.{Entry}
use Rattle.tx_core.specs.declared.entry.Kind.TheVariants as kinds
use Rattle.tx_core.specs.declared.entry.Start.{Start}
use Rattle.tx_core.specs.Entries.{Stands, asks_in, event_of}
use Rattle.tx_core.specs.Locks.{IsPageLock, subtrans_lock, subtrans_page, xact_lock, xact_page}
use Rattle.tx_core.specs.PagesBeforeIds.{IsIdOf, IsWanted}
use Rattle.engine_parts.specs.declared.session.Session.{Session}
use Rattle.engine_parts.specs.Answers.{MetFault}
use Rattle.engine_parts.specs.Faults.{fault_by, look_of}
use Rattle.engine_parts.specs.Holds.{Enters, Knowledge, Leaves}
use Rattle.engine_parts.specs.Sessions.{IsAt, by_at}
use Rattle.engine_parts.specs.Stand.{IsCutoff, first_subtrans_page, first_xact_page}
use Rattle.engine_parts.specs.Steps.{WentOn}
use Rattle.engine_parts.proofs.Cutoffs.{cutoff_more}
use Rattle.engine_parts.proofs.Leaving.{stands_left}
use Rattle.engine_parts.proofs.Sectioning.{same_command, section_of}
use Rattle.engine_parts.proofs.Stepping.{went_quiet}
use Rattle.tx_core.specs.MultiEntries.{multi_of}
use Rattle.bank_sections.specs.Refusals.{entry_of_refusal}
use Rattle.bank_sections.specs.Sections.{BankRefused, IsSubtransCut, IsXactCut}
use Rattle.bank_sections.proofs.Refusing.{met_refusal, refused_quiet}

pub is_xact_lock : (start : Start) (bank : ℕ) → bank < start.banks → IsPageLock start (xact_lock bank)
is_xact_lock start bank inside = record { from = omega arith; to = omega arith }

pub is_subtrans_lock : (start : Start) (bank : ℕ) → bank < start.banks → IsPageLock start (subtrans_lock bank)
is_subtrans_lock start bank inside = record { from = omega arith; to = omega arith }

pub below_locks : (start : Start) (v : Knowledge) (n lock : ℕ) (s : Session) → IsAt start v n s → IsPageLock start lock → lock < length v.seen
below_locks start v n lock s a pages = let w = a.wide in let t = pages.to in omega arith

-- the pages of an id that was given or comes next are wanted
pub xact_wanted : (start : Start) (lists : List (List Entry)) (bank id : ℕ) → IsIdOf start lists id → IsWanted start lists (xact_lock bank) (xact_page id)
xact_wanted start lists bank id is = record {
  xact = λ other q. (id, refl, is);
  subtrans = λ other q. absurd (omega (arith, q));
  offsets = λ other q. absurd (omega (arith, q));
  members = λ other q. absurd (omega (arith, q));
}

pub subtrans_wanted : (start : Start) (lists : List (List Entry)) (bank id : ℕ) → IsIdOf start lists id → IsWanted start lists (subtrans_lock bank) (subtrans_page id)
subtrans_wanted start lists bank id is = record {
  xact = λ other q. absurd (omega (arith, q));
  subtrans = λ other q. (id, refl, is);
  offsets = λ other q. absurd (omega (arith, q));
  members = λ other q. absurd (omega (arith, q));
}

-- one critical section without an event
pub visited : (start : Start) (v u w : Knowledge) (n lock : ℕ) (s : Session) (e : Entry) → IsAt start v n s → IsPageLock start lock → Enters start lock v u → event_of e ≡ None → multi_of e ≡ None → asks_in e ≡ [] → Leaves start lock e u w → WentOn n [] v.seen w.seen
visited start v u w n lock s e a pages entered none no_multi asks l = went_quiet start v u w n lock s e a entered.kept entered.learns (below_locks start v n lock s a pages) none no_multi asks l

-- and one whose call was refused
pub visited_refused : (start : Start) (v u w : Knowledge) (n lock : ℕ) (s : Session) (by : By) (count : ℕ) (refusal : BankRefusal) → IsAt start v n s → IsPageLock start lock → Enters start lock v u → Leaves start lock (entry_of_refusal by count refusal) u w → WentOn n [] v.seen w.seen
visited_refused start v u w n lock s by count refusal a pages entered l =
    let q = refused_quiet by count refusal in
    visited start v u w n lock s (entry_of_refusal by count refusal) a pages entered q.event q.multi q.asks l

-- a fault that the call met
pub fault_met : (start : Start) (v u w : Knowledge) (n n' lock : ℕ) (s s' : Session) (count : ℕ) (refusal : BankRefusal) → IsAt start v n s → IsPageLock start lock → Enters start lock v u → n' ≡ n → s' ≡ s → Leaves start lock (entry_of_refusal (by_at n' s'.levels.commands) count refusal) u w → refusal ≡ refused.DiskFault → MetFault w.seen lock (by_at n s.levels.commands)
fault_met start v u w n n' lock s s' count refusal a pages entered number same l is =
    let long = entered.learns.long in
    let below = below_locks start v n lock s a pages in
    subst (λ (b : By). MetFault w.seen lock b) (λ j. by_at (number j) (ap (λ (z : Session). z.levels.commands) same j))
    (met_refusal start u w lock (by_at n' s'.levels.commands) count refusal (omega arith) l is)

-- the page that was made stands in the list
pub made_stands : (start : Start) (v u w : Knowledge) (n lock page : ℕ) (s : Session) (by : By) (e : Entry) → IsAt start v n s → IsPageLock start lock → Enters start lock v u → e ≡ record { by = by; kind = kinds.Zero page } → Leaves start lock e u w → Stands w.seen lock (kinds.Zero page)
made_stands start v u w n lock page s by e a pages entered is l =
    let long = entered.learns.long in
    let below = below_locks start v n lock s a pages in
    (by, subst (λ (f : Entry). Contains (at w.seen lock) f) is (stands_left start u w lock e (omega arith) l))

-- the list of the lock that was left
pub list_left : (start : Start) (v u w : Knowledge) (n lock : ℕ) (s : Session) (e : Entry) → IsAt start v n s → IsPageLock start lock → Enters start lock v u → Leaves start lock e u w → at w.seen lock ≡ at u.seen lock ++ e ∷ []
list_left start v u w n lock s e a pages entered l =
    let long = entered.learns.long in
    let below = below_locks start v n lock s a pages in
    ap (λ (z : List (List Entry)). at z lock) l.seen ∙ at_here u.seen lock e (omega arith)

pub not_true : (b : Bool) → (IsTrue b → ⊥) → b ≡ false
not_true true f = absurd (f refl)
not_true false f = refl

-- ---- the critical section

-- of a call that the bank refused
bank_refused : (start : Start) (v u w : Knowledge) (lock count : ℕ) (by' by : By) (cut : ℕ → Type 0) (refusal : BankRefusal) → Enters start lock v u → by' ≡ by → Leaves start lock (entry_of_refusal by' count refusal) u w → ((cutoff : ℕ) → refusal ≡ refused.Cut cutoff → cut cutoff) → BankRefused start lock by cut v w refusal
bank_refused start v u w lock count by' by cut refused.DiskFault entered same l cuts = (count, section_of start v u w lock (fault_by by' count) (fault_by by count) entered (ap (λ (b : By). fault_by b count) same) l)
bank_refused start v u w lock count by' by cut (refused.Cut cutoff) entered same l cuts = (section_of start v u w lock (look_of by') (look_of by) entered (ap look_of same) l, cuts cutoff refl)

module _ (start : Start) (v u w : Knowledge) (n n' bank : ℕ) (s s' : Session) (count page stored found : ℕ) (refusal : BankRefusal) (a : IsAt start v n s) (inside : bank < start.banks) (number : n' ≡ n) (same : s' ≡ s) (is : stored ≡ page) where
  -- where it tells a cutoff, the page that was asked is cut
  pub xact_refused_at : Enters start (xact_lock bank) v u → Leaves start (xact_lock bank) (entry_of_refusal (by_at n' s'.levels.commands) count refusal) u w → IsCutoff (first_xact_page start) (2 ^ 17) (at u.seen (xact_lock bank)) found → ((cutoff : ℕ) → refusal ≡ refused.Cut cutoff → (cutoff ≡ found) × IsTrue (is_cut Ids 32768 found stored))
      → BankRefused start (xact_lock bank) (by_at n s.levels.commands) (IsXactCut start w.seen bank page) v w refusal
  xact_refused_at entered l cutoff cuts =
      let e : Entry = entry_of_refusal (by_at n' s'.levels.commands) count refusal in
      let grown = list_left start v u w n (xact_lock bank) s e a (is_xact_lock start bank inside) entered l in
      bank_refused start v u w (xact_lock bank) count (by_at n' s'.levels.commands) (by_at n s.levels.commands) (IsXactCut start w.seen bank page) refusal entered (same_command n n' s s' number same) l (λ told told_is.
      let cut = cuts told told_is in (
        subst (λ (z : List Entry × ℕ). IsCutoff (first_xact_page start) (2 ^ 17) z.0 z.1) (λ j. (sym grown j, sym cut.0 j)) (cutoff_more (first_xact_page start) (2 ^ 17) (at u.seen (xact_lock bank)) e found cutoff),
        subst (λ (z : ℕ × ℕ). is_cut Ids 32768 z.0 z.1 ≡ true) (λ j. (sym cut.0 j, is j)) cut.1,
      ))

  pub subtrans_refused_at : Enters start (subtrans_lock bank) v u → Leaves start (subtrans_lock bank) (entry_of_refusal (by_at n' s'.levels.commands) count refusal) u w → IsCutoff (first_subtrans_page start) (2 ^ 21) (at u.seen (subtrans_lock bank)) found → ((cutoff : ℕ) → refusal ≡ refused.Cut cutoff → (cutoff ≡ found) × IsTrue (is_cut Ids 2048 found stored))
      → BankRefused start (subtrans_lock bank) (by_at n s.levels.commands) (IsSubtransCut start w.seen bank page) v w refusal
  subtrans_refused_at entered l cutoff cuts =
      let e : Entry = entry_of_refusal (by_at n' s'.levels.commands) count refusal in
      let grown = list_left start v u w n (subtrans_lock bank) s e a (is_subtrans_lock start bank inside) entered l in
      bank_refused start v u w (subtrans_lock bank) count (by_at n' s'.levels.commands) (by_at n s.levels.commands) (IsSubtransCut start w.seen bank page) refusal entered (same_command n n' s s' number same) l (λ told told_is.
      let cut = cuts told told_is in (
        subst (λ (z : List Entry × ℕ). IsCutoff (first_subtrans_page start) (2 ^ 21) z.0 z.1) (λ j. (sym grown j, sym cut.0 j)) (cutoff_more (first_subtrans_page start) (2 ^ 21) (at u.seen (subtrans_lock bank)) e found cutoff),
        subst (λ (z : ℕ × ℕ). is_cut Ids 2048 z.0 z.1 ≡ true) (λ j. (sym cut.0 j, is j)) cut.1,
      ))
