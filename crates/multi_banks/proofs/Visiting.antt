-- What one critical section of a bank leaves of the lists.
use Rattle.std.proofs.Common.{None, Some, inl, ◌≡◌, ℕ, ◌<◌, Bool, true, false, IsTrue, Contains, List, [], ◌∷◌, ◌++◌, append-nil, refl, ap, subst, sym, ◌∙◌, length, arith}
use Rattle.slru_bank.specs.declared.refusal.BankRefusal.{BankRefusal}
use Rattle.slru_bank.specs.declared.refusal.BankRefusal.TheVariants as refused
use Rattle.std.specs.List.{filter}
use Rattle.notes.specs.Lists.{at}
use Rattle.notes.proofs.Growing.{at_here}
use Rattle.tx_events.specs.declared.event.By.{By}
use Rattle.tx_events.specs.Events.{is_of}
use Rattle.tx_events.proofs.Membership.{has_contains}
use Rattle.tx_core.specs.declared.entry.Entry.{Entry}
use Rattle.tx_core.specs.declared.entry.Kind.TheVariants as kinds
use Rattle.tx_core.specs.declared.entry.Start.{Start}
use Rattle.tx_core.specs.Entries.{Stands, asks_in, event_of, history}
use Rattle.tx_core.specs.Locks.{IsPageLock, members_lock, offsets_lock}
use Rattle.tx_core.specs.MultiEntries.{multi_history, multi_of}
use Rattle.tx_core.specs.OwnMultis.{own_multis}
use Rattle.engine_parts.specs.declared.session.Session.{Session}
use Rattle.engine_parts.specs.Answers.{MetFault}
use Rattle.engine_parts.specs.Faults.{fault_by, look_of}
use Rattle.engine_parts.specs.Holds.{Enters, Knowledge, Leaves}
use Rattle.engine_parts.specs.Sessions.{IsAt, by_at}
use Rattle.engine_parts.specs.Steps.{WentMulti}
use Rattle.engine_parts.proofs.Leaving.{stands_left}
use Rattle.engine_parts.proofs.Made.{multis_same}
use Rattle.engine_parts.proofs.Sectioning.{section_of}
use Rattle.engine_parts.proofs.Stepping.{went_quiet}
use Rattle.multi_banks.specs.Refusals.{cut_fault_by, entry_of_refusal}
use Rattle.multi_banks.specs.Sections.{BankRefused}
use Rattle.multi_banks.proofs.Quiet.{met_refusal, refused_still}

pub is_offsets_lock : (start : Start) (bank : ℕ) → bank < start.banks → IsPageLock start (offsets_lock bank)
is_offsets_lock start bank inside = record { from = omega arith; to = omega arith }

pub is_members_lock : (start : Start) (bank : ℕ) → bank < start.banks → IsPageLock start (members_lock bank)
is_members_lock start bank inside = record { from = omega arith; to = omega arith }

pub not_true : (b : Bool) → (IsTrue b → ⊥) → b ≡ false
not_true true f = absurd (f refl)
not_true false f = refl

module _ (start : Start) (v u w : Knowledge) (n lock : ℕ) (s : Session) (a : IsAt start v n s) (pages : IsPageLock start lock) (entered : Enters start lock v u) where
  within : lock < length u.seen
  within = let wide = a.wide in let t = pages.to in let long = entered.learns.long in omega arith

  below : lock < length v.seen
  below = let wide = a.wide in let t = pages.to in omega arith

  -- one critical section without an event
  pub visited : (e : Entry) → event_of e ≡ None → multi_of e ≡ None → asks_in e ≡ [] → Leaves start lock e u w → WentMulti n [] v.seen w.seen
  visited e none no_multi asks l =
      let went = went_quiet start v u w n lock s e a entered.kept entered.learns below none no_multi asks l in record {
        grows = went.on.grows;
        own = went.on.own ∙ append-nil (filter (is_of n) (history v.seen));
        multis = went.on.multis ∙ sym (append-nil (own_multis n v.seen));
        asks = went.asks;
      }

  -- and one whose call was refused
  pub visited_refused : (by : By) (count : ℕ) (refusal : BankRefusal) → Leaves start lock (entry_of_refusal by count refusal) u w → WentMulti n [] v.seen w.seen
  visited_refused by count refusal l = let q = refused_still by count refusal in visited (entry_of_refusal by count refusal) q.event q.multi q.asks l

  -- the list of the lock that was left
  pub list_left : (e : Entry) → Leaves start lock e u w → at w.seen lock ≡ at u.seen lock ++ e ∷ []
  list_left e l = ap (λ (z : List (List Entry)). at z lock) l.seen ∙ at_here u.seen lock e within

  -- the history of multixacts stays
  pub multis_left : (e : Entry) → multi_of e ≡ None → Leaves start lock e u w → multi_history w.seen ≡ multi_history u.seen
  multis_left e none l = multis_same start u w lock e none within l

  -- the entry stands in the list
  pub entry_stands : (e f : Entry) → e ≡ f → Leaves start lock e u w → Contains (at w.seen lock) f
  entry_stands e f is l = subst (λ (z : Entry). Contains (at w.seen lock) z) is (stands_left start u w lock e within l)

  -- the page that was made stands in the list
  pub made_stands : (page : ℕ) (by : By) (e : Entry) → e ≡ record { by = by; kind = kinds.Zero page } → Leaves start lock e u w → Stands w.seen lock (kinds.Zero page)
  made_stands page by e is l = (by, entry_stands e (record { by = by; kind = kinds.Zero page }) is l)

  module _ (n' : ℕ) (s' : Session) (number : n' ≡ n) (same : s' ≡ s) where
    mine : by_at n' s'.levels.commands ≡ by_at n s.levels.commands
    mine j = by_at (number j) (ap (λ (z : Session). z.levels.commands) same j)

    -- a fault that the call met
    pub fault_met : (count : ℕ) (refusal : BankRefusal) → Leaves start lock (entry_of_refusal (by_at n' s'.levels.commands) count refusal) u w → refusal ≡ refused.DiskFault → MetFault w.seen lock (by_at n s.levels.commands)
    fault_met count refusal l is =
        subst (λ (b : By). MetFault w.seen lock b) mine (met_refusal start u w lock (by_at n' s'.levels.commands) count refusal within l is)

    -- a call that the bank refused
    pub bank_refused : (count : ℕ) (cut : ℕ → Type 0) (refusal : BankRefusal) → Leaves start lock (entry_of_refusal (by_at n' s'.levels.commands) count refusal) u w → ((cutoff : ℕ) → refusal ≡ refused.Cut cutoff → cut cutoff)
        → BankRefused start lock (by_at n s.levels.commands) cut v w refusal
    bank_refused count cut refused.DiskFault l cuts = (count, section_of start v u w lock (fault_by (by_at n' s'.levels.commands) count) (fault_by (by_at n s.levels.commands) count) entered (ap (λ (b : By). fault_by b count) mine) l)
    bank_refused count cut (refused.Cut cutoff) l cuts = (section_of start v u w lock (look_of (by_at n' s'.levels.commands)) (look_of (by_at n s.levels.commands)) entered (ap look_of mine) l, cuts cutoff refl)

    -- a removal in which the volume failed
    pub cut_met : (page count : ℕ) (e : Entry) → e ≡ cut_fault_by (by_at n' s'.levels.commands) page count → Leaves start lock e u w → MetFault w.seen lock (by_at n s.levels.commands)
    cut_met page count e is l = record {
      adder = by_at n s.levels.commands;
      callers = by_at n s.levels.commands ∷ [];
      changes = [];
      cut = Some page;
      count = count;
      hit = has_contains (by_at n s.levels.commands ∷ []) (by_at n s.levels.commands) (inl refl);
      stands = entry_stands e (cut_fault_by (by_at n s.levels.commands) page count) (is ∙ ap (λ (b : By). cut_fault_by b page count) mine) l;
    }
