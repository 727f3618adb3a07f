-- What one critical section that cuts a bank leaves of the lists.
use Rattle.std.proofs.Common.{None, Some, inl, ◌≡◌, ℕ, ◌+◌, ◌≤◌, ◌<◌, Contains, List, [], ◌∷◌, ◌++◌, append-nil, refl, ap, subst, sym, ◌∙◌, length, take, arith}
use Rattle.std.proofs.lemmas.Bool.Decides.{nat_tests}
use Rattle.std.specs.List.{filter}
use Rattle.notes.specs.Lists.{Grows, at}
use Rattle.disk_core.specs.Faults.{HasRisen}
use Rattle.tx_events.specs.declared.event.By.{By}
use Rattle.tx_events.specs.declared.record.Rec.TheVariants as records
use Rattle.store_pages.specs.Layouts.{subtrans_cut_page, xact_cut_page}
use Rattle.tx_events.specs.Base.{IsBase}
use Rattle.tx_events.specs.Events.{is_of}
use Rattle.tx_events.specs.Horizon.{oldest_xmin}
use Rattle.tx_events.specs.Ids.{id_before}
use Rattle.tx_events.proofs.GivenIds.{legal_take}
use Rattle.tx_events.proofs.Membership.{contains_has, has_contains}
use Rattle.tx_core.specs.declared.entry.Entry.{Entry}
use Rattle.tx_core.specs.declared.entry.Kind.TheVariants as kinds
use Rattle.tx_core.specs.declared.entry.Start.{Start}
use Rattle.tx_core.specs.CutsFollow.{CutBy, IsTruncated}
use Rattle.tx_core.specs.EngineInvariant.{EngineInvariant}
use Rattle.tx_core.specs.Entries.{asks_in, event_of, history}
use Rattle.tx_core.specs.FaultsRise.{count_in, faults_at, faults_told}
use Rattle.tx_core.specs.Locks.{IsPageLock, subtrans_lock, xact_lock}
use Rattle.tx_core.specs.MultiEntries.{multi_of}
use Rattle.tx_core.specs.OwnMultis.{own_multis}
use Rattle.tx_core.specs.ProgramOrder.{IsInTurn}
use Rattle.tx_core.proofs.ChangeLaws.{fault_law}
use Rattle.tx_core.proofs.Cutting.{before_upto, truncated_announced}
use Rattle.tx_core.proofs.Holding.{announced_from, xmin_from}
use Rattle.tx_core.proofs.LastNumbers.{number_push, number_same}
use Rattle.tx_core.proofs.Lasting.{flushed_grows, history_grows}
use Rattle.tx_core.proofs.Quiet.{cut_law}
use Rattle.tx_core.proofs.Reading.{flushed_appended}
use Rattle.tx_core.proofs.Rising.{taken_begins}
use Rattle.engine_parts.specs.declared.session.Session.{Session}
use Rattle.engine_parts.specs.Answers.{MetFault}
use Rattle.engine_parts.specs.Holds.{Enters, Knowledge, Leaves}
use Rattle.engine_parts.specs.Law.{MayKeep}
use Rattle.engine_parts.specs.Sessions.{IsAt, by_at}
use Rattle.engine_parts.specs.Stand.{IsSubtransReach, IsXactReach, first_subtrans_page}
use Rattle.engine_parts.specs.Steps.{WentMulti}
use Rattle.engine_parts.proofs.Leaving.{stands_left}
use Rattle.engine_parts.proofs.Stepping.{went_quiet}
use Rattle.bank_sections.proofs.Nearing.{stop_tight}
use Rattle.bank_sections.specs.Cuts.{cut_fault_by}

pub is_xact_lock : (start : Start) (bank : ℕ) → bank < start.banks → IsPageLock start (xact_lock bank)
is_xact_lock start bank inside = record { from = omega arith; to = omega arith }

pub is_subtrans_lock : (start : Start) (bank : ℕ) → bank < start.banks → IsPageLock start (subtrans_lock bank)
is_subtrans_lock start bank inside = record { from = omega arith; to = omega arith }

-- ---- the count of faults that the list tells then

-- of an entry that is no fault
pub same_told : (start : Start) (lock : ℕ) (e : Entry) (before count : ℕ) (es : List Entry) → count_in e.kind ≡ None → faults_told start lock es ≤ before → before ≤ count → faults_told start lock (es ++ e ∷ []) ≤ count
same_told start lock e before count es none le up = let a = number_same count_in (faults_at start lock) es e none in omega arith

-- and of one that tells the volume's count
pub now_told : (start : Start) (lock : ℕ) (e : Entry) (count : ℕ) (es : List Entry) → count_in e.kind ≡ Some count → faults_told start lock (es ++ e ∷ []) ≤ count
now_told start lock e count es is = let a = number_push count_in (faults_at start lock) es e count is in omega arith

-- ---- what the session may add

pub truncated_later : (start : Start) (lists more : List (List Entry)) (oldest multi offset : ℕ) → Grows lists more → IsTruncated start lists oldest multi offset → IsTruncated start more oldest multi offset
truncated_later start lists more oldest multi offset g t = record { session = t.session; flushed = flushed_grows start lists more t.session (records.Truncate oldest multi offset) g t.flushed }

-- what a truncation on disk names was announced, so the page at which it cuts is in the life's reach
pub states_reach : (start : Start) (lists : List (List Entry)) (oldest multi offset : ℕ) → IsBase start.base → EngineInvariant start lists → IsTruncated start lists oldest multi offset → IsXactReach start (xact_cut_page start.base.oldest oldest)
states_reach start lists oldest multi offset is k t =
    let a = truncated_announced start lists oldest multi offset t.session k (flushed_appended start lists t.session (records.Truncate oldest multi offset) t.flushed) in
    let from : start.base.oldest ≤ oldest = announced_from start lists 0 k is oldest a in
    (omega arith, omega arith)

pub states_cut_by : (start : Start) (lists : List (List Entry)) (bank oldest multi offset : ℕ) → IsTruncated start lists oldest multi offset → CutBy start lists (xact_lock bank) (xact_cut_page start.base.oldest oldest)
states_cut_by start lists bank oldest multi offset t = record {
  xact = λ other q. (oldest, multi, offset, t, refl);
  offsets = λ other q. absurd (omega (arith, q));
  members = λ other q. absurd (omega (arith, q));
  subtrans = λ other q. absurd (omega (arith, q));
}

before_rises : (a b : ℕ) → a ≤ b → id_before a ≤ id_before b
before_rises a b le = grind (arith, nat_tests)

before_near : (n : ℕ) → n ≤ id_before n + 4
before_near n = grind arith

-- the oldest xmin was so at a place of the history, which stays as others go on
abbrev pub WasOldestXmin : Start → List (List Entry) → ℕ → Type 0
WasOldestXmin start lists xmin = (p : ℕ) × (p ≤ length (history lists)) × (xmin ≡ oldest_xmin start.base.next (take p (history lists)))

pub xmin_later : (start : Start) (lists more : List (List Entry)) (xmin : ℕ) → Grows lists more → WasOldestXmin start lists xmin → WasOldestXmin start more xmin
xmin_later start lists more xmin g w =
    let t = taken_begins (history lists) (history more) w.0 (history_grows lists more g) w.1 in
    (w.0, t.0, w.2 ∙ ap (oldest_xmin start.base.next) (sym t.1))

-- it isn't before the next id of the base, so the page at which it cuts is in the life's reach
pub parents_reach : (start : Start) (lists : List (List Entry)) (xmin : ℕ) → IsBase start.base → EngineInvariant start lists → WasOldestXmin start lists xmin
    → (first_subtrans_page start ≤ subtrans_cut_page start.base.oldest xmin) × IsSubtransReach start (subtrans_cut_page start.base.oldest xmin)
parents_reach start lists xmin is k w =
    let from = xmin_from start lists 0 k is (take w.0 (history lists)) (legal_take start.base (history lists) w.0 k.events.legal) in
    let up = before_rises start.base.next xmin (subst (λ z. start.base.next ≤ z) (sym w.2) from) in
    let near = before_near start.base.next in
    let under = before_upto start.base.next in
    let stop = stop_tight start.base.oldest in
    let next = is.next in
    let oldest = is.oldest in
    (omega arith, (omega arith, omega arith))

pub parents_cut_by : (start : Start) (lists : List (List Entry)) (bank xmin : ℕ) → WasOldestXmin start lists xmin → CutBy start lists (subtrans_lock bank) (subtrans_cut_page start.base.oldest xmin)
parents_cut_by start lists bank xmin w = record {
  xact = λ other q. absurd (omega (arith, q));
  offsets = λ other q. absurd (omega (arith, q));
  members = λ other q. absurd (omega (arith, q));
  subtrans = λ other q. (w.0, w.1, ap (subtrans_cut_page start.base.oldest) w.2);
}

pub may_cut : (start : Start) (seen : List (List Entry)) (lock page : ℕ) (by : By) (e : Entry) → IsPageLock start lock → CutBy start seen lock page → e ≡ record { by = by; kind = kinds.Cut page } → IsInTurn start (at seen lock) by → MayKeep start seen lock e
may_cut start seen lock page by e pages cut is turn = subst (MayKeep start seen lock) (sym is) (λ lists k knows there whole. cut_law start seen lock by page pages cut lists k knows there whole turn)

-- and one in which the volume failed
pub may_fault_cut : (start : Start) (seen : List (List Entry)) (lock page count : ℕ) (by : By) (e : Entry) → IsPageLock start lock → CutBy start seen lock page → HasRisen (faults_told start lock (at seen lock)) count → e ≡ cut_fault_by by page count → IsInTurn start (at seen lock) by → MayKeep start seen lock e
may_fault_cut start seen lock page count by e pages cut risen is turn =
    subst (MayKeep start seen lock) (sym is) (λ lists k knows there whole.
    fault_law start seen lock by (by ∷ []) [] (Some page) count
    (record {
      on = record { bank = pages; pages = tt };
      marks = λ mark c. absurd (contains_has [] mark c);
      alike = λ mark other c. absurd (contains_has [] mark c);
      links = λ link c. absurd (contains_has [] link c);
      offsets = λ set c. absurd (contains_has [] set c);
      slots = λ slot c. absurd (contains_has [] slot c);
    })
    (record { own = has_contains (by ∷ []) by (inl refl); once = refl; each = tt })
    cut risen lists k knows there whole turn)

-- ---- the critical section

module _ (start : Start) (v u w : Knowledge) (n lock : ℕ) (s : Session) (a : IsAt start v n s) (pages : IsPageLock start lock) (entered : Enters start lock v u) where
  within : lock < length u.seen
  within = let wide = a.wide in let t = pages.to in let long = entered.learns.long in omega arith

  below : lock < length v.seen
  below = let wide = a.wide in let t = pages.to in omega arith

  -- it has no event
  pub visited : (e : Entry) → event_of e ≡ None → multi_of e ≡ None → asks_in e ≡ [] → Leaves start lock e u w → WentMulti n [] v.seen w.seen
  visited e none no_multi asks l =
      let went = went_quiet start v u w n lock s e a entered.kept entered.learns below none no_multi asks l in record {
        grows = went.on.grows;
        own = went.on.own ∙ append-nil (filter (is_of n) (history v.seen));
        multis = went.on.multis ∙ sym (append-nil (own_multis n v.seen));
        asks = went.asks;
      }

  -- a removal in which the volume failed
  pub cut_met : (n' : ℕ) (s' : Session) → n' ≡ n → s' ≡ s → (page count : ℕ) (e : Entry) → e ≡ cut_fault_by (by_at n' s'.levels.commands) page count → Leaves start lock e u w → MetFault w.seen lock (by_at n s.levels.commands)
  cut_met n' s' number same page count e is l =
      let mine : by_at n' s'.levels.commands ≡ by_at n s.levels.commands = λ j. by_at (number j) (ap (λ (z : Session). z.levels.commands) same j) in record {
        adder = by_at n s.levels.commands;
        callers = by_at n s.levels.commands ∷ [];
        changes = [];
        cut = Some page;
        count = count;
        hit = has_contains (by_at n s.levels.commands ∷ []) (by_at n s.levels.commands) (inl refl);
        stands = subst (λ (z : Entry). Contains (at w.seen lock) z) (is ∙ ap (λ (b : By). cut_fault_by b page count) mine) (stands_left start u w lock e within l);
      }
