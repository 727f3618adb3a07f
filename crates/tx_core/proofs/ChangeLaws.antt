-- The changes of a critical section of a bank keep the invariant.
use Rattle.std.proofs.Common.{Contains, IfSome, List, None, Option, [], ap, arith, inl, inr, length, refl, subst, sym, ℕ, ⊎_elim, ◌<◌, ◌∙◌, ◌∷◌, ◌≡◌}
use Rattle.std.specs.List.{AllByRecursion}
use Rattle.tx_events.specs.declared.event.By.{By}
use Rattle.tx_events.proofs.Membership.{Has, contains_has, has_contains, all_from}
use Rattle.tx_events.specs.Events.{given}
use Rattle.tx_core.specs.declared.entry.Change.{Change}
use Rattle.tx_core.specs.declared.entry.Entry.{Entry}
use Rattle.tx_core.specs.declared.entry.Start.{Start}
use Rattle.tx_core.specs.declared.entry.State.{State}
use Rattle.tx_core.proofs.Keeping.{keeps}
use Rattle.tx_core.specs.AbortRule.{AskUnrecorded, AskedOf, GivenOf, IsSameAfter}
use Rattle.tx_core.specs.CutsFollow.{CutBy}
use Rattle.tx_core.specs.EngineInvariant.{EngineInvariant}
use Rattle.tx_core.specs.Entries.{Link, Mark, session_of}
use Rattle.tx_core.specs.FaultsRise.{faults_told}
use Rattle.tx_core.specs.Laws.{AbortedKeeps, AreThere, ChangesKeep, CommittedKeeps, FaultKeeps, HostKindKeeps, MayChange, MayLink, MayMark, ParentKeeps, RequestKeeps, SubCommittedKeeps, all_set, links_of, marks_of, offsets_of, slots_of}
use Rattle.disk_core.specs.Faults.{HasRisen}
use Rattle.notes.specs.Lists.{Knows, add, at}
use Rattle.tx_core.specs.Locks.{IsPageLock, member_page_in_full, offset_page, subtrans_lock, subtrans_page, xact_lock, xact_lock_of, xact_page}
use Rattle.tx_core.specs.LogBeforeStatus.{RecordOf, TreeOf}
use Rattle.tx_core.specs.MultiEntries.{SetOffset, SetSlot}
use Rattle.tx_core.specs.MembersBeforeOffset.{OffsetOf, SlotOf}
use Rattle.tx_core.specs.PagesBeforeIds.{WasMade}
use Rattle.tx_core.specs.ParentsFollow.{IsGivenBelow}
use Rattle.tx_core.specs.ProgramOrder.{AreCallers, NeedsTurn, change_lock}
use Rattle.tx_core.specs.declared.entry.Change.TheVariants as changes
use Rattle.tx_core.specs.declared.entry.Kind.TheVariants as kinds
use Rattle.tx_core.specs.declared.entry.State.TheVariants as states

-- what the parts ask of changes, list by list
record Asked (start : Start) (seen : List (List Entry)) (before : List Entry) (session : ℕ) (changes : List Change) : Type 0 where
  made : AllByRecursion (λ mark. WasMade before (xact_page start.base.next) (xact_page mark.id)) (marks_of changes)
  logged : AllByRecursion (λ mark. RecordOf start seen mark.caller.session mark.id mark.state) (marks_of changes)
  tree : AllByRecursion (λ mark. TreeOf start seen mark.caller.session mark.id mark.state) (marks_of changes)
  given : AllByRecursion (λ mark. GivenOf seen mark) (marks_of changes)
  asked : AllByRecursion (λ mark. AskedOf seen session mark) (marks_of changes)
  unrecorded : AllByRecursion (λ mark. AskUnrecorded seen session mark.caller.session mark.id mark.state) (marks_of changes)
  later : AllByRecursion (λ mark. IsSameAfter before mark) (marks_of changes)
  alike : AllByRecursion (λ mark. AllByRecursion (λ other. other.id ≡ mark.id → other.state ≡ mark.state) (marks_of changes)) (marks_of changes)
  made_links : AllByRecursion (λ link. WasMade before (subtrans_page start.base.next) (subtrans_page link.id)) (links_of changes)
  subs : AllByRecursion (λ link. IsGivenBelow seen link.caller.session link.parent link.id) (links_of changes)
  made_offsets : AllByRecursion (λ set. WasMade before (offset_page start.base.multi) (offset_page set.multi)) (offsets_of changes)
  offsets : AllByRecursion (λ set. OffsetOf start seen set) (offsets_of changes)
  slots : AllByRecursion (λ slot. SlotOf seen slot) (slots_of changes)
  made_slots : AllByRecursion (λ slot. WasMade before (member_page_in_full start.base.offset) (member_page_in_full slot.offset)) (slots_of changes)

asked_of_each : (start : Start) (seen : List (List Entry)) (lock session : ℕ) (changes : List Change) → MayChange start seen lock session changes → Asked start seen (at seen lock) session changes
asked_of_each start seen lock session changes may =
    let before : List Entry = at seen lock in
    let mark_of_each : (mark : Mark) → Has (marks_of changes) mark → MayMark start seen before session mark = λ mark k. may.marks mark (has_contains (marks_of changes) mark k) in
    let link_of_each : (link : Link) → Has (links_of changes) link → MayLink start seen before link = λ link k. may.links link (has_contains (links_of changes) link k) in
    record {
      made = all_from (λ mark. WasMade before (xact_page start.base.next) (xact_page mark.id)) (marks_of changes) (λ mark k. (mark_of_each mark k).page);
      logged = all_from (λ mark. RecordOf start seen mark.caller.session mark.id mark.state) (marks_of changes) (λ mark k. (mark_of_each mark k).durable);
      tree = all_from (λ mark. TreeOf start seen mark.caller.session mark.id mark.state) (marks_of changes) (λ mark k. (mark_of_each mark k).tree);
      given = all_from (λ mark. GivenOf seen mark) (marks_of changes) (λ mark k. (mark_of_each mark k).given);
      asked = all_from (λ mark. AskedOf seen session mark) (marks_of changes) (λ mark k. (mark_of_each mark k).asked);
      unrecorded = all_from (λ mark. AskUnrecorded seen session mark.caller.session mark.id mark.state) (marks_of changes) (λ mark k. (mark_of_each mark k).unrecorded);
      later = all_from (λ mark. IsSameAfter before mark) (marks_of changes) (λ mark k. (mark_of_each mark k).final);
      alike = all_from (λ mark. AllByRecursion (λ other. other.id ≡ mark.id → other.state ≡ mark.state) (marks_of changes)) (marks_of changes) (λ mark k.
          all_from (λ other. other.id ≡ mark.id → other.state ≡ mark.state) (marks_of changes) (λ other j. may.alike mark other (has_contains (marks_of changes) mark k) (has_contains (marks_of changes) other j)));
      made_links = all_from (λ link. WasMade before (subtrans_page start.base.next) (subtrans_page link.id)) (links_of changes) (λ link k. (link_of_each link k).page);
      subs = all_from (λ link. IsGivenBelow seen link.caller.session link.parent link.id) (links_of changes) (λ link k. (link_of_each link k).sub);
      made_offsets = all_from (λ set. WasMade before (offset_page start.base.multi) (offset_page set.multi)) (offsets_of changes) (λ set k. (may.offsets set (has_contains (offsets_of changes) set k)).page);
      offsets = all_from (λ set. OffsetOf start seen set) (offsets_of changes) (λ set k. (may.offsets set (has_contains (offsets_of changes) set k)).members);
      slots = all_from (λ slot. SlotOf seen slot) (slots_of changes) (λ slot k. (may.slots slot (has_contains (slots_of changes) slot k)).member);
      made_slots = all_from (λ slot. WasMade before (member_page_in_full start.base.offset) (member_page_in_full slot.offset)) (slots_of changes) (λ slot k. (may.slots slot (has_contains (slots_of changes) slot k)).page);
    }

pub changes_law : ChangesKeep
changes_law start seen lock by changes may lists k knows inside whole turn =
    let a = asked_of_each start seen lock by.session changes may in
    keeps start lists seen lock (record { by = by; kind = kinds.Set changes }) k knows inside whole (record {
      events = record { own = tt; rule = λ here. tt };
      pages = record { ids = tt; changes = record { marks = a.made; links = a.made_links; offsets = a.made_offsets; slots = a.made_slots }; made = tt };
      parents = a.subs;
      records = record { parents = tt; event = λ here. tt; ids = λ here. tt };
      status = record { logged = a.logged; tree = a.tree };
      commits = tt;
      aborts = record { closed = tt; given = a.given; asked = a.asked; unasked = λ here. tt; unrecorded = a.unrecorded; final = record { later = a.later; alike = a.alike } };
      order = record { turn = inl turn; stands = may.on };
      log = record { counters = tt; named = tt; flushed = tt };
      cuts = tt;
      multis = tt;
      members = record { slots = a.slots; offsets = a.offsets };
      syncs = tt;
      posts = tt;
      faults = tt;
      down = tt;
      once = tt;
      ends = record { event = λ here. tt; ids = λ here. tt };
    })

fault_in_turn : (start : Start) (seen : List (List Entry)) (lock : ℕ) (by : By) (callers : List By) (changes : List Change) (cut : Option ℕ) (count : ℕ) → MayChange start seen lock by.session changes → AreCallers by callers changes → IfSome cut (CutBy start seen lock) → HasRisen (faults_told start lock (at seen lock)) count
    → (lists : List (List Entry)) → EngineInvariant start lists → Knows session_of by.session seen lists → lock < length lists → at seen lock ≡ at lists lock → NeedsTurn start seen lock (at seen lock) (record { by = by; kind = kinds.Fault callers changes cut count })
    → EngineInvariant start (add lists lock (record { by = by; kind = kinds.Fault callers changes cut count }))
fault_in_turn start seen lock by callers changes cut count may named truncated risen lists k knows inside whole turn =
    let a = asked_of_each start seen lock by.session changes may in
    keeps start lists seen lock (record { by = by; kind = kinds.Fault callers changes cut count }) k knows inside whole (record {
      events = record { own = tt; rule = λ here. tt };
      pages = record { ids = tt; changes = record { marks = a.made; links = a.made_links; offsets = a.made_offsets; slots = a.made_slots }; made = tt };
      parents = a.subs;
      records = record { parents = tt; event = λ here. tt; ids = λ here. tt };
      status = record { logged = a.logged; tree = a.tree };
      commits = tt;
      aborts = record { closed = tt; given = a.given; asked = a.asked; unasked = λ here. tt; unrecorded = a.unrecorded; final = record { later = a.later; alike = a.alike } };
      order = record { turn = turn; stands = (may.on, named) };
      log = record { counters = tt; named = tt; flushed = tt };
      cuts = truncated;
      multis = tt;
      members = record { slots = a.slots; offsets = a.offsets };
      syncs = tt;
      posts = tt;
      faults = risen;
      down = tt;
      once = tt;
      ends = record { event = λ here. tt; ids = λ here. tt };
    })

pub fault_law : FaultKeeps
fault_law start seen lock by callers changes cut count may named truncated risen lists k knows inside whole turn = fault_in_turn start seen lock by callers changes cut count may named truncated risen lists k knows inside whole (inl turn)

-- a fault of the host, which changes nothing
pub host_fault_law : (start : Start) (seen : List (List Entry)) (lock : ℕ) (by : By) (callers : List By) (count : ℕ) → IsPageLock start lock → AreCallers by callers [] → HasRisen (faults_told start lock (at seen lock)) count → HostKindKeeps start seen lock by (kinds.Fault callers [] None count)
host_fault_law start seen lock by callers count on named risen lists k knows inside whole turn =
    fault_in_turn start seen lock by callers [] None count
    (record {
      on = record { bank = on; pages = tt };
      marks = λ mark c. absurd (contains_has [] mark c);
      alike = λ mark other c. absurd (contains_has [] mark c);
      links = λ link c. absurd (contains_has [] link c);
      offsets = λ set c. absurd (contains_has [] set c);
      slots = λ slot c. absurd (contains_has [] slot c);
    })
    named tt risen lists k knows inside whole (inr (turn, (refl, refl)))

pub request_law : RequestKeeps
request_law start seen lock by changes behind given unrecorded lists k knows inside whole turn =
    keeps start lists seen lock (record { by = by; kind = kinds.Request changes }) k knows inside whole (record {
      events = record { own = tt; rule = λ here. tt };
      pages = record { ids = tt; changes = record { marks = tt; links = tt; offsets = tt; slots = tt }; made = tt };
      parents = tt;
      records = record { parents = tt; event = λ here. tt; ids = λ here. tt };
      status = record { logged = tt; tree = tt };
      commits = tt;
      aborts = record {
        closed = tt;
        given = all_from (λ mark. GivenOf seen mark) (marks_of changes) (λ mark k. given mark (has_contains (marks_of changes) mark k));
        asked = tt;
        unasked = λ here. tt;
        unrecorded = all_from (λ mark. AskUnrecorded seen by.session mark.caller.session mark.id mark.state) (marks_of changes) (λ mark k. unrecorded mark (has_contains (marks_of changes) mark k));
        final = record { later = tt; alike = tt };
      };
      order = record { turn = inl turn; stands = behind };
      log = record { counters = tt; named = tt; flushed = tt };
      cuts = tt;
      multis = tt;
      members = record { slots = tt; offsets = tt };
      syncs = tt;
      posts = tt;
      faults = tt;
      down = tt;
      once = tt;
      ends = record { event = λ here. tt; ids = λ here. tt };
    })

-- the states that a session sets for itself are all one
all_mark : (by : By) (state : State) (ids : List ℕ) (mark : Mark) → Has (marks_of (all_set by state ids)) mark → (id : ℕ) × Has ids id × (record { caller = by; id = id; state = state } ≡ mark)
all_mark by state [] mark k = absurd k
all_mark by state (id ∷ ids) mark k =
    ⊎_elim (λ (q : record { caller = by; id = id; state = state } ≡ mark). (id, inl refl, q)) (λ t. let r = all_mark by state ids mark t in (r.0, inr r.1, r.2)) k

no_link : (by : By) (state : State) (ids : List ℕ) (link : Link) → Has (links_of (all_set by state ids)) link → ⊥
no_link by state [] link k = k
no_link by state (id ∷ ids) link k = no_link by state ids link k

all_on : (start : Start) (by : By) (state : State) (lock : ℕ) (ids : List ℕ) → ((id : ℕ) → Has ids id → xact_lock_of start id ≡ lock) → AllByRecursion (λ change. change_lock start change ≡ lock) (all_set by state ids)
all_on start by state lock [] each = tt
all_on start by state lock (id ∷ ids) each = (each id (inl refl), all_on start by state lock ids (λ x k. each x (inr k)))

no_offset : (by : By) (state : State) (ids : List ℕ) (set : SetOffset) → Has (offsets_of (all_set by state ids)) set → ⊥
no_offset by state [] set k = k
no_offset by state (id ∷ ids) set k = no_offset by state ids set k

no_slot : (by : By) (state : State) (ids : List ℕ) (slot : SetSlot) → Has (slots_of (all_set by state ids)) slot → ⊥
no_slot by state [] slot k = k
no_slot by state (id ∷ ids) slot k = no_slot by state ids slot k

-- the states of one hold, from what is asked of each id
all_may : (start : Start) (seen : List (List Entry)) (bank : ℕ) (by : By) (state : State) (ids : List ℕ) → AreThere start seen bank ids
    → ((id : ℕ) → Contains ids id → MayMark start seen (at seen (xact_lock bank)) by.session (record { caller = by; id = id; state = state }))
    → MayChange start seen (xact_lock bank) by.session (all_set by state ids)
all_may start seen bank by state ids there each = record {
  on = record { bank = record { from = omega arith; to = let z = there.inside in omega arith }; pages = all_on start by state (xact_lock bank) ids (λ id k. there.lock id (has_contains ids id k)) };
  marks = λ mark c. let r = all_mark by state ids mark (contains_has (marks_of (all_set by state ids)) mark c) in
      subst (λ (m : Mark). MayMark start seen (at seen (xact_lock bank)) by.session m) r.2 (each r.0 (has_contains ids r.0 r.1));
  alike = λ mark other c d q.
      let r = all_mark by state ids mark (contains_has (marks_of (all_set by state ids)) mark c) in
      let t = all_mark by state ids other (contains_has (marks_of (all_set by state ids)) other d) in
      ap (λ (m : Mark). m.state) (sym t.2) ∙ ap (λ (m : Mark). m.state) r.2;
  links = λ link c. absurd (no_link by state ids link (contains_has (links_of (all_set by state ids)) link c));
  offsets = λ set c. absurd (no_offset by state ids set (contains_has (offsets_of (all_set by state ids)) set c));
  slots = λ slot c. absurd (no_slot by state ids slot (contains_has (slots_of (all_set by state ids)) slot c));
}

pub committed_law : CommittedKeeps
committed_law start seen bank by ids there given durable tree only =
    changes_law start seen (xact_lock bank) by (all_set by states.Committed ids) (all_may start seen bank by states.Committed ids there (λ id c. record {
      page = there.made id c;
      durable = durable id c;
      tree = tree id c;
      given = given id c;
      asked = inl refl;
      unrecorded = tt;
      final = λ old j q. only id old c j q;
    }))

pub sub_committed_law : SubCommittedKeeps
sub_committed_law start seen bank by ids there given durable only =
    changes_law start seen (xact_lock bank) by (all_set by states.SubCommitted ids) (all_may start seen bank by states.SubCommitted ids there (λ id c. record {
      page = there.made id c;
      durable = durable id c;
      tree = tt;
      given = given id c;
      asked = inl refl;
      unrecorded = tt;
      final = λ old j q. only id old c j q;
    }))

pub aborted_law : AbortedKeeps
aborted_law start seen bank by ids there given unrecorded only =
    changes_law start seen (xact_lock bank) by (all_set by states.Aborted ids) (all_may start seen bank by states.Aborted ids there (λ id c. record {
      page = there.made id c;
      durable = tt;
      tree = tt;
      given = given id c;
      asked = inl refl;
      unrecorded = λ same top subs a j. unrecorded id top subs c a j;
      final = λ old j q. only id old c j q;
    }))

pub parent_law : ParentKeeps
parent_law start seen bank by id parent within lock made sub =
    let link : Link = record { caller = by; id = id; parent = parent } in
    changes_law start seen (subtrans_lock bank) by (changes.Parent by id parent ∷ []) (record {
      on = record { bank = record { from = omega arith; to = omega arith }; pages = (lock, tt) };
      marks = λ mark c. absurd (contains_has [] mark c);
      alike = λ mark other c d q. absurd (contains_has [] mark c);
      links = λ other c.
          ⊎_elim
          (λ (q : link ≡ other). subst (λ (l : Link). MayLink start seen (at seen (subtrans_lock bank)) l) q (record { page = made; sub = sub }))
          (λ z. absurd z)
          (contains_has (link ∷ []) other c);
      offsets = λ set c. absurd (contains_has [] set c);
      slots = λ slot c. absurd (contains_has [] slot c);
    })
