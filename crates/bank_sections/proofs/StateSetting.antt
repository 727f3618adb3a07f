-- States are set of a session's open ids.
use Rattle.std.proofs.Common.{zero, suc, ◌≡◌, inl, inr, ⊎_elim, ℕ, ◌-◌, ◌≤◌, ◌<◌, List, [], ◌∷◌, ◌++◌, take, drop, Contains, IsTrue, Some, refl, sym, ap, subst, ◌∙◌, length, slice_index, arith}
use Rattle.std.specs.List.{slice_range}
use Rattle.std.proofs.lemmas.List.{take-append-drop}
use Rattle.std.proofs.lemmas.Grind.{flat_map-append}
use Rattle.disk_core.specs.declared.page_disk.PageDisk as disks
use Rattle.store_pages.specs.declared.page_rule.PageRule as rules
use Rattle.store_pages.specs.Layouts.{xact_page_of}
use Rattle.slru_bank.specs.Changes.{SetsStates, ShareAPage}
use Rattle.slru_bank.specs.declared.bank.SlruBank.{SlruBank}
use Rattle.slru_bank.specs.Calls.{CrashKeeps, cutoff_of, faults_of, last_page, pages_of}
use Rattle.notes.specs.Lists.{Knows, at}
use Rattle.notes.proofs.Growing.{begins_same}
use Rattle.tx_events.specs.declared.event.By.{By}
use Rattle.tx_events.specs.Base.{IsBase}
use Rattle.tx_events.specs.Events.{given_to}
use Rattle.tx_events.specs.Running.{is_open, open_ids}
use Rattle.tx_events.proofs.GivenIds.{open_given}
use Rattle.tx_events.proofs.Membership.{Has, contains_has, has_contains, has_filter, has_left, has_right, has_take}
use Rattle.tx_core.specs.declared.entry.Entry.{Entry}
use Rattle.tx_core.specs.declared.entry.Kind.TheVariants as kinds
use Rattle.tx_core.specs.declared.entry.Start.{Start}
use Rattle.tx_core.specs.declared.entry.State.{State}
use Rattle.tx_core.specs.declared.entry.State.TheVariants as states
use Rattle.tx_core.specs.AbortRule.{AskUnrecorded, Asks}
use Rattle.tx_core.specs.EngineInvariant.{EngineInvariant}
use Rattle.tx_core.specs.Entries.{IsMarked, Mark, asks_in, history, marks, marks_in, session_of}
use Rattle.tx_core.specs.Laws.{AreThere, IsOnly, all_set}
use Rattle.tx_core.specs.Locks.{xact_lock, xact_lock_of, xact_page}
use Rattle.tx_core.specs.LogBeforeStatus.{RecordOf, TreeOf}
use Rattle.tx_core.specs.ProgramOrder.{IsInTurn}
use Rattle.tx_core.proofs.ChangeLaws.{aborted_law, committed_law, sub_committed_law}
use Rattle.tx_core.proofs.Lasting.{logged_lasting, tree_lasting}
use Rattle.tx_core.proofs.Stepping.{asks_cases, own_appended, own_asks}
use Rattle.engine_parts.specs.Course.{HasCourse, Marked}
use Rattle.engine_parts.specs.Holds.{Enters, Knowledge, Leaves}
use Rattle.engine_parts.specs.Law.{MayKeep}
use Rattle.engine_parts.specs.Parts.{IsXactOf}
use Rattle.engine_parts.specs.declared.session.Session.{Session}
use Rattle.engine_parts.specs.Sessions.{IsAt, by_at}
use Rattle.engine_parts.specs.Stand.{number_of_state}
use Rattle.engine_parts.proofs.Leaving.{grows_then}
use Rattle.engine_parts.proofs.Setting.{xact_set}
use Rattle.bank_sections.specs.Sets.{AsksOnly, MaySet}
use Rattle.bank_sections.proofs.Given.{given_full, open_made}
use Rattle.tx_core.specs.FaultsRise.{count_in, faults_at}
use Rattle.tx_core.proofs.LastNumbers.{number_same}
use Rattle.bank_sections.proofs.Making.{base_near}

abbrev pub set_entry : By → State → List ℕ → Entry
set_entry by state ids = record { by = by; kind = kinds.Set (all_set by state ids) }

-- ---- what may be set may be set later

knows_same : (n : ℕ) (lists : List (List Entry)) → Knows session_of n lists lists
knows_same n lists = record { grows = record { begins = λ q. begins_same (at lists q) }; own = λ q. refl }

knows_then : (n : ℕ) (a b c : List (List Entry)) → Knows session_of n a b → Knows session_of n b c → Knows session_of n a c
knows_then n a b c f g = record { grows = grows_then a b c f.grows g.grows; own = λ q. g.own q ∙ f.own q }

unrecorded_later : (n : ℕ) (seen lists : List (List Entry)) (id : ℕ) (state : State) → Knows session_of n seen lists → AskUnrecorded seen n n id state → AskUnrecorded lists n n id state
unrecorded_later n seen lists id states.Committed knows u = tt
unrecorded_later n seen lists id states.SubCommitted knows u = tt
unrecorded_later n seen lists id states.Aborted knows u = λ own top subs a among. u own top subs (own_appended n seen lists _ knows a) among

may_set_later : (start : Start) (seen lists : List (List Entry)) (n bank : ℕ) (ids : List ℕ) (state : State) → Knows session_of n seen lists → MaySet start seen n bank ids state → MaySet start lists n bank ids state
may_set_later start seen lists n bank ids state knows m = record {
  page = m.page;
  share = m.share;
  here = m.here;
  logged = λ id c. ((logged_lasting start).stays seen lists (xact_lock bank) [] (set_entry (by_at n 0) state (id ∷ [])) knows.grows (m.logged id c, tt)).0;
  tree = λ id c. ((tree_lasting start).stays seen lists (xact_lock bank) [] (set_entry (by_at n 0) state (id ∷ [])) knows.grows (m.tree id c, tt)).0;
  unrecorded = λ id c. unrecorded_later n seen lists id state knows (m.unrecorded id c);
  only = λ more k on. m.only more k (knows_then n seen lists more knows on);
}

-- ---- the law

open_to : (n : ℕ) (lists : List (List Entry)) (ids : List ℕ) → ((id : ℕ) → Contains ids id → Contains (open_ids n (history lists)) id) → (id : ℕ) → Contains ids id → Contains (given_to n (history lists)) id
open_to n lists ids opened id c = has_contains (given_to n (history lists)) id (has_filter (is_open (history lists)) (given_to n (history lists)) id (contains_has (open_ids n (history lists)) id (opened id c))).0

pub may_set : (start : Start) (seen : List (List Entry)) (n command bank : ℕ) (ids : List ℕ) (state : State) (e : Entry) → e ≡ set_entry (by_at n command) state ids → bank < start.banks → EngineInvariant start seen → ((id : ℕ) → Contains ids id → Contains (open_ids n (history seen)) id) → MaySet start seen n bank ids state → IsInTurn start (at seen (xact_lock bank)) (by_at n command)
    → MayKeep start seen (xact_lock bank) e
may_set start seen n command bank ids state e is inside k opened m turn = subst (MayKeep start seen (xact_lock bank)) (sym is) (law state m.logged m.tree m.unrecorded (m.only seen k (knows_same n seen)))
  where
    there : AreThere start seen bank ids
    there = record { inside = inside; lock = m.here; made = λ id c. open_made start seen n bank id k (opened id c) (m.here id c) }

    law : (s : State) → ((id : ℕ) → Contains ids id → RecordOf start seen n id s) → ((id : ℕ) → Contains ids id → TreeOf start seen n id s) → ((id : ℕ) → Contains ids id → AskUnrecorded seen n n id s) → IsOnly start seen bank ids s → MayKeep start seen (xact_lock bank) (set_entry (by_at n command) s ids)
    law states.Committed logged tree unrecorded only = λ lists j knows within whole. committed_law start seen bank (by_at n command) ids there (open_to n seen ids opened) logged tree only lists j knows within whole turn
    law states.SubCommitted logged tree unrecorded only = λ lists j knows within whole. sub_committed_law start seen bank (by_at n command) ids there (open_to n seen ids opened) logged only lists j knows within whole turn
    law states.Aborted logged tree unrecorded only = λ lists j knows within whole. aborted_law start seen bank (by_at n command) ids there (open_to n seen ids opened) (λ id top subs c a among. unrecorded id c refl top subs a among) only lists j knows within whole turn

-- ---- what was set stands

set_has : (by : By) (state : State) (ids : List ℕ) (id : ℕ) → Has ids id → Has (marks_in (set_entry by state ids)) (record { caller = by; id = id; state = state })
set_has by state [] id h = absurd h
set_has by state (x ∷ xs) id h = ⊎_elim (λ (q : x ≡ id). inl (ap (λ z. record { caller = by; id = z; state = state }) q)) (λ t. inr (set_has by state xs id t)) h

pub set_stands : (start : Start) (before after : List (List Entry)) (bank : ℕ) (by : By) (ids : List ℕ) (state : State) (e : Entry) → e ≡ set_entry by state ids → at after (xact_lock bank) ≡ at before (xact_lock bank) ++ e ∷ [] → ((id : ℕ) → Contains ids id → xact_lock_of start id ≡ xact_lock bank) → (id : ℕ) → Contains ids id → IsMarked start after id state
set_stands start before after bank by ids state e is left here id c =
    let mark : Mark = record { caller = by; id = id; state = state } in
    let es = at before (xact_lock bank) in
    let grown : at after (xact_lock bank) ≡ es ++ set_entry by state ids ∷ [] = left ∙ ap (λ (f : Entry). es ++ f ∷ []) is in
    (by, subst (λ (z : ℕ). Contains (marks (at after z)) mark) (sym (here id c)) (subst (λ (t : List Entry). Contains (marks t) mark) (sym grown) (marks_push es (set_entry by state ids) mark (set_has by state ids id (contains_has ids id c)))))
  where
    marks_push : (es : List Entry) (e : Entry) (mark : Mark) → Has (marks_in e) mark → Contains (marks (es ++ e ∷ [])) mark
    marks_push es e mark h = subst (λ (t : List Mark). Contains t mark) (sym (flat_map-append marks_in es (e ∷ []))) (has_contains (marks es ++ (marks_in e ++ [])) mark (has_right (marks es) (marks_in e ++ []) mark (has_left (marks_in e) [] mark h)))

-- ---- what was asked for

asked_among : (by : By) (state : State) (ids : List ℕ) (m : Mark) → Has (asks_in (set_entry by state ids)) m → Contains ids m.id × (m.state ≡ state)
asked_among by state ids m h = let a = go ids h in (has_contains ids m.id a.0, a.1)
  where
    go : (ids : List ℕ) → Has (asks_in (set_entry by state ids)) m → Has ids m.id × (m.state ≡ state)
    go [] h = absurd h
    go (x ∷ xs) h = ⊎_elim (λ (q : record { caller = by; id = x; state = state } ≡ m). (inl (ap (λ (z : Mark). z.id) q), sym (ap (λ (z : Mark). z.state) q))) (λ t. let r = go xs t in (inr r.0, r.1)) h

pub asks_only : (start : Start) (v u w : Knowledge) (n lock : ℕ) (by : By) (ids : List ℕ) (state : State) (e : Entry) → v.name ≡ n → Enters start lock v u → lock < length v.seen → e ≡ set_entry by state ids → Leaves start lock e u w → AsksOnly n ids state v.seen w.seen
asks_only start v u w n lock by ids state e name entered inside is l id asked a =
    let long = entered.learns.long in
    let knows : Knows session_of n v.seen u.seen = subst (λ z. Knows session_of z v.seen u.seen) name entered.learns.knows in
    ⊎_elim (λ (old : Asks u.seen n id asked). inl (own_asks n id asked v.seen u.seen knows old))
    (λ new. inr (asked_among by state ids (record { caller = new.1; id = id; state = asked }) (subst (λ (f : Entry). Has (asks_in f) (record { caller = new.1; id = id; state = asked })) is new.3)))
    (asks_cases u.seen lock e n id asked (omega arith) (subst (λ (ls : List (List Entry)). Asks ls n id asked) l.seen a))

-- ---- the bank

index_has : (xs : List ℕ) (j : ℕ) → j < length xs → Has xs (slice_index xs j)
index_has [] j within = absurd (omega arith)
index_has (x ∷ xs) zero within = inl refl
index_has (x ∷ xs) (suc j) within = inr (index_has xs j (omega arith))

pub index_in : (xs : List ℕ) (j : ℕ) → j < length xs → Contains xs (slice_index xs j)
index_in xs j within = has_contains xs (slice_index xs j) (index_has xs j within)

-- ids of one page are stored on one
pub share_stored : (ids : List ℕ) (page : ℕ) → ((id : ℕ) → Contains ids id → xact_page id ≡ page) → ShareAPage ids
share_stored ids page each j within = same (slice_index ids j) (slice_index ids 0) (each (slice_index ids j) (index_in ids j within) ∙ sym (each (slice_index ids 0) (index_in ids 0 (omega arith))))
  where
    same : (a b : ℕ) → xact_page a ≡ xact_page b → xact_page_of a ≡ xact_page_of b
    same a b q = omega arith

module _ {P O : Type 0} {g : disks.Ghosts P} {r : rules.Ghosts O} where
  pub stands_set : (start : Start) (lists : List (List Entry)) (n bank : ℕ) (old new : SlruBank P O g r) (by : By) (ids : List ℕ) (state : State) (number : ℕ) (e : Entry) → IsBase start.base → EngineInvariant start lists → e ≡ set_entry by state ids → 1 ≤ length ids → ((id : ℕ) → Contains ids id → Contains (open_ids n (history lists)) id) → MaySet start lists n bank ids state
      → number ≡ number_of_state (Some state) → last_page new ≡ last_page old → cutoff_of new ≡ cutoff_of old → faults_of old ≤ faults_of new → (IsTrue g.tells → SetsStates ids (length ids) number (pages_of old) (pages_of new)) → CrashKeeps old new
      → IsXactOf start bank old (at lists (xact_lock bank)) → IsXactOf start bank new (at lists (xact_lock bank) ++ e ∷ [])
  stands_set start lists n bank old new by ids state number e base k is some opened m number_is last cutoff count sets crash s =
      let es : List Entry = at lists (xact_lock bank) in
      let share : ShareAPage ids = share_stored ids m.page m.share in
      let set : IsTrue g.tells → SetsStates ids (length ids) (number_of_state (Some state)) (pages_of old) (pages_of new) = λ told. subst (λ z. SetsStates ids (length ids) z (pages_of old) (pages_of new)) number_is (sets told) in
      subst (λ (f : Entry). IsXactOf start bank new (es ++ f ∷ [])) (sym is)
      (xact_set start bank (faults_of old) (faults_of new) (last_page old) (last_page new) (cutoff_of old) (cutoff_of new) g.tells (pages_of old) (pages_of new) (HasCourse start bank old) (HasCourse start bank new) es by state ids s last cutoff (base_near start base)
      (λ j within.
      let c = index_in ids j within in
      let o = opened (slice_index ids j) c in
      let f = given_full start.base (history lists) k.events.legal base.full (slice_index ids j) (open_given n (history lists) (slice_index ids j) (contains_has (open_ids n (history lists)) (slice_index ids j) o)) in
      let from = f.1 in
      let oldest = base.oldest in
      (open_made start lists n bank (slice_index ids j) k o (m.here (slice_index ids j) c), f.0, omega arith))
      share
      (let a = number_same count_in (faults_at start (xact_lock bank)) es (set_entry by state ids) refl in let c = s.count in omega arith)
      set
      (λ told went.
      let marked : Marked start old new es (es ++ set_entry by state ids ∷ []) = record {
        by = by;
        state = state;
        ids = ids;
        entries = refl;
        some = some;
        share = share;
        made = λ id c. open_made start lists n bank id k (opened id c) (m.here id c);
        pages = set told;
        last = last;
        cutoff = cutoff;
        crash = crash;
      } in
      (suc went.0, (old, es, went.1, inr (inr (inr (inl marked)))))))

-- an id of a part of the open ids is open
range_open : (n first past : ℕ) (lists : List (List Entry)) (opened part : List ℕ) → part ≡ slice_range opened first past → open_ids n (history lists) ≡ opened → (id : ℕ) → Contains part id → Contains (open_ids n (history lists)) id
range_open n first past lists opened part is all id c =
    let in_part : Has (slice_range opened first past) id = subst (λ (t : List ℕ). Has t id) is (contains_has part id c) in
    let in_rest : Has (drop first opened) id = has_take (past - first) (drop first opened) id in_part in
    let in_all : Has opened id = subst (λ (t : List ℕ). Has t id) (take-append-drop first opened) (has_right (take first opened) (drop first opened) id in_rest) in
    subst (λ (t : List ℕ). Contains t id) (sym all) (has_contains opened id in_all)

-- within the lock, a part of the open ids that may get the state
pub record IsSettable (start : Start) (lists : List (List Entry)) (n bank : ℕ) (ids part : List ℕ) (state : State) : Type 0 where
  pub is : part ≡ ids
  pub may : MaySet start lists n bank part state
  pub opened : (id : ℕ) → Contains part id → Contains (open_ids n (history lists)) id

pub settable : (start : Start) (v u : Knowledge) (n n' lock bank first past : ℕ) (s s' : Session) (part : List ℕ) (state : State) → v.name ≡ n → Enters start lock v u → IsAt start u n' s' → s' ≡ s → n' ≡ n → part ≡ slice_range s'.levels.open_ids.items first past → MaySet start v.seen n bank (slice_range s.levels.open_ids.items first past) state
    → IsSettable start u.seen n bank (slice_range s.levels.open_ids.items first past) part state
settable start v u n n' lock bank first past s s' part state name entered a same number part_is m =
    let items : s'.levels.open_ids.items ≡ s.levels.open_ids.items = ap (λ (z : Session). z.levels.open_ids.items) same in
    let is : part ≡ slice_range s.levels.open_ids.items first past = part_is ∙ ap (λ (xs : List ℕ). slice_range xs first past) items in
    let knows : Knows session_of n v.seen u.seen = subst (λ z. Knows session_of z v.seen u.seen) name entered.learns.knows in
    let all : open_ids n (history u.seen) ≡ s.levels.open_ids.items = subst (λ z. open_ids z (history u.seen) ≡ s.levels.open_ids.items) number (a.stands.opened ∙ items) in record {
      is = is;
      may = subst (λ (xs : List ℕ). MaySet start u.seen n bank xs state) (sym is) (may_set_later start v.seen u.seen n bank (slice_range s.levels.open_ids.items first past) state knows m);
      opened = range_open n first past u.seen s.levels.open_ids.items part is all;
    }

positive : (n : ℕ) → 0 < suc n
positive n = omega arith

-- a part of which some ids are
pub range_some : (xs : List ℕ) (first past : ℕ) → first < past → past ≤ length xs → 0 < length (slice_range xs first past)
range_some [] first past lt le = absurd (omega arith)
range_some (x ∷ xs) zero zero lt le = absurd (omega arith)
range_some (x ∷ xs) zero (suc past) lt le =
    let all : suc past - 0 ≡ suc past = omega arith in
    subst (λ n. 0 < length (take n (x ∷ xs))) (sym all) (positive (length (take past xs)))
range_some (x ∷ xs) (suc first) zero lt le = absurd (omega arith)
range_some (x ∷ xs) (suc first) (suc past) lt le =
    let all : past - first ≡ suc past - suc first = omega arith in
    subst (λ n. 0 < length (take n (drop first xs))) all (range_some xs first past (omega arith) (omega arith))
