-- The pages of an open id aren't cut, nor are those of an id that isn't before the horizons.
use Rattle.std.proofs.Common.{◌≡◌, ◌⊎◌, ⊎_elim, ℕ, ◌+◌, ◌*◌, ◌/◌, ◌^◌, ◌≤◌, ◌<◌, List, Bool, false, IsTrue, Contains, None, length, refl, sym, ap, subst, ◌∙◌, map, take, drop, arith}
use Rattle.std.proofs.lemmas.Bool.{false≢true}
use Rattle.std.proofs.lemmas.List.{take-append-drop}
use Rattle.notes.specs.Lists.{Grows, at}
use Rattle.tx_events.specs.declared.event.Event.{Event}
use Rattle.tx_events.specs.Base.{IsBase}
use Rattle.tx_events.specs.Events.{given_to}
use Rattle.tx_events.specs.Families.{top}
use Rattle.tx_events.specs.History.{IsLegal, next_given}
use Rattle.tx_events.specs.Horizon.{LiveSnap, live_snaps, oldest_id, oldest_xmin}
use Rattle.tx_events.specs.Running.{is_open, open_ids, running_tops}
use Rattle.tx_events.specs.Snapshots.{snapshot_xmax, snapshot_xmin}
use Rattle.tx_events.proofs.Extremes.{fold_min_has, fold_min_start}
use Rattle.tx_events.proofs.GivenIds.{given_to_given, open_below, open_given}
use Rattle.tx_events.proofs.Horizons.{xmin_at}
use Rattle.tx_events.proofs.Lineages.{top_in}
use Rattle.tx_events.proofs.Membership.{contains_has, has_filter}
use Rattle.tx_events.proofs.SnapshotBounds.{top_runs}
use Rattle.tx_events.proofs.Trees.{family}
use Rattle.tx_core.specs.declared.entry.Entry.{Entry}
use Rattle.tx_core.specs.declared.entry.Start.{Start}
use Rattle.tx_core.specs.EngineInvariant.{EngineInvariant}
use Rattle.tx_core.specs.Entries.{event_of, history}
use Rattle.tx_core.specs.Locks.{subtrans_lock, subtrans_page, xact_lock, xact_page}
use Rattle.tx_core.specs.PagesBeforeIds.{IsIdOf}
use Rattle.tx_core.proofs.Lasting.{history_grows}
use Rattle.tx_core.proofs.Rising.{given_more}
use Rattle.tx_core.proofs.Cutting.{cut_says, states_kept}
use Rattle.tx_core.proofs.HorizonLaws.{positive}
use Rattle.tx_core.proofs.OpenKept.{open_kept}
use Rattle.tx_events.specs.Ids.{id_before, low_half}
use Rattle.tx_events.specs.PageOrder.{Ids, is_cut}
use Rattle.tx_events.specs.PageWindow.{id_is_kept, parent_is_kept}
use Rattle.store_pages.specs.Layouts.{word_page_of, xact_page_of}
use Rattle.engine_parts.specs.declared.session.Session.{Session}
use Rattle.engine_parts.specs.Holds.{Knowledge, Leaves}
use Rattle.engine_parts.specs.Sessions.{IsAt}
use Rattle.engine_parts.specs.Stand.{IsCutoff, first_subtrans_page, first_xact_page}
use Rattle.engine_parts.proofs.Leaving.{history_same}
use Rattle.bank_sections.proofs.Nearing.{AreIdsNear}
use Rattle.bank_sections.proofs.Given.{given_full}

-- an open id is from the next one of the base on, and before the next one
record IsOpenNear (start : Start) (lists : List (List Entry)) (x : ℕ) : Type 0 where
  from : start.base.next ≤ x
  to : x < next_given start.base.next (history lists)

open_near : (start : Start) (lists : List (List Entry)) (n x : ℕ) → IsBase start.base → EngineInvariant start lists → Contains (open_ids n (history lists)) x → IsOpenNear start lists x
open_near start lists n x base k opened = record {
  from = (given_full start.base (history lists) k.events.legal base.full x (open_given n (history lists) x (contains_has (open_ids n (history lists)) x opened))).1;
  to = open_below start.base (history lists) n x k.events.legal opened;
}

-- a page from that of an id to that of x is that of an id between them
record IsIdOn (per_page page oldest x : ℕ) : Type 0 where
  id : ℕ
  on : id / per_page ≡ page
  from : oldest ≤ id
  to : id ≤ x

xact_on : (page oldest x : ℕ) → xact_page oldest ≤ page → page ≤ xact_page x → oldest ≤ x → IsIdOn 32768 page oldest x
xact_on page oldest x low high le = ⊎_elim
    (λ (q : xact_page oldest ≡ page). record { id = oldest; on = q; from = omega arith; to = le })
    (λ (l : xact_page oldest < page). record { id = page * 32768; on = omega arith; from = omega arith; to = omega arith })
    (either (xact_page oldest) page low)
  where
    either : (a b : ℕ) → a ≤ b → (a ≡ b) ⊎ (a < b)
    either a b le = grind arith

subtrans_on : (page oldest x : ℕ) → subtrans_page oldest ≤ page → page ≤ subtrans_page x → oldest ≤ x → IsIdOn 2048 page oldest x
subtrans_on page oldest x low high le = ⊎_elim
    (λ (q : subtrans_page oldest ≡ page). record { id = oldest; on = q; from = omega arith; to = le })
    (λ (l : subtrans_page oldest < page). record { id = page * 2048; on = omega arith; from = omega arith; to = omega arith })
    (either (subtrans_page oldest) page low)
  where
    either : (a b : ℕ) → a ≤ b → (a ≡ b) ⊎ (a < b)
    either a b le = grind arith

-- the page of an id that isn't before the announced oldest one
pub xact_uncut : (start : Start) (lists : List (List Entry)) (bank x cutoff : ℕ) → IsBase start.base → EngineInvariant start lists → IsCutoff (first_xact_page start) (2 ^ 17) (at lists (xact_lock bank)) cutoff → start.base.next ≤ x → x ≤ next_given start.base.next (history lists) → oldest_id start.base.oldest (history lists) ≤ x → AreIdsNear start lists
    → is_cut Ids 32768 cutoff (xact_page_of x) ≡ false
xact_uncut start lists bank x cutoff base k c from to kept near =
    let low = base.oldest in
    let upto : c.0 ≤ xact_page x = ⊎_elim
    (λ (q : c.0 ≡ xact_page start.base.oldest). omega arith)
    (λ e. let s = states_kept start lists bank c.0 e.0 k e.1 e.2 in omega arith)
    c.3 in
    let i = xact_on c.0 start.base.oldest x c.2 upto (omega arith) in
    let on = i.on in
    let above = i.from in
    let is : cutoff ≡ low_half i.id / 32768 = let q = c.1 in omega arith in
    subst (λ z. is_cut Ids 32768 z (xact_page_of x) ≡ false) (sym is) (id_is_kept i.id x i.to (omega arith))

pub state_uncut : (start : Start) (lists : List (List Entry)) (n bank x cutoff : ℕ) → IsBase start.base → EngineInvariant start lists → IsCutoff (first_xact_page start) (2 ^ 17) (at lists (xact_lock bank)) cutoff → Contains (open_ids n (history lists)) x → AreIdsNear start lists → is_cut Ids 32768 cutoff (xact_page_of x) ≡ false
state_uncut start lists n bank x cutoff base k c opened near =
    let o = open_near start lists n x base k opened in
    let to = o.to in
    xact_uncut start lists bank x cutoff base k c o.from (omega arith) (open_kept start lists n x k base opened) near

-- the oldest xmin is not past an open id
open_past : (start : Start) (lists : List (List Entry)) (n x : ℕ) → EngineInvariant start lists → Contains (open_ids n (history lists)) x → oldest_xmin start.base.next (history lists) ≤ x
open_past start lists n x k opened =
    let h = history lists in
    let o = has_filter (is_open h) (given_to n h) x (contains_has (open_ids n h) x opened) in
    let f = family start.base h k.events.legal x (given_to_given n h x o.0) in
    let low : top h x ≤ x = f.below (top h x) (top_in h x) in
    let runs : snapshot_xmin start.base.next h ≤ top h x = fold_min_has (snapshot_xmax start.base.next h) (running_tops h) (top h x) (top_runs h x f o.1) in
    let xmin : oldest_xmin start.base.next h ≤ snapshot_xmin start.base.next h = fold_min_start (snapshot_xmin start.base.next h) (map (λ (s : LiveSnap). s.xmin) (live_snaps start.base.next h)) in omega arith

before_upto : (n : ℕ) → id_before n ≤ n
before_upto n = grind arith

before_near : (n : ℕ) → n ≤ id_before n + 4
before_near n = grind arith

-- the page of an id that isn't before the oldest xmin
pub subtrans_uncut : (start : Start) (lists : List (List Entry)) (bank x cutoff : ℕ) → IsBase start.base → EngineInvariant start lists → IsCutoff (first_subtrans_page start) (2 ^ 21) (at lists (subtrans_lock bank)) cutoff → start.base.next ≤ x → x ≤ next_given start.base.next (history lists) → oldest_xmin start.base.next (history lists) ≤ x → AreIdsNear start lists
    → is_cut Ids 2048 cutoff (word_page_of x) ≡ false
subtrans_uncut start lists bank x cutoff base k c from to past near =
    let h = history lists in
    let low = base.oldest in
    let first = id_before start.base.next in
    let under = before_upto start.base.next in
    let near_next = before_near start.base.next in
    let upto : c.0 ≤ subtrans_page x = ⊎_elim
    (λ (q : c.0 ≡ first_subtrans_page start). omega arith)
    (λ e.
    let cut = (cut_says start lists (subtrans_lock bank) c.0 e.0 k e.1 e.2).subtrans bank refl in
    let split = take-append-drop cut.0 h in
    let then : oldest_xmin start.base.next (take cut.0 h) ≤ oldest_xmin start.base.next h = subst (λ t. oldest_xmin start.base.next (take cut.0 h) ≤ oldest_xmin start.base.next t) split (xmin_at start.base (take cut.0 h) (drop cut.0 h) (subst (IsLegal start.base) (sym split) k.events.legal) base.full (positive start.base.next base.full)) in
    let below = before_upto (oldest_xmin start.base.next (take cut.0 h)) in
    let page = cut.2 in omega arith)
    c.3 in
    let i = subtrans_on c.0 first x c.2 upto (omega arith) in
    let on = i.on in
    let above = i.from in
    let is : cutoff ≡ low_half i.id / 2048 = let q = c.1 in omega arith in
    subst (λ z. is_cut Ids 2048 z (word_page_of x) ≡ false) (sym is) (parent_is_kept i.id x i.to (omega arith))

pub parent_uncut : (start : Start) (lists : List (List Entry)) (n bank x cutoff : ℕ) → IsBase start.base → EngineInvariant start lists → IsCutoff (first_subtrans_page start) (2 ^ 21) (at lists (subtrans_lock bank)) cutoff → Contains (open_ids n (history lists)) x → AreIdsNear start lists → is_cut Ids 2048 cutoff (word_page_of x) ≡ false
parent_uncut start lists n bank x cutoff base k c opened near =
    let o = open_near start lists n x base k opened in
    let to = o.to in
    subtrans_uncut start lists bank x cutoff base k c o.from (omega arith) (open_past start lists n x k opened) near

-- what isn't cut isn't refused as cut
pub cut_refused : (b : Bool) → b ≡ false → IsTrue b → ⊥
cut_refused b q t = false≢true (sym q ∙ t)

-- the ids were near before an entry without an event
pub near_before : (start : Start) (u w : Knowledge) (lock : ℕ) (e : Entry) → event_of e ≡ None → lock < length u.seen → Leaves start lock e u w → AreIdsNear start w.seen → AreIdsNear start u.seen
near_before start u w lock e none inside l near = subst (λ (h : List Event). next_given start.base.next h + 2 ^ 16 < start.base.oldest + 2 ^ 31) (history_same start u w lock e none inside l) near

-- within a lock, an id of the session's open ones is open
pub still_open : (start : Start) (u : Knowledge) (n n' id : ℕ) (s s' : Session) → IsAt start u n' s' → s' ≡ s → n' ≡ n → Contains s.levels.open_ids.items id → Contains (open_ids n (history u.seen)) id
still_open start u n n' id s s' a same number c =
    let all : open_ids n (history u.seen) ≡ s.levels.open_ids.items = subst (λ z. open_ids z (history u.seen) ≡ s.levels.open_ids.items) number (a.stands.opened ∙ ap (λ (z : Session). z.levels.open_ids.items) same) in
    subst (λ (t : List ℕ). Contains t id) (sym all) c

-- an id that was given or came next, as others go on
pub id_later : (start : Start) (lists more : List (List Entry)) (id : ℕ) → Grows lists more → IsIdOf start lists id → IsIdOf start more id
id_later start lists more id g is = let rises = given_more start.base (history lists) (history more) (history_grows lists more g) in let le = is.1 in (is.0, omega arith)
