-- A parent that was read of a bank is the one that was set.
use Rattle.std.proofs.Common.{◌⊎◌, ◌≡◌, ◌≢◌, ℕ, ◌%◌, ◌≤◌, ◌<◌, ◌==◌, List, [], ◌∷◌, ◌++◌, Bool, true, false, IsTrue, Option, Some, None, cond, refl, sym, ap, subst, ◌∙◌, inl, inr, ⊎_elim, Contains, length, arith, eqb-true}
use Rattle.std.proofs.Math.Seq.{take-length}
use Rattle.disk_core.specs.declared.page_disk.PageDisk as disks
use Rattle.store_pages.specs.declared.page_rule.PageRule as rules
use Rattle.slru_bank.specs.declared.bank.SlruBank.{SlruBank}
use Rattle.slru_bank.specs.Calls.{cutoff_of, pages_of}
use Rattle.std.specs.List.{filter_map, flat_map, last_or}
use Rattle.tx_events.specs.declared.event.By.{By}
use Rattle.tx_events.specs.declared.event.Event.{Event}
use Rattle.tx_events.specs.declared.event.Event.TheVariants as events
use Rattle.tx_events.specs.declared.record.Counters.{Counters}
use Rattle.tx_events.specs.Base.{IsBase}
use Rattle.tx_events.specs.Events.{given}
use Rattle.tx_events.specs.History.{IsLegal, MayCome, next_given}
use Rattle.tx_events.specs.Running.{open_ids}
use Rattle.tx_events.proofs.GivenIds.{legal_front, legal_last, open_below, open_given}
use Rattle.tx_events.proofs.IdOrder.{nth_full}
use Rattle.tx_events.proofs.ListSteps.{eqb-refl}
use Rattle.tx_events.proofs.Membership.{Has, by_end, contains_has, has_contains, has_cases, has_flat_map, has_filter_map}
use Rattle.tx_events.specs.Ids.{IsFullId, low_half}
use Rattle.store_pages.specs.Layouts.{number_in, word_page_of, word_place_of}
use Rattle.tx_events.specs.PageOrder.{Ids, is_cut}
use Rattle.tx_core.specs.declared.entry.Entry.{Entry}
use Rattle.tx_core.specs.declared.entry.Start.{Start}
use Rattle.tx_core.specs.EngineInvariant.{EngineInvariant}
use Rattle.tx_core.specs.Entries.{IsLinked, Link, history, links_in}
use Rattle.notes.specs.Lists.{at}
use Rattle.tx_core.specs.Locks.{subtrans_lock, subtrans_lock_of}
use Rattle.tx_core.specs.Pages.{parent_for, parent_read}
use Rattle.tx_core.specs.ParentsFollow.{IsGivenBelow, NeedsSubs}
use Rattle.tx_core.proofs.Asking.{sub_of, upheld_has}
use Rattle.tx_core.proofs.PageShowing.{parents_show}
use Rattle.tx_core.proofs.Reading.{last_has}
use Rattle.tx_events.specs.declared.order.Xid.{Xid}
use Rattle.bank_stores.specs.Parents.{parent_of}
use Rattle.bank_sections.specs.Reads.{IsParentNear, IsParentOf, IsParentRead}
use Rattle.bank_sections.proofs.Given.{filter_map_has, given_full}
use Rattle.engine_parts.specs.Parts.{IsSubtransOf}
use Rattle.bank_sections.proofs.Nearing.{subtrans_near}
use Rattle.engine_parts.specs.Stand.{AreSubtransPagesNear, IsInUse, number_of_parent, subtrans_pages}

-- an id that was given below a parent
pub record IsBelow (base : Counters) (parent x : ℕ) : Type 0 where
  pub full : IsFullId x
  pub parent_full : IsFullId parent
  pub from : base.next ≤ parent
  pub below : parent < x

push_has : (h : List Event) (e x : Event) → Has (h ++ e ∷ []) x → Has h x ⊎ (e ≡ x)
push_has h e x k = ⊎_elim inl (λ z. ⊎_elim inr (λ y. absurd y) z) (has_cases h (e ∷ []) x k)

sub_below : (base : Counters) (h : List Event) → IsLegal base h → IsFullId base.next → (by : By) (parent x : ℕ) → Has h (events.Sub by parent x) → IsBelow base parent x
sub_below base h legal full = by_end (λ h. IsLegal base h → (by : By) (parent x : ℕ) → Has h (events.Sub by parent x) → IsBelow base parent x) (λ l by parent x k. absurd k) (λ h e before l by parent x k.
    let front = legal_front base h e l in
    ⊎_elim (λ o. before front by parent x o)
    (λ q.
    let may = subst (λ (z : Event). MayCome base h z) q (legal_last base h e l) in
    let b = open_below base h by.session parent front may.1 in
    let g = given_full base h front full parent (open_given by.session h parent (contains_has (open_ids by.session h) parent may.1)) in
    let next : x ≡ next_given base.next h = may.0.next in
    record { full = subst IsFullId (sym next) (nth_full base.next (length (given h)) full); parent_full = g.0; from = g.1; below = omega arith })
    (push_has h e (events.Sub by parent x) k)) h legal

-- so in the lists
pub given_below_is : (start : Start) (lists : List (List Entry)) (n parent x : ℕ) → IsBase start.base → EngineInvariant start lists → IsGivenBelow lists n parent x → IsBelow start.base parent x
given_below_is start lists n parent x base k below = sub_below start.base (history lists) k.events.legal base.full below.0 parent x (contains_has (history lists) (events.Sub below.0 parent x) below.2)

-- a parent that was set of an id
pub linked_below : (start : Start) (lists : List (List Entry)) (x parent : ℕ) → IsBase start.base → EngineInvariant start lists → IsLinked start lists x parent → IsBelow start.base parent x
linked_below start lists x parent base k linked =
    let lock : ℕ = subtrans_lock_of start x in
    let link : Link = record { caller = linked.0; id = x; parent = parent } in
    let found = has_flat_map links_in (at lists lock) link (contains_has (flat_map links_in (at lists lock)) link linked.1) in
    let sub = sub_of lists lock [] found.0 link (upheld_has NeedsSubs lists lock found.0 k.parents.each found.1).1 found.2 in
    given_below_is start lists linked.0.session parent x base k sub

module _ {A : Type 0} where
  -- an item of what a list says last
  last_some : (o : Option A) (xs : List A) (y : A) → Has xs y → (z : A) × (last_or o xs ≡ Some z)
  last_some o [] y k = absurd k
  last_some o (x ∷ xs) y k = go (Some x) x refl xs
    where
      go : (o : Option A) (x : A) → o ≡ Some x → (ys : List A) → (z : A) × (last_or o ys ≡ Some z)
      go o x e [] = (x, e)
      go o x e (y ∷ ys) = go (Some y) y refl ys

-- what was read as the parent set last was set
pub read_linked : (start : Start) (lists : List (List Entry)) (lock x v : ℕ) → subtrans_lock_of start x ≡ lock → parent_read (flat_map links_in (at lists lock)) x ≡ Some v → IsLinked start lists x v
read_linked start lists lock x v here is =
    let links : List Link = flat_map links_in (at lists lock) in
    ⊎_elim
    (λ (q : None ≡ Some v). absurd cc)
    (λ k.
    let from = has_filter_map (parent_for x) links v k in
    let same = which x from.0 v from.2 in (
      from.0.caller,
      subst (λ z. Contains (flat_map links_in (at lists z)) (record { caller = from.0.caller; id = x; parent = v })) (sym here)
          (subst (λ (l : Link). Contains links l) (λ j. record { caller = from.0.caller; id = same.0 j; parent = same.1 j }) (has_contains links from.0 from.1)),
    ))
    (last_has None (filter_map (parent_for x) links) v is)
  where
    which : (x : ℕ) (link : Link) (v : ℕ) → parent_for x link ≡ Some v → (link.id ≡ x) × (link.parent ≡ v)
    which x link v e =
        let step : (b : Bool) → (link.id == x) ≡ b → cond b (Some link.parent) None ≡ Some v → (link.id ≡ x) × (link.parent ≡ v) = elim [
          | true ↦ λ q g. (eqb-true link.id x q, cc)
          | false ↦ λ q g. absurd cc
        ] in
        step (link.id == x) refl e

pub linked_read : (start : Start) (lists : List (List Entry)) (lock x v : ℕ) → subtrans_lock_of start x ≡ lock → IsLinked start lists x v → (z : ℕ) × (parent_read (flat_map links_in (at lists lock)) x ≡ Some z)
linked_read start lists lock x v here linked =
    let links : List Link = flat_map links_in (at lists lock) in
    let link : Link = record { caller = linked.0; id = x; parent = v } in
    let there : Has links link = contains_has links link (subst (λ z. Contains (flat_map links_in (at lists z)) link) here linked.1) in
    last_some None (filter_map (parent_for x) links) v (filter_map_has (parent_for x) links link v there (ap (λ b. cond b (Some v) None) (eqb-refl x)))

-- what the bytes of a bank say of the parent of an id
record IsShown (start : Start) (lists : List (List Entry)) (x number : ℕ) : Type 0 where
  set : (parent : ℕ) → IsLinked start lists x parent → number ≢ 0
  means : (number ≡ 0) ⊎ ((parent : ℕ) × IsLinked start lists x parent × (number ≡ low_half parent))

module _ {P O : Type 0} {g : disks.Ghosts P} {r : rules.Ghosts O} where
  parent_shown : (start : Start) (lists : List (List Entry)) (bank : ℕ) (store : SlruBank P O g r) (x : ℕ) → IsBase start.base → EngineInvariant start lists → IsSubtransOf start bank store (at lists (subtrans_lock bank)) → subtrans_lock_of start x ≡ subtrans_lock bank → is_cut Ids 2048 (cutoff_of store) (word_page_of x) ≡ false
      → IsTrue g.tells → IsInUse start x → AreSubtransPagesNear start (at lists (subtrans_lock bank)) → IsShown start lists x (number_in (pages_of store (word_page_of x)) (word_place_of x))
  parent_shown start lists bank store x base k s here uncut told used near =
      let es : List Entry = at lists (subtrans_lock bank) in
      let number : ℕ = number_in (pages_of store (word_page_of x)) (word_place_of x) in
      let there = (s.shown told near).each x used (bank_at start x bank here) uncut in
      let shows : (subtrans_pages start es).shows x ≡ parent_read (flat_map links_in es) x =
      subst (λ (t : List Entry). (subtrans_pages start t).shows x ≡ parent_read (flat_map links_in t) x) (take-length es) (parents_show start lists (subtrans_lock bank) (length es) x k) in
      let is : number ≡ number_of_parent (parent_read (flat_map links_in es) x) = there ∙ ap number_of_parent shows in
      record {
        set = λ parent linked zero_is.
            let z = linked_read start lists (subtrans_lock bank) x parent here linked in
            let b = linked_below start lists x z.0 base k (read_linked start lists (subtrans_lock bank) x z.0 here z.1) in
            let f = b.parent_full in let n : number ≡ low_half z.0 = is ∙ ap number_of_parent z.1 in omega arith;
        means = cases (parent_read (flat_map links_in es) x) refl is;
      }
    where
      bank_at : (start : Start) (x bank : ℕ) → subtrans_lock_of start x ≡ subtrans_lock bank → word_page_of x % start.banks ≡ bank
      bank_at start x bank q = omega arith

      cases : (o : Option ℕ) → parent_read (flat_map links_in (at lists (subtrans_lock bank))) x ≡ o → number_in (pages_of store (word_page_of x)) (word_place_of x) ≡ number_of_parent (parent_read (flat_map links_in (at lists (subtrans_lock bank))) x)
          → (number_in (pages_of store (word_page_of x)) (word_place_of x) ≡ 0) ⊎ ((parent : ℕ) × IsLinked start lists x parent × (number_in (pages_of store (word_page_of x)) (word_place_of x) ≡ low_half parent))
      cases None q is = inl (is ∙ ap number_of_parent q)
      cases (Some v) q is = inr (v, read_linked start lists (subtrans_lock bank) x v here q, is ∙ ap number_of_parent q)

-- the parent that the number means near x
parent_is : (start : Start) (lists : List (List Entry)) (x number : ℕ) (found : Option Xid) (o : Option ℕ) → IsBase start.base → EngineInvariant start lists → IsInUse start x → IsShown start lists x number → found ≡ parent_of number → IsParentNear x found o → IsParentOf start lists x o
parent_is start lists x number found None base k used shown is near = λ v linked.
    ⊎_elim
    (λ (z : number ≡ 0). shown.set v linked z)
    (λ r.
    let b = linked_below start lists x r.0 base k r.1 in
    let f = b.parent_full in let l = b.below in let m = b.from in let u = used.2 in let q = r.2 in
    near number (omega arith) (is ∙ not_zero number (omega arith)) r.0 (record { low = sym r.2; not_before = omega arith; not_past = omega arith }))
    shown.means
  where
    not_zero : (n : ℕ) → 3 ≤ n → parent_of n ≡ Some (record { number = n })
    not_zero n le =
        let step : (b : Bool) → (n == 0) ≡ b → parent_of n ≡ Some (record { number = n }) = elim [
          | true ↦ λ q. let z : n ≡ 0 = eqb-true n 0 q in absurd (omega arith)
          | false ↦ λ q. ap (λ b. cond b None (Some (record { number = n }))) q
        ] in
        step (n == 0) refl
parent_is start lists x number found (Some y) base k used shown is near =
    let p : ℕ = near.0 in
    let same : parent_of number ≡ Some (record { number = p }) = sym is ∙ near.1 in
    ⊎_elim
    (λ (z : number ≡ 0). absurd (no_parent (ap parent_of (sym z) ∙ same)))
    (λ r.
    let b = linked_below start lists x r.0 base k r.1 in
    let l = b.below in let m = b.from in let u = used.2 in let q = r.2 in
    let n = near.2 in let nl = n.low in let nb = n.not_before in let np = n.not_past in
    let pn : number ≡ p = which number same in
    let yv : r.0 ≡ y = omega arith in
    subst (λ z. IsLinked start lists x z) yv r.1)
    shown.means
  where
    no_parent : {p : Xid} → None ≡ Some p → ⊥
    no_parent e = cc

    number_or : Option Xid → ℕ
    number_or None = 0
    number_or (Some p) = p.number

    which : {p : ℕ} (n : ℕ) → parent_of n ≡ Some (record { number = p }) → n ≡ p
    which {p = p} n e =
        let step : (b : Bool) → (n == 0) ≡ b → n ≡ p = elim [
          | true ↦ λ q. absurd (no_parent (sym (ap (λ b. cond b None (Some (record { number = n }))) q) ∙ e))
          | false ↦ λ q. ap number_or (sym (ap (λ b. cond b None (Some (record { number = n }))) q) ∙ e)
        ] in
        step (n == 0) refl

module _ {P O : Type 0} {g : disks.Ghosts P} {r : rules.Ghosts O} where
  pub parent_seen : (start : Start) (lists : List (List Entry)) (bank : ℕ) (store : SlruBank P O g r) (x : ℕ) (found : Option Xid) (o : Option ℕ) → IsBase start.base → EngineInvariant start lists → IsSubtransOf start bank store (at lists (subtrans_lock bank)) → subtrans_lock_of start x ≡ subtrans_lock bank → is_cut Ids 2048 (cutoff_of store) (word_page_of x) ≡ false
      → IsTrue g.tells → found ≡ parent_of (number_in (pages_of store (word_page_of x)) (word_place_of x)) → IsParentNear x found o → IsParentRead start lists x o
  parent_seen start lists bank store x found o base k s here uncut told is near used few =
      parent_is start lists x (number_in (pages_of store (word_page_of x)) (word_place_of x)) found o base k used
      (parent_shown start lists bank store x base k s here uncut told used (subtrans_near start lists bank k few)) is near
