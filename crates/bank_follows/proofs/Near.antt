-- Which pages and numbers are near.
use Rattle.std.proofs.Common.{Contains, List, arith, refl, ℕ, ⊎_elim, ◌+◌, ◌++◌, ◌/◌, ◌<◌, ◌^◌, ◌∷◌, [], ◌≡◌, ◌≤◌}
use Rattle.tx_events.specs.declared.event.By.{By}
use Rattle.tx_events.proofs.Membership.{contains_has, has_contains, has_left}
use Rattle.tx_core.specs.declared.entry.Entry.{Entry}
use Rattle.tx_core.specs.declared.entry.Kind.TheVariants as kinds
use Rattle.tx_core.specs.declared.entry.Start.{Start}
use Rattle.tx_core.specs.CleanStart.{IsNear}
use Rattle.tx_core.specs.Locks.{member_page_in_full}
use Rattle.tx_core.specs.PagesBeforeIds.{WasMade}
use Rattle.tx_core.proofs.Nearness.{made_near}
use Rattle.recoverable.specs.MemberImages.{IsNearOffset}
use Rattle.recoverable.specs.OffsetImages.{IsNearMulti}
use Rattle.bank_follows.specs.Cells.{Cells}
use Rattle.bank_follows.specs.Making.{IsGivenPage}
use Rattle.bank_follows.specs.Near.{AreMadeNear, NearOnMade, ShortMakesNear}
use Rattle.bank_follows.specs.Stores.{member_cells, offset_cells, parent_cells, xact_cells}
use Rattle.tx_core.proofs.PageRing.{first_on, member_on}

module _ {I V : Type 0} (s : Cells I V) where
  -- a beginning of the list makes no other pages
  pub near_before : (es : List Entry) (e : Entry) → AreMadeNear s (es ++ e ∷ []) → AreMadeNear s es
  near_before es e near by page c =
      let z : Entry = record { by = by; kind = kinds.Zero page } in
      near by page (has_contains (es ++ e ∷ []) z (has_left es (e ∷ []) z (contains_has es z c)))

  -- the page of the first number was there, each other one was made
  given_page : (es : List Entry) (page : ℕ) → AreMadeNear s es → WasMade es (s.reading.store.page_of s.reading.first) page → IsGivenPage s page
  given_page es page near made = ⊎_elim
      (λ (e : page ≡ s.reading.store.page_of s.reading.first). (s.reading.first, omega arith, omega arith, e))
      (λ (z : (by : By) × Contains es (record { by = by; kind = kinds.Zero page })). near z.0 page z.1)
      made

xact_near : (start : Start) (x id : ℕ) → start.base.next ≤ x → x ≤ start.base.next + 2 ^ 29 → id / 32768 ≡ x / 32768 → IsNear start id
xact_near start x id from to on = record { from = omega arith; to = omega arith }

parent_near : (start : Start) (x id : ℕ) → start.base.next ≤ x → x ≤ start.base.next + 2 ^ 29 → id / 2048 ≡ x / 2048 → IsNear start id
parent_near start x id from to on = record { from = omega arith; to = omega arith }

offset_near : (start : Start) (x multi : ℕ) → start.base.multi ≤ x → x ≤ start.base.multi + 2 ^ 29 → multi / 2048 ≡ x / 2048 → IsNearMulti start multi
offset_near start x multi from to on = record { from = omega arith; to = omega arith }

member_near : (start : Start) (x offset : ℕ) → start.base.offset ≤ x → x ≤ start.base.offset + 2 ^ 29 → member_page_in_full offset ≡ member_page_in_full x → IsNearOffset start offset
member_near start x offset from to on =
    let p : ℕ = member_page_in_full offset in
    let here : (first_on p ≤ offset) × (offset < first_on p + 1636) = member_on offset p refl in
    let there : (first_on p ≤ x) × (x < first_on p + 1636) = member_on x p on in
    within (first_on p) here.0 here.1 there.0 there.1
  where
    within : (a : ℕ) → a ≤ offset → offset < a + 1636 → a ≤ x → x < a + 1636 → IsNearOffset start offset
    within a b c d e = record { from = omega arith; to = omega arith }

pub near_on_made : NearOnMade
near_on_made start es = record {
  xact = λ shown id near made. let g = given_page (xact_cells start shown) es (id / 32768) near made in xact_near start g.0 id g.1 g.2 g.3;
  parents = λ id near made. let g = given_page (parent_cells start) es (id / 2048) near made in parent_near start g.0 id g.1 g.2 g.3;
  offsets = λ shown multi near made. let g = given_page (offset_cells start shown) es (multi / 2048) near made in offset_near start g.0 multi g.1 g.2 g.3;
  members = λ shown offset near made. let g = given_page (member_cells start shown) es (member_page_in_full offset) near made in member_near start g.0 offset g.1 g.2 g.3;
}

pub short_makes_near : ShortMakesNear
short_makes_near start lists bank k short =
    let near = made_near start lists bank k in
    record {
      xact = λ shown by page c. let m = (near.xact short.ids).made by page c in let to = m.to in (m.number, m.from, omega arith, m.on);
      parents = λ by page c. let m = (near.subtrans short.ids).made by page c in let to = m.to in (m.number, m.from, omega arith, m.on);
      offsets = λ shown by page c. let m = (near.offsets short.multis).made by page c in let to = m.to in (m.number, m.from, omega arith, m.on);
      members = λ shown by page c. let m = (near.members short.multis).made by page c in let to = m.to in (m.number, m.from, omega arith, m.on);
    }
