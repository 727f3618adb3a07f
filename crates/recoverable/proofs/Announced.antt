-- What is announced as the oldest multixact lies not past the members of those from it on.
use Rattle.std.proofs.Common.{Contains, List, arith, ⊎_elim, ℕ, ◌<◌, ◌≡◌, ◌≤◌}
use Rattle.tx_events.specs.declared.event.By.{By}
use Rattle.tx_events.specs.declared.multi.Member.{Member}
use Rattle.tx_events.specs.declared.multi.MultiEvent.TheVariants as multis
use Rattle.tx_events.specs.declared.record.Rec.{Rec}
use Rattle.tx_events.specs.declared.record.Rec.TheVariants as records
use Rattle.tx_events.proofs.Membership.{Has, contains_has}
use Rattle.tx_events.specs.Base.{IsBase}
use Rattle.tx_core.specs.declared.entry.Entry.{Entry}
use Rattle.tx_core.specs.declared.entry.Start.{Start}
use Rattle.tx_core.proofs.Nearness.{multis_are_legal}
use Rattle.tx_core.specs.EngineInvariant.{EngineInvariant}
use Rattle.tx_core.specs.MultiEntries.{multi_history}
use Rattle.tx_core.specs.RecordsFollow.{IsMultiAnnounced}
use Rattle.tx_events.specs.LifeBase.{AreInOrder}
use Rattle.tx_core.proofs.MultiGiven.{raised_from}
use Rattle.tx_core.proofs.MultiOrder.{Ordered, ordered}

-- where a multixact of the base is announced as the oldest one, it is announced with its offset
abbrev pub AreRaisesTold : Start → List (List Entry) → Type 0
AreRaisesTold start lists =
    (rec : Rec) → Contains start.recorded rec → (by : By) (multi offset : ℕ) → Contains (multi_history lists) (multis.Raise by multi offset) → multi < start.base.multi
    → (members : List Member) × Contains start.recorded (records.Multi multi offset members)

module _ (start : Start) (lists : List (List Entry)) (k : EngineInvariant start lists) (is : IsBase start.base) where
  order : Ordered start.base (multi_history lists)
  order = ordered start.base is (multi_history lists) (multis_are_legal start lists k)

  -- of a multixact of the life
  pub announced_given : (by : By) (multi offset : ℕ) (members : List Member) → Has (multi_history lists) (multis.Gen by multi offset members) → (m o : ℕ) → IsMultiAnnounced start lists m o → m ≤ multi
      → (start.base.oldest_offset ≤ o) × (o ≤ offset)
  announced_given by multi offset members gen m o announced le =
      let ord = order in
      let g = ord.given by multi offset members gen in let g0 = g.0 in
      let low = is.oldest_offset in
      ⊎_elim
      (λ (q : (m ≡ start.base.oldest_multi) × (o ≡ start.base.oldest_offset)). let z = q.1 in (omega arith, omega arith))
      (λ (q : (b : By) × Contains (multi_history lists) (multis.Raise b m o)).
      let raise = contains_has (multi_history lists) (multis.Raise q.0 m o) q.1 in
      ((ord.raised q.0 m o raise).0, ord.past q.0 by m multi o offset members raise gen le))
      announced

  -- and of one of the base, where its announcements were told
  pub announced_old : (multi offset : ℕ) (members : List Member) → AreInOrder start.base start.recorded → AreRaisesTold start lists → Contains start.recorded (records.Multi multi offset members)
      → start.base.oldest_multi ≤ multi → multi < start.base.multi → (m o : ℕ) → IsMultiAnnounced start lists m o → m ≤ multi → (start.base.oldest_offset ≤ o) × (o ≤ offset)
  announced_old multi offset members in_order told among from below m o announced le =
      ⊎_elim
      (λ (q : (m ≡ start.base.oldest_multi) × (o ≡ start.base.oldest_offset)).
      let z = q.1 in let w = in_order.within multi offset members among from in let w0 = w.0 in (omega arith, omega arith))
      (λ (q : (b : By) × Contains (multi_history lists) (multis.Raise b m o)).
      let r = order.raised q.0 m o (contains_has (multi_history lists) (multis.Raise q.0 m o) q.1) in
      let tells = told (records.Multi multi offset members) among q.0 m o q.1 (omega arith) in
      let down = raised_from start.base (multi_history lists) q.0 m o (multis_are_legal start lists k) q.1 in
      (r.0, in_order.order m multi o offset tells.0 members tells.1 among down le))
      announced
