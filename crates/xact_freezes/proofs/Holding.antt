-- Members of a multixact from the announced oldest one on lie from its offset on.
use Rattle.std.proofs.Common.{◌⊎◌, ⊎_elim, ℕ, ◌+◌, ◌≤◌, List, length, arith}
use Rattle.tx_events.proofs.Membership.{contains_has}
use Rattle.tx_events.specs.Base.{IsBase}
use Rattle.tx_events.specs.Multis.{free_offset, oldest_multi, oldest_offset}
use Rattle.tx_events.specs.declared.multi.Member.{Member}
use Rattle.tx_events.specs.declared.multi.MultiEvent.TheVariants as multis
use Rattle.tx_core.specs.declared.entry.Entry.{Entry}
use Rattle.tx_core.specs.declared.entry.Start.{Start}
use Rattle.tx_core.specs.EngineInvariant.{EngineInvariant}
use Rattle.tx_core.specs.MultiEntries.{multi_history}
use Rattle.tx_core.proofs.Holding.{pages_held}
use Rattle.tx_core.proofs.MultiOrder.{Ordered, ordered}
use Rattle.tx_core.proofs.Nearness.{multis_are_legal, raises_told}
use Rattle.recoverable.proofs.Announced.{announced_given, announced_old}
use Rattle.xact_freezes.specs.Members.{IsGivenAt, IsOfBase, MembersHeld}
use Rattle.xact_freezes.proofs.Starting.{announced_now, oldest_since}

-- the offsets of its members are in use
abbrev AreInUse : Start → List (List Entry) → ℕ → ℕ → Type 0
AreInUse start lists offset many = (oldest_offset start.base.oldest_offset (multi_history lists) ≤ offset) × (offset + many ≤ free_offset start.base.offset (multi_history lists))

in_use : (start : Start) (lists : List (List Entry)) (multi offset : ℕ) (members : List Member) → EngineInvariant start lists → IsBase start.base → oldest_multi start.base.oldest_multi (multi_history lists) ≤ multi
    → IsGivenAt lists multi offset members ⊎ IsOfBase start multi offset members → AreInUse start lists offset (length members)
in_use start lists multi offset members k is from =
    let order : Ordered start.base (multi_history lists) = ordered start.base is (multi_history lists) (multis_are_legal start lists k) in
    ⊎_elim
    (λ (g : IsGivenAt lists multi offset members).
    let has = contains_has (multi_history lists) (multis.Gen g.0 multi offset members) g.1 in
    ((announced_given start lists k is g.0 multi offset members has (oldest_multi start.base.oldest_multi (multi_history lists)) (oldest_offset start.base.oldest_offset (multi_history lists)) (announced_now start lists) from).1, (order.given g.0 multi offset members has).1))
    (λ (t : IsOfBase start multi offset members).
    let since = oldest_since start lists k in
    let low : start.base.oldest_multi ≤ multi = omega arith in
    let end = (t.in_order.within multi offset members t.recorded low).1 in
    let free = order.from in
    ((announced_old start lists k is multi offset members t.in_order (λ rec among by m o c before. raises_told start lists by m o k t.told rec among c before) t.recorded low t.below (oldest_multi start.base.oldest_multi (multi_history lists)) (oldest_offset start.base.oldest_offset (multi_history lists)) (announced_now start lists) from).1, omega (arith, end, free)))

pub members_held : MembersHeld
members_held start lists bank multi offset members k is few has from n lt =
    let u = in_use start lists multi offset members k is from has in
    let low = u.0 in
    let up = u.1 in
    (pages_held start lists bank k is).members few (offset + n) (omega (arith, low)) (omega (arith, up, lt))
