-- What stands at the places of a command's events.
use Rattle.std.proofs.Common.{◌≡◌, ℕ, ◌+◌, ◌-◌, ◌^◌, ◌<◌, ◌≤◌, ◌↔◌, ⊎_elim, inl, inr, Bool, true, false, cond, nat_lt, Some, List, length, map, take, get_or, ap, sym, subst, ◌∙◌, arith}
use Rattle.std.specs.List.{slice_get}
use Rattle.tx_events.specs.declared.event.By.{By}
use Rattle.tx_events.specs.declared.multi.Member.{Member}
use Rattle.tx_events.specs.declared.multi.MultiEvent.{MultiEvent}
use Rattle.tx_events.specs.declared.multi.MultiEvent.TheVariants as multis
use Rattle.tx_events.specs.declared.record.Counters.{Counters}
use Rattle.tx_events.specs.Ids.{low_half}
use Rattle.tx_events.specs.Limits.{down_to_multi, multi_warn_limit, up_to_multi}
use Rattle.tx_events.specs.Multis.{AreLegalMultis, BaseOffset, multi_by, next_made, oldest_multi}
use Rattle.report_law.specs.Kinds.{IsPinAt}
use Rattle.report_law.specs.MultiLines.{IsMultiWarned, IsPinnedOrNext}
use Rattle.place_columns.specs.OwnPlaces.{AnyPlace, ArePlacesOf}
use Rattle.tx_events.proofs.MultiPlaces.{bound_of, its_by, stands_at}
use Rattle.place_columns.proofs.PlaceLists.{any_place}
use Rattle.report_law.proofs.Pinned.{pin_by}
use Rattle.multi_rules.specs.Own.{GivesLate, PinsOrRaises}

-- ---- pins and raises

pins_by : (base : Counters) (all : List MultiEvent) (by : By) (multi p : ℕ) → PinsOrRaises base all by multi p → slice_get (map multi_by all) p ≡ Some by
pins_by base all by multi p (inl i) = pin_by all by p i
pins_by base all by multi p (inr z) = its_by all p (multis.Raise by z.0 z.1) z.2

pub pinned_iff : (base : Counters) (all : List MultiEvent) (by : By) (places : List ℕ) (multi : ℕ) → ArePlacesOf by (map multi_by all) places → AnyPlace (PinsOrRaises base all by multi) places ↔ IsPinnedOrNext base all by multi
pinned_iff base all by places multi are =
    let any = any_place (PinsOrRaises base all by multi) by (map multi_by all) places are (λ p z. pins_by base all by multi p z) in (
      λ a. let z = any.0 a in ⊎_elim (λ (i : IsPinAt all by z.0). inl (z.0, i))
          (λ (r : (raised offset : ℕ) × (slice_get all z.0 ≡ Some (multis.Raise by raised offset)) × (multi ≡ next_made base.multi (take z.0 all))). inr (z.0, r.0, r.1, r.2, r.3)) z.1,
      λ i. any.1 (⊎_elim (λ (z : (place : ℕ) × IsPinAt all by place). (z.0, inl z.1))
          (λ (r : (place raised offset : ℕ) × (slice_get all place ≡ Some (multis.Raise by raised offset)) × (multi ≡ next_made base.multi (take place all))). (r.0, inr (r.1, r.2, r.3, r.4))) i),
    )

-- by the event there
pub hold_at : (base : Counters) (all : List MultiEvent) (by its : By) (multi p held : ℕ) (e : MultiEvent) → slice_get (map multi_by all) p ≡ Some by → e ≡ get_or all p e → e ≡ multis.Hold its held → PinsOrRaises base all by multi p
hold_at base all by its multi p held e mine is hold =
    let s = stands_at all p e (bound_of all p by mine) is in
    let y = its_by all p e s in
    let b : multi_by e ≡ its = ap multi_by hold in
    let same : its ≡ by = cc in
    inl (held, s ∙ ap (λ (x : MultiEvent). Some x) (hold ∙ ap (λ (b : By). multis.Hold b held) same))

pub raise_at : (base : Counters) (all : List MultiEvent) (by its : By) (multi p raised offset next : ℕ) (e : MultiEvent) → slice_get (map multi_by all) p ≡ Some by → e ≡ get_or all p e → e ≡ multis.Raise its raised offset → next ≡ next_made base.multi (take p all)
    → (next ≡ multi) ↔ PinsOrRaises base all by multi p
raise_at base all by its multi p raised offset next e mine is raise next_is =
    let s = stands_at all p e (bound_of all p by mine) is in
    let y = its_by all p e s in
    let b : multi_by e ≡ its = ap multi_by raise in
    let same : its ≡ by = cc in (
      λ n. inr (raised, offset, s ∙ ap (λ (x : MultiEvent). Some x) (raise ∙ ap (λ (b : By). multis.Raise b raised offset) same), sym n ∙ next_is),
      λ z. ⊎_elim (λ (i : IsPinAt all by p). let h = i.1 in absurd cc)
          (λ (r : (raised offset : ℕ) × (slice_get all p ≡ Some (multis.Raise by raised offset)) × (multi ≡ next_made base.multi (take p all))). next_is ∙ sym r.3) z,
    )

-- ---- warnings

late_by : (base : Counters) (all : List MultiEvent) (by : By) (multi p : ℕ) → GivesLate base all by multi p → slice_get (map multi_by all) p ≡ Some by
late_by base all by multi p z = its_by all p (multis.Gen by multi z.0 z.1) z.2

pub warned_iff : (base : Counters) (all : List MultiEvent) (by : By) (places : List ℕ) (multi : ℕ) → ArePlacesOf by (map multi_by all) places → AnyPlace (GivesLate base all by multi) places ↔ IsMultiWarned base all by multi
warned_iff base all by places multi are =
    let any = any_place (GivesLate base all by multi) by (map multi_by all) places are (λ p z. late_by base all by multi p z) in (
      λ a. let z = any.0 a in let g = z.1 in record { place = z.0; offset = g.0; members = g.1; given = g.2; late = g.3 },
      λ i. any.1 (i.place, (i.offset, i.members, i.given, i.late)),
    )

-- a given multixact is below 2^63
pub gen_small : (base : Counters) (known : BaseOffset) (all : List MultiEvent) (p : ℕ) (by : By) (multi offset : ℕ) (members : List Member) (e : MultiEvent) → AreLegalMultis base known all → p < length all → e ≡ get_or all p e → e ≡ multis.Gen by multi offset members → multi < 2 ^ 63
gen_small base known all p by multi offset members e legal l is gen =
    let m = legal p (multis.Gen by multi offset members) (stands_at all p e l is ∙ ap (λ (x : MultiEvent). Some x) gen) in
    let b = m.below_stop in
    omega arith

pub gen_at : (base : Counters) (all : List MultiEvent) (by its : By) (multi p given offset oldest : ℕ) (members : List Member) (e : MultiEvent) → slice_get (map multi_by all) p ≡ Some by → e ≡ get_or all p e → e ≡ multis.Gen its given offset members → oldest ≡ oldest_multi base.oldest_multi (take p all)
    → ((given ≡ multi) × (multi_warn_limit oldest ≤ multi)) ↔ GivesLate base all by multi p
gen_at base all by its multi p given offset oldest members e mine is gen oldest_is =
    let s = stands_at all p e (bound_of all p by mine) is in
    let y = its_by all p e s in
    let b : multi_by e ≡ its = ap multi_by gen in
    let same : its ≡ by = cc in (
      λ z. (offset, members, s ∙ ap (λ (x : MultiEvent). Some x) (gen ∙ ap (λ (b : By). multis.Gen b given offset members) same ∙ ap (λ n. multis.Gen by n offset members) z.0), subst (λ n. multi_warn_limit n ≤ multi) oldest_is z.1),
      λ z. let there = z.2 in let one : given ≡ multi = cc in (one, subst (λ n. multi_warn_limit n ≤ multi) (sym oldest_is) z.3),
    )

up_over : (n : ℕ) (b : Bool) → n ≤ cond b (n + 1) n
up_over n true = omega arith
up_over n false = omega arith

down_over : (n : ℕ) (b : Bool) → n ≤ cond b (n - 1) n + 1
down_over n true = omega arith
down_over n false = omega arith

warn_over : (oldest : ℕ) → oldest ≤ multi_warn_limit oldest
warn_over oldest =
    let n = oldest + 2147483647 in
    let w = up_to_multi n in
    let a : n ≤ up_to_multi n = up_over n (nat_lt (low_half n) 1) in
    let b : w - 40000000 ≤ down_to_multi (w - 40000000) + 1 = down_over (w - 40000000) (nat_lt (low_half (w - 40000000)) 1) in
    omega arith

pub not_late : (oldest multi : ℕ) → multi < 2 ^ 63 → 2 ^ 63 ≤ oldest → multi_warn_limit oldest ≤ multi → ⊥
not_late oldest multi l o w = let a = warn_over oldest in omega arith

-- the event there
pub late_event : (base : Counters) (all : List MultiEvent) (by : By) (multi p : ℕ) (e : MultiEvent) → slice_get (map multi_by all) p ≡ Some by → e ≡ get_or all p e → GivesLate base all by multi p → (offset : ℕ) × (members : List Member) × (e ≡ multis.Gen by multi offset members)
late_event base all by multi p e mine is z =
    let s = stands_at all p e (bound_of all p by mine) is in
    let there = z.2 in
    let same : e ≡ multis.Gen by multi z.0 z.1 = cc in
    (z.0, z.1, same)
