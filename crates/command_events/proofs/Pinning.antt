-- Where a command pins, by the places of its events.
use Rattle.std.proofs.Common.{◌≡◌, ℕ, ◌↔◌, Some, List, map, take, get_or, ap, sym, ◌∙◌, arith}
use Rattle.std.specs.List.{slice_get}
use Rattle.tx_events.specs.declared.event.By.{By}
use Rattle.tx_events.specs.declared.multi.MultiEvent.{MultiEvent}
use Rattle.tx_events.specs.declared.multi.MultiEvent.TheVariants as multis
use Rattle.tx_events.specs.declared.record.Counters.{Counters}
use Rattle.tx_events.specs.Multis.{multi_by, next_made}
use Rattle.tx_events.specs.Nearest.{near_id}
use Rattle.place_columns.specs.Columns.{IsColumn}
use Rattle.report_law.specs.Kinds.{IsPinAt}
use Rattle.command_events.specs.Shapes.{IsPinNear}
use Rattle.tx_events.proofs.MultiPlaces.{bound_of, its_by, stands_at}

-- by the event there
pub pin_is : (all : List MultiEvent) (by : By) (p : ℕ) (e : MultiEvent) → slice_get (map multi_by all) p ≡ Some by → e ≡ get_or all p e → ((b : By) × (multi : ℕ) × (e ≡ multis.Hold b multi)) ↔ IsPinAt all by p
pin_is all by p e its is =
    let s = stands_at all p e (bound_of all p by its) is in (
      λ z.
          let y = its_by all p e s in
          let b : multi_by e ≡ z.0 = ap multi_by z.2 in
          let same : z.0 ≡ by = cc in
          (z.1, s ∙ ap (λ (x : MultiEvent). Some x) (z.2 ∙ ap (λ (b : By). multis.Hold b z.1) same)),
      λ i. let same : e ≡ multis.Hold by i.0 = cc in (by, i.0, same),
    )

-- with what the stored half means there
pub near_at : (base : Counters) (all : List MultiEvent) (by : By) (p m multi next : ℕ) (e : MultiEvent) → slice_get (map multi_by all) p ≡ Some by → e ≡ get_or all p e → next ≡ next_made base.multi (take p all)
    → (((b : By) × (multi : ℕ) × (e ≡ multis.Hold b multi)) × (near_id next m ≡ Some multi)) ↔ IsPinNear base all by m multi p
near_at base all by p m multi next e its is next_is =
    let i = pin_is all by p e its is in (
      λ z. (i.0 z.0, ap (λ n. near_id n m) (sym next_is) ∙ z.1),
      λ n. (i.1 n.0, ap (λ n. near_id n m) next_is ∙ n.1),
    )

pub made_at : (base : Counters) (all : List MultiEvent) (column : List ℕ) (p : ℕ) (by : By) → IsColumn (next_made base.multi) all column → slice_get (map multi_by all) p ≡ Some by → get_or column p 0 ≡ next_made base.multi (take p all)
made_at base all column p by c its = let l = bound_of all p by its in c.each p (omega arith)
