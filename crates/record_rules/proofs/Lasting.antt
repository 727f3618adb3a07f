-- What a life begins from goes by the life before it.
use Rattle.std.proofs.Common.{◌≡◌, ◌↔◌, ℕ, ◌-◌, ◌≤◌, List, [], ◌∷◌, ◌++◌, Option, Some, None, length, take, refl, ap, sym, subst, ◌∙◌}
use Rattle.std.specs.Prelude.{IfSome}
use Rattle.std.specs.List.{fold}
use Rattle.tx_events.specs.After.{after_records}
use Rattle.tx_events.specs.declared.record.Counters.{Counters}
use Rattle.tx_model.specs.declared.report.Life.{Life}
use Rattle.tx_model.specs.declared.report.LifeReport.{LifeReport}
use Rattle.report_law.specs.Begun.{Begun, BeginsRight, IsLawfulStart, begun_after, begun_from, last_life, records_end}
use Rattle.record_rules.specs.Behind.{BeginsBehind}

last_from : (acc : Option LifeReport) (before : List LifeReport) (last : LifeReport) → fold (λ earlier l. Some l) acc (before ++ last ∷ []) ≡ Some last
last_from acc [] last = refl
last_from acc (r ∷ before) last = last_from (Some r) before last

some_from : (r : LifeReport) (rest : List LifeReport) → (y : LifeReport) × (fold (λ earlier l. Some l) (Some r) rest ≡ Some y)
some_from r [] = (r, refl)
some_from r (next ∷ rest) = some_from next rest

-- what the life begins from that comes behind these, of which r is the first
abbrev behind : Life → Begun → LifeReport → List LifeReport → Begun
behind life b r [] = begun_after b (take (life.from - r.life.from) r.life.recs)
behind life b r (next ∷ rest) = behind life (begun_after b (take (next.life.from - r.life.from) r.life.recs)) next rest

begun_is : (r : LifeReport) (before : List LifeReport) (life : Life) → begun_from (r ∷ before) life ≡ behind life (record { counters = r.life.base; committed = []; recorded = [] }) r before
begun_is r before life = refl

behind_push : (life : Life) (b : Begun) (r : LifeReport) (rest : List LifeReport) (last : LifeReport) → behind life b r (rest ++ last ∷ []) ≡ begun_after (behind last.life b r rest) (take (life.from - last.life.from) last.life.recs)
behind_push life b r [] last = refl
behind_push life b r (next ∷ rest) last = behind_push life (begun_after b (take (next.life.from - r.life.from) r.life.recs)) next rest last

begun_push : (before : List LifeReport) (last : LifeReport) (life : Life) → begun_from (before ++ last ∷ []) life ≡ begun_after (begun_from before last.life) (take (life.from - last.life.from) last.life.recs)
begun_push [] last life = refl
begun_push (r ∷ before) last life =
    begun_is r (before ++ last ∷ []) life ∙ behind_push life (record { counters = r.life.base; committed = []; recorded = [] }) r before last
    ∙ ap (λ (b : Begun). begun_after b (take (life.from - last.life.from) last.life.recs)) (sym (begun_is r before last.life))

start_base : (before : List LifeReport) (life : Life) (o : Option LifeReport) → BeginsRight before life o → IfSome o (λ l. life.base ≡ (begun_from before life).counters)
start_base before life None b = tt
start_base before life (Some last) b = b.2

-- a lawful start is from the life's own counters
start_counters : (before : List LifeReport) (life : Life) → IsLawfulStart before life → (begun_from before life).counters ≡ life.base
start_counters [] life s = refl
start_counters (r ∷ before) life s =
    let y = some_from r before in
    sym (subst (λ (o : Option LifeReport). IfSome o (λ l. life.base ≡ (begun_from (r ∷ before) life).counters)) y.1 (start_base (r ∷ before) life (last_life (r ∷ before)) s))

pub later_is : (before : List LifeReport) (last : LifeReport) (life : Life) → IsLawfulStart before last.life → IsLawfulStart (before ++ last ∷ []) life ↔ BeginsBehind last life
later_is before last life s =
    let all = before ++ last ∷ [] in
    let its : last_life all ≡ Some last = last_from None before last in
    let counters : (begun_from all life).counters ≡ after_records last.life.base (take (life.from - last.life.from) last.life.recs) =
    ap (λ (b : Begun). b.counters) (begun_push before last life) ∙ ap (λ (c : Counters). after_records c (take (life.from - last.life.from) last.life.recs)) (start_counters before last.life s) in (
      λ b. let r = subst (BeginsRight all life) its b in (r.0, r.1, r.2 ∙ counters),
      λ b. subst (BeginsRight all life) (sym its) (b.0, b.1, b.2 ∙ sym counters),
    )
