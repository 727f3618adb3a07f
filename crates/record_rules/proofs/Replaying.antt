-- The replay of a legal history takes each event.
use Rattle.std.proofs.Common.{◌≡◌, ℕ, ◌<◌, Bool, true, false, List, Some, length, get_or, take, refl, ap, sym, subst, ◌∙◌}
use Rattle.std.proofs.lemmas.Option.{slice_get-get_or}
use Rattle.std.specs.List.{slice_get}
use Rattle.tx_events.specs.declared.event.Event.{Event}
use Rattle.tx_events.specs.declared.record.Counters.{Counters}
use Rattle.tx_events.specs.Events.{by_of}
use Rattle.tx_events.specs.History.{IsLegal, MayCome}
use Rattle.proc_table.specs.Table.{InTurn}
use Rattle.history_check.specs.Replays.{IsLawfulNext, Replayed}

pub lawful_next : (base : Counters) (h : List Event) (r : Replayed) (i : ℕ) (e : Event) → IsLegal base h → r.base ≡ base → r.events ≡ take i h → i < length h → e ≡ get_or h i e → IsLawfulNext r e
lawful_next base h r i e legal base_is sofar l is =
    let there : slice_get h i ≡ Some e = slice_get-get_or h i e l ∙ ap Some (sym is) in (
      subst (λ (b : Counters). MayCome b r.events e) (sym base_is) (subst (λ (t : List Event). MayCome base t e) (sym sofar) (legal.rules i e there)),
      subst (λ (t : List Event). InTurn (by_of e) t) (sym sofar) (legal.turns i e there),
    )

pub is_taken : {P : Type 0} (b : Bool) → (b ≡ false → P → ⊥) → P → b ≡ true
is_taken true f p = refl
is_taken false f p = absurd (f refl p)
