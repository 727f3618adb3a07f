-- Legal histories of multixacts, event by event.
use Rattle.std.proofs.Common.{◌≡◌, ℕ, ◌+◌, ◌<◌, List, [], ◌∷◌, ◌++◌, length, get_or, take, ap, sym, subst, ◌∙◌}
use Rattle.std.proofs.lemmas.List.{take_more}
use Rattle.tx_events.specs.declared.multi.MultiEvent.{MultiEvent}
use Rattle.tx_events.specs.declared.record.Counters.{Counters}
use Rattle.tx_events.specs.Multis.{AreLegalMultis, InBase, MultiMayCome}
use Rattle.tx_events.proofs.PlaceLemmas.{each_place_last}
use Rattle.history_check.specs.MultiReplays.{IsFirstIllegalMulti}

pub illegal_at : (base base' : Counters) (h h' : List MultiEvent) (p : ℕ) (e : MultiEvent) → h' ≡ take p h → base' ≡ base → p < length h → e ≡ get_or h p e → AreLegalMultis base' (InBase base') h' → (MultiMayCome base' (InBase base') h' e → ⊥) → IsFirstIllegalMulti base h p
illegal_at base base' h h' p e f g l is legal broken = record {
  within = l;
  before = subst (λ (b : Counters). AreLegalMultis b (InBase b) (take p h)) g (subst (AreLegalMultis base' (InBase base')) f legal);
  not_then = λ then.
      let more : take (p + 1) h ≡ take p h ++ e ∷ [] = take_more h p e l ∙ ap (λ y. take p h ++ y ∷ []) (sym is) in
      let whole : AreLegalMultis base (InBase base) (take p h ++ e ∷ []) = subst (AreLegalMultis base (InBase base)) more then in
      broken (subst (λ (b : Counters). MultiMayCome b (InBase b) h' e) (sym g) (subst (λ (t : List MultiEvent). MultiMayCome base (InBase base) t e) (sym f) (each_place_last (MultiMayCome base (InBase base)) (take p h) e whole)));
}

pub one_further : (h h' new : List MultiEvent) (p : ℕ) (e : MultiEvent) → h' ≡ take p h → p < length h → e ≡ get_or h p e → new ≡ h' ++ e ∷ [] → new ≡ take (p + 1) h
one_further h h' new p e f l is g = g ∙ ap (λ t. t ++ e ∷ []) f ∙ sym (take_more h p e l ∙ ap (λ y. take p h ++ y ∷ []) (sym is))
