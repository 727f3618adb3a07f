-- The event that gives a subtransaction its id gives its line of ancestors too.
use Rattle.std.proofs.Common.{List, [], ap, subst, sym, ℕ, ⊎_elim, ◌++◌, ◌∙◌, ◌∷◌, ◌≡◌}
use Rattle.tx_events.specs.declared.event.By.{By}
use Rattle.tx_events.specs.declared.event.Event.{Event}
use Rattle.tx_events.specs.declared.record.Counters.{Counters}
use Rattle.tx_events.proofs.Closing.{line_step}
use Rattle.tx_events.proofs.GivenIds.{given_to_given, legal_front, legal_last, given_stays, given_new}
use Rattle.tx_events.proofs.Lineages.{lineage_sub}
use Rattle.tx_events.proofs.Membership.{Has, by_end, contains_has, has_cases, has_filter}
use Rattle.tx_events.specs.Events.{given, given_by, given_to}
use Rattle.tx_events.specs.Families.{lineage}
use Rattle.tx_events.specs.History.{IsLegal, MayCome}
use Rattle.tx_events.specs.Running.{is_open, open_ids}
use Rattle.tx_events.specs.declared.event.Event.TheVariants as events

-- what the event of a sub says of its family
pub record LineOf (h : List Event) (parent x : ℕ) : Type 0 where
  pub was_given : Has (given h) x
  pub parent_given : Has (given h) parent
  pub line : lineage h x ≡ x ∷ lineage h parent

pub sub_line : (base : Counters) (h : List Event) → IsLegal base h → (by : By) (parent x : ℕ) → Has h (events.Sub by parent x) → LineOf h parent x
sub_line base = by_end (λ h. IsLegal base h → (by : By) (parent x : ℕ) → Has h (events.Sub by parent x) → LineOf h parent x)
    (λ legal by parent x k. absurd k)
    (λ h e before legal by parent x k.
    let front = legal_front base h e legal in
    ⊎_elim
    (λ a.
    let l = before front by parent x a in
    record {
      was_given = given_stays h e x l.was_given;
      parent_given = given_stays h e parent l.parent_given;
      line = line_step base h e x legal l.was_given ∙ l.line ∙ ap (λ (t : List ℕ). x ∷ t) (sym (line_step base h e parent legal l.parent_given));
    })
    (λ a. ⊎_elim
    (λ (q : e ≡ events.Sub by parent x).
    let rule : MayCome base h (events.Sub by parent x) = subst (MayCome base h) q (legal_last base h e legal) in
    let above : Has (given h) parent = given_to_given by.session h parent (has_filter (is_open h) (given_to by.session h) parent (contains_has (open_ids by.session h) parent rule.1)).0 in
    record {
      was_given = given_new h e x (ap given_by q);
      parent_given = given_stays h e parent above;
      line = ap (λ (z : Event). lineage (h ++ z ∷ []) x) q ∙ lineage_sub h by parent x ∙ ap (λ (t : List ℕ). x ∷ t) (sym (line_step base h e parent legal above));
    })
    (λ z. absurd z) a)
    (has_cases h (e ∷ []) (events.Sub by parent x) k))
