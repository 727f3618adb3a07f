-- Events of other sessions leave what a session has open.
use Rattle.std.proofs.Common.{List, [], ap, append-nil, append_assoc, false, inl, ne_eqb, refl, subst, sym, ℕ, ◌++◌, ◌∙◌, ◌∷◌, ◌≡◌, ◌≢◌}
use Rattle.std.specs.List.{filter}
use Rattle.tx_events.specs.declared.event.Event.{Event}
use Rattle.tx_events.specs.declared.record.Counters.{Counters}
use Rattle.tx_events.proofs.GivenIds.{family_session, fresh, given_to_given, legal_front, legal_last, one_session}
use Rattle.tx_events.proofs.GivenGrowth.{given_to_other}
use Rattle.tx_events.proofs.Lineages.{lineage_push, enclosing_in, top_in}
use Rattle.tx_events.proofs.Membership.{Has, by_end, contains_has, filter_agree_on, has_filter, has_left, has_right}
use Rattle.tx_events.specs.Events.{by_of, given_to, is_end_of, is_undo_of}
use Rattle.tx_events.specs.Families.{top}
use Rattle.tx_events.specs.History.{IsLegal, MayCome}
use Rattle.tx_events.specs.Running.{is_open, open_ids}
use Rattle.tx_events.proofs.OpenGrowth.{still_open}
use Rattle.tx_events.specs.declared.event.Event.TheVariants as events

-- an event of one session ends or undoes no id of another
ends_not : (base : Counters) (h : List Event) (e : Event) (r t : ℕ) → IsLegal base h → MayCome base h e → (by_of e).session ≢ r → Has (given_to r h) t → is_end_of t e ≡ false
ends_not base h (events.Commit by u) r t legal may n k = ne_eqb u t (λ (q : u ≡ t). n (one_session base h legal by.session r t (subst (λ z. Has (given_to by.session h) z) q (has_filter (is_open h) (given_to by.session h) u (contains_has (open_ids by.session h) u may.0)).0) k))
ends_not base h (events.Abort by u) r t legal may n k = ne_eqb u t (λ (q : u ≡ t). n (one_session base h legal by.session r t (subst (λ z. Has (given_to by.session h) z) q (has_filter (is_open h) (given_to by.session h) u (contains_has (open_ids by.session h) u may.0)).0) k))
ends_not base h e r t legal may n k = refl

undoes_not : (base : Counters) (h : List Event) (e : Event) (r t : ℕ) → IsLegal base h → MayCome base h e → (by_of e).session ≢ r → Has (given_to r h) t → is_undo_of t e ≡ false
undoes_not base h (events.Undo by u) r t legal may n k = ne_eqb u t (λ (q : u ≡ t). n (one_session base h legal by.session r t (subst (λ z. Has (given_to by.session h) z) q (has_filter (is_open h) (given_to by.session h) u (contains_has (open_ids by.session h) u may.0)).0) k))
undoes_not base h e r t legal may n k = refl

-- an event of one session leaves what another has open
open_other : (base : Counters) (h : List Event) (e : Event) (r x : ℕ) → IsLegal base h → MayCome base h e → (by_of e).session ≢ r → Has (given_to r h) x → is_open (h ++ e ∷ []) x ≡ is_open h x
open_other base h e r x legal may n k =
    still_open h e x (lineage_push h e x (λ g. fresh base h e x legal may g (given_to_given r h x k)))
    (ends_not base h e r (top h x) legal may n (family_session base h legal r x (top h x) k (top_in h x)))
    (λ y j. undoes_not base h e r y legal may n (family_session base h legal r x y k (enclosing_in h x y j)))

pub open_ids_other : (base : Counters) (h : List Event) (e : Event) (r : ℕ) → IsLegal base h → MayCome base h e → (by_of e).session ≢ r → open_ids r (h ++ e ∷ []) ≡ open_ids r h
open_ids_other base h e r legal may n =
    ap (λ (t : List ℕ). filter (is_open (h ++ e ∷ [])) t) (given_to_other r h e n)
    ∙ filter_agree_on (is_open (h ++ e ∷ [])) (is_open h) (given_to r h) (λ x k. open_other base h e r x legal may n k)

-- events of other sessions leave what a session has open
pub open_rest : (base : Counters) (r : ℕ) (h es : List Event) → IsLegal base (h ++ es) → ((e : Event) → Has es e → (by_of e).session ≢ r) → open_ids r (h ++ es) ≡ open_ids r h
open_rest base r h = by_end (λ es. IsLegal base (h ++ es) → ((e : Event) → Has es e → (by_of e).session ≢ r) → open_ids r (h ++ es) ≡ open_ids r h)
    (λ legal others. ap (open_ids r) (append-nil h))
    (λ es e before legal others.
    let split : h ++ (es ++ e ∷ []) ≡ (h ++ es) ++ e ∷ [] = sym (append_assoc h es (e ∷ [])) in
    let l : IsLegal base ((h ++ es) ++ e ∷ []) = subst (IsLegal base) split legal in
    let front = legal_front base (h ++ es) e l in
    ap (open_ids r) split
    ∙ open_ids_other base (h ++ es) e r front (legal_last base (h ++ es) e l) (others e (has_right es (e ∷ []) e (inl refl)))
    ∙ before front (λ f k. others f (has_left es (e ∷ []) f k)))
