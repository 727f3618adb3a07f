-- What a session has of multixacts behind what it had, and what stays pinned.
use Rattle.std.proofs.Common.{◌≡◌, ⊎_elim, inl, inr, ℕ, List, [], ◌∷◌, ◌++◌, append_assoc, eq-eqb, refl, sym, ap, subst, ◌∙◌}
use Rattle.std.specs.List.{AllByRecursion, filter, fold}
use Rattle.std.proofs.lemmas.List.{append_cancel_left}
use Rattle.std.proofs.lemmas.List.Elements.{filter-append}
use Rattle.std.proofs.lemmas.List.Sums.{fold-append}
use Rattle.tx_events.proofs.Membership.{Has, all_from, contains_has, filter_has, has_contains, has_left}
use Rattle.tx_events.specs.Multis.{Pin, multi_by, pins, pins_after}
use Rattle.tx_events.specs.declared.multi.MultiEvent.{MultiEvent}
use Rattle.tx_events.specs.declared.multi.MultiEvent.TheVariants as multis
use Rattle.multi_store.specs.declared.answers.Held.{Held}
use Rattle.tx_core.specs.declared.entry.Entry.{Entry}
use Rattle.tx_core.specs.declared.entry.Start.{Start}
use Rattle.tx_core.specs.MultiEntries.{multi_history}
use Rattle.tx_core.specs.OwnMultis.{is_multi_of, own_multis}
use Rattle.tx_core.proofs.OwnMultis.{pins_over}
use Rattle.tx_core.proofs.Rising.{multis_grow}
use Rattle.engine_parts.specs.Steps.{WentMulti}
use Rattle.multi_sections.specs.Pinnings.{Pins}
use Rattle.xact_freezes.specs.Freezes.{IsHeldSince}

-- what came between, of which these are the session's own
pub record Between (n : ℕ) (xs : List MultiEvent) (lists more : List (List Entry)) : Type 0 where
  pub rest : List MultiEvent
  pub split : multi_history lists ++ rest ≡ multi_history more
  pub own : filter (is_multi_of n) rest ≡ xs

pub between : (n : ℕ) (xs : List MultiEvent) (lists more : List (List Entry)) → WentMulti n xs lists more → Between n xs lists more
between n xs lists more w =
    let g = multis_grow lists more w.grows in record {
      rest = g.0;
      split = g.1;
      own = append_cancel_left (own_multis n lists) (filter (is_multi_of n) g.0) xs (sym (filter-append (is_multi_of n) (multi_history lists) g.0) ∙ (ap (filter (is_multi_of n)) g.1 ∙ w.multis));
    }

pub own_among : (n : ℕ) (rest xs : List MultiEvent) (e : MultiEvent) → filter (is_multi_of n) rest ≡ xs → Has rest e → (multi_by e).session ≡ n → Has xs e
own_among n rest xs e own there same = subst (λ (l : List MultiEvent). Has l e) own (filter_has (is_multi_of n) rest e there (eq-eqb (multi_by e).session n same))

-- so what all own events keep, each event between keeps that is the session's
pub all_own : (n : ℕ) (P : MultiEvent → Type 0) (rest xs : List MultiEvent) → filter (is_multi_of n) rest ≡ xs → ((e : MultiEvent) → Has xs e → P e) → AllByRecursion (λ e. (multi_by e).session ≡ n → P e) rest
all_own n P rest xs own each = all_from (λ e. (multi_by e).session ≡ n → P e) rest (λ e there same. each e (own_among n rest xs e own there same))

-- ---- pins

-- the event lets nothing go
abbrev pub IsKeeping : MultiEvent → Type 0
IsKeeping (multis.Unhold by multi) = ⊥
IsKeeping e = Unit {0}

pin_step : (n multi : ℕ) (e : MultiEvent) (ps : List Pin) → ((multi_by e).session ≡ n → IsKeeping e) → Has ps (n, multi) → Has (pins_after ps e) (n, multi)
pin_step n multi (multis.Gen by m offset members) ps keeps k = k
pin_step n multi (multis.Raise by m offset) ps keeps k = k
pin_step n multi (multis.Hold by m) ps keeps k = has_left ps ((by.session, m) ∷ []) (n, multi) k
pin_step n multi (multis.Unhold by m) ps keeps k = pins_over n multi (multis.Unhold by m ∷ []) ps (λ x there same. ⊎_elim (λ (q : multis.Unhold by m ≡ x). keeps (ap (λ (z : MultiEvent). (multi_by z).session) q ∙ same)) (λ z. absurd z) there) k

pins_through : (n multi : ℕ) (es : List MultiEvent) (ps : List Pin) → ((e : MultiEvent) → Has es e → (multi_by e).session ≡ n → IsKeeping e) → Has ps (n, multi) → Has (fold pins_after ps es) (n, multi)
pins_through n multi [] ps keeps k = k
pins_through n multi (e ∷ es) ps keeps k = pins_through n multi es (pins_after ps e) (λ x there. keeps x (inr there)) (pin_step n multi e ps (keeps e (inl refl)) k)

pub pins_kept : (n multi : ℕ) (xs : List MultiEvent) (lists more : List (List Entry)) → WentMulti n xs lists more → ((e : MultiEvent) → Has xs e → IsKeeping e) → Pins n multi lists → Pins n multi more
pins_kept n multi xs lists more w keeps c =
    let b = between n xs lists more w in
    has_contains (pins (multi_history more)) (n, multi)
    (subst (λ (h : List MultiEvent). Has (pins h) (n, multi)) b.split
    (subst (λ (ps : List Pin). Has ps (n, multi)) (sym (fold-append pins_after [] (multi_history lists) b.rest))
    (pins_through n multi b.rest (pins (multi_history lists)) (λ e there same. keeps e (own_among n b.rest xs e b.own there same)) (contains_has (pins (multi_history lists)) (n, multi) c))))

pub held_on : (start : Start) (n : ℕ) (h : Held) (xs : List MultiEvent) (lists more : List (List Entry)) → WentMulti n xs lists more → ((e : MultiEvent) → Has xs e → IsKeeping e) → IsHeldSince start n lists h → IsHeldSince start n more h
held_on start n h xs lists more w keeps i =
    let b = between n xs lists more w in record {
      pins = pins_kept n h.multi xs lists more w keeps i.pins;
      by = i.by;
      before = i.before;
      rest = i.rest ++ b.rest;
      split = sym b.split ∙ (ap (λ (t : List MultiEvent). t ++ b.rest) i.split ∙ append_assoc i.before (multis.Hold i.by h.multi ∷ i.rest) b.rest);
      pinned = i.pinned;
    }

pub keeps_none : (e : MultiEvent) → Has [] e → IsKeeping e
keeps_none e k = absurd k
