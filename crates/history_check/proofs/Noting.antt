-- What an event leaves of the ids that are kept of a session.
use Rattle.std.proofs.Common.{◌≡◌, ℕ, suc, zero, ◌+◌, ◌<◌, ◌≤◌, ◌↔◌, List, [], ◌∷◌, ◌++◌, Option, Some, None, refl, ap, sym, subst, ◌∙◌, Bool, true, false, cond, not, ◌==◌, ◌||◌, ◌&&◌, IsTrue, take, length, get_or, set, map, arith, append-nil, eqb-true, eq-eqb}
use Rattle.std.proofs.lemmas.List.{length_push, map-set, take_more}
use Rattle.std.proofs.lemmas.List.Folds.{list_any-append}
use Rattle.std.specs.List.{filter}
use Rattle.tx_events.specs.declared.event.Event.{Event}
use Rattle.tx_events.specs.IdLists.{has}
use Rattle.tx_events.specs.Running.{open_ids}
use Rattle.tx_events.proofs.ListSteps.{filter_in_turn}
use Rattle.tx_events.proofs.Membership.{filter_agree_on}
use Rattle.history_check.specs.declared.given.GivenId.{GivenId}
use Rattle.history_check.specs.declared.links.Linked.{Linked}
use Rattle.history_check.specs.declared.links.OpenId.{OpenId}
use Rattle.history_check.specs.declared.links.Slot.{Slot}
use Rattle.history_check.specs.declared.opened.Opened.{Opened}
use Rattle.history_check.specs.GivenIds.{with_place}
use Rattle.history_check.specs.Links.{AreLinked, IsAdded, IsMissing, IsPlaceOf, link_ids, links_of, open_of, opens}
use Rattle.history_check.specs.Opened.{AreOpened, IsClosed, IsKept, IsOneMore, opened_ids}
use Rattle.history_check.proofs.Marks.{mark_more, mark_none}
use Rattle.history_check.proofs.Slots.{closed_at, closed_before, closed_none, flat_order, one_fewer}

-- ---- one more

pub one_more : (id : ℕ) (parent : Option ℕ) (old new : Opened) → IsKept old → IsAdded id parent old.slots.items new.slots.items → new.count ≡ old.count + 1 → IsOneMore id parent old new
one_more id parent old new k a n = record {
  opened = a.opens;
  kept = record {
    count = n ∙ ap (λ m. m + 1) k.count ∙ sym (ap length a.opens ∙ length_push (opens old.slots.items) (record { id = id; parent = parent }));
    linked = a.linked;
  };
  ids = a.ids;
}

-- ---- an id is closed

pub same_links : (slots : List Slot) (k : ℕ) (d now : Slot) → k < length slots → now.linked ≡ (get_or slots k d).linked → links_of (set slots k now) ≡ links_of slots
same_links [] k d now l e = absurd (omega arith)
same_links (s ∷ slots) zero d now l e = ap (λ m. m ∷ links_of slots) e
same_links (s ∷ slots) (suc k) d now l e = ap (λ t. s.linked ∷ t) (same_links slots k d now (omega arith) e)

pub some_open : (slots : List Slot) (k : ℕ) (d : Slot) → k < length slots → (get_or slots k d).is_open ≡ true → 1 ≤ length (opens slots)
some_open slots k d l e = let f = one_fewer slots k d (record (get_or slots k d) { is_open = false }) l e refl in omega arith

pub closed_open : (x k : ℕ) (d now : Slot) (old new : Opened) → IsKept old → IsPlaceOf old.slots.items x k → (get_or old.slots.items k d).is_open ≡ true → now.is_open ≡ false → now.linked ≡ (get_or old.slots.items k d).linked → new.slots.items ≡ set old.slots.items k now → new.count + 1 ≡ old.count → IsClosed x old new
closed_open x k d now old new kept p e f same is n =
    let links : links_of new.slots.items ≡ links_of old.slots.items = ap links_of is ∙ same_links old.slots.items k d now p.0 same in
    let fewer : length (opens new.slots.items) + 1 ≡ length (opens old.slots.items) = ap (λ t. length (opens t) + 1) is ∙ one_fewer old.slots.items k d now p.0 e f in
    let was : old.count ≡ length (opens old.slots.items) = kept.count in
    record {
      opened = ap opens is ∙ closed_at old.slots.items x k d now (flat_order old.slots.items kept.linked.order) p f;
      kept = record { count = omega arith; linked = subst AreLinked (sym links) kept.linked };
      ids = ap link_ids links;
    }

pub closed_already : (x k : ℕ) (d : Slot) (old : Opened) → IsKept old → IsPlaceOf old.slots.items x k → (get_or old.slots.items k d).is_open ≡ false → IsClosed x old old
closed_already x k d old kept p e = record {
  opened = closed_before old.slots.items x k d (flat_order old.slots.items kept.linked.order) p e;
  kept = kept;
  ids = refl;
}

pub closed_nowhere : (x : ℕ) (old : Opened) → IsKept old → IsMissing old.slots.items x → IsClosed x old old
closed_nowhere x old kept m = record { opened = closed_none old.slots.items x m; kept = kept; ids = refl }

-- ---- one after another

all_stay : (xs : List OpenId) → xs ≡ filter (λ (o : OpenId). not (has [] o.id)) xs
all_stay [] = refl
all_stay (o ∷ xs) = ap (λ t. o ∷ t) (all_stay xs)

pub record IsClosedSoFar (closed : List ℕ) (old new : Opened) : Type 0 where
  pub opened : opens new.slots.items ≡ filter (λ (o : OpenId). not (has closed o.id)) (opens old.slots.items)
  pub kept : IsKept new
  pub ids : link_ids (links_of new.slots.items) ≡ link_ids (links_of old.slots.items)

pub none_closed : (old : Opened) → IsKept old → IsClosedSoFar [] old old
none_closed old kept = record { opened = all_stay (opens old.slots.items); kept = kept; ids = refl }

one_closed_more : (ids : List ℕ) (x : ℕ) (xs : List OpenId) → filter (λ (o : OpenId). not (o.id == x)) (filter (λ (o : OpenId). not (has ids o.id)) xs) ≡ filter (λ (o : OpenId). not (has (ids ++ x ∷ []) o.id)) xs
one_closed_more ids x xs =
    sym (filter_in_turn (λ (o : OpenId). not (has ids o.id)) (λ (o : OpenId). not (o.id == x)) xs)
    ∙ filter_agree_on (λ (o : OpenId). not (has ids o.id) && not (o.id == x)) (λ (o : OpenId). not (has (ids ++ x ∷ []) o.id)) xs
    (λ o k. both (has ids o.id) (o.id == x) ∙ ap not (sym (list_any-append (λ y. o.id == y) ids (x ∷ []))))
  where
    both : (a b : Bool) → (not a && not b) ≡ not (a || (b || false))
    both true b = refl
    both false true = refl
    both false false = refl

pub closed_more : (closed : List ℕ) (i x : ℕ) (old mid new : Opened) → i < length closed → x ≡ get_or closed i x → IsClosedSoFar (take i closed) old mid → IsClosed x mid new → IsClosedSoFar (take (i + 1) closed) old new
closed_more closed i x old mid new l is c n =
    let more : take (i + 1) closed ≡ take i closed ++ x ∷ [] = take_more closed i x l ∙ ap (λ y. take i closed ++ y ∷ []) (sym is) in
    record {
      opened = n.opened ∙ ap (filter (λ (o : OpenId). not (o.id == x))) c.opened ∙ one_closed_more (take i closed) x (opens old.slots.items)
          ∙ ap (λ t. filter (λ (o : OpenId). not (has t o.id)) (opens old.slots.items)) (sym more);
      kept = n.kept;
      ids = n.ids ∙ c.ids;
    }

-- ---- none is open

pub none_open_iff : (h : List Event) (s n : ℕ) (slots : List Slot) (b : Bool) → AreOpened h s (opens slots) → n ≡ length (opens slots) → (IsTrue b ↔ (n ≡ 0)) → IsTrue b ↔ (open_ids s h ≡ [])
none_open_iff h s n slots b a e iff = (λ t. none (opens slots) (sym e ∙ iff.0 t) a.ids, λ f. iff.1 (e ∙ zero_of (opens slots) (a.ids ∙ f)))
  where
    none : (xs : List OpenId) → length xs ≡ 0 → opened_ids xs ≡ open_ids s h → open_ids s h ≡ []
    none [] e f = sym f
    none (x ∷ xs) e f = absurd (omega arith)

    zero_of : (xs : List OpenId) → opened_ids xs ≡ [] → length xs ≡ 0
    zero_of [] e = refl
    zero_of (x ∷ xs) e = absurd cc

-- ---- a commit's marks

pub slot_marks : (s : Slot) (items : List GivenId) (ids : List ℕ) (p : ℕ) → map (with_place (opened_ids (opens (s ∷ []))) p) (map (with_place ids p) items) ≡ map (with_place (ids ++ opened_ids (opens (s ∷ []))) p) items
slot_marks s items ids p = one s.is_open
  where
    one : (b : Bool) → map (with_place (opened_ids (cond b (open_of s.linked ∷ []) [])) p) (map (with_place ids p) items) ≡ map (with_place (ids ++ opened_ids (cond b (open_of s.linked ∷ []) [])) p) items
    one true = mark_more items ids p s.linked.id
    one false = sym (mark_none (map (with_place ids p) items) p) ∙ ap (λ t. map (with_place t p) items) (sym (append-nil ids))

pub unmarked : (s : Slot) (items : List GivenId) (p : ℕ) → s.is_open ≡ false → items ≡ map (with_place (opened_ids (opens (s ∷ []))) p) items
unmarked s items p e = mark_none items p ∙ ap (λ b. map (with_place (opened_ids (cond b (open_of s.linked ∷ []) [])) p) items) (sym e)
