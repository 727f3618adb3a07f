-- The open ones of the ids that are kept.
use Rattle.std.proofs.Common.{◌≡◌, ◌≢◌, ℕ, suc, zero, ◌+◌, ◌<◌, ◌≤◌, List, [], ◌∷◌, ◌++◌, Option, Some, None, refl, ap, sym, subst, ◌∙◌, Bool, true, false, cond, not, ◌==◌, take, length, get_or, set, map, arith, eq-eqb, ne_eqb, Contains, ⊎_elim}
use Rattle.std.proofs.lemmas.List.{set-get_or, take_more}
use Rattle.std.specs.List.{AllByRecursion, filter, find}
use Rattle.tx_events.proofs.Membership.{Has, contains_has}
use Rattle.tx_events.specs.IdLists.{Ascending}
use Rattle.history_check.specs.declared.links.Linked.{Linked}
use Rattle.history_check.specs.declared.links.OpenId.{OpenId}
use Rattle.history_check.specs.declared.links.Slot.{Slot}
use Rattle.history_check.specs.Links.{IsMissing, IsPlaceOf, link_ids, links_of, open_in, open_of, opens}
use Rattle.history_check.proofs.Searching.{all_at, further}

abbrev pub key : Slot → ℕ
key s = s.linked.id

pub flat : (slots : List Slot) → link_ids (links_of slots) ≡ map key slots
flat [] = refl
flat (s ∷ slots) = ap (λ t. s.linked.id ∷ t) (flat slots)

pub flat_order : (slots : List Slot) → Ascending (link_ids (links_of slots)) → Ascending (map key slots)
flat_order slots a = subst Ascending (flat slots) a

-- ---- behind each other

pub opens_append : (xs ys : List Slot) → opens (xs ++ ys) ≡ opens xs ++ opens ys
opens_append [] ys = refl
opens_append (s ∷ xs) ys = one s.is_open (opens_append xs ys)
  where
    one : (b : Bool) → opens (xs ++ ys) ≡ opens xs ++ opens ys → cond b (open_of s.linked ∷ opens (xs ++ ys)) (opens (xs ++ ys)) ≡ cond b (open_of s.linked ∷ opens xs) (opens xs) ++ opens ys
    one true e = ap (λ t. open_of s.linked ∷ t) e
    one false e = e

pub opens_more : (slots : List Slot) (i : ℕ) (s : Slot) → i < length slots → s ≡ get_or slots i s → opens (take (i + 1) slots) ≡ opens (take i slots) ++ opens (s ∷ [])
opens_more slots i s l e = ap opens (take_more slots i s l ∙ ap (λ y. take i slots ++ y ∷ []) (sym e)) ∙ opens_append (take i slots) (s ∷ [])

pub opens_fit : (slots : List Slot) → length (opens slots) ≤ length slots
opens_fit [] = omega arith
opens_fit (s ∷ slots) = one s.is_open (opens_fit slots)
  where
    one : (b : Bool) → length (opens slots) ≤ length slots → length (cond b (open_of s.linked ∷ opens slots) (opens slots)) ≤ suc (length slots)
    one true l = omega arith
    one false l = omega arith

-- ---- an id is found

abbrev found_in : ℕ → List OpenId → Option OpenId
found_in x opened = find (λ (o : OpenId). o.id == x) opened

not_first : (s : Slot) (slots : List Slot) (x : ℕ) → s.linked.id ≢ x → (b : Bool) → found_in x (cond b (open_of s.linked ∷ opens slots) (opens slots)) ≡ found_in x (opens slots)
not_first s slots x n true = ap (λ b. cond b (Some (open_of s.linked)) (found_in x (opens slots))) (ne_eqb s.linked.id x n)
not_first s slots x n false = refl

pub find_none : (slots : List Slot) (x : ℕ) → IsMissing slots x → find (λ (o : OpenId). o.id == x) (opens slots) ≡ None
find_none [] x f = refl
find_none (s ∷ slots) x f = not_first s slots x (λ q. f 0 (omega arith) s q) s.is_open ∙ find_none slots x (λ k l d e. f (suc k) (omega arith) d e)

-- those behind it are others
pub missing_behind : (s : Slot) (slots : List Slot) (x : ℕ) → Ascending (map key (s ∷ slots)) → s.linked.id ≡ x → IsMissing slots x
missing_behind s slots x a is k l d e = let u : s.linked.id < (get_or slots k d).linked.id = all_at key (λ y. s.linked.id < y) slots k d a.0 l in omega arith

pub find_at : (slots : List Slot) (x k : ℕ) (d : Slot) → Ascending (map key slots) → IsPlaceOf slots x k → find (λ (o : OpenId). o.id == x) (opens slots) ≡ open_in (get_or slots k d)
find_at [] x k d a p = absurd (omega (arith, p.0))
find_at (s ∷ slots) x zero d a p = here s.is_open
  where
    here : (b : Bool) → found_in x (cond b (open_of s.linked ∷ opens slots) (opens slots)) ≡ cond b (Some (open_of s.linked)) None
    here true = ap (λ b. cond b (Some (open_of s.linked)) (found_in x (opens slots))) (eq-eqb s.linked.id x (p.1 d))
    here false = find_none slots x (missing_behind s slots x a (p.1 d))
find_at (s ∷ slots) x (suc k) d a p =
    let next = further key s slots x k p in
    let f : s.linked.id < (get_or slots k d).linked.id = all_at key (λ y. s.linked.id < y) slots k d a.0 next.0 in
    not_first s slots x (λ q. omega (arith, next.1 d)) s.is_open ∙ find_at slots x k d a.1 next

-- ---- an id is closed

abbrev without : ℕ → List OpenId → List OpenId
without x opened = filter (λ (o : OpenId). not (o.id == x)) opened

other_stays : (s : Slot) (opened : List OpenId) (x : ℕ) → s.linked.id ≢ x → (b : Bool) → cond b (open_of s.linked ∷ without x opened) (without x opened) ≡ without x (cond b (open_of s.linked ∷ opened) opened)
other_stays s opened x n true = ap (λ b. cond (not b) (open_of s.linked ∷ without x opened) (without x opened)) (sym (ne_eqb s.linked.id x n))
other_stays s opened x n false = refl

pub closed_none : (slots : List Slot) (x : ℕ) → IsMissing slots x → opens slots ≡ filter (λ (o : OpenId). not (o.id == x)) (opens slots)
closed_none [] x f = refl
closed_none (s ∷ slots) x f =
    ap (λ t. cond s.is_open (open_of s.linked ∷ t) t) (closed_none slots x (λ k l d e. f (suc k) (omega arith) d e)) ∙ other_stays s (opens slots) x (λ q. f 0 (omega arith) s q) s.is_open

pub closed_at : (slots : List Slot) (x k : ℕ) (d now : Slot) → Ascending (map key slots) → IsPlaceOf slots x k → now.is_open ≡ false → opens (set slots k now) ≡ filter (λ (o : OpenId). not (o.id == x)) (opens slots)
closed_at [] x k d now a p e = absurd (omega (arith, p.0))
closed_at (s ∷ slots) x zero d now a p e =
    ap (λ b. cond b (open_of now.linked ∷ opens slots) (opens slots)) e ∙ closed_none slots x (missing_behind s slots x a (p.1 d)) ∙ sym (here s.is_open)
  where
    here : (b : Bool) → without x (cond b (open_of s.linked ∷ opens slots) (opens slots)) ≡ without x (opens slots)
    here true = ap (λ b. cond (not b) (open_of s.linked ∷ without x (opens slots)) (without x (opens slots))) (eq-eqb s.linked.id x (p.1 d))
    here false = refl
closed_at (s ∷ slots) x (suc k) d now a p e =
    let next = further key s slots x k p in
    let f : s.linked.id < (get_or slots k d).linked.id = all_at key (λ y. s.linked.id < y) slots k d a.0 next.0 in
    ap (λ t. cond s.is_open (open_of s.linked ∷ t) t) (closed_at slots x k d now a.1 next e) ∙ other_stays s (opens slots) x (λ q. omega (arith, next.1 d)) s.is_open

pub closed_before : (slots : List Slot) (x k : ℕ) (d : Slot) → Ascending (map key slots) → IsPlaceOf slots x k → (get_or slots k d).is_open ≡ false → opens slots ≡ filter (λ (o : OpenId). not (o.id == x)) (opens slots)
closed_before slots x k d a p e = ap opens (sym (set-get_or slots k d)) ∙ closed_at slots x k d (get_or slots k d) a p e

pub one_fewer : (slots : List Slot) (k : ℕ) (d now : Slot) → k < length slots → (get_or slots k d).is_open ≡ true → now.is_open ≡ false → length (opens (set slots k now)) + 1 ≡ length (opens slots)
one_fewer [] k d now l e f = absurd (omega arith)
one_fewer (s ∷ slots) zero d now l e f = two s.is_open now.is_open e f
  where
    two : (a b : Bool) → a ≡ true → b ≡ false → length (cond b (open_of now.linked ∷ opens slots) (opens slots)) + 1 ≡ length (cond a (open_of s.linked ∷ opens slots) (opens slots))
    two true true e f = absurd cc
    two true false e f = omega arith
    two false b e f = absurd cc
one_fewer (s ∷ slots) (suc k) d now l e f = one s.is_open (one_fewer slots k d now (omega arith) e f)
  where
    one : (b : Bool) → length (opens (set slots k now)) + 1 ≡ length (opens slots) → length (cond b (open_of s.linked ∷ opens (set slots k now)) (opens (set slots k now))) + 1 ≡ length (cond b (open_of s.linked ∷ opens slots) (opens slots))
    one true e = omega arith
    one false e = e

-- ---- the links of one are others

pub same_opens : (slots : List Slot) (k : ℕ) (d now : Slot) → k < length slots → now.is_open ≡ (get_or slots k d).is_open → open_of now.linked ≡ open_of (get_or slots k d).linked → opens (set slots k now) ≡ opens slots
same_opens [] k d now l e f = absurd (omega arith)
same_opens (s ∷ slots) zero d now l e f = ap (λ b. cond b (open_of now.linked ∷ opens slots) (opens slots)) e ∙ ap (λ o. cond s.is_open (o ∷ opens slots) (opens slots)) f
same_opens (s ∷ slots) (suc k) d now l e f = ap (λ t. cond s.is_open (open_of s.linked ∷ t) t) (same_opens slots k d now (omega arith) e f)

-- an id that is kept stands somewhere
pub not_missing : (slots : List Slot) (x : ℕ) → IsMissing slots x → Contains (link_ids (links_of slots)) x → ⊥
not_missing slots x f c = nowhere slots f (contains_has (link_ids (links_of slots)) x c)
  where
    nowhere : (slots : List Slot) → IsMissing slots x → Has (link_ids (links_of slots)) x → ⊥
    nowhere [] f k = k
    nowhere (s ∷ slots) f k = ⊎_elim (λ (e : s.linked.id ≡ x). f 0 (omega arith) s e) (λ j. nowhere slots (λ k l d e. f (suc k) (omega arith) d e) j) k
