-- Keys that the items of a list name, one item after another.
use Rattle.std.proofs.Common.{◌≡◌, ◌↔◌, ℕ, List, [], ◌∷◌, ◌++◌, Bool, true, false, not, cond, ◌==◌, ◌||◌, ◌&&◌, Less, Equal, Greater, Option, Some, None, is_some, refl, ap, sym, ◌∙◌, ⊎_elim, inl, inr, eqb-true, IsTrue, Contains}
use Rattle.std.proofs.Math.Bool.{or-true}
use Rattle.std.proofs.lemmas.Bool.{and_parts, cases_Bool, false≢true, or_parts}
use Rattle.std.specs.BTreeSet.{BTreeSet, contains}
use Rattle.std.specs.List.{AllByRecursion, list_any}
use Rattle.std.specs.Ordering.{is_eq, nat_cmp, ordering_then}
use Rattle.std.specs.declared.cmp.Ordering.{Ordering}
use Rattle.tx_events.proofs.ListSteps.{eqb-refl, list_any-push}
use Rattle.tx_events.proofs.Membership.{Has, contains_has, has_contains}
use Rattle.tx_events.specs.declared.event.By.{By}
use Rattle.tx_events.specs.declared.event.Event.{Event}
use Rattle.tx_events.specs.declared.event.Event.TheVariants as events
use Rattle.tx_events.specs.declared.multi.MultiEvent.{MultiEvent}
use Rattle.tx_events.specs.declared.multi.MultiEvent.TheVariants as multis
use Rattle.tx_events.specs.declared.record.Rec.{Rec}
use Rattle.tx_events.specs.declared.record.Rec.TheVariants as records
use Rattle.counted_map.proofs.Counted.{cmp_eq}
use Rattle.near_map.specs.declared.NearMap.{NearMap}
use Rattle.near_map.specs.Near.{value_of}
use Rattle.life_law.specs.LifeLog.{ends_top}
use Rattle.report_law.specs.Records.{is_same_multi}
use Rattle.record_rules.specs.declared.announced.StartKey.{StartKey}
use Rattle.record_rules.specs.Firsts.{HasKeys, HasTops, announces, ends_id, has_number, raises, start_cmp}

or_false : (b : Bool) → (b || false) ≡ b
or_false true = refl
or_false false = refl

-- an item that names this key
pub key_more : {K X : Type 0} (cmp : K → K → Ordering) (names : K → X → Bool) (xs : List X) (x : X) (key : K) (m n : BTreeSet K) → ((k : K) → names k x ≡ is_eq (cmp key k)) → ((k : K) → contains cmp n k ≡ cond (is_eq (cmp key k)) true (contains cmp m k)) → HasKeys cmp names xs m → HasKeys cmp names (xs ++ x ∷ []) n
key_more cmp names xs x key m n is now has k =
    now k ∙ ap (λ b. cond (is_eq (cmp key k)) true b) (has k) ∙ one (is_eq (cmp key k)) (list_any (names k) xs)
    ∙ ap (λ b. list_any (names k) xs || b) (sym (is k)) ∙ sym (list_any-push (names k) xs x)
  where
    one : (a b : Bool) → cond a true b ≡ (b || a)
    one true true = refl
    one true false = refl
    one false true = refl
    one false false = refl

-- one that names none
pub no_key_more : {K X : Type 0} (cmp : K → K → Ordering) (names : K → X → Bool) (xs : List X) (x : X) (m : BTreeSet K) → ((k : K) → names k x ≡ false) → HasKeys cmp names xs m → HasKeys cmp names (xs ++ x ∷ []) m
no_key_more cmp names xs x m none has k = has k ∙ sym (or_false (list_any (names k) xs)) ∙ ap (λ b. list_any (names k) xs || b) (sym (none k)) ∙ sym (list_any-push (names k) xs x)

pub no_keys : {K X : Type 0} (cmp : K → K → Ordering) (names : K → X → Bool) (m : BTreeSet K) → m.keys ≡ [] → HasKeys cmp names [] m
no_keys cmp names m none k = ap (λ (t : List _). list_any (λ x. is_eq (cmp k x)) t) none

-- ---- tops

-- a record that ends the transaction of this top
pub top_more : (recs : List Rec) (rec : Rec) (top : ℕ) (m n : NearMap (Unit {0})) → ((id : ℕ) → ends_id id rec ≡ (top == id)) → ((id : ℕ) → value_of n id ≡ cond (top == id) (Some tt) (value_of m id)) → HasTops recs m → HasTops (recs ++ rec ∷ []) n
top_more recs rec top m n is now has id =
    ap is_some (now id) ∙ one (top == id) (value_of m id)
    ∙ ap (λ b. b || (top == id)) (has id) ∙ ap (λ b. list_any (ends_id id) recs || b) (sym (is id)) ∙ sym (list_any-push (ends_id id) recs rec)
  where
    one : (b : Bool) (o : Option (Unit {0})) → is_some (cond b (Some tt) o) ≡ (is_some o || b)
    one true None = refl
    one true (Some u) = refl
    one false None = refl
    one false (Some u) = refl

-- one that ends none
pub no_top_more : (recs : List Rec) (rec : Rec) (m : NearMap (Unit {0})) → ((id : ℕ) → ends_id id rec ≡ false) → HasTops recs m → HasTops (recs ++ rec ∷ []) m
no_top_more recs rec m none has id = has id ∙ sym (or_false (list_any (ends_id id) recs)) ∙ ap (λ b. list_any (ends_id id) recs || b) (sym (none id)) ∙ sym (list_any-push (ends_id id) recs rec)

pub no_tops : (m : NearMap (Unit {0})) → ((id : ℕ) → value_of m id ≡ None) → HasTops [] m
no_tops m none id = ap is_some (none id)

-- ---- what a record's rule says

top_iff : (rec : Rec) (id : ℕ) → (ends_id id rec ≡ true) ↔ ends_top rec id
top_iff (records.Commit top subs) id = (λ e. eqb-true top id e, λ e. ap (λ k. k == id) e ∙ eqb-refl id)
top_iff (records.Abort top subs) id = (λ e. eqb-true top id e, λ e. ap (λ k. k == id) e ∙ eqb-refl id)
top_iff (records.Multi multi offset members) id = (λ e. absurd cc, λ e. absurd e)
top_iff (records.Checkpoint number counters) id = (λ e. absurd cc, λ e. absurd e)
top_iff (records.Truncate oldest multi offset) id = (λ e. absurd cc, λ e. absurd e)

any_has : (p : Rec → Bool) (recs : List Rec) (rec : Rec) → Has recs rec → p rec ≡ true → list_any p recs ≡ true
any_has p [] rec h e = absurd h
any_has p (r ∷ recs) rec h e = ⊎_elim (λ (q : r ≡ rec). ap (λ b. b || list_any p recs) (ap p q ∙ e)) (λ t. ap (λ b. p r || b) (any_has p recs rec t e) ∙ or-true (p r)) h

none_has : (P : Rec → Type 0) (p : Rec → Bool) (recs : List Rec) → ((r : Rec) → p r ≡ true → P r) → ((r : Rec) → Has recs r → P r → ⊥) → list_any p recs ≡ false
none_has P p [] iff f = refl
none_has P p (r ∷ recs) iff f = one (p r) refl (none_has P p recs iff (λ q h. f q (inr h)))
  where
    one : (b : Bool) → p r ≡ b → list_any p recs ≡ false → (p r || list_any p recs) ≡ false
    one true e g = absurd (f r (inl refl) (iff r e))
    one false e g = ap (λ b. b || list_any p recs) e ∙ g

not_true : (b : Bool) → not b ≡ true → b ≡ false
not_true true e = absurd cc
not_true false e = refl

pub first_top : (recs : List Rec) (id : ℕ) (m : NearMap (Unit {0})) → HasTops recs m → IsTrue (not (is_some (value_of m id))) ↔ ((rec : Rec) → Contains recs rec → ends_top rec id → ⊥)
first_top recs id m has = (
  λ yes rec there ends. false≢true (sym (not_true (is_some (value_of m id)) yes) ∙ has id ∙ any_has (ends_id id) recs rec (contains_has recs rec there) ((top_iff rec id).1 ends)),
  λ f. ap not (has id ∙ none_has (λ r. ends_top r id) (ends_id id) recs (λ r. (top_iff r id).0) (λ r h. f r (has_contains recs r h))),
)

multi_same : (rec : Rec) (id : ℕ) → has_number id rec ≡ is_same_multi id rec
multi_same (records.Commit top subs) id = refl
multi_same (records.Abort top subs) id = refl
multi_same (records.Multi multi offset members) id = refl
multi_same (records.Checkpoint number counters) id = refl
multi_same (records.Truncate oldest multi offset) id = refl

none_same : (recs : List Rec) (id : ℕ) → (list_any (has_number id) recs ≡ false) ↔ AllByRecursion (λ rec. is_same_multi id rec ≡ false) recs
none_same [] id = (λ e. tt, λ a. refl)
none_same (r ∷ recs) id =
    let rest = none_same recs id in (
      λ e. let parts = or_parts (has_number id r) (list_any (has_number id) recs) e in (sym (multi_same r id) ∙ parts.0, rest.0 parts.1),
      λ a. ap (λ b. b || list_any (has_number id) recs) (multi_same r id ∙ a.0) ∙ rest.1 a.1,
    )

pub first_multi : (recs : List Rec) (id : ℕ) (m : BTreeSet ℕ) → HasKeys nat_cmp has_number recs m → IsTrue (not (contains nat_cmp m id)) ↔ AllByRecursion (λ rec. is_same_multi id rec ≡ false) recs
first_multi recs id m has = (
  λ yes. (none_same recs id).0 (sym (has id) ∙ not_true (contains nat_cmp m id) yes),
  λ a. ap not (has id ∙ (none_same recs id).1 a),
)

-- ---- what a truncation's rule says

id_iff : (x : Event) (id : ℕ) → (announces id x ≡ true) ↔ ((by : By) × (x ≡ events.Oldest by id))
id_iff (events.Id by n) id = (λ e. absurd cc, λ i. absurd cc)
id_iff (events.Sub by parent n) id = (λ e. absurd cc, λ i. absurd cc)
id_iff (events.Undo by n) id = (λ e. absurd cc, λ i. absurd cc)
id_iff (events.Commit by n) id = (λ e. absurd cc, λ i. absurd cc)
id_iff (events.Abort by n) id = (λ e. absurd cc, λ i. absurd cc)
id_iff (events.Snap n by) id = (λ e. absurd cc, λ i. absurd cc)
id_iff (events.SnapDrop n by) id = (λ e. absurd cc, λ i. absurd cc)
id_iff (events.Oldest by n) id = (λ e. (by, ap (λ k. events.Oldest by k) (eqb-true n id e)), λ i. ap (announces id) i.1 ∙ eqb-refl id)
id_iff (events.Ask by n) id = (λ e. absurd cc, λ i. absurd cc)

pub announced_iff : (h : List Event) (id : ℕ) → (list_any (announces id) h ≡ true) ↔ ((by : By) × Contains h (events.Oldest by id))
announced_iff h id = (λ e. let f = found h e in (f.0, has_contains h (events.Oldest f.0 id) f.1), λ i. there h i.0 (contains_has h (events.Oldest i.0 id) i.1))
  where
    found : (h : List Event) → list_any (announces id) h ≡ true → (by : By) × Has h (events.Oldest by id)
    found [] e = absurd cc
    found (x ∷ h) e = ⊎_elim
        (λ (yes : announces id x ≡ true). let i = (id_iff x id).0 yes in (i.0, inl i.1))
        (λ (no : announces id x ≡ false). let f = found h (sym (ap (λ b. b || list_any (announces id) h) no) ∙ e) in (f.0, inr f.1))
        (cases_Bool (announces id x))

    there : (h : List Event) (by : By) → Has h (events.Oldest by id) → list_any (announces id) h ≡ true
    there [] by k = absurd k
    there (x ∷ h) by k = ⊎_elim
        (λ (q : x ≡ events.Oldest by id). ap (λ b. b || list_any (announces id) h) ((id_iff x id).1 (by, q)))
        (λ t. ap (λ b. announces id x || b) (there h by t) ∙ or-true (announces id x))
        k

start_iff : (x : MultiEvent) (k : StartKey) → (raises k x ≡ true) ↔ ((by : By) × (x ≡ multis.Raise by k.multi k.offset))
start_iff (multis.Gen by multi offset members) k = (λ e. absurd cc, λ i. absurd cc)
start_iff (multis.Hold by multi) k = (λ e. absurd cc, λ i. absurd cc)
start_iff (multis.Unhold by multi) k = (λ e. absurd cc, λ i. absurd cc)
start_iff (multis.Raise by multi offset) k = (
  λ e.
      let parts = and_parts (multi == k.multi) (offset == k.offset) e in
      (by, ap (λ n. multis.Raise by n offset) (eqb-true multi k.multi parts.0) ∙ ap (λ n. multis.Raise by k.multi n) (eqb-true offset k.offset parts.1)),
  λ i. ap (raises k) i.1 ∙ ap (λ b. b && (k.offset == k.offset)) (eqb-refl k.multi) ∙ eqb-refl k.offset,
)

pub raised_iff : (h : List MultiEvent) (k : StartKey) → (list_any (raises k) h ≡ true) ↔ ((by : By) × Contains h (multis.Raise by k.multi k.offset))
raised_iff h k = (λ e. let f = found h e in (f.0, has_contains h (multis.Raise f.0 k.multi k.offset) f.1), λ i. there h i.0 (contains_has h (multis.Raise i.0 k.multi k.offset) i.1))
  where
    found : (h : List MultiEvent) → list_any (raises k) h ≡ true → (by : By) × Has h (multis.Raise by k.multi k.offset)
    found [] e = absurd cc
    found (x ∷ h) e = ⊎_elim
        (λ (yes : raises k x ≡ true). let i = (start_iff x k).0 yes in (i.0, inl i.1))
        (λ (no : raises k x ≡ false). let f = found h (sym (ap (λ b. b || list_any (raises k) h) no) ∙ e) in (f.0, inr f.1))
        (cases_Bool (raises k x))

    there : (h : List MultiEvent) (by : By) → Has h (multis.Raise by k.multi k.offset) → list_any (raises k) h ≡ true
    there [] by z = absurd z
    there (x ∷ h) by z = ⊎_elim
        (λ (q : x ≡ multis.Raise by k.multi k.offset). ap (λ b. b || list_any (raises k) h) ((start_iff x k).1 (by, q)))
        (λ t. ap (λ b. raises k x || b) (there h by t) ∙ or-true (raises k x))
        z

then_eq : (x y : Ordering) → is_eq (ordering_then x y) ≡ (is_eq x && is_eq y)
then_eq Less y = refl
then_eq Equal y = refl
then_eq Greater y = refl

pub start_key : (k q : StartKey) → raises q (multis.Raise (record { session = 0; command = 0 }) k.multi k.offset) ≡ is_eq (start_cmp k q)
start_key k q = sym (then_eq (nat_cmp k.multi q.multi) (nat_cmp k.offset q.offset) ∙ ap (λ b. b && is_eq (nat_cmp k.offset q.offset)) (cmp_eq k.multi q.multi) ∙ ap (λ b. (k.multi == q.multi) && b) (cmp_eq k.offset q.offset))

pub equal_iff : (a b : ℕ) (r : Bool) → r ≡ (a == b) → IsTrue r ↔ (a ≡ b)
equal_iff a b r is = (λ t. eqb-true a b (sym is ∙ t), λ e. is ∙ ap (λ k. k == b) e ∙ eqb-refl b)
