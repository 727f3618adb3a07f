-- Places of the two histories.
use Rattle.std.proofs.Common.{◌≡◌, ◌⊎◌, ⊎_elim, inl, inr, ℕ, zero, suc, ◌<◌, ◌≤◌, List, [], ◌∷◌, ◌++◌, None, Some, Contains, length, take, drop, refl, sym, ap, subst, ◌∙◌, arith}
use Rattle.std.specs.List.{AllByRecursion, slice_get}
use Rattle.notes.specs.Lists.{Grows}
use Rattle.tx_events.proofs.Membership.{Has, by_end, contains_has, has_place}
use Rattle.tx_events.proofs.PlaceLemmas.{each_place_last, each_place_start}
use Rattle.tx_events.specs.declared.event.By.{By}
use Rattle.tx_events.specs.declared.event.Event.{Event}
use Rattle.tx_events.specs.declared.multi.Member.{Member}
use Rattle.tx_events.specs.declared.multi.MultiEvent.{MultiEvent}
use Rattle.tx_events.specs.declared.multi.MultiEvent.TheVariants as multis
use Rattle.tx_events.specs.declared.record.Counters.{Counters}
use Rattle.tx_events.specs.Events.{by_of}
use Rattle.tx_events.specs.Multis.{AreLegalMultis, InBase, IsNextMade, MultiMayCome, multi_by}
use Rattle.life_law.specs.MultiPlaces.{MayReadIn, MayReadMultis}
use Rattle.tx_core.specs.declared.entry.Entry.{Entry}
use Rattle.tx_core.specs.Entries.{history}
use Rattle.tx_core.specs.MultiEntries.{multi_history}
use Rattle.tx_core.proofs.Lasting.{history_grows}
use Rattle.tx_core.proofs.MultiGiven.{gen_below}
use Rattle.tx_core.proofs.Rising.{multis_grow, taken_begins}

pub take_all : {A : Type 0} (xs : List A) → take (length xs) xs ≡ xs
take_all [] = refl
take_all (x ∷ xs) = ap (λ t. x ∷ t) (take_all xs)

drop_all : {A : Type 0} (xs : List A) → drop (length xs) xs ≡ []
drop_all [] = refl
drop_all (x ∷ xs) = drop_all xs

pub none_behind : {A : Type 0} (P : A → Type 0) (xs : List A) → AllByRecursion P (drop (length xs) (take (length xs) xs))
none_behind P xs = subst (AllByRecursion P) (sym (ap (drop (length xs)) (take_all xs) ∙ drop_all xs)) tt

-- at the end a command may read, where nothing was taken away since it began
pub reads_end : (h : List Event) (from : ℕ) (by : By) → from ≤ length h → MayReadIn h (record { from = from; to = length h }) by (length h)
reads_end h from by le = record { not_before = le; not_past = omega arith; behind = none_behind (λ e. (by_of e).session ≡ by.session → by.command < (by_of e).command) h }

pub reads_multis_end : (h : List MultiEvent) (from : ℕ) (by : By) → from ≤ length h → MayReadMultis h (record { from = from; to = length h }) by (length h)
reads_multis_end h from by le = record { not_before = le; not_past = omega arith; behind = none_behind (λ e. (multi_by e).session ≡ by.session → by.command < (multi_by e).command) h }

-- a moment in between is a place of the history behind it
pub seen_place : (seen more : List (List Entry)) → Grows seen more → (length (history seen) ≤ length (history more)) × (take (length (history seen)) (history more) ≡ history seen)
seen_place seen more g =
    let t = taken_begins (history seen) (history more) (length (history seen)) (history_grows seen more g) (omega arith) in
    (t.0, t.1 ∙ take_all (history seen))

pub multis_longer : (seen more : List (List Entry)) → Grows seen more → length (multi_history seen) ≤ length (multi_history more)
multis_longer seen more g = (taken_begins (multi_history seen) (multi_history more) (length (multi_history seen)) (multis_grow seen more g) (omega arith)).0

-- what stands somewhere stands at a place
pub has_at : {A : Type 0} (xs : List A) (x : A) → Contains xs x → (p : ℕ) × (p < length xs) × (slice_get xs p ≡ Some x)
has_at xs x c = let p = has_place xs x (contains_has xs x c) in (p.0, below xs p.0 x p.1, p.1)
  where
    below : {A : Type 0} (xs : List A) (p : ℕ) (x : A) → slice_get xs p ≡ Some x → p < length xs
    below [] p x q = absurd cc
    below (y ∷ xs) zero x q = omega arith
    below (y ∷ xs) (suc p) x q = let lt = below xs p x q in omega arith

-- at the split stands the item behind it, and before it those of before
pub split_at : {A : Type 0} (xs ys : List A) (x : A) → slice_get (xs ++ x ∷ ys) (length xs) ≡ Some x
split_at [] ys x = refl
split_at (y ∷ xs) ys x = split_at xs ys x

pub split_take : {A : Type 0} (xs ys : List A) → take (length xs) (xs ++ ys) ≡ xs
split_take [] ys = refl
split_take (x ∷ xs) ys = ap (λ t. x ∷ t) (split_take xs ys)

-- of one item more: it is the last, or stood before
last_place : {A : Type 0} (xs : List A) (y x : A) (p : ℕ) → slice_get (xs ++ y ∷ []) p ≡ Some x → ((p < length xs) × (slice_get xs p ≡ Some x)) ⊎ ((p ≡ length xs) × (y ≡ x))
last_place [] y x zero q = inr (refl, (let e : Some y ≡ Some x = q in cc))
last_place [] y x (suc p) q = absurd cc
last_place (z ∷ xs) y x zero q = inl (omega arith, q)
last_place (z ∷ xs) y x (suc p) q =
    ⊎_elim
    (λ (old : (p < length xs) × (slice_get xs p ≡ Some x)). inl ((let lt = old.0 in omega arith), old.1))
    (λ (new : (p ≡ length xs) × (y ≡ x)). inr (ap suc new.0, new.1))
    (last_place xs y x p q)

at_has : {A : Type 0} (xs : List A) (p : ℕ) (x : A) → slice_get xs p ≡ Some x → Has xs x
at_has [] p x q = absurd cc
at_has (y ∷ xs) zero x q = inl (let e : Some y ≡ Some x = q in cc)
at_has (y ∷ xs) (suc p) x q = inr (at_has xs p x q)

-- a multixact is given at one place alone
pub one_place : (base : Counters) (h : List MultiEvent) → AreLegalMultis base (InBase base) h → (a b : By) (m x y : ℕ) (ms ns : List Member) (p q : ℕ) → slice_get h p ≡ Some (multis.Gen a m x ms) → slice_get h q ≡ Some (multis.Gen b m y ns) → p ≡ q
one_place base = by_end (λ h. AreLegalMultis base (InBase base) h → (a b : By) (m x y : ℕ) (ms ns : List Member) (p q : ℕ) → slice_get h p ≡ Some (multis.Gen a m x ms) → slice_get h q ≡ Some (multis.Gen b m y ns) → p ≡ q)
    (λ legal a b m x y ms ns p q at_p at_q. let bad : None ≡ Some (multis.Gen a m x ms) = at_p in absurd cc)
    (λ h e before legal a b m x y ms ns p q at_p at_q.
    let front = each_place_start (MultiMayCome base (InBase base)) h (e ∷ []) legal in
    let last = each_place_last (MultiMayCome base (InBase base)) h e legal in
    ⊎_elim
    (λ (old : (p < length h) × (slice_get h p ≡ Some (multis.Gen a m x ms))).
    ⊎_elim
    (λ (old' : (q < length h) × (slice_get h q ≡ Some (multis.Gen b m y ns))). before front a b m x y ms ns p q old.1 old'.1)
    (λ (new' : (q ≡ length h) × (e ≡ multis.Gen b m y ns)). absurd (apart h e front last a b m x y ms ns p old.1 new'.1))
    (last_place h e (multis.Gen b m y ns) q at_q))
    (λ (new : (p ≡ length h) × (e ≡ multis.Gen a m x ms)).
    ⊎_elim
    (λ (old' : (q < length h) × (slice_get h q ≡ Some (multis.Gen b m y ns))). absurd (apart h e front last b a m y x ns ms q old'.1 new.1))
    (λ (new' : (q ≡ length h) × (e ≡ multis.Gen b m y ns)). new.0 ∙ sym new'.0)
    (last_place h e (multis.Gen b m y ns) q at_q))
    (last_place h e (multis.Gen a m x ms) p at_p))
  where
    apart : (h : List MultiEvent) (e : MultiEvent) → AreLegalMultis base (InBase base) h → MultiMayCome base (InBase base) h e → (a b : By) (m x y : ℕ) (ms ns : List Member) (p : ℕ) → slice_get h p ≡ Some (multis.Gen a m x ms) → e ≡ multis.Gen b m y ns → ⊥
    apart h e legal may a b m x y ms ns p at is =
        let next : IsNextMade base h m y ns = subst (MultiMayCome base (InBase base) h) is may in
        let below = gen_below base a m x ms h legal (at_has h p (multis.Gen a m x ms) at) in
        let same = next.next in
        absurd (omega arith)
