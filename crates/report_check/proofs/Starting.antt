-- The multixacts that a lawful life leaves recorded fit as those of the next life's base.
use Rattle.std.proofs.Common.{◌≡◌, ◌↔◌, ℕ, ◌<◌, ◌≤◌, max, inl, inr, Bool, true, false, List, [], ◌∷◌, ◌++◌, Option, Some, None, map, take, refl, sym, ap, subst, ◌∙◌, arith, ⊎_elim, append-nil, eqb-true}
use Rattle.std.specs.Bool.{then_some}
use Rattle.std.specs.List.{Contains, cons_option, filter_map, list_any}
use Rattle.std.proofs.lemmas.Bool.{cases_lt}
use Rattle.std.proofs.lemmas.List.{map-append}
use Rattle.std.proofs.lemmas.List.Elements.{filter_map-append}
use Rattle.std.proofs.lemmas.List.Sums.{fold_push}
use Rattle.tx_events.specs.declared.event.By.{By}
use Rattle.tx_events.specs.declared.multi.Member.{Member}
use Rattle.tx_events.specs.declared.multi.MultiEvent.{MultiEvent}
use Rattle.tx_events.specs.declared.multi.MultiEvent.TheVariants as events
use Rattle.tx_events.specs.declared.record.Counters.{Counters}
use Rattle.tx_events.specs.declared.record.Rec.{Rec}
use Rattle.tx_events.specs.declared.record.Rec.TheVariants as records
use Rattle.tx_events.specs.After.{after_record, after_records}
use Rattle.tx_events.specs.Base.{IsBase}
use Rattle.tx_events.specs.IdLists.{Ascending}
use Rattle.tx_events.specs.Ids.{next_multi}
use Rattle.tx_events.specs.Multis.{MultiMayCome, made_at, oldest_multi, oldest_offset}
use Rattle.tx_events.proofs.Membership.{Has, all_at, all_from, any_has, by_end, contains_has, has_any, has_cases, has_contains, has_filter_map, has_left, has_map, has_right}
use Rattle.tx_events.proofs.ListSteps.{eqb-refl}
use Rattle.tx_events.proofs.PlaceLemmas.{each_place_last, each_place_start}
use Rattle.multi_store.proofs.Numbers.{next_above}
use Rattle.history_places.specs.declared.start.Start.{Start}
use Rattle.history_places.specs.Starts.{BeginsAs, FitsBase, start_of}
use Rattle.report_law.specs.Begun.{Begun, Recorded, begun_after, recorded_by}
use Rattle.report_law.specs.Records.{is_same_multi}
use Rattle.report_check.specs.Keeping.{AreStarts, kept_start}
use Rattle.report_check.proofs.Gens.{Legal, base_upto, gen_from, gen_made, gen_upto, legal_take, one_giving, sound, takes_rise}

-- ---- lists

pub then_is : {X : Type 0} (b : Bool) (x y : X) → then_some b x ≡ Some y → (b ≡ true) × (x ≡ y)
then_is true x y e = (refl, cc)
then_is false x y e = absurd cc

pub filter_map_has : {A B : Type 0} (f : A → Option B) (xs : List A) (x : A) (y : B) → Has xs x → f x ≡ Some y → Has (filter_map f xs) y
filter_map_has f [] x y k e = absurd k
filter_map_has {A} {B} f (z ∷ xs) x y k e =
    let front : filter_map f (z ∷ xs) ≡ filter_map f (z ∷ []) ++ filter_map f xs = filter_map-append f (z ∷ []) xs in
    subst (λ (l : List B). Has l y) (sym front)
    (⊎_elim
    (λ (u : z ≡ x). has_left (filter_map f (z ∷ [])) (filter_map f xs) y (one (f z) (ap f u ∙ e)))
    (λ (u : Has xs x). has_right (filter_map f (z ∷ [])) (filter_map f xs) y (filter_map_has f xs x y u e))
    k)
  where
    one : (o : Option B) → o ≡ Some y → Has (cons_option o []) y
    one None q = absurd cc
    one (Some w) q = inl cc

ascending_join : (xs ys : List ℕ) → Ascending xs → Ascending ys → ((x y : ℕ) → Has xs x → Has ys y → x < y) → Ascending (xs ++ ys)
ascending_join [] ys a b f = b
ascending_join (x ∷ xs) ys a b f = (
  all_from (λ y. x < y) (xs ++ ys) (λ y k. ⊎_elim (λ (u : Has xs y). all_at (λ z. x < z) xs y a.0 u) (λ (u : Has ys y). f x y (inl refl) u) (has_cases xs ys y k)),
  ascending_join xs ys a.1 b (λ z y j k. f z y (inr j) k),
)

-- ---- which records are of a multixact

named : (m : ℕ) (rec : Rec) → is_same_multi m rec ≡ true → (offset : ℕ) × (members : List Member) × (rec ≡ records.Multi m offset members)
named m (records.Multi multi offset members) e = let same : multi ≡ m = eqb-true multi m e in (offset, members, ap (λ k. records.Multi k offset members) same)
named m (records.Commit top subs) e = absurd cc
named m (records.Abort top subs) e = absurd cc
named m (records.Checkpoint number c) e = absurd cc
named m (records.Truncate oldest multi offset) e = absurd cc

same_some : (r q : Recorded) → Some r ≡ Some q → r ≡ q
same_some r q e = cc

recorded_is : (rec : Rec) (m o : ℕ) (ms : List Member) → recorded_by rec ≡ Some (m, o, ms) → rec ≡ records.Multi m o ms
recorded_is (records.Multi multi offset members) m o ms e =
    let t = same_some (multi, offset, members) (m, o, ms) e in
    let a : multi ≡ m = ap (λ (r : Recorded). r.0) t in
    let b : offset ≡ o = ap (λ (r : Recorded). r.1) t in
    let c : members ≡ ms = ap (λ (r : Recorded). r.2) t in
    ap (λ k. records.Multi k offset members) a ∙ ap (λ k. records.Multi m k members) b ∙ ap (λ k. records.Multi m o k) c
recorded_is (records.Commit top subs) m o ms e = absurd cc
recorded_is (records.Abort top subs) m o ms e = absurd cc
recorded_is (records.Checkpoint number c) m o ms e = absurd cc
recorded_is (records.Truncate oldest multi offset) m o ms e = absurd cc

has_record : (recs : List Rec) (m o : ℕ) (ms : List Member) → Has (filter_map recorded_by recs) (m, o, ms) → Has recs (records.Multi m o ms)
has_record recs m o ms k =
    let r = has_filter_map recorded_by recs (m, o, ms) k in
    subst (λ (rec : Rec). Has recs rec) (recorded_is r.0 m o ms r.2) r.1

-- the event that gives it
kept_is : (recs : List Rec) (e : MultiEvent) (s : Start) → kept_start recs e ≡ Some s → (by : By) × (members : List Member) × (e ≡ events.Gen by s.multi s.offset members) × (list_any (is_same_multi s.multi) recs ≡ true)
kept_is recs (events.Gen by multi offset members) s e =
    let r = then_is (list_any (is_same_multi multi) recs) (start_of multi offset) s e in
    let m : multi ≡ s.multi = ap (λ (t : Start). t.multi) r.1 in
    let o : offset ≡ s.offset = ap (λ (t : Start). t.offset) r.1 in
    (by, members, ap (λ k. events.Gen by k offset members) m ∙ ap (λ k. events.Gen by s.multi k members) o, sym (ap (λ k. list_any (is_same_multi k) recs) m) ∙ r.0)
kept_is recs (events.Hold by multi) s e = absurd cc
kept_is recs (events.Unhold by multi) s e = absurd cc
kept_is recs (events.Raise by multi offset) s e = absurd cc

-- ---- the counters behind the records that are kept

-- the oldest multixact and its offset at some place
abbrev IsPair : Counters → List MultiEvent → ℕ → ℕ → Type 0
IsPair base h multi offset = (k : ℕ) × (multi ≡ oldest_multi base.oldest_multi (take k h)) × (offset ≡ oldest_offset base.oldest_offset (take k h))

-- what a kept record says of multixacts is so
abbrev pub IsSo : Counters → List MultiEvent → Rec → Type 0
IsSo base h (records.Multi multi offset members) = (by : By) × Has h (events.Gen by multi offset members)
IsSo base h (records.Checkpoint number c) = IsPair base h c.oldest_multi c.oldest_offset
IsSo base h (records.Truncate oldest multi offset) = IsPair base h multi offset
IsSo base h rec = Unit {0}

abbrev ArePast : Counters → List Rec → Type 0
ArePast c recs = (m o : ℕ) (ms : List Member) → Has recs (records.Multi m o ms) → (m < c.multi) × (o ≤ c.offset)

record IsAfter (base : Counters) (h : List MultiEvent) (c : Counters) (recs : List Rec) : Type 0 where
  pair : IsPair base h c.oldest_multi c.oldest_offset
  multi : base.multi ≤ c.multi
  offset : base.offset ≤ c.offset
  past : ArePast c recs

past_more : (c d : Counters) (recs : List Rec) (rec : Rec) → ArePast c recs → c.multi ≤ d.multi → c.offset ≤ d.offset → ((m o : ℕ) (ms : List Member) → rec ≡ records.Multi m o ms → (m < d.multi) × (o ≤ d.offset)) → ArePast d (recs ++ rec ∷ [])
past_more c d recs rec p l g new m o ms k =
    ⊎_elim
    (λ (u : Has recs (records.Multi m o ms)). let q = p m o ms u in let a = q.0 in let b = q.1 in (omega arith, omega arith))
    (λ (u : Has (rec ∷ []) (records.Multi m o ms)). ⊎_elim (λ (v : rec ≡ records.Multi m o ms). new m o ms v) (λ v. absurd v) u)
    (has_cases recs (rec ∷ []) (records.Multi m o ms) k)

module _ (base : Counters) (starts : List Start) (fits : FitsBase base starts) (b : IsBase base) (h : List MultiEvent) (legal : Legal base starts fits b h) where
  pair_max : (m o m' o' : ℕ) → IsPair base h m o → IsPair base h m' o' → IsPair base h (max m m') (max o o')
  pair_max m o m' o' p q =
      ⊎_elim
      (λ (u : q.0 < p.0).
      let r = takes_rise base starts fits b h q.0 p.0 legal (omega arith) in
      let x = r.oldest_multi in
      let y = r.oldest_offset in
      let p1 = p.1 in
      let p2 = p.2 in
      let q1 = q.1 in
      let q2 = q.2 in
      (p.0, omega arith, omega arith))
      (λ (u : p.0 ≤ q.0).
      let r = takes_rise base starts fits b h p.0 q.0 legal u in
      let x = r.oldest_multi in
      let y = r.oldest_offset in
      let p1 = p.1 in
      let p2 = p.2 in
      let q1 = q.1 in
      let q2 = q.2 in
      (q.0, omega arith, omega arith))
      (cases_lt q.0 p.0)

  after_push : (c : Counters) (recs : List Rec) (rec : Rec) → IsAfter base h c recs → IsSo base h rec → IsAfter base h (after_record c rec) (recs ++ rec ∷ [])
  after_push c recs (records.Commit top subs) a so = record { pair = a.pair; multi = a.multi; offset = a.offset; past = past_more c (after_record c (records.Commit top subs)) recs (records.Commit top subs) a.past (omega arith) (omega arith) (λ m o ms e. absurd cc) }
  after_push c recs (records.Abort top subs) a so = record { pair = a.pair; multi = a.multi; offset = a.offset; past = past_more c (after_record c (records.Abort top subs)) recs (records.Abort top subs) a.past (omega arith) (omega arith) (λ m o ms e. absurd cc) }
  after_push c recs (records.Multi multi offset members) a so =
      let x = a.multi in
      let y = a.offset in
      let up : multi < next_multi multi = next_above multi in
      record {
        pair = a.pair;
        multi = omega arith;
        offset = omega arith;
        past = past_more c (after_record c (records.Multi multi offset members)) recs (records.Multi multi offset members) a.past (omega arith) (omega arith)
            (λ m o ms e. let same : multi ≡ m = cc in let at : offset ≡ o = cc in (omega arith, omega arith));
      }
  after_push c recs (records.Checkpoint number n) a so =
      let x = a.multi in
      let y = a.offset in
      record {
        pair = pair_max c.oldest_multi c.oldest_offset n.oldest_multi n.oldest_offset a.pair so;
        multi = omega arith;
        offset = omega arith;
        past = past_more c (after_record c (records.Checkpoint number n)) recs (records.Checkpoint number n) a.past (omega arith) (omega arith) (λ m o ms e. absurd cc);
      }
  after_push c recs (records.Truncate oldest multi offset) a so =
      let x = a.multi in
      let y = a.offset in
      record {
        pair = pair_max c.oldest_multi c.oldest_offset multi offset a.pair so;
        multi = omega arith;
        offset = omega arith;
        past = past_more c (after_record c (records.Truncate oldest multi offset)) recs (records.Truncate oldest multi offset) a.past (omega arith) (omega arith) (λ m o ms e. absurd cc);
      }

  after_all : (recs : List Rec) → ((rec : Rec) → Has recs rec → IsSo base h rec) → IsAfter base h (after_records base recs) recs
  after_all recs =
      by_end (λ (recs : List Rec). ((rec : Rec) → Has recs rec → IsSo base h rec) → IsAfter base h (after_records base recs) recs)
      (λ f. record { pair = (0, refl, refl); multi = omega arith; offset = omega arith; past = λ m o ms k. absurd k })
      (λ recs rec before f.
      let a = before (λ r k. f r (has_left recs (rec ∷ []) r k)) in
      let more : after_records base (recs ++ rec ∷ []) ≡ after_record (after_records base recs) rec = fold_push after_record base recs rec in
      subst (λ (c : Counters). IsAfter base h c (recs ++ rec ∷ [])) (sym more) (after_push (after_records base recs) recs rec a (f rec (has_right recs (rec ∷ []) rec (inl refl)))))
      recs

  -- ---- the new ones

  module _ (recs : List Rec) (so : (rec : Rec) → Has recs rec → IsSo base h rec) where
    abbrev news : List MultiEvent → List Start
    news g = filter_map (kept_start recs) g

    new_given : (g : List MultiEvent) (s : Start) → Has (news g) s → (by : By) × (members : List Member) × Has g (events.Gen by s.multi s.offset members) × (list_any (is_same_multi s.multi) recs ≡ true)
    new_given g s k =
        let r = has_filter_map (kept_start recs) g s k in
        let e = kept_is recs r.0 s r.2 in
        (e.0, e.1, subst (λ (x : MultiEvent). Has g x) e.2 r.1, e.3)

    pub new_recorded : (s : Start) → Has (news h) s → (members : List Member) × Has recs (records.Multi s.multi s.offset members)
    new_recorded s k =
        let given = new_given h s k in
        let r = has_any (is_same_multi s.multi) recs given.3 in
        let n = named s.multi r.0 r.2 in
        let there : Has recs (records.Multi s.multi n.0 n.1) = subst (λ (x : Rec). Has recs x) n.2 r.1 in
        let its = so (records.Multi s.multi n.0 n.1) there in
        let same = one_giving base starts fits b h its.0 given.0 s.multi n.0 s.offset n.1 given.1 legal its.1 given.2 in
        (n.1, subst (λ k. Has recs (records.Multi s.multi k n.1)) same.0 there)

    recorded_new : (m o : ℕ) (ms : List Member) → Has recs (records.Multi m o ms) → Has (news h) (start_of m o)
    recorded_new m o ms k =
        let its = so (records.Multi m o ms) k in
        let yes : list_any (is_same_multi m) recs ≡ true = any_has (is_same_multi m) recs (records.Multi m o ms) k (eqb-refl m) in
        filter_map_has (kept_start recs) h (events.Gen its.0 m o ms) (start_of m o) its.1 (ap (λ t. then_some t (start_of m o)) yes)

    order_step : (g : List MultiEvent) (e : MultiEvent) → Legal base starts fits b (g ++ e ∷ []) → Ascending (map (λ (s : Start). s.multi) (news g)) → (o : Option Start) → kept_start recs e ≡ o
        → Ascending (map (λ (s : Start). s.multi) (news g ++ cons_option o []))
    order_step g e l a None q = subst (λ (t : List Start). Ascending (map (λ (s : Start). s.multi) t)) (sym (append-nil (news g))) a
    order_step g e l a (Some s) q =
        let is = kept_is recs e s q in
        let l2 : Legal base starts fits b (g ++ events.Gen is.0 s.multi s.offset is.1 ∷ []) = subst (λ (z : MultiEvent). Legal base starts fits b (g ++ z ∷ [])) is.2 l in
        let may = each_place_last (MultiMayCome base (BeginsAs starts)) g (events.Gen is.0 s.multi s.offset is.1) l2 in
        let front : Legal base starts fits b g = each_place_start (MultiMayCome base (BeginsAs starts)) g (e ∷ []) l in
        subst Ascending (sym (map-append (λ (t : Start). t.multi) (news g) (s ∷ [])))
        (ascending_join (map (λ (t : Start). t.multi) (news g)) (s.multi ∷ []) a (tt, tt)
        (λ x y j k.
        let r = has_map (λ (t : Start). t.multi) (news g) x j in
        let given = new_given g r.0 r.1 in
        let made = gen_made base starts fits b g given.0 r.0.multi r.0.offset given.1 front given.2 in
        let from = gen_from base starts fits b g r.0.multi r.0.offset front made in
        let below = from.1 in
        let x_is : r.0.multi ≡ x = r.2 in
        let next = may.next in
        ⊎_elim (λ (v : s.multi ≡ y). omega arith) (λ v. absurd v) k))

    new_order : (g : List MultiEvent) → Legal base starts fits b g → Ascending (map (λ (s : Start). s.multi) (news g))
    new_order g =
        by_end (λ (g : List MultiEvent). Legal base starts fits b g → Ascending (map (λ (s : Start). s.multi) (news g)))
        (λ l. tt)
        (λ g e before l.
        let front = each_place_start (MultiMayCome base (BeginsAs starts)) g (e ∷ []) l in
        subst (λ (t : List Start). Ascending (map (λ (s : Start). s.multi) t)) (sym (filter_map-append (kept_start recs) g (e ∷ []))) (order_step g e l (before front) (kept_start recs e) refl))
        g

    -- where a new one begins
    new_at : (s : Start) → Has (news h) s → made_at s.multi h ≡ Some s.offset
    new_at s k = let given = new_given h s k in gen_made base starts fits b h given.0 s.multi s.offset given.1 legal given.2

    new_from : (s : Start) → Has (news h) s → (base.multi ≤ s.multi) × (base.offset ≤ s.offset)
    new_from s k = let r = gen_from base starts fits b h s.multi s.offset legal (new_at s k) in (r.0, r.2)

    module _ (below : (s : Start) → Contains starts s → s.multi < base.multi) where
      old_below : (s : Start) → Has starts s → (s.multi < base.multi) × (s.offset ≤ base.offset)
      old_below s k = let c = has_contains starts s k in (below s c, fits.most s c)

      all : List Start
      all = starts ++ news h

      whole_order : Ascending (map (λ (s : Start). s.multi) (starts ++ news h))
      whole_order =
          subst Ascending (sym (map-append (λ (t : Start). t.multi) starts (news h)))
          (ascending_join (map (λ (t : Start). t.multi) starts) (map (λ (t : Start). t.multi) (news h)) fits.order (new_order h legal)
          (λ x y j k.
          let r = has_map (λ (t : Start). t.multi) starts x j in
          let q = has_map (λ (t : Start). t.multi) (news h) y k in
          let a = (old_below r.0 r.1).0 in
          let c = (new_from q.0 q.1).0 in
          let x_is : r.0.multi ≡ x = r.2 in
          let y_is : q.0.multi ≡ y = q.2 in
          omega arith))

      whole_rising : (s t : Start) → Has (starts ++ news h) s → Has (starts ++ news h) t → s.multi ≤ t.multi → s.offset ≤ t.offset
      whole_rising s t j k l =
          ⊎_elim
          (λ (u : Has starts s). ⊎_elim
          (λ (v : Has starts t). fits.rising s t (has_contains starts s u) (has_contains starts t v) l)
          (λ (v : Has (news h) t). let a = (old_below s u).1 in let c = (new_from t v).1 in omega arith)
          (has_cases starts (news h) t k))
          (λ (u : Has (news h) s). ⊎_elim
          (λ (v : Has starts t). let a = (old_below t v).0 in let c = (new_from s u).0 in absurd (omega arith))
          (λ (v : Has (news h) t). (sound base starts fits b h legal).rise s.multi t.multi s.offset t.offset l (new_at s u) (new_at t v))
          (has_cases starts (news h) t k))
          (has_cases starts (news h) s j)

      whole_below : (s : Start) → Has (starts ++ news h) s → (s.multi < (after_records base recs).multi) × (s.offset ≤ (after_records base recs).offset)
      whole_below s k =
          let a = after_all recs so in
          let am = a.multi in
          let ao = a.offset in
          ⊎_elim
          (λ (u : Has starts s). let o = old_below s u in let x = o.0 in let y = o.1 in (omega arith, omega arith))
          (λ (u : Has (news h) s). let r = new_recorded s u in a.past s.multi s.offset r.0 r.1)
          (has_cases starts (news h) s k)

      whole_least : (s : Start) → Has (starts ++ news h) s → (after_records base recs).oldest_multi ≤ s.multi → (after_records base recs).oldest_offset ≤ s.offset
      whole_least s k l =
          let p = (after_all recs so).pair in
          let p1 = p.1 in
          let p2 = p.2 in
          let l2 : oldest_multi base.oldest_multi (take p.0 h) ≤ s.multi = omega arith in
          let at : oldest_offset base.oldest_offset (take p.0 h) ≤ s.offset =
          ⊎_elim
          (λ (u : Has starts s). base_upto base starts fits b s.multi s.offset (old_below s u).0 (has_contains starts s u) (take p.0 h) (legal_take base starts fits b h p.0 legal) l2)
          (λ (u : Has (news h) s). gen_upto base starts fits b h p.0 s.multi s.offset legal (new_at s u) l2)
          (has_cases starts (news h) s k) in
          omega arith

      pub next_fits : FitsBase (after_records base recs) (starts ++ news h)
      next_fits = record {
        order = whole_order;
        rising = λ s t j k l. whole_rising s t (contains_has (starts ++ news h) s j) (contains_has (starts ++ news h) t k) l;
        most = λ s k. (whole_below s (contains_has (starts ++ news h) s k)).1;
        least = λ s k l. whole_least s (contains_has (starts ++ news h) s k) l;
      }

      pub next_below : (s : Start) → Contains (starts ++ news h) s → s.multi < (after_records base recs).multi
      next_below s k = (whole_below s (contains_has (starts ++ news h) s k)).0

      -- the same that is recorded
      module _ (recorded : List Recorded) (are : (m o : ℕ) → Contains starts (start_of m o) ↔ ((ms : List Member) × Contains recorded (m, o, ms))) where
        abbrev later : List Recorded
        later = recorded ++ filter_map recorded_by recs

        pub next_are : (m o : ℕ) → Contains (starts ++ news h) (start_of m o) ↔ ((ms : List Member) × Contains later (m, o, ms))
        next_are m o = (
          λ k. ⊎_elim
              (λ (u : Has starts (start_of m o)). let r = (are m o).0 (has_contains starts (start_of m o) u) in (r.0, has_contains later (m, o, r.0) (has_left recorded (filter_map recorded_by recs) (m, o, r.0) (contains_has recorded (m, o, r.0) r.1))))
              (λ (u : Has (news h) (start_of m o)). let r = new_recorded (start_of m o) u in
              (r.0, has_contains later (m, o, r.0) (has_right recorded (filter_map recorded_by recs) (m, o, r.0) (filter_map_has recorded_by recs (records.Multi m o r.0) (m, o, r.0) r.1 refl))))
              (has_cases starts (news h) (start_of m o) (contains_has (starts ++ news h) (start_of m o) k)),
          λ r. ⊎_elim
              (λ (u : Has recorded (m, o, r.0)). has_contains (starts ++ news h) (start_of m o) (has_left starts (news h) (start_of m o) (contains_has starts (start_of m o) ((are m o).1 (r.0, has_contains recorded (m, o, r.0) u)))))
              (λ (u : Has (filter_map recorded_by recs) (m, o, r.0)).
              has_contains (starts ++ news h) (start_of m o) (has_right starts (news h) (start_of m o) (recorded_new m o r.0 (has_record recs m o r.0 u))))
              (has_cases recorded (filter_map recorded_by recs) (m, o, r.0) (contains_has later (m, o, r.0) r.1)),
        )

        old_number : (m o : ℕ) (ms : List Member) → Has recorded (m, o, ms) → m < base.multi
        old_number m o ms k = below (start_of m o) ((are m o).1 (ms, has_contains recorded (m, o, ms) k))

        new_number : (m o : ℕ) (ms : List Member) → Has recs (records.Multi m o ms) → base.multi ≤ m
        new_number m o ms k = (new_from (start_of m o) (recorded_new m o ms k)).0

        pub next_once : ((m o p : ℕ) (ms ns : List Member) → Contains recorded (m, o, ms) → Contains recorded (m, p, ns) → ms ≡ ns) → (m o p : ℕ) (ms ns : List Member) → Contains later (m, o, ms) → Contains later (m, p, ns) → ms ≡ ns
        next_once once m o p ms ns j k =
            ⊎_elim
            (λ (u : Has recorded (m, o, ms)). ⊎_elim
            (λ (v : Has recorded (m, p, ns)). once m o p ms ns (has_contains recorded (m, o, ms) u) (has_contains recorded (m, p, ns) v))
            (λ (v : Has (filter_map recorded_by recs) (m, p, ns)). let x = old_number m o ms u in let y = new_number m p ns (has_record recs m p ns v) in absurd (omega arith))
            (has_cases recorded (filter_map recorded_by recs) (m, p, ns) (contains_has later (m, p, ns) k)))
            (λ (u : Has (filter_map recorded_by recs) (m, o, ms)). ⊎_elim
            (λ (v : Has recorded (m, p, ns)). let x = old_number m p ns v in let y = new_number m o ms (has_record recs m o ms u) in absurd (omega arith))
            (λ (v : Has (filter_map recorded_by recs) (m, p, ns)).
            let x = so (records.Multi m o ms) (has_record recs m o ms u) in
            let y = so (records.Multi m p ns) (has_record recs m p ns v) in
            (one_giving base starts fits b h x.0 y.0 m o p ms ns legal x.1 y.1).1)
            (has_cases recorded (filter_map recorded_by recs) (m, p, ns) (contains_has later (m, p, ns) k)))
            (has_cases recorded (filter_map recorded_by recs) (m, o, ms) (contains_has later (m, o, ms) j))

-- ---- a life's start, from that of the life before

pub starts_after : (b : Begun) (starts : List Start) (h : List MultiEvent) (recs : List Rec) → AreStarts b starts → (base : IsBase b.counters) → (s : AreStarts b starts) → Legal b.counters starts s.fits base h → ((rec : Rec) → Has recs rec → IsSo b.counters h rec)
    → AreStarts (begun_after b recs) (starts ++ filter_map (kept_start recs) h)
starts_after b starts h recs a base s legal so = record {
  fits = next_fits b.counters starts s.fits base h legal recs so s.below;
  below = next_below b.counters starts s.fits base h legal recs so s.below;
  are = next_are b.counters starts s.fits base h legal recs so s.below b.recorded s.are;
  once = next_once b.counters starts s.fits base h legal recs so s.below b.recorded s.are s.once;
}
