-- The sets of cutoffs, and what they tell.
use Rattle.std.proofs.Common.{◌≡◌, ℕ, suc, zero, ◌+◌, ◌<◌, ◌≤◌, ◌↔◌, ◌⊎◌, ◌==◌, Bool, true, false, List, [], ◌∷◌, length, take, refl, ap, sym, subst, ◌∙◌, arith, inl, inr, ⊎_elim, Some, None, Option, cond, eqb-true, Contains, is_some}
use Rattle.std.proofs.lemmas.Bool.{cases_Bool, cases_lt, false≢true}
use Rattle.std.specs.BTreeMap.{BTreeMap, get}
use Rattle.std.specs.List.{list_any}
use Rattle.std.specs.Ordering.{is_eq, nat_cmp}
use Rattle.tx_events.specs.declared.event.Event.{Event}
use Rattle.tx_events.specs.declared.record.Counters.{Counters}
use Rattle.tx_events.specs.declared.record.Rec.{Rec}
use Rattle.tx_events.specs.declared.record.Rec.TheVariants as records
use Rattle.tx_events.specs.Horizon.{oldest_xmin}
use Rattle.tx_events.proofs.ListSteps.{eqb-refl}
use Rattle.tx_events.proofs.Membership.{Has, any_has, contains_has, has_any, has_contains}
use Rattle.counted_map.proofs.Counted.{cmp_eq}
use Rattle.store_pages.specs.Layouts.{member_cutoff, offset_cutoff, subtrans_cutoff, xact_cutoff}
use Rattle.life_law.specs.Dumps.{IsOldest, IsSubtransCutoff}
use Rattle.report_law.specs.Dumps.{IsOldestMulti, IsOldestOffset}
use Rattle.dump_rules.specs.Cutting.{HasFirsts, cutoff_at, cuts_member, cuts_offset, cuts_xact, first_cut}

-- ---- the truncations' cutoffs

-- a truncation of these is the first one, or stands there
record IsCut (base : Counters) (recs : List Rec) (oldest multi offset : ℕ) : Type 0 where
  is : (first_cut base ≡ records.Truncate oldest multi offset) ⊎ Has recs (records.Truncate oldest multi offset)

abbrev Cuts : (ℕ → Rec → Bool) → Type 0
Cuts names = (k : ℕ) (rec : Rec) → names k rec ≡ true → (oldest multi offset : ℕ) × (rec ≡ records.Truncate oldest multi offset)

some_cut : (names : ℕ → Rec → Bool) → Cuts names → (base : Counters) (recs : List Rec) (k : ℕ) → list_any (names k) (first_cut base ∷ recs) ≡ true
    → (oldest multi offset : ℕ) × IsCut base recs oldest multi offset × (names k (records.Truncate oldest multi offset) ≡ true)
some_cut names only base recs k t =
    let s = has_any (names k) (first_cut base ∷ recs) t in
    let c = only k s.0 s.2 in
    (c.0, c.1, c.2, record { is = subst (λ (rec : Rec). (first_cut base ≡ rec) ⊎ Has recs rec) c.3 s.1 }, subst (λ (rec : Rec). names k rec ≡ true) c.3 s.2)

cut_any : (names : ℕ → Rec → Bool) (base : Counters) (recs : List Rec) (k oldest multi offset : ℕ) → (first_cut base ≡ records.Truncate oldest multi offset) ⊎ Has recs (records.Truncate oldest multi offset)
    → names k (records.Truncate oldest multi offset) ≡ true → list_any (names k) (first_cut base ∷ recs) ≡ true
cut_any names base recs k oldest multi offset is t = any_has (names k) (first_cut base ∷ recs) (records.Truncate oldest multi offset) is t

only_xact : (first : ℕ) → Cuts (cuts_xact first)
only_xact first k (records.Truncate oldest multi offset) t = (oldest, multi, offset, refl)
only_xact first k (records.Commit top subs) t = absurd (false≢true t)
only_xact first k (records.Abort top subs) t = absurd (false≢true t)
only_xact first k (records.Multi multi offset members) t = absurd (false≢true t)
only_xact first k (records.Checkpoint number counters) t = absurd (false≢true t)

only_offset : Cuts cuts_offset
only_offset k (records.Truncate oldest multi offset) t = (oldest, multi, offset, refl)
only_offset k (records.Commit top subs) t = absurd (false≢true t)
only_offset k (records.Abort top subs) t = absurd (false≢true t)
only_offset k (records.Multi multi offset members) t = absurd (false≢true t)
only_offset k (records.Checkpoint number counters) t = absurd (false≢true t)

only_member : Cuts cuts_member
only_member k (records.Truncate oldest multi offset) t = (oldest, multi, offset, refl)
only_member k (records.Commit top subs) t = absurd (false≢true t)
only_member k (records.Abort top subs) t = absurd (false≢true t)
only_member k (records.Multi multi offset members) t = absurd (false≢true t)
only_member k (records.Checkpoint number counters) t = absurd (false≢true t)

id_of : Rec → ℕ
id_of (records.Truncate oldest multi offset) = oldest
id_of rec = 0

multi_of : Rec → ℕ
multi_of (records.Truncate oldest multi offset) = multi
multi_of rec = 0

offset_of : Rec → ℕ
offset_of (records.Truncate oldest multi offset) = offset
offset_of rec = 0

pub xact_iff : (base : Counters) (recs : List Rec) (k : ℕ) → (list_any (cuts_xact base.oldest k) (first_cut base ∷ recs) ≡ true) ↔ ((oldest : ℕ) × IsOldest base recs oldest × (k ≡ xact_cutoff base.oldest oldest))
unfolding id_of
xact_iff base recs k = (
  λ t.
      let s = some_cut (cuts_xact base.oldest) (only_xact base.oldest) base recs k t in
      (s.0, ⊎_elim (λ f. inl (sym (ap id_of f))) (λ h. inr (s.1, s.2, has_contains recs (records.Truncate s.0 s.1 s.2) h)) s.3.is, sym (eqb-true (xact_cutoff base.oldest s.0) k s.4)),
  λ s. ⊎_elim
      (λ (e : s.0 ≡ base.oldest). cut_any (cuts_xact base.oldest) base recs k base.oldest base.oldest_multi base.oldest_offset (inl refl) (ap (λ n. xact_cutoff base.oldest base.oldest == n) (s.2 ∙ ap (xact_cutoff base.oldest) e) ∙ eqb-refl (xact_cutoff base.oldest base.oldest)))
      (λ (c : (multi offset : ℕ) × Contains recs (records.Truncate s.0 multi offset)).
      cut_any (cuts_xact base.oldest) base recs k s.0 c.0 c.1 (inr (contains_has recs (records.Truncate s.0 c.0 c.1) c.2)) (ap (λ n. xact_cutoff base.oldest s.0 == n) s.2 ∙ eqb-refl (xact_cutoff base.oldest s.0)))
      s.1,
)

pub offset_iff : (base : Counters) (recs : List Rec) (k : ℕ) → (list_any (cuts_offset k) (first_cut base ∷ recs) ≡ true) ↔ ((oldest : ℕ) × IsOldestMulti base recs oldest × (k ≡ offset_cutoff oldest))
unfolding multi_of
offset_iff base recs k = (
  λ t.
      let s = some_cut cuts_offset only_offset base recs k t in
      (s.1, ⊎_elim (λ f. inl (sym (ap multi_of f))) (λ h. inr (s.0, s.2, has_contains recs (records.Truncate s.0 s.1 s.2) h)) s.3.is, sym (eqb-true (offset_cutoff s.1) k s.4)),
  λ s. ⊎_elim
      (λ (e : s.0 ≡ base.oldest_multi). cut_any cuts_offset base recs k base.oldest base.oldest_multi base.oldest_offset (inl refl) (ap (λ n. offset_cutoff base.oldest_multi == n) (s.2 ∙ ap offset_cutoff e) ∙ eqb-refl (offset_cutoff base.oldest_multi)))
      (λ (c : (id offset : ℕ) × Contains recs (records.Truncate id s.0 offset)).
      cut_any cuts_offset base recs k c.0 s.0 c.1 (inr (contains_has recs (records.Truncate c.0 s.0 c.1) c.2)) (ap (λ n. offset_cutoff s.0 == n) s.2 ∙ eqb-refl (offset_cutoff s.0)))
      s.1,
)

pub member_iff : (base : Counters) (recs : List Rec) (k : ℕ) → (list_any (cuts_member k) (first_cut base ∷ recs) ≡ true) ↔ ((oldest : ℕ) × IsOldestOffset base recs oldest × (k ≡ member_cutoff oldest))
unfolding offset_of
member_iff base recs k = (
  λ t.
      let s = some_cut cuts_member only_member base recs k t in
      (s.2, ⊎_elim (λ f. inl (sym (ap offset_of f))) (λ h. inr (s.0, s.1, has_contains recs (records.Truncate s.0 s.1 s.2) h)) s.3.is, sym (eqb-true (member_cutoff s.2) k s.4)),
  λ s. ⊎_elim
      (λ (e : s.0 ≡ base.oldest_offset). cut_any cuts_member base recs k base.oldest base.oldest_multi base.oldest_offset (inl refl) (ap (λ n. member_cutoff base.oldest_offset == n) (s.2 ∙ ap member_cutoff e) ∙ eqb-refl (member_cutoff base.oldest_offset)))
      (λ (c : (id multi : ℕ) × Contains recs (records.Truncate id multi s.0)).
      cut_any cuts_member base recs k c.0 c.1 s.0 (inr (contains_has recs (records.Truncate c.0 c.1 s.0) c.2)) (ap (λ n. member_cutoff s.0 == n) s.2 ∙ eqb-refl (member_cutoff s.0)))
      s.1,
)

-- ---- the cutoffs of pg_subtrans

pub some_of : (o : Option ℕ) → is_some o ≡ true → (q : ℕ) × (o ≡ Some q)
some_of None e = absurd (false≢true e)
some_of (Some q) e = (q, refl)

pub no_firsts : (base : Counters) (h : List Event) (m : BTreeMap ℕ ℕ) → ((c : ℕ) → get nat_cmp m c ≡ None) → HasFirsts base h 0 m
no_firsts base h m none = record { sound = λ c p e. let q : None ≡ Some p = sym (none c) ∙ e in absurd cc; all = λ p l. absurd (omega arith) }

-- a cutoff that is noted already
pub noted_before : (base : Counters) (h : List Event) (place q : ℕ) (m : BTreeMap ℕ ℕ) → get nat_cmp m (cutoff_at base h place) ≡ Some q → HasFirsts base h place m → HasFirsts base h (place + 1) m
noted_before base h place q m there f = record {
  sound = λ c p e. let s = f.sound c p e in let l = s.0 in (omega arith, s.1);
  all = λ p l. ⊎_elim
      (λ (u : p < place). f.all p u)
      (λ (u : place ≤ p).
      let same : place ≡ p = omega arith in
      let s = f.sound (cutoff_at base h place) q there in
      let below = s.0 in
      (q, omega arith, ap (λ n. get nat_cmp m (cutoff_at base h n)) (sym same) ∙ there))
      (cases_lt p place);
}

-- one that is noted now
pub noted_now : (base : Counters) (h : List Event) (cutoff place : ℕ) (m n : BTreeMap ℕ ℕ) → cutoff ≡ cutoff_at base h place → is_some (get nat_cmp m cutoff) ≡ false
    → ((k : ℕ) → get nat_cmp n k ≡ cond (is_eq (nat_cmp cutoff k)) (Some place) (get nat_cmp m k)) → HasFirsts base h place m → HasFirsts base h (place + 1) n
noted_now base h cutoff place m n is absent now f = record {
  sound = λ c p e. ⊎_elim
      (λ (same : (cutoff == c) ≡ true).
      let there : Some place ≡ Some p = sym (ap (λ b. cond b (Some place) (get nat_cmp m c)) (cmp_eq cutoff c ∙ same)) ∙ sym (now c) ∙ e in
      let at : place ≡ p = cc in
      (omega arith, sym (eqb-true cutoff c same) ∙ is ∙ ap (cutoff_at base h) at))
      (λ (other : (cutoff == c) ≡ false).
      let s = f.sound c p (sym (now c ∙ ap (λ b. cond b (Some place) (get nat_cmp m c)) (cmp_eq cutoff c ∙ other)) ∙ e) in
      let l = s.0 in
      (omega arith, s.1))
      (cases_Bool (cutoff == c));
  all = λ p l. ⊎_elim
      (λ (u : p < place).
      let s = f.all p u in
      ⊎_elim
      (λ (same : (cutoff == cutoff_at base h p) ≡ true).
      let key : cutoff ≡ cutoff_at base h p = eqb-true cutoff (cutoff_at base h p) same in
      absurd (false≢true (sym absent ∙ ap (λ k. is_some (get nat_cmp m k)) key ∙ ap is_some s.2)))
      (λ (other : (cutoff == cutoff_at base h p) ≡ false).
      (s.0, s.1, now (cutoff_at base h p) ∙ ap (λ b. cond b (Some place) (get nat_cmp m (cutoff_at base h p))) (cmp_eq cutoff (cutoff_at base h p) ∙ other) ∙ s.2))
      (cases_Bool (cutoff == cutoff_at base h p)))
      (λ (u : place ≤ p).
      let same : place ≡ p = omega arith in
      let key : cutoff ≡ cutoff_at base h p = is ∙ ap (cutoff_at base h) same in
      (place, omega arith, now (cutoff_at base h p) ∙ ap (λ b. cond b (Some place) (get nat_cmp m (cutoff_at base h p))) (cmp_eq cutoff (cutoff_at base h p) ∙ ap (λ k. k == cutoff_at base h p) key ∙ eqb-refl (cutoff_at base h p))))
      (cases_lt p place);
}

take_twice : (h : List Event) (p place : ℕ) → p ≤ place → take p (take place h) ≡ take p h
take_twice h p place l = take-take h p place l
  where
    take-take : (h : List Event) (p place : ℕ) → p ≤ place → take p (take place h) ≡ take p h
    take-take h zero place l = refl
    take-take h (suc p) zero l = absurd (omega arith)
    take-take [] (suc p) (suc place) l = refl
    take-take (e ∷ h) (suc p) (suc place) l = ap (λ (t : List Event). e ∷ t) (take-take h p place (omega arith))

length_front : (h : List Event) (place : ℕ) → place ≤ length h → length (take place h) ≡ place
length_front h zero l = refl
length_front [] (suc place) l = absurd (omega arith)
length_front (e ∷ h) (suc place) l = ap suc (length_front h place (omega arith))

module _ (base : Counters) (h : List Event) (m : BTreeMap ℕ ℕ) (place c : ℕ) (f : HasFirsts base h (length h + 1) m) (low : place ≤ length h) where
  pub first_upto : (q : ℕ) → get nat_cmp m c ≡ Some q → (q ≤ place) ↔ IsSubtransCutoff base (take place h) c
  first_upto q e = (
    λ l. let s = f.sound c q e in (q, (let size = length_front h place low in omega arith), s.1 ∙ ap (λ (t : List Event). subtrans_cutoff base.oldest (oldest_xmin base.next t)) (sym (take_twice h q place l))),
    λ s.
        let size = length_front h place low in
        let l = s.1 in
        let upto : s.0 ≤ place = omega arith in
        let is : c ≡ cutoff_at base h s.0 = s.2 ∙ ap (λ (t : List Event). subtrans_cutoff base.oldest (oldest_xmin base.next t)) (take_twice h s.0 place upto) in
        let a = f.all s.0 (omega arith) in
        let both : Some a.0 ≡ Some q = sym a.2 ∙ ap (get nat_cmp m) (sym is) ∙ e in
        let same : a.0 ≡ q = cc in
        let less = a.1 in
        omega arith,
  )

  pub never_first : get nat_cmp m c ≡ None → IsSubtransCutoff base (take place h) c → ⊥
  never_first e s =
      let size = length_front h place low in
      let l = s.1 in
      let upto : s.0 ≤ place = omega arith in
      let is : c ≡ cutoff_at base h s.0 = s.2 ∙ ap (λ (t : List Event). subtrans_cutoff base.oldest (oldest_xmin base.next t)) (take_twice h s.0 place upto) in
      let a = f.all s.0 (omega arith) in
      let both : Some a.0 ≡ None = sym a.2 ∙ ap (get nat_cmp m) (sym is) ∙ e in
      absurd cc
