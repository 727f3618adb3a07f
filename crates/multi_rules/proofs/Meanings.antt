-- What a stored half means along a history: never less than before.
use Rattle.std.proofs.Common.{◌≡◌, ℕ, zero, suc, ◌+◌, ◌-◌, ◌^◌, ◌<◌, ◌≤◌, ◌↔◌, ◌⊎◌, ⊎_elim, max, Bool, true, false, cond, nat_lt, Option, Some, None, List, [], ◌∷◌, length, take, refl, ap, sym, subst, ◌∙◌, arith}
use Rattle.std.specs.Prelude.{IfSome}
use Rattle.std.specs.List.{cons_option}
use Rattle.std.proofs.lemmas.Bool.{cases_lt}
use Rattle.std.proofs.lemmas.Bool.Decides.{nat_tests}
use Rattle.tx_events.specs.declared.event.By.{By}
use Rattle.tx_events.specs.declared.multi.MultiEvent.{MultiEvent}
use Rattle.tx_events.specs.declared.record.Counters.{Counters}
use Rattle.tx_events.specs.Ids.{low_half, next_multi}
use Rattle.tx_events.specs.Multis.{made, made_by, next_made, nth_multi}
use Rattle.tx_events.specs.Nearest.{near_id, offset_near}
use Rattle.tx_model.specs.Replies.{RoundSpan}
use Rattle.place_columns.specs.declared.span.Span.{Span}
use Rattle.place_columns.specs.Columns.{IsWhere}
use Rattle.report_law.specs.MultiLines.{IsMultiFuture, IsMultiTooOld}
use Rattle.history_places.specs.MultiTold.{next_in, oldest_in}
use Rattle.tx_events.proofs.Nearness.{of_some, some_of}
use Rattle.multi_rules.specs.Own.{AreReadMultis}

-- ---- before another

older_of : (n oldest : ℕ) (b : Bool) → nat_lt n (2 ^ 31) ≡ b → IfSome (cond b None (Some (n - 2 ^ 31))) (λ m. m < oldest) ↔ (n < oldest + 2 ^ 31)
older_of n oldest true t = let l : n < 2 ^ 31 = grind (arith, nat_tests) in (λ u. omega arith, λ l. tt)
older_of n oldest false t = let l : 2 ^ 31 ≤ n = grind (arith, nat_tests) in (λ u. omega arith, λ u. omega arith)

pub older_is : (next x oldest : ℕ) → IfSome (near_id next x) (λ m. m < oldest) ↔ (next + offset_near next x < oldest + 2 ^ 31)
older_is next x oldest = older_of (next + offset_near next x) oldest (nat_lt (next + offset_near next x) (2 ^ 31)) refl

pub ahead_is : (next x : ℕ) → ((multi : ℕ) × (near_id next x ≡ Some multi) × (next ≤ multi)) ↔ (2 ^ 31 ≤ offset_near next x)
ahead_is next x =
    let n = next + offset_near next x in (
      λ z. let s = some_of n (2 ^ 31) (nat_lt n (2 ^ 31)) refl z.0 z.1 in let a = s.1 in let b = z.2 in let c = s.0 in omega arith,
      λ l. let f : 2 ^ 31 ≤ n = omega arith in let p : next ≤ n - 2 ^ 31 = omega arith in (n - 2 ^ 31, of_some n (2 ^ 31) (nat_lt n (2 ^ 31)) refl f, p),
    )

meant_rises : (f g x : ℕ) → f ≤ g → f + offset_near f x ≤ g + offset_near g x
meant_rises f g x l = omega arith

pub older_before : (f g x oldest : ℕ) → f ≤ g → IfSome (near_id g x) (λ m. m < oldest) → IfSome (near_id f x) (λ m. m < oldest)
older_before f g x oldest l i = let a = meant_rises f g x l in let b = (older_is g x oldest).0 i in (older_is f x oldest).1 (omega arith)

-- ---- the next multixact along a history

multi_over : (n : ℕ) → n ≤ next_multi n
multi_over n = one (nat_lt (low_half (n + 1)) 1)
  where
    one : (b : Bool) → n ≤ cond b (n + 2) (n + 1)
    one true = omega arith
    one false = omega arith

nth_rises : (first m n : ℕ) → m ≤ n → nth_multi first m ≤ nth_multi first n
nth_rises first m zero l = let z : m ≡ 0 = omega arith in subst (λ k. nth_multi first k ≤ first) (sym z) (omega arith)
nth_rises first m (suc n) l = ⊎_elim
    (λ (u : m < suc n). let a = nth_rises first m n (omega arith) in let b = multi_over (nth_multi first n) in omega arith)
    (λ (u : suc n ≤ m). let z : m ≡ suc n = omega arith in subst (λ k. nth_multi first k ≤ nth_multi first (suc n)) (sym z) (omega arith))
    (cases_lt m (suc n))

longer : (o : Option ℕ) (a b : List ℕ) → length a ≤ length b → length (cons_option o a) ≤ length (cons_option o b)
longer None a b l = l
longer (Some n) a b l = omega arith

count_rises : (p q : ℕ) (h : List MultiEvent) → p ≤ q → length (made (take p h)) ≤ length (made (take q h))
count_rises zero q h l = omega arith
count_rises (suc p) zero h l = absurd (omega arith)
count_rises (suc p) (suc q) [] l = omega arith
count_rises (suc p) (suc q) (e ∷ h) l = longer (made_by e) (made (take p h)) (made (take q h)) (count_rises p q h (omega arith))

pub made_rises : (first : ℕ) (h : List MultiEvent) (p q : ℕ) → p ≤ q → next_made first (take p h) ≤ next_made first (take q h)
made_rises first h p q l = nth_rises first (length (made (take p h))) (length (made (take q h))) (count_rises p q h l)

-- ---- the rules

module _ (base : Counters) (h : List MultiEvent) (round : RoundSpan) (by : By) (from to : ℕ) (read : AreReadMultis h round by from to) (within : to ≤ length h) where
  pub old_iff : (m oldest first : ℕ) (span : Span) → IsWhere (oldest_in base) h oldest span → first ≡ max span.from from → first < span.end → first ≤ to → IfSome (near_id (next_in base (take first h)) m) (λ multi. multi < oldest) ↔ IsMultiTooOld base h round by m oldest
  old_iff m oldest first span is first_is low upto = (
    λ o.
        let s : span.from ≤ first = omega arith in
        record { place = first; read = (read first).1 (omega arith, upto); oldest_is = sym ((is.each first (omega arith)).1 (s, low)); older = o },
    λ i.
        let f = (read i.place).0 i.read in let e = f.1 in let d = f.0 in
        let s = (is.each i.place (omega arith)).0 (sym i.oldest_is) in let a = s.0 in
        older_before (next_in base (take first h)) (next_in base (take i.place h)) m oldest (made_rises base.multi h first i.place (omega arith)) i.older,
  )

  pub not_old : (m oldest first : ℕ) (span : Span) → IsWhere (oldest_in base) h oldest span → first ≡ max span.from from → (span.end ≤ first) ⊎ (to < first) → IsMultiTooOld base h round by m oldest → ⊥
  not_old m oldest first span is first_is out i =
      let f = (read i.place).0 i.read in let e = f.1 in let d = f.0 in
      let s = (is.each i.place (omega arith)).0 (sym i.oldest_is) in let a = s.0 in let b = s.1 in
      ⊎_elim (λ (u : span.end ≤ first). omega arith) (λ (u : to < first). omega arith) out

  pub future_iff : (m next : ℕ) (span : Span) → IsWhere (next_in base) h next span → ((multi : ℕ) × (near_id next m ≡ Some multi) × (next ≤ multi))
      → ((p : ℕ) × (span.from ≤ p) × (p < span.end) × (from ≤ p) × (p ≤ to)) ↔ IsMultiFuture base h round by m next
  future_iff m next span is a = (
    λ z.
        let e = z.4 in
        let there : next_in base (take z.0 h) ≡ next = (is.each z.0 (omega arith)).1 (z.1, z.2) in
        record { place = z.0; read = (read z.0).1 (z.3, z.4); multi = a.0; near = ap (λ n. near_id n m) there ∙ a.1; next_is = sym there; past = a.2 },
    λ i.
        let f = (read i.place).0 i.read in let e = f.1 in
        let s = (is.each i.place (omega arith)).0 (sym i.next_is) in
        (i.place, s.0, s.1, f.0, f.1),
  )

  pub ahead_of : (m next : ℕ) → IsMultiFuture base h round by m next → (multi : ℕ) × (near_id next m ≡ Some multi) × (next ≤ multi)
  ahead_of m next i = (i.multi, ap (λ n. near_id n m) i.next_is ∙ i.near, i.past)
