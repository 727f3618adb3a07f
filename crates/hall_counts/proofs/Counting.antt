-- What the critical sections of the two counters may add.
use Rattle.std.proofs.Common.{◌≡◌, ℕ, ◌+◌, ◌-◌, ◌<◌, ◌≤◌, List, [], ◌∷◌, ◌++◌, length, set, ◌∙◌, ap, subst, get_or-set_same, get_or-set_other, length-set, arith}
use Rattle.notes.specs.Lists.{at}
use Rattle.hall.specs.declared.view.View.{View}
use Rattle.hall.specs.Told.{added, published, left}
use Rattle.hall_counts.specs.declared.Entry.{Entry}
use Rattle.hall_counts.specs.Steps.{Added, CaughtUp}
use Rattle.hall_counts.specs.Tally.{total, last, May, Kept}
use Rattle.hall_counts.specs.Keeping.{last_more}

-- behind a publication of what was found, one may be counted
pub adds_may : (seen : List (List Entry)) (p q : ℕ) (said e : Entry) → p ≡ 2 → q ≡ 0 → p < length seen → said.amount ≡ total (at seen 0) → e.amount ≤ 1 → May (set seen p (at seen p ++ said ∷ [])) q e
adds_may seen p q said e p_is q_is inside found few =
    let more : List (List Entry) = set seen p (at seen p ++ said ∷ []) in
    let word : last (at more p) ≡ said.amount = ap last (get_or-set_same seen p (at seen p ++ said ∷ []) [] inside) ∙ last_more 0 (at seen p) said in
    let word' : last (at more 2) ≡ said.amount = subst (λ (z : ℕ). last (at more z) ≡ said.amount) p_is word in
    let first : total (at more 0) ≡ total (at seen 0) = ap total (get_or-set_other seen p 0 (at seen p ++ said ∷ []) [] (λ k. omega arith)) in
    record { first = λ _. (few, omega arith); second = λ k. absurd (omega arith); word = λ k. absurd (omega arith) }

-- what the word says may be caught up with
pub catches_may : (ls : List (List Entry)) (value said q : ℕ) (e : Entry) → Kept ls → value ≡ total (at ls 1) → last (at ls 2) ≡ said → q ≡ 1 → e.amount ≡ said - value → May ls q e
catches_may ls value said q e kept found word q_is much =
    let a = kept.behind in let b = kept.said in
    record { first = λ k. absurd (omega arith); second = λ _. omega arith; word = λ k. absurd (omega arith) }

abbrev V : Type 0
V = View (Unit {0}) Entry

-- the history at a place that has one entry more
one_more : (v w : V) (p q : ℕ) (e : Entry) → p ≡ q → q < length v.seen → w.seen ≡ added p e v → at w.seen q ≡ at v.seen q ++ e ∷ []
one_more v w p q e same inside is = ap (λ (z : List (List Entry)). at z q) is ∙ (ap (λ (z : ℕ). at (set v.seen z (at v.seen z ++ e ∷ [])) q) same ∙ get_or-set_same v.seen q (at v.seen q ++ e ∷ []) [] inside)

-- what a word says once it was published
pub tells : (v w : V) (p n : ℕ) (e : Entry) → p ≡ 3 → 3 < length v.seen → w ≡ published p e v → e.amount ≡ n → last (at w.seen 3) ≡ n
tells v w p n e same inside is much = ap last (one_more v w p 3 e same inside (ap (λ (z : V). z.seen) is)) ∙ (last_more 0 (at v.seen 3) e ∙ much)

-- a counter that was left with one entry more
pub adds : (v u w : V) (p q n k : ℕ) (said e : Entry) → p ≡ 2 → q ≡ 0 → 2 < length v.seen → u ≡ published p said v → w ≡ left q e u → total (at v.seen 0) + k ≡ n → e ≡ record { by = v.name; amount = k }
    → (total (at v.seen 0) < 18446744073709551615 → k ≡ 1) → (total (at v.seen 0) ≡ 18446744073709551615 → k ≡ 0) → Added v w n
adds v u w p q n k said e p_is q_is inside u_is w_is sum e_is some none =
    let same : at u.seen 0 ≡ at v.seen 0 = ap (λ (z : V). at z.seen 0) u_is ∙ get_or-set_other v.seen p 0 (at v.seen p ++ said ∷ []) [] (λ z. omega arith) in
    let long : length u.seen ≡ length v.seen = ap (λ (z : V). length z.seen) u_is ∙ length-set v.seen p (at v.seen p ++ said ∷ []) in
    let much : k ≡ n - total (at v.seen 0) = omega arith in record {
      before = at v.seen 0;
      seen = one_more u w q 0 e q_is (omega arith) (ap (λ (z : V). z.seen) w_is) ∙ (λ j. same j ++ (e_is ∙ ap (λ (z : ℕ). record { by = v.name; amount = z }) much) j ∷ []);
      more = λ lt. let one = some lt in omega arith;
      full = λ at_end. let zero_more = none at_end in omega arith;
    }

-- counter 1 was left behind a load of word 0
pub catches : (v w : V) (q n said value : ℕ) (e : Entry) → q ≡ 1 → 3 < length v.seen → w ≡ left q e v → value ≡ total (at v.seen 1) → last (at v.seen 2) ≡ said → value + (said - value) ≡ n → e ≡ record { by = v.name; amount = said - value } → CaughtUp v w n
catches v w q n said value e q_is inside w_is found word sum e_is =
    let much : said - value ≡ n - total (at v.seen 1) = omega arith in
    let same : last (at w.seen 2) ≡ said = ap (λ (z : V). last (at z.seen 2)) w_is ∙ (ap last (get_or-set_other v.seen q 2 (at v.seen q ++ e ∷ []) [] (λ z. omega arith)) ∙ word) in record {
      before = at v.seen 1;
      seen = one_more v w q 1 e q_is (omega arith) (ap (λ (z : V). z.seen) w_is) ∙ (λ j. at v.seen 1 ++ (e_is ∙ ap (λ (z : ℕ). record { by = v.name; amount = z }) much) j ∷ []);
      reached = omega (arith, same);
    }

-- the same of a pass that had the same name before
pub added_by : (v u w : V) (n : ℕ) → u.name ≡ v.name → Added u w n → Added v w n
added_by v u w n same a = record { before = a.before; seen = a.seen ∙ ap (λ (z : ℕ). a.before ++ record { by = z; amount = n - total a.before } ∷ []) same; more = a.more; full = a.full }

pub caught_by : (v u w : V) (n : ℕ) → u.name ≡ v.name → CaughtUp u w n → CaughtUp v w n
caught_by v u w n same a = record { before = a.before; seen = a.seen ∙ ap (λ (z : ℕ). a.before ++ record { by = z; amount = n - total a.before } ∷ []) same; reached = a.reached }
