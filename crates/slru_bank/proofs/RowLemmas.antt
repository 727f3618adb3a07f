-- Pages that lie past another aren't before it, and what lies so, by the rows of them.
use Rattle.std.proofs.Common.{◌≡◌, ◌⊎◌, inl, inr, ⊎_elim, ℕ, ◌+◌, ◌-◌, ◌*◌, ◌/◌, ◌%◌, ◌^◌, ◌<◌, ◌≤◌, Bool, true, false, ◌&&◌, refl, subst, arith, ◌∙◌}
use Rattle.std.proofs.Math.Nat.{add-mul, div-mul-le_self, mul-le-mul_right}
use Rattle.std.proofs.lemmas.Bool.{le-ltb, lt-leb}
use Rattle.tx_events.specs.Order.{ring_before, xid_before}
use Rattle.tx_events.specs.PageOrder.{Shape, Ids, Multis, Offsets, is_before, place_of, page_number, page_precedes, is_cut}
use Rattle.slru_bank.specs.Rows.{IsPast}

and_false : (r s : Bool) → r ≡ false → (r && s) ≡ false
and_false r s e = rw e refl

and_false-right : (r s : Bool) → s ≡ false → (r && s) ≡ false
and_false-right true s e = e
and_false-right false s e = refl

-- a number that is less than half the ring past another isn't before it
ring_not_before : (a b d : ℕ) → d < 2 ^ 31 → (a ≡ b + d) ⊎ (a + 2 ^ 32 ≡ b + d) → ring_before (a % 2 ^ 32) (b % 2 ^ 32) ≡ false
ring_not_before a b d near way =
    let far : (a % 2 ^ 32 + (2 ^ 32 - b % 2 ^ 32)) % 2 ^ 32 < 2 ^ 31 = omega arith in
    lt-leb (2 ^ 31) ((a % 2 ^ 32 + (2 ^ 32 - b % 2 ^ 32)) % 2 ^ 32) far

-- two numbers that are no special ids compare on the ring
ring_of : (a b : ℕ) → 3 ≤ a → 3 ≤ b → xid_before a b ≡ ring_before a b
ring_of a b a_normal b_normal = rw (le-ltb a 3 a_normal, le-ltb b 3 b_normal) refl

on_ring : (shape : Shape) (x y : ℕ) → x + 4 < 2 ^ 32 → y + 4 < 2 ^ 32 → ((y ≤ x) × (x < y + 2 ^ 31)) ⊎ (x + 2 ^ 31 < y)
    → is_before shape ((x + place_of shape) % 2 ^ 32) ((y + place_of shape) % 2 ^ 32) ≡ false
on_ring shape x y x_fits y_fits near = of shape
  where
    way : (k : ℕ) → ring_before ((x + k) % 2 ^ 32) ((y + k) % 2 ^ 32) ≡ false
    way k = ⊎_elim
        (λ (h : (y ≤ x) × (x < y + 2 ^ 31)). ring_not_before (x + k) (y + k) (x - y) (omega (arith, h.0, h.1)) (inl (omega (arith, h.0))))
        (λ (h : x + 2 ^ 31 < y). ring_not_before (x + k) (y + k) (x + 2 ^ 32 - y) (omega arith) (inr (omega arith)))
        near

    of : (s : Shape) → is_before s ((x + place_of s) % 2 ^ 32) ((y + place_of s) % 2 ^ 32) ≡ false
    of Ids = ring_of ((x + 4) % 2 ^ 32) ((y + 4) % 2 ^ 32) (omega arith) (omega arith) ∙ way 4
    of Multis = way 2
    of Offsets = way 0

pub precedes_none : (shape : Shape) (n l c : ℕ) → IsPast n l c → page_precedes shape n l c ≡ false
precedes_none shape n l c past =
    and_false (is_before shape (page_number shape n l) (page_number shape n c)) _ (on_ring shape (l * n) (c * n) past.page_fits past.other_fits past.near)

pub cut_none : (shape : Shape) (n c q : ℕ) → IsPast n (q / 32 * 32 + 31) c → is_cut shape n c q ≡ false
cut_none shape n c q past = and_false-right (page_precedes shape n (q / 32 * 32) c) (page_precedes shape n (q / 32 * 32 + 31) c) (precedes_none shape n (q / 32 * 32 + 31) c past)

-- so many pages have no more numbers than there are
whole_pages : (n l m : ℕ) → l < m / n → l * n + n ≤ m
whole_pages n l m below =
    let up : (l + 1) * n ≤ m / n * n = mul-le-mul_right n (omega arith) in
    let apart : (l + 1) * n ≡ l * n + 1 * n = add-mul l 1 n in
    let most : m / n * n ≤ m = div-mul-le_self m n in
    omega arith

pub ahead_past : (n page l : ℕ) → 1 ≤ n → page ≤ l → l < page + (2 ^ 31 - 1) / n → l < (2 ^ 32 - 4) / n → IsPast n l page
ahead_past n page l some from near within =
    let low : page * n ≤ l * n = mul-le-mul_right n from in
    let fits : l * n + n ≤ 2 ^ 32 - 4 = whole_pages n l (2 ^ 32 - 4) within in
    let far : l * n ≤ (page + (l - page)) * n = mul-le-mul_right n (omega arith) in
    let apart : (page + (l - page)) * n ≡ page * n + (l - page) * n = add-mul page (l - page) n in
    let steps : (l - page) * n + n ≤ 2 ^ 31 - 1 = whole_pages n (l - page) (2 ^ 31 - 1) (omega arith) in
    record {
      page_fits = omega arith;
      other_fits = omega arith;
      near = inl (low, omega arith);
    }

-- the same where the numbers are those of a conversion
pub near_past : (n m page p l : ℕ) → m ≡ n → p ≡ page → 1 ≤ n → page ≤ l → l < p + (2 ^ 31 - 1) / m → l < (2 ^ 32 - 4) / m → IsPast n l page
near_past n m page p l is at some from near within =
    subst (λ (k : ℕ). IsPast k l page) is (subst (λ (q : ℕ). IsPast m l q) at (ahead_past m p l (omega (arith, is)) (omega (arith, at)) near within))

pub turn_past : (n page l : ℕ) → 1 ≤ n → page * n < 2 ^ 32 - 4 → l < (page * n - 2 ^ 31) / n → IsPast n l page
turn_past n page l some fits below =
    let most : l * n + n ≤ page * n - 2 ^ 31 = whole_pages n l (page * n - 2 ^ 31) below in
    record {
      page_fits = omega arith;
      other_fits = omega arith;
      near = inr (omega arith);
    }

pub kept_past : (n kept page q : ℕ) → kept * n < 2 ^ 32 - 4 → kept * n < page * n + 2 ^ 31 → page ≤ q → q ≤ kept → IsPast n kept q
kept_past n kept page q fits near from to =
    let low : page * n ≤ q * n = mul-le-mul_right n from in
    let high : q * n ≤ kept * n = mul-le-mul_right n to in
    record {
      page_fits = omega arith;
      other_fits = omega arith;
      near = inl (high, omega arith);
    }

pub kept_far : (n kept page q : ℕ) → 1 ≤ n → kept * n < 2 ^ 32 - 4 → kept * n + 2 ^ 31 < page * n → page ≤ q → q < (2 ^ 32 - 4) / n → IsPast n kept q
kept_far n kept page q some fits far from to =
    let low : page * n ≤ q * n = mul-le-mul_right n from in
    let high : q * n + n ≤ 2 ^ 32 - 4 = whole_pages n q (2 ^ 32 - 4) to in
    record {
      page_fits = omega arith;
      other_fits = omega arith;
      near = inr (omega arith);
    }
