-- A page that holds a number from the cutoff's number on, and less than 2^31 - 2^15 past it, is never cut.
use Rattle.std.proofs.Common.{◌≡◌, ◌⊎◌, inl, inr, ⊎_elim, ℕ, ◌+◌, ◌-◌, ◌*◌, ◌/◌, ◌%◌, ◌^◌, ◌<◌, ◌≤◌, Bool, true, false, ◌&&◌, refl, arith, ◌∙◌}
use Rattle.std.proofs.Math.Nat.{add-mul, div-add-mod', div-mul-le_self, mod-lt, mul-le-mul_right}
use Rattle.std.proofs.lemmas.Bool.{le-ltb, lt-leb}
use Rattle.std.proofs.lemmas.Nat.{le-div}
use Rattle.std.proofs.lemmas.Bool.Decides.{nat_tests}
use Rattle.tx_events.specs.Ids.{low_half}
use Rattle.tx_events.specs.Order.{ring_before, xid_before}
use Rattle.tx_events.specs.PageOrder.{Shape, Ids, Multis, Offsets, is_before, place_of, page_number, page_precedes, is_cut, IsKeptFrom}

and_false : (r s : Bool) → r ≡ false → (r && s) ≡ false
and_false r s e = rw e refl

and_false-right : (r s : Bool) → s ≡ false → (r && s) ≡ false
and_false-right true s e = e
and_false-right false s e = refl

-- no page is seen by a special id
abbrev pub NoSpecial : Shape → ℕ → Type 0
NoSpecial Ids n = (p : ℕ) → 3 ≤ page_number Ids n p
NoSpecial Multis n = Unit {0}
NoSpecial Offsets n = Unit {0}

-- a number that is less than half the ring past another isn't before it
ring_not_before : (a b d : ℕ) → d < 2 ^ 31 → (a ≡ b + d) ⊎ (a + 2 ^ 32 ≡ b + d) → ring_before (a % 2 ^ 32) (b % 2 ^ 32) ≡ false
ring_not_before a b d near way =
    let far : (a % 2 ^ 32 + (2 ^ 32 - b % 2 ^ 32)) % 2 ^ 32 < 2 ^ 31 = omega arith in
    lt-leb (2 ^ 31) ((a % 2 ^ 32 + (2 ^ 32 - b % 2 ^ 32)) % 2 ^ 32) far

-- two numbers that are no special ids compare on the ring
ring_of : (a b : ℕ) → 3 ≤ a → 3 ≤ b → xid_before a b ≡ ring_before a b
ring_of a b a_normal b_normal = rw (le-ltb a 3 a_normal, le-ltb b 3 b_normal) refl

on_ring : (shape : Shape) (n p q : ℕ) → NoSpecial shape n → ring_before (page_number shape n p) (page_number shape n q) ≡ false → is_before shape (page_number shape n p) (page_number shape n q) ≡ false
on_ring Ids n p q normal e = ring_of (page_number Ids n p) (page_number Ids n q) (normal p) (normal q) ∙ e
on_ring Multis n p q normal e = e
on_ring Offsets n p q normal e = e

-- x is before the end of page l, which is at most 31 pages past its own, and o is on page c
record Places (n x o l c : ℕ) : Type 0 where
  last_from : x < l * n + n
  last_to : l * n ≤ x + 31 * n
  cut_from : c * n ≤ o
  cut_to : o < c * n + n
  order : o ≤ x → c * n ≤ l * n

-- page f is the first one of x's segment, and o is on page c
record FirstPlaces (n x o f c : ℕ) : Type 0 where
  first_from : x < f * n + 32 * n
  first_to : f * n ≤ x
  cut_from : c * n ≤ o
  cut_to : o < c * n + n

-- how far page l is past page c on the ring
record Ahead (n l c : ℕ) : Type 0 where
  by : ℕ
  within : by < 2 ^ 31
  is : (l * n ≡ c * n + by) ⊎ (l * n + 2 ^ 32 ≡ c * n + by)

same_lap : (n x o l c : ℕ) → n ≤ 2 ^ 15 → o ≤ x → x + 2 ^ 21 < o + 2 ^ 31 → Places n x o l c → Ahead n l c
same_lap n x o l c few from to at = let order = at.order from in record { by = l * n - c * n; within = omega arith; is = inl (omega arith) }

next_lap : (n x o l c : ℕ) → n ≤ 2 ^ 15 → o < 2 ^ 32 → x < o → x + 2 ^ 32 + 2 ^ 21 < o + 2 ^ 31 → Places n x o l c → Ahead n l c
next_lap n x o l c few small back to at = record { by = l * n + 2 ^ 32 - c * n; within = omega arith; is = inr (omega arith) }

first_same_lap : (n x o f c : ℕ) → n ≤ 2 ^ 15 → o + 2 ^ 31 ≤ x + 2 ^ 21 → x + 2 ^ 15 < o + 2 ^ 31 → FirstPlaces n x o f c → Ahead n f c
first_same_lap n x o f c few far to at = record { by = f * n - c * n; within = omega arith; is = inl (omega arith) }

first_next_lap : (n x o f c : ℕ) → n ≤ 2 ^ 15 → o < 2 ^ 32 → o + 2 ^ 31 ≤ x + 2 ^ 32 + 2 ^ 21 → x + 2 ^ 32 + 2 ^ 15 < o + 2 ^ 31 → FirstPlaces n x o f c → Ahead n f c
first_next_lap n x o f c few small far to at = record { by = f * n + 2 ^ 32 - c * n; within = omega arith; is = inr (omega arith) }

either_way : (a b : ℕ) → (a ≤ b) ⊎ (b < a)
either_way a b = grind arith

ahead : (n x o l c : ℕ) → n ≤ 2 ^ 15 → o ≤ x → x + 2 ^ 21 < o + 2 ^ 31 → Places n (low_half x) (low_half o) l c → Ahead n l c
ahead n x o l c few from to at =
    ⊎_elim (λ (h : low_half o ≤ low_half x). same_lap n (low_half x) (low_half o) l c few h (omega arith) at)
    (λ (h : low_half x < low_half o). next_lap n (low_half x) (low_half o) l c few (omega arith) h (omega arith) at)
    (either_way (low_half o) (low_half x))

first_ahead : (n x o f c : ℕ) → n ≤ 2 ^ 15 → o + 2 ^ 31 ≤ x + 2 ^ 21 → x + 2 ^ 15 < o + 2 ^ 31 → FirstPlaces n (low_half x) (low_half o) f c → Ahead n f c
first_ahead n x o f c few far to at =
    ⊎_elim (λ (h : low_half o ≤ low_half x). first_same_lap n (low_half x) (low_half o) f c few (omega arith) (omega arith) at)
    (λ (h : low_half x < low_half o). first_next_lap n (low_half x) (low_half o) f c few (omega arith) (omega arith) (omega arith) at)
    (either_way (low_half o) (low_half x))

past_cut : (shape : Shape) (n l c : ℕ) → Ahead n l c → ring_before (page_number shape n l) (page_number shape n c) ≡ false
past_cut shape n l c far =
    let way : (l * n + place_of shape ≡ c * n + place_of shape + far.by) ⊎ (l * n + place_of shape + 2 ^ 32 ≡ c * n + place_of shape + far.by) =
    ⊎_elim (λ (h : l * n ≡ c * n + far.by). inl (omega arith)) (λ (h : l * n + 2 ^ 32 ≡ c * n + far.by). inr (omega arith)) far.is in
    ring_not_before (l * n + place_of shape) (c * n + place_of shape) far.by far.within way

places : (n x o : ℕ) → 1 ≤ n → Places n x o (x / n / 32 * 32 + 31) (o / n)
places n x o some =
    let q : ℕ = x / n in
    let c : ℕ = o / n in
    let l : ℕ = q / 32 * 32 + 31 in
    let x_from : q * n ≤ x = div-mul-le_self x n in
    let x_to : q * n + x % n ≡ x = div-add-mod' x n in
    let x_rest : x % n < n = mod-lt x some in
    let o_to : c * n + o % n ≡ o = div-add-mod' o n in
    let o_rest : o % n < n = mod-lt o some in
    let up : q * n ≤ l * n = mul-le-mul_right n (omega arith) in
    let down : l * n ≤ (q + 31) * n = mul-le-mul_right n (omega arith) in
    let apart : (q + 31) * n ≡ q * n + 31 * n = add-mul q 31 n in
    record {
      last_from = omega arith;
      last_to = omega arith;
      cut_from = div-mul-le_self o n;
      cut_to = omega arith;
      order = λ from. mul-le-mul_right n (let lower : c ≤ q = le-div c x n some (omega arith) in omega arith);
    }

first_places : (n x o : ℕ) → 1 ≤ n → FirstPlaces n x o (x / n / 32 * 32) (o / n)
first_places n x o some =
    let q : ℕ = x / n in
    let c : ℕ = o / n in
    let f : ℕ = q / 32 * 32 in
    let x_from : q * n ≤ x = div-mul-le_self x n in
    let x_to : q * n + x % n ≡ x = div-add-mod' x n in
    let x_rest : x % n < n = mod-lt x some in
    let o_to : c * n + o % n ≡ o = div-add-mod' o n in
    let o_rest : o % n < n = mod-lt o some in
    let down : f * n ≤ q * n = mul-le-mul_right n (omega arith) in
    let up : q * n ≤ (f + 31) * n = mul-le-mul_right n (omega arith) in
    let apart : (f + 31) * n ≡ f * n + 31 * n = add-mul f 31 n in
    record {
      first_from = omega arith;
      first_to = omega arith;
      cut_from = div-mul-le_self o n;
      cut_to = omega arith;
    }

-- a page that isn't behind page c doesn't precede it
not_preceding : (shape : Shape) (n p c : ℕ) → NoSpecial shape n → Ahead n p c → page_precedes shape n p c ≡ false
not_preceding shape n p c normal far =
    and_false (is_before shape (page_number shape n p) (page_number shape n c)) _ (on_ring shape n p c normal (past_cut shape n p c far))

-- the segment of a page with a number from the cutoff's number on, up to nearly half a ring ahead, isn't cut: nearby
-- its last page isn't before the cutoff, and far ahead, where that one may already count as before it, its first page
pub is_kept : (shape : Shape) (n o x : ℕ) → 1 ≤ n → n ≤ 2 ^ 15 → NoSpecial shape n → o ≤ x → x + 2 ^ 15 < o + 2 ^ 31 → is_cut shape n (low_half o / n) (low_half x / n) ≡ false
is_kept shape n o x some few normal from to =
    let f : ℕ = low_half x / n / 32 * 32 in
    let c : ℕ = low_half o / n in
    ⊎_elim
    (λ (h : o + 2 ^ 31 ≤ x + 2 ^ 21).
    let far : Ahead n f c = first_ahead n x o f c few h to (first_places n (low_half x) (low_half o) some) in
    and_false (page_precedes shape n f c) (page_precedes shape n (f + 31) c) (not_preceding shape n f c normal far))
    (λ (h : x + 2 ^ 21 < o + 2 ^ 31).
    let near : Ahead n (f + 31) c = ahead n x o (f + 31) c few from h (places n (low_half x) (low_half o) some) in
    and_false-right (page_precedes shape n f c) (page_precedes shape n (f + 31) c) (not_preceding shape n (f + 31) c normal near))
    (either_way (o + 2 ^ 31) (x + 2 ^ 21))

-- the four stores

xact_normal : NoSpecial Ids 32768
xact_normal p = omega arith

subtrans_normal : NoSpecial Ids 2048
subtrans_normal p = omega arith

pub id_is_kept : IsKeptFrom Ids 32768
id_is_kept o x from to = is_kept Ids 32768 o x (omega arith) (omega arith) xact_normal from to

pub parent_is_kept : IsKeptFrom Ids 2048
parent_is_kept o x from to = is_kept Ids 2048 o x (omega arith) (omega arith) subtrans_normal from to

pub multi_is_kept : IsKeptFrom Multis 2048
multi_is_kept o x from to = is_kept Multis 2048 o x (omega arith) (omega arith) tt from to

pub member_is_kept : IsKeptFrom Offsets 1636
member_is_kept o x from to = is_kept Offsets 1636 o x (omega arith) (omega arith) tt from to

-- a page doesn't come before itself
ring_itself : (a : ℕ) → a < 2 ^ 32 → ring_before a a ≡ false
ring_itself a small = let far : (a + (2 ^ 32 - a)) % 2 ^ 32 < 2 ^ 31 = omega arith in lt-leb (2 ^ 31) ((a + (2 ^ 32 - a)) % 2 ^ 32) far

xid_itself : (a : ℕ) → a < 2 ^ 32 → xid_before a a ≡ false
xid_itself a small = ⊎_elim (λ (h : 3 ≤ a). ring_of a a h h ∙ ring_itself a small) (λ (h : a < 3). special a h) (either_way 3 a)
  where
    special : (a : ℕ) → a < 3 → xid_before a a ≡ false
    special a h = grind (arith, nat_tests)

pub precedes_itself : (shape : Shape) (n p : ℕ) → page_precedes shape n p p ≡ false
precedes_itself Ids n p = and_false _ _ (xid_itself (page_number Ids n p) (omega arith))
precedes_itself Multis n p = and_false _ _ (ring_itself (page_number Multis n p) (omega arith))
precedes_itself Offsets n p = and_false _ _ (ring_itself (page_number Offsets n p) (omega arith))
