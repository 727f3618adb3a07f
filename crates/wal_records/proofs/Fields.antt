-- A field that is read is the field that was written, and what was written is read again.
use Rattle.std.proofs.Common.{◌≡◌, ℕ, zero, suc, ◌+◌, ◌*◌, ◌/◌, ◌%◌, ◌^◌, ◌<◌, ◌≤◌, Bool, true, false, cond, ltb, List, [], ◌∷◌, ◌++◌, length, get_or, take, drop, Option, Some, None, refl, sym, ap, subst, ◌∙◌, append_assoc, arith, inl, inr}
use Rattle.std.specs.Int.{byte_at, bytes_low_first}
use Rattle.std.specs.List.{flat_map}
use Rattle.std.proofs.Math.Nat.{div-div-eq-div-mul, pow-succ'}
use Rattle.std.proofs.lemmas.Bool.{cases_lt, ltb-false, le-ltb, ltb-true, lt-ltb}
use Rattle.std.proofs.lemmas.List.{take_at, drop_at, take-append-drop, length-append, length-take, get_or-drop, get_or-take, get_or_past}
use Rattle.std.proofs.lemmas.List.Concat.{flat_map-cons}
use Rattle.byteorder.specs.Endian.{little_from}
use Rattle.byteorder.specs.Numbers.{little_from-cons, little_from-lt, little_number-reads_back, length-bytes_low_first}
use Rattle.tx_events.specs.Ids.{low_half}
use Rattle.wal_records.specs.Numbers.{le_bytes, le_number}
use Rattle.wal_records.specs.Spelling.{IsId, IsMulti, AscendsFrom}
use Rattle.wal_records.specs.Reading.{◌>>=◌, number_at, id_at, multi_at, ids_at}

abbrev pub IsBytes : List ℕ → Type 0
IsBytes bytes = (i : ℕ) → get_or bytes i 0 < 256

pub IsBytes-drop : (n : ℕ) (bytes : List ℕ) → IsBytes bytes → IsBytes (drop n bytes)
IsBytes-drop n bytes h i = rw get_or-drop (h (n + i))

pub IsBytes-take : (n : ℕ) (bytes : List ℕ) → IsBytes bytes → IsBytes (take n bytes)
IsBytes-take n bytes h i =
    elim (cases_lt i n) [
      | inl lt ↦ rw (get_or-take n bytes i 0 lt) (h i)
      | inr le ↦ rw (get_or_past (take n bytes) i 0 (omega (arith, length-take n bytes))) (omega arith)
    ]

pub IsBytes-rest : (b : ℕ) (bytes : List ℕ) → IsBytes (b ∷ bytes) → IsBytes bytes
IsBytes-rest b bytes h i = h (suc i)

-- the value of a step that did not fail
pub bind_some : {A B : Type 0} (r : Option A) (f : A → Option B) (y : B) → (r >>= f) ≡ Some y → (x : A) × (r ≡ Some x) × (f x ≡ Some y)
bind_some (Some x) f y e = (x, refl, e)
bind_some None f y e = absurd cc

-- a test that did not fail
pub guard_some : {A : Type 0} (b : Bool) (x y : A) → cond b None (Some x) ≡ Some y → (b ≡ false) × (x ≡ y)
guard_some true x y e = absurd cc
guard_some false x y e = (refl, cc)

abbrev pub done : {A : Type 0} → A → Option A
done x = Some x

pub some_is : {A : Type 0} (x y : A) → done x ≡ done y → x ≡ y
some_is x y e = cc

-- what a reader took from the front
pub record Takes (bytes text rest : List ℕ) : Type 0 where
  pub parts : bytes ≡ text ++ rest
  pub rest_fits : IsBytes rest

pub Takes-then : (a x b y c : List ℕ) → Takes a x b → Takes b y c → Takes a (x ++ y) c
Takes-then a x b y c p q = record { parts = p.parts ∙ ap (λ (t : List ℕ). x ++ t) q.parts ∙ sym (append_assoc x y c); rest_fits = q.rest_fits }

-- ---- numbers

byte_at-shift : (j x : ℕ) → byte_at (suc j) x ≡ byte_at j (x / 256)
byte_at-shift zero x = refl
byte_at-shift (suc j) x = ap (λ (y : ℕ). y % 256) (ap (λ (p : ℕ). x / p) (pow-succ' 256 (suc j)) ∙ sym (div-div-eq-div-mul x 256 (256 ^ suc j)))

low_first-shift : (n j x : ℕ) → bytes_low_first (suc j) n x ≡ bytes_low_first j n (x / 256)
low_first-shift zero j x = refl
low_first-shift (suc n) j x = λ i. byte_at-shift j x i ∷ low_first-shift n (suc j) x i

-- the bytes of the number that bytes give are these bytes
low_first-little_from : (n : ℕ) (bytes : List ℕ) → length bytes ≡ n → IsBytes bytes → bytes_low_first 0 n (little_from 0 n bytes) ≡ bytes
low_first-little_from zero [] len fits = refl
low_first-little_from zero (b ∷ bytes) len fits = absurd (omega arith)
low_first-little_from (suc n) [] len fits = absurd (omega arith)
low_first-little_from (suc n) (b ∷ bytes) len fits =
    let small : b < 256 = fits 0 in
    let moved : little_from 1 n (b ∷ bytes) ≡ little_from 0 n bytes = little_from-cons 0 n b bytes in
    let whole : little_from 0 (suc n) (b ∷ bytes) ≡ b + 256 * little_from 0 n bytes = ap (λ (y : ℕ). b + 256 * y) moved in
    let low : (b + 256 * little_from 0 n bytes) % 256 ≡ b = omega arith in
    let high : (b + 256 * little_from 0 n bytes) / 256 ≡ little_from 0 n bytes = omega arith in
    let rest : bytes_low_first 1 n (b + 256 * little_from 0 n bytes) ≡ bytes =
    low_first-shift n 0 (b + 256 * little_from 0 n bytes) ∙ ap (λ (y : ℕ). bytes_low_first 0 n y) high ∙ low_first-little_from n bytes (omega arith) (IsBytes-rest b bytes fits) in
    ap (λ (y : ℕ). bytes_low_first 0 (suc n) y) whole ∙ (λ i. low i ∷ rest i)

pub length-le_bytes : (n x : ℕ) → length (le_bytes n x) ≡ n
unfolding le_bytes
length-le_bytes n x = length-bytes_low_first 0 n x

le_bytes-le_number : (n : ℕ) (bytes : List ℕ) → length bytes ≡ n → IsBytes bytes → le_bytes n (le_number n bytes) ≡ bytes
unfolding le_bytes le_number
le_bytes-le_number n bytes len fits = low_first-little_from n bytes len fits

le_number-lt : (n : ℕ) (bytes : List ℕ) → IsBytes bytes → le_number n bytes < 256 ^ n
unfolding le_number
le_number-lt n bytes fits = little_from-lt 0 n bytes fits

le_number-le_bytes : (n x : ℕ) → x < 256 ^ n → le_number n (le_bytes n x) ≡ x
unfolding le_bytes le_number
le_number-le_bytes n x lt =
    ap (little_from 0 n) (sym (append_nil (bytes_low_first 0 n x))) ∙ little_number-reads_back n x [] lt
  where
    append_nil : (l : List ℕ) → l ++ [] ≡ l
    append_nil [] = refl
    append_nil (a ∷ l) = ap (λ (t : List ℕ). a ∷ t) (append_nil l)

pub number_takes : (n : ℕ) (bytes : List ℕ) (x : ℕ) (rest : List ℕ) → IsBytes bytes → number_at n bytes ≡ Some (x, rest) → Takes bytes (le_bytes n x) rest × (x < 256 ^ n)
number_takes n bytes x rest fits e =
    let g = guard_some (ltb (length bytes) n) (le_number n (take n bytes), drop n bytes) (x, rest) e in
    let long : n ≤ length bytes = ltb-false _ _ g.0 in
    let x-is : le_number n (take n bytes) ≡ x = ap (λ (p : ℕ × List ℕ). p.0) g.1 in
    let rest-is : drop n bytes ≡ rest = ap (λ (p : ℕ × List ℕ). p.1) g.1 in
    let front : le_bytes n x ≡ take n bytes = rw (← x-is) (le_bytes-le_number n (take n bytes) (omega (arith, length-take n bytes)) (IsBytes-take n bytes fits)) in
    (record { parts = rw (front, ← rest-is) (sym (take-append-drop n bytes)); rest_fits = rw (← rest-is) (IsBytes-drop n bytes fits) }, rw (← x-is) (le_number-lt n (take n bytes) (IsBytes-take n bytes fits)))

pub number_again : (n x : ℕ) (rest : List ℕ) → x < 256 ^ n → number_at n (le_bytes n x ++ rest) ≡ Some (x, rest)
number_again n x rest lt =
    let len = length-le_bytes n x in
    let long : ltb (length (le_bytes n x ++ rest)) n ≡ false = le-ltb _ _ (omega (arith, length-append (le_bytes n x) rest)) in
    rw (long, take_at (le_bytes n x) rest n len, drop_at (le_bytes n x) rest n len, le_number-le_bytes n x lt) refl

-- ---- ids

pub id_takes : (bytes : List ℕ) (x : ℕ) (rest : List ℕ) → IsBytes bytes → id_at bytes ≡ Some (x, rest) → Takes bytes (le_bytes 8 x) rest × IsId x
unfolding id_at
id_takes bytes x rest fits e =
    let a = bind_some (number_at 8 bytes) (λ n. cond (ltb (low_half n.0) 3) None (Some n)) (x, rest) e in
    let t = number_takes 8 bytes a.0.0 a.0.1 fits a.1 in
    let g = guard_some (ltb (low_half a.0.0) 3) a.0 (x, rest) a.2 in
    let full : 3 ≤ low_half a.0.0 = ltb-false _ _ g.0 in
    subst (λ (p : ℕ × List ℕ). Takes bytes (le_bytes 8 p.0) p.1 × IsId p.0) g.1 (t.0, (full, t.1))

pub id_again : (x : ℕ) (rest : List ℕ) → IsId x → id_at (le_bytes 8 x ++ rest) ≡ Some (x, rest)
unfolding id_at
id_again x rest id =
    let full : ltb (low_half x) 3 ≡ false = le-ltb _ _ id.0 in
    rw (number_again 8 x rest id.1, full) refl

pub multi_takes : (bytes : List ℕ) (x : ℕ) (rest : List ℕ) → IsBytes bytes → multi_at bytes ≡ Some (x, rest) → Takes bytes (le_bytes 8 x) rest × IsMulti x
unfolding multi_at
multi_takes bytes x rest fits e =
    let a = bind_some (number_at 8 bytes) (λ n. cond (ltb (low_half n.0) 1) None (Some n)) (x, rest) e in
    let t = number_takes 8 bytes a.0.0 a.0.1 fits a.1 in
    let g = guard_some (ltb (low_half a.0.0) 1) a.0 (x, rest) a.2 in
    let full : 1 ≤ low_half a.0.0 = ltb-false _ _ g.0 in
    subst (λ (p : ℕ × List ℕ). Takes bytes (le_bytes 8 p.0) p.1 × IsMulti p.0) g.1 (t.0, (full, t.1))

pub multi_again : (x : ℕ) (rest : List ℕ) → IsMulti x → multi_at (le_bytes 8 x ++ rest) ≡ Some (x, rest)
unfolding multi_at
multi_again x rest id =
    let full : ltb (low_half x) 1 ≡ false = le-ltb _ _ id.0 in
    rw (number_again 8 x rest id.1, full) refl

-- ---- lists of ids

guard_true : {A : Type 0} (b : Bool) (r : Option A) (y : A) → cond b r None ≡ Some y → (b ≡ true) × (r ≡ Some y)
guard_true true r y e = (refl, e)
guard_true false r y e = absurd cc

pub ids_take : (n last : ℕ) (bytes : List ℕ) (x : List ℕ × List ℕ) → IsBytes bytes → ids_at n last bytes ≡ Some x → Takes bytes (flat_map (le_bytes 8) x.0) x.1 × (length x.0 ≡ n) × AscendsFrom last x.0
unfolding ids_at
ids_take zero last bytes x fits e =
    subst (λ (y : List ℕ × List ℕ). Takes bytes (flat_map (le_bytes 8) y.0) y.1 × (length y.0 ≡ 0) × AscendsFrom last y.0) (some_is ([], bytes) x e) (record { parts = refl; rest_fits = fits }, refl, tt)
ids_take (suc n) last bytes x fits e =
    let a = bind_some (id_at bytes) (λ first. cond (ltb last first.0) (ids_at n first.0 first.1 >>= λ others. Some (first.0 ∷ others.0, others.1)) None) x e in
    let g = guard_true (ltb last a.0.0) (ids_at n a.0.0 a.0.1 >>= λ others. Some (a.0.0 ∷ others.0, others.1)) x a.2 in
    let above : last < a.0.0 = ltb_is last a.0.0 g.0 in
    let b = bind_some (ids_at n a.0.0 a.0.1) (λ others. Some (a.0.0 ∷ others.0, others.1)) x g.1 in
    let first = id_takes bytes a.0.0 a.0.1 fits a.1 in
    let second = ids_take n a.0.0 a.0.1 b.0 first.0.rest_fits b.1 in
    let both = Takes-then bytes (le_bytes 8 a.0.0) a.0.1 (flat_map (le_bytes 8) b.0.0) b.0.1 first.0 second.0 in
    let made : List ℕ × List ℕ = (a.0.0 ∷ b.0.0, b.0.1) in
    subst (λ (y : List ℕ × List ℕ). Takes bytes (flat_map (le_bytes 8) y.0) y.1 × (length y.0 ≡ suc n) × AscendsFrom last y.0) (some_is made x b.2) (rw flat_map-cons both, ap suc second.1, (above, (first.1, second.2)))
  where
    ltb_is : (m n : ℕ) → ltb m n ≡ true → m < n
    ltb_is m n h = omega (arith, ltb-true m n h)

pub ids_again : (ids : List ℕ) (last : ℕ) (rest : List ℕ) → AscendsFrom last ids → ids_at (length ids) last (flat_map (le_bytes 8) ids ++ rest) ≡ Some (ids, rest)
unfolding ids_at
ids_again [] last rest h = refl
ids_again (x ∷ ids) last rest h =
    let regrouped : flat_map (le_bytes 8) (x ∷ ids) ++ rest ≡ le_bytes 8 x ++ (flat_map (le_bytes 8) ids ++ rest) = ap (λ (t : List ℕ). t ++ rest) (flat_map-cons (le_bytes 8) x ids) ∙ append_assoc (le_bytes 8 x) (flat_map (le_bytes 8) ids) rest in
    let above : ltb last x ≡ true = lt-ltb last x h.0 in
    ap (ids_at (suc (length ids)) last) regrouped ∙ rw (id_again x (flat_map (le_bytes 8) ids ++ rest) h.1.0, above, ids_again ids x rest h.1.1) refl
