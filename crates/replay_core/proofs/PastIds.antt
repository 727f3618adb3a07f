-- Which ids of the window lie past the next one.
use Rattle.std.proofs.Common.{◌≡◌, ◌≢◌, ◌⊎◌, inl, inr, ⊎_elim, ℕ, ◌+◌, ◌-◌, ◌/◌, ◌%◌, ◌^◌, ◌<◌, ◌≤◌, Bool, true, false, ◌&&◌, refl, arith, ◌∙◌}
use Rattle.std.proofs.lemmas.Bool.{le-ltb, le-leb, lt-leb}
use Rattle.tx_events.specs.Ids.{low_half}
use Rattle.tx_events.specs.Order.{ring_before, xid_before}
use Rattle.store_pages.specs.Layouts.{xact_page_of, xact_place_of}
use Rattle.tx_events.specs.PageOrder.{Ids, page_number, page_precedes}
use Rattle.tx_events.proofs.ListSteps.{not_both}
use Rattle.replay_core.specs.Restore.{IsPast}

and_false : (r s : Bool) → r ≡ false → (r && s) ≡ false
and_false r s e = rw e refl

and_true : (r s : Bool) → r ≡ true → s ≡ true → (r && s) ≡ true
and_true r s e f = rw (e, f) refl

ring_of : (a b : ℕ) → 3 ≤ a → 3 ≤ b → xid_before a b ≡ ring_before a b
ring_of a b a_normal b_normal = rw (le-ltb a 3 a_normal, le-ltb b 3 b_normal) refl

normal : (q : ℕ) → 3 ≤ page_number Ids 32768 q
normal q = omega arith

normal_end : (q : ℕ) → 3 ≤ (page_number Ids 32768 q + 32767) % 2 ^ 32
normal_end q = omega arith

not_ahead : (next x : ℕ) → x < next → next + 2 ^ 15 < x + 2 ^ 31
    → (page_number Ids 32768 (low_half next / 32768) + (2 ^ 32 - page_number Ids 32768 (low_half x / 32768))) % 2 ^ 32 < 2 ^ 31
not_ahead next x below near = omega arith

same_page : (next x : ℕ) → x < next → next + 2 ^ 15 < x + 2 ^ 31 → low_half x / 32768 ≡ low_half next / 32768 → low_half next % 32768 ≤ low_half x % 32768 → ⊥
same_page next x below near page place = omega arith

-- an id of the window isn't past
pub not_past : (next x : ℕ) → x < next → next + 2 ^ 15 < x + 2 ^ 31 → IsPast next x → ⊥
not_past next x below near past =
    ⊎_elim
    (λ (h : (xact_page_of x ≡ xact_page_of next) × (xact_place_of next ≤ xact_place_of x)). same_page next x below near h.0 h.1)
    (λ (h : page_precedes Ids 32768 (xact_page_of next) (xact_page_of x) ≡ true).
    let a : ℕ = page_number Ids 32768 (low_half next / 32768) in let b : ℕ = page_number Ids 32768 (low_half x / 32768) in
    let ring : ring_before (page_number Ids 32768 (low_half next / 32768)) (page_number Ids 32768 (low_half x / 32768)) ≡ false = lt-leb (2 ^ 31) ((page_number Ids 32768 (low_half next / 32768) + (2 ^ 32 - page_number Ids 32768 (low_half x / 32768))) % 2 ^ 32) (not_ahead next x below near) in
    let before : xid_before (page_number Ids 32768 (low_half next / 32768)) (page_number Ids 32768 (low_half x / 32768)) ≡ false = ring_of _ _ (normal (low_half next / 32768)) (normal (low_half x / 32768)) ∙ ring in
    not_both (page_precedes Ids 32768 (xact_page_of next) (xact_page_of x)) h (and_false (xid_before (page_number Ids 32768 (low_half next / 32768)) (page_number Ids 32768 (low_half x / 32768))) _ before))
    past

first_ahead : (next x : ℕ) → next ≤ x → x < next + 2 ^ 30 → low_half x / 32768 ≢ low_half next / 32768
    → 2 ^ 31 ≤ (page_number Ids 32768 (low_half next / 32768) + (2 ^ 32 - page_number Ids 32768 (low_half x / 32768))) % 2 ^ 32
first_ahead next x from near differs = omega (arith, differs)

last_ahead : (next x : ℕ) → next ≤ x → x < next + 2 ^ 30 → low_half x / 32768 ≢ low_half next / 32768
    → 2 ^ 31 ≤ (page_number Ids 32768 (low_half next / 32768) + (2 ^ 32 - (page_number Ids 32768 (low_half x / 32768) + 32767) % 2 ^ 32)) % 2 ^ 32
last_ahead next x from near differs = omega (arith, differs)

here : (next x : ℕ) → next ≤ x → x < next + 2 ^ 30 → low_half x / 32768 ≡ low_half next / 32768 → low_half next % 32768 ≤ low_half x % 32768
here next x from near same = omega arith

same_or_not : (a b : ℕ) → (a ≡ b) ⊎ (a ≢ b)
same_or_not a b = grind arith

-- an id from the next one on is past
pub is_past : (next x : ℕ) → next ≤ x → x < next + 2 ^ 30 → IsPast next x
is_past next x from near =
    ⊎_elim
    (λ (same : xact_page_of x ≡ xact_page_of next). inl (same, here next x from near same))
    (λ (differs : xact_page_of x ≢ xact_page_of next).
    let a : ℕ = page_number Ids 32768 (low_half next / 32768) in
    let first : xid_before (page_number Ids 32768 (low_half next / 32768)) (page_number Ids 32768 (low_half x / 32768)) ≡ true
    = ring_of _ _ (normal (low_half next / 32768)) (normal (low_half x / 32768)) ∙ le-leb (2 ^ 31) ((page_number Ids 32768 (low_half next / 32768) + (2 ^ 32 - page_number Ids 32768 (low_half x / 32768))) % 2 ^ 32) (first_ahead next x from near differs) in
    let last : xid_before (page_number Ids 32768 (low_half next / 32768)) ((page_number Ids 32768 (low_half x / 32768) + 32767) % 2 ^ 32) ≡ true
    = ring_of _ _ (normal (low_half next / 32768)) (normal_end (low_half x / 32768)) ∙ le-leb (2 ^ 31) ((page_number Ids 32768 (low_half next / 32768) + (2 ^ 32 - (page_number Ids 32768 (low_half x / 32768) + 32767) % 2 ^ 32)) % 2 ^ 32) (last_ahead next x from near differs) in
    inr (and_true (xid_before (page_number Ids 32768 (low_half next / 32768)) (page_number Ids 32768 (low_half x / 32768))) (xid_before (page_number Ids 32768 (low_half next / 32768)) ((page_number Ids 32768 (low_half x / 32768) + 32767) % 2 ^ 32)) first last))
    (same_or_not (xact_page_of x) (xact_page_of next))
