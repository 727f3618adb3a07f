-- When a top has had more running subids than its entry has room for, event by event.
use Rattle.std.proofs.Common.{◌≡◌, ℕ, suc, zero, ◌<◌, ◌≤◌, List, [], ◌∷◌, ◌++◌, length, take, reverse, refl, ap, sym, ◌∙◌, arith, Bool, true, false, ◌||◌, subst, ◌+◌, nat_lt, take_all}
use Rattle.std.proofs.lemmas.Bool.Decides.{nat_tests}
use Rattle.std.proofs.lemmas.List.{reverse-append, reverse-reverse, take-append-le}
use Rattle.std.specs.List.{list_any, range_with_len}
use Rattle.std.proofs.lemmas.Bool.{or_parts}
use Rattle.tx_events.proofs.ListSteps.{length_push, list_any-push, range_push}
use Rattle.tx_events.specs.Snapshots.{running_subs, has_overflowed}
use Rattle.tx_events.specs.declared.event.Event.{Event}

-- the top had too many running subids at some place, from the newest event to the oldest
abbrev pub overflow_up : List Event → ℕ → Bool
overflow_up [] t = false
overflow_up (e ∷ older) t = overflow_up older t || nat_lt 64 (length (running_subs (reverse (e ∷ older)) t))

any_range : (p q : ℕ → Bool) (a n : ℕ) → ((k : ℕ) → k < a + n → p k ≡ q k) → list_any p (range_with_len a n) ≡ list_any q (range_with_len a n)
any_range p q a zero f = refl
any_range p q a (suc n) f = rw (f a (omega arith)) (ap (λ b. q a || b) (any_range p q (a + 1) n (λ k l. f k (omega arith))))

-- the top has too many running subids after the first p events
abbrev is_over : List Event → ℕ → ℕ → Bool
is_over h t p = nat_lt 64 (length (running_subs (take p h) t))

pub overflow_push : (h : List Event) (e : Event) (t : ℕ) → has_overflowed (h ++ e ∷ []) t ≡ (has_overflowed h t || nat_lt 64 (length (running_subs (h ++ e ∷ []) t)))
overflow_push h e t =
    let places : length (h ++ e ∷ []) + 1 ≡ suc (length h + 1) = (let n : length (h ++ e ∷ []) ≡ suc (length h) = length_push h e in omega arith) in
    let whole : 0 + (length h + 1) ≡ length (h ++ e ∷ []) = (let n : length (h ++ e ∷ []) ≡ suc (length h) = length_push h e in omega arith) in
    ap (λ n. list_any (is_over (h ++ e ∷ []) t) (range_with_len 0 n)) places
    ∙ ap (list_any (is_over (h ++ e ∷ []) t)) (range_push 0 (length h + 1))
    ∙ list_any-push (is_over (h ++ e ∷ []) t) (range_with_len 0 (length h + 1)) (0 + (length h + 1))
    ∙ ap (λ b. b || is_over (h ++ e ∷ []) t (0 + (length h + 1))) (any_range (is_over (h ++ e ∷ []) t) (is_over h t) 0 (length h + 1) (λ k l. ap (λ g. nat_lt 64 (length (running_subs g t))) (take-append-le k h (e ∷ []) (omega arith))))
    ∙ ap (λ g. has_overflowed h t || nat_lt 64 (length (running_subs g t))) (ap (λ n. take n (h ++ e ∷ [])) whole ∙ take_all (length (h ++ e ∷ [])) (h ++ e ∷ []) (omega arith))

over_reversed : (r : List Event) (t : ℕ) → has_overflowed (reverse r) t ≡ overflow_up r t
over_reversed [] t = refl
over_reversed (e ∷ r) t =
    ap (λ g. has_overflowed g t) (reverse-append (e ∷ []) r)
    ∙ overflow_push (reverse r) e t
    ∙ ap (λ b. b || nat_lt 64 (length (running_subs (reverse r ++ e ∷ []) t))) (over_reversed r t)
    ∙ ap (λ g. overflow_up r t || nat_lt 64 (length (running_subs g t))) (sym (reverse-append (e ∷ []) r))

-- by places and by events, an overflow is the same
pub overflowed_is : (h : List Event) (t : ℕ) → has_overflowed h t ≡ overflow_up (reverse h) t
overflowed_is h t = sym (ap (λ g. has_overflowed g t) (reverse-reverse h)) ∙ over_reversed (reverse h) t

overflow_now_up : (r : List Event) (t : ℕ) → overflow_up r t ≡ false → nat_lt 64 (length (running_subs (reverse r) t)) ≡ false
overflow_now_up [] t f = refl
overflow_now_up (e ∷ r) t f = (or_parts (overflow_up r t) (nat_lt 64 (length (running_subs (reverse (e ∷ r)) t))) f).1

-- no more than 64 of them are running now
pub overflow_now : (h : List Event) (t : ℕ) → has_overflowed h t ≡ false → nat_lt 64 (length (running_subs h t)) ≡ false
overflow_now h t f = subst (λ g. nat_lt 64 (length (running_subs g t)) ≡ false) (reverse-reverse h) (overflow_now_up (reverse h) t (sym (overflowed_is h t) ∙ f))

-- an event that adds no subid to the top
pub overflow_kept : (h : List Event) (e : Event) (t : ℕ) → length (running_subs (h ++ e ∷ []) t) ≤ length (running_subs h t) → has_overflowed (h ++ e ∷ []) t ≡ has_overflowed h t
overflow_kept h e t f = overflow_push h e t ∙ split (has_overflowed h t) refl
  where
    fewer : (a b : ℕ) → a ≤ b → nat_lt 64 b ≡ false → nat_lt 64 a ≡ false
    fewer a b l g = grind (arith, nat_tests)

    split : (b : Bool) → has_overflowed h t ≡ b → (b || nat_lt 64 (length (running_subs (h ++ e ∷ []) t))) ≡ b
    split true g = refl
    split false g = fewer (length (running_subs (h ++ e ∷ []) t)) (length (running_subs h t)) f (overflow_now h t g)
