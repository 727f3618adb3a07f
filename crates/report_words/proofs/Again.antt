-- What is written is read again.
use Rattle.std.proofs.Common.{◌≡◌, ℕ, ◌+◌, ◌-◌, ◌*◌, ◌/◌, ◌%◌, ◌^◌, ◌<◌, ◌≤◌, ◌&&◌, nat_lt, inl, inr, List, [], ◌∷◌, ◌++◌, true, false, Option, Some, None, Result, Ok, Err, refl, ap, ◌∙◌, take, drop, length, zero, suc, arith, length-append}
use Rattle.std.specs.List.{slice_split, list_all, AllByRecursion}
use Rattle.std.specs.Fmt.{decimal}
use Rattle.std.proofs.lemmas.List.{take_at}
use Rattle.std.proofs.lemmas.Fmt.{decimal_by_steps}
use Rattle.std.proofs.lemmas.Bool.Decides.{nat_tests}
use Rattle.tx_events.specs.Ids.{IsXidNumber}
use Rattle.tx_events.specs.declared.event.By.{By}
use Rattle.report_text.specs.Words.{more, line_text, name_at}
use Rattle.report_text.specs.EventText.{by_words}
use Rattle.report_words.specs.Words.{behind, is_space, is_shown, IsWord, AreWords}
use Rattle.tx_events.specs.Names.{IsName, is_letter, is_name_byte}
use Rattle.report_words.specs.Reading.{Gives, ◌>>=◌, next, digit_of, number_from, number_of, number_at, IsOnly, is_xid_number, full_id, by_at}
use Rattle.report_words.specs.Fits.{FitsId, FitsBy, AreNames}
use Rattle.report_words.specs.declared.unread.Unread.{Unread}
use Rattle.report_words.specs.declared.unread.Unread.TheVariants as unreads
use Rattle.std.proofs.lemmas.Bool.{and_parts, false≢true}
use Rattle.report_words.proofs.Places.{place_again}

-- ---- a line's words

not_space : (b : ℕ) → is_shown b ≡ true → is_space b ≡ false
not_space b e = grind (arith, nat_tests)

pub words_split : (w : List ℕ) (ws : List (List ℕ)) → IsWord w → AreWords ws → slice_split is_space (w ++ more ws) ≡ w ∷ ws
unfolding more
words_split [] [] i a = refl
words_split [] (v ∷ ws) i a = ap (λ t. [] ∷ t) (words_split v ws a.0 a.1)
words_split (c ∷ w) ws i a = rw (not_space c i.0, words_split w ws i.1 a) refl

end_cut : (b : ℕ) (t bytes : List ℕ) (n : ℕ) → bytes ≡ t ++ 10 ∷ [] → n ≡ length (b ∷ bytes) - 1 → take n (b ∷ bytes) ≡ b ∷ t
end_cut b t bytes n e f =
    let l : length bytes ≡ length t + 1 = ap length e ∙ length-append t (10 ∷ []) in
    let k : length (b ∷ t) ≡ n = omega arith in
    rw e (take_at (b ∷ t) (10 ∷ []) n k)

pub line_again : (bytes w : List ℕ) (ws : List (List ℕ)) → 1 ≤ length bytes → AreWords (w ∷ ws) → drop 1 bytes ≡ line_text (w ∷ ws) → behind (take (length bytes - 1) bytes) ≡ w ∷ ws
unfolding line_text
line_again [] w ws l a e = absurd (omega arith)
line_again (b ∷ bytes) w ws l a e = ap behind (end_cut b (w ++ more ws) bytes (length (b ∷ bytes) - 1) e refl) ∙ words_split w ws a.0 a.1

-- what is read of its words is read of the line
pub line_gives : {X : Type 0} (read : List (List ℕ) → X) (bytes w : List ℕ) (ws : List (List ℕ)) (x : X) → 1 ≤ length bytes → read (w ∷ ws) ≡ x → AreWords (w ∷ ws) → drop 1 bytes ≡ line_text (w ∷ ws) → read (behind (take (length bytes - 1) bytes)) ≡ x
line_gives read bytes w ws x l r a e = ap read (line_again bytes w ws l a e) ∙ r

-- ---- numbers

digit_again : (d : ℕ) → d < 10 → digit_of (48 + d) ≡ d
digit_again d l = omega arith

next_again : (k d n : ℕ) → d < 10 → 10 * k + d ≡ n → n < 2 ^ 64 → next k d ≡ Some n
next_again k d n l e f = grind (arith, nat_tests)

last_step : (o : Option ℕ) → (o >>= λ m. Some m) ≡ o
last_step None = refl
last_step (Some m) = refl

later_step : (xs : List ℕ) (b : ℕ) (o : Option ℕ) → ((m : ℕ) → number_from m (xs ++ b ∷ []) ≡ (number_from m xs >>= λ k. next k (digit_of b))) → (o >>= λ m. number_from m (xs ++ b ∷ [])) ≡ ((o >>= λ m. number_from m xs) >>= λ m. next m (digit_of b))
later_step xs b None h = refl
later_step xs b (Some m) h = h m

from_append : (xs : List ℕ) (k b : ℕ) → number_from k (xs ++ b ∷ []) ≡ (number_from k xs >>= λ m. next m (digit_of b))
from_append [] k b = last_step (next k (digit_of b))
from_append (x ∷ xs) k b = later_step xs b (next k (digit_of x)) (λ m. from_append xs m b)

pub number_again : (n : ℕ) → n < 2 ^ 64 → number_of (decimal n) ≡ Some n
number_again n l = decimal_by_steps (λ n ds. n < 2 ^ 64 → number_of ds ≡ Some n) one further n l l
  where
    one : (n : ℕ) → n < 10 → n < 2 ^ 64 → number_of ((48 + n) ∷ []) ≡ Some n
    one n l f = rw (digit_again n l, next_again 0 n n l (omega arith) f) refl

    further : (n : ℕ) (ds : List ℕ) → 10 ≤ n → (n / 10 < 2 ^ 64 → number_of ds ≡ Some (n / 10)) → n < 2 ^ 64 → number_of (ds ++ (48 + n % 10) ∷ []) ≡ Some n
    further n ds m h f =
        from_append ds 0 (48 + n % 10)
        ∙ ap (λ o. o >>= λ m. next m (digit_of (48 + n % 10))) (h (omega arith))
        ∙ ap (next (n / 10)) (digit_again (n % 10) (omega arith))
        ∙ next_again (n / 10) (n % 10) n (omega arith) (omega arith) f

pub number_word : (n : ℕ) → n < 2 ^ 64 → IsWord (decimal n)
number_word n l = decimal_by_steps (λ n ds. IsWord ds) (λ n l. (shown (48 + n) (omega arith), tt)) (λ n ds m h. push ds (48 + n % 10) h (shown (48 + n % 10) (omega arith))) n l
  where
    shown : (b : ℕ) → 33 ≤ b → is_shown b ≡ true
    shown b l = grind (arith, nat_tests)

    push : (ds : List ℕ) (b : ℕ) → IsWord ds → is_shown b ≡ true → IsWord (ds ++ b ∷ [])
    push [] b i e = (e, tt)
    push (c ∷ ds) b i e = (i.0, push ds b i.1 e)

pub number_at_again : (n : ℕ) (ws : List (List ℕ)) → n < 2 ^ 64 → number_at (decimal n ∷ ws) ≡ Some (n, ws)
unfolding number_at
number_at_again n ws l = rw (number_again n l) refl

pub id_again : (n : ℕ) → FitsId n → full_id n ≡ Some n
id_again n f = rw (is_number n f.1) refl
  where
    is_number : (n : ℕ) → IsXidNumber n → is_xid_number n ≡ true
    is_number n (inl l) = grind (arith, nat_tests)
    is_number n (inr l) = grind (arith, nat_tests)

-- ---- whose command it is

pub by_again : (names : List (List ℕ)) (by : By) (ws : List (List ℕ)) → AreNames names → FitsBy names by → by_at names (name_at names by.session ∷ decimal by.command ∷ ws) ≡ Some (by, ws)
unfolding by_at
by_again names by ws n f = rw (place_again names by.session n.distinct f.session, number_at_again by.command ws f.command) refl

shown_letter : (b : ℕ) → is_letter b ≡ true → is_shown b ≡ true
shown_letter b e = grind (arith, nat_tests)

shown_name_byte : (b : ℕ) → is_name_byte b ≡ true → is_shown b ≡ true
shown_name_byte b e = grind (arith, nat_tests)

all_shown : (w : List ℕ) → list_all is_name_byte w ≡ true → IsWord w
all_shown [] a = tt
all_shown (b ∷ w) a = let both = and_parts (is_name_byte b) (list_all is_name_byte w) a in (shown_name_byte b both.0, all_shown w both.1)

pub name_word : (w : List ℕ) → IsName w → IsWord w
name_word [] n = absurd (false≢true n)
name_word (b ∷ w) n =
    let bytes = and_parts (is_letter b && list_all is_name_byte w) (nat_lt (length w) 16) n in
    let both = and_parts (is_letter b) (list_all is_name_byte w) bytes.0 in
    (shown_letter b both.0, all_shown w both.1)

pub name_is_word : (names : List (List ℕ)) (s : ℕ) → AllByRecursion IsName names → s < length names → IsWord (name_at names s)
name_is_word [] s a l = absurd (omega arith)
name_is_word (n ∷ names) zero a l = name_word n a.0
name_is_word (n ∷ names) (suc s) a l = name_is_word names s a.1 (omega arith)

pub by_are_words : (names : List (List ℕ)) (by : By) (ws : List (List ℕ)) → AreNames names → FitsBy names by → AreWords ws → AreWords (by_words names by ++ ws)
by_are_words names by ws n f a = (name_is_word names by.session n.each f.session, (number_word by.command f.command, a))

-- ---- what a reader that gives this answers
pub gives_only : {X : Type 0} (r : Result X Unread) (read : Option X) (x : X) → Gives {X = X} (λ y. y) r read → read ≡ Some x → IsOnly r x
gives_only (Ok y) read x g e = cc
gives_only (Err unreads.Form) read x g e = absurd cc
gives_only (Err unreads.Memory) read x g e = tt
