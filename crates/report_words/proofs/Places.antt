-- Where a name stands.
use Rattle.std.proofs.Common.{◌≡◌, ℕ, ◌+◌, ◌<◌, ◌≤◌, List, [], ◌∷◌, Bool, true, false, cond, Option, Some, None, refl, sym, ap, ◌∙◌, drop, length, get_or, zero, suc, arith, add-one, one-add}
use Rattle.std.specs.Str.{bytes_eq}
use Rattle.std.specs.List.{AllByRecursion, IsDistinct}
use Rattle.std.specs.Option.{unwrap_or}
use Rattle.std.specs.List.{slice_get}
use Rattle.std.proofs.lemmas.Option.{slice_get_within}
use Rattle.std.proofs.lemmas.Bool.{false≢true}
use Rattle.std.proofs.lemmas.Slice.Eq.{bytes_eq-Decides}
use Rattle.tx_events.specs.Events.{same_name}
use Rattle.tx_events.proofs.Names.{same_name_refl}
use Rattle.report_text.specs.Words.{name_at}
use Rattle.report_words.specs.Reading.{name_place, later_place}

later_later : (k : ℕ) (o : Option ℕ) → later_place k (later_place 1 o) ≡ later_place (k + 1) o
later_later k None = refl
later_later k (Some n) = let e : k + (1 + n) ≡ (k + 1) + n = omega arith in ap Some e

step_at : (ns : List (List ℕ)) (w : List ℕ) (i : ℕ) (n : List ℕ) (b : Bool) → i < length ns → n ≡ get_or ns i n → b ≡ bytes_eq n w → name_place (drop i ns) w ≡ cond b (Some 0) (later_place 1 (name_place (drop (suc i) ns) w))
step_at [] w i n b l e f = absurd (omega arith)
step_at (x ∷ ns) w zero n b l e f = rw (f, e) refl
step_at (x ∷ ns) w (suc i) n b l e f = step_at ns w i n b (omega arith) e f

pub place_step : (ns : List (List ℕ)) (w : List ℕ) (i : ℕ) (n : List ℕ) → i < length ns → n ≡ get_or ns i n → bytes_eq n w ≡ false → later_place i (name_place (drop i ns) w) ≡ later_place (i + 1) (name_place (drop (i + 1) ns) w)
place_step ns w i n l e f = rw (add-one i) (ap (later_place i) (step_at ns w i n false l e (sym f)) ∙ later_later i (name_place (drop (suc i) ns) w) ∙ ap (λ k. later_place k (name_place (drop (suc i) ns) w)) (add-one i))

zero_later : (i : ℕ) → later_place i (Some 0) ≡ Some i
zero_later i = let e : i + 0 ≡ i = omega arith in ap Some e

pub place_here : (ns : List (List ℕ)) (w : List ℕ) (i : ℕ) (n : List ℕ) → i < length ns → n ≡ get_or ns i n → bytes_eq n w ≡ true → later_place i (name_place (drop i ns) w) ≡ Some i
place_here ns w i n l e f = ap (later_place i) (step_at ns w i n true l e (sym f)) ∙ zero_later i

later_none : (k : ℕ) (o : Option ℕ) (i : ℕ) → later_place i o ≡ None → later_place k o ≡ None
later_none k None i e = refl
later_none k (Some n) i e = absurd cc

pub place_none : (ns : List (List ℕ)) (w : List ℕ) (i : ℕ) → length ns ≤ i → later_place i (name_place (drop i ns) w) ≡ None
place_none [] w zero l = refl
place_none [] w (suc i) l = refl
place_none (x ∷ ns) w zero l = absurd (omega arith)
place_none (x ∷ ns) w (suc i) l = later_none (suc i) (name_place (drop i ns) w) i (place_none ns w i (omega arith))

-- the name at a place is found there
here_again : (n : List ℕ) → bytes_eq n n ≡ true
here_again n = (bytes_eq-Decides n n).1 refl

other : (n m : List ℕ) (b : Bool) → bytes_eq n m ≡ b → same_name n m ≡ false → bytes_eq n m ≡ false
other n m true e f = absurd (false≢true (sym f ∙ ap (same_name n) (sym ((bytes_eq-Decides n m).0 e)) ∙ same_name_refl n))
other n m false e f = e

among : (n : List ℕ) (ns : List (List ℕ)) (s : ℕ) → s < length ns → AllByRecursion (λ m. same_name n m ≡ false) ns → same_name n (name_at ns s) ≡ false
among n [] s l a = absurd (omega arith)
among n (m ∷ ns) zero l a = a.0
among n (m ∷ ns) (suc s) l a = among n ns s (omega arith) a.1

pub place_again : (ns : List (List ℕ)) (s : ℕ) → IsDistinct same_name ns → s < length ns → name_place ns (name_at ns s) ≡ Some s
unfolding IsDistinct
place_again [] s d l = absurd (omega arith)
place_again (n ∷ ns) zero d l = rw (here_again n) refl
place_again (n ∷ ns) (suc s) d l =
    let o = among n ns s (omega arith) d.0 in
    let e : 1 + s ≡ suc s = one-add s in
    rw (other n (name_at ns s) (bytes_eq n (name_at ns s)) refl o, place_again ns s d.1 (omega arith)) (ap Some e)

-- a place with this name is the first one
pub place_near : (ns : List (List ℕ)) (w n : List ℕ) (s : ℕ) → IsDistinct same_name ns → slice_get ns s ≡ Some n → bytes_eq n w ≡ true → name_place ns w ≡ Some s
place_near ns w n s d at e =
    let same : name_at ns s ≡ w = ap (λ (o : Option (List ℕ)). unwrap_or o []) at ∙ (bytes_eq-Decides n w).0 e in
    ap (name_place ns) (sym same) ∙ place_again ns s d (slice_get_within ns s n at)
