-- What the ids of the base add to what is visible.
use Rattle.std.proofs.Common.{◌≡◌, ℕ, List, [], refl, ap, sym, ◌∙◌, Bool, true, false, not, ◌&&◌, ◌||◌, ◌==◌, Contains}
use Rattle.std.specs.List.{list_any}
use Rattle.std.proofs.lemmas.Bool.{false_from_ne_true}
use Rattle.tx_events.specs.declared.event.Event.{Event}
use Rattle.tx_events.specs.Events.{is_commit_of}
use Rattle.tx_events.specs.Families.{top}
use Rattle.tx_events.specs.Running.{is_undone}
use Rattle.tx_events.specs.Visible.{is_visible}
use Rattle.tx_events.proofs.Membership.{contains_has, has_contains}
use Rattle.tx_events.proofs.Visibility.{among_has, has_among}

pub seen_in_base : (ids : List ℕ) (h : List Event) (x : ℕ) → list_any (λ y. y == x) ids ≡ true → true ≡ is_visible ids h x
seen_in_base ids h x k = sym (third (x == 1) (x == 2) (list_any (λ y. y == x) ids) (list_any (is_commit_of (top h x)) h && not (is_undone h x)) k)
  where
    third : (a b c d : Bool) → c ≡ true → (a || b || c || d) ≡ true
    third true b c d t = refl
    third false true c d t = refl
    third false false c d t = ap (λ z. z || d) t

pub seen_since : (ids : List ℕ) (h : List Event) (x : ℕ) → list_any (λ y. y == x) ids ≡ false → is_visible [] h x ≡ is_visible ids h x
seen_since ids h x fails = ap (λ b. (x == 1) || (x == 2) || b || (list_any (is_commit_of (top h x)) h && not (is_undone h x))) (sym fails)

-- an id is in the base, by its test
pub in_base : (ids : List ℕ) (x : ℕ) → list_any (λ y. y == x) ids ≡ true → Contains ids x
in_base ids x t = has_contains ids x (among_has x ids t)

pub base_has : (ids : List ℕ) (x : ℕ) → Contains ids x → list_any (λ y. y == x) ids ≡ true
base_has ids x k = has_among x ids (contains_has ids x k)
