-- The parts of a round, one after another.
use Rattle.std.proofs.Common.{Bool, Contains, List, [], ap, append-nil, cond, eqb-true, false, map, not, refl, subst, sym, true, ℕ, ⊎_elim, ◌++◌, ◌==◌, ◌||◌, ◌≡◌, ◌∙◌, ◌∷◌}
use Rattle.std.specs.List.{AllByRecursion, filter, flat_map, list_any}
use Rattle.std.proofs.lemmas.Bool.{false≢true}
use Rattle.std.proofs.lemmas.List.{map-append}
use Rattle.std.proofs.lemmas.List.Elements.{filter-append}
use Rattle.tx_events.specs.Places.{first_seen}
use Rattle.tx_events.proofs.ListSteps.{eqb-refl, filter_all, filter_none}
use Rattle.tx_events.proofs.Membership.{Has, all_from, any_has, contains_has, has_contains, has_filter, map_has, list_any_none_on}
use Rattle.tx_model.specs.declared.command.Command.{Command}
use Rattle.tx_model.specs.declared.report.Line.{Line}
use Rattle.tx_model.specs.Lines.{is_line_of, turn_of}
use Rattle.session_promise.specs.Rounds.{IsPartOf, PartsMakeRound, RoundPart, lines_of_parts, sessions_of}
use Rattle.session_promise.specs.Told.{lines_by}

abbrev is_among : List ℕ → ℕ → Bool
is_among numbers k = list_any (λ n. n == k) numbers

-- no number stands twice
abbrev Distinct : List ℕ → Type 0
Distinct [] = Unit {0}
Distinct (x ∷ xs) = (is_among xs x ≡ false) × Distinct xs

not_among : (x : ℕ) (ys : List ℕ) → is_among (filter (λ y. not (y == x)) ys) x ≡ false
not_among x [] = refl
not_among x (y ∷ ys) = step (y == x) refl (not_among x ys)
  where
    step : (b : Bool) → (y == x) ≡ b → is_among (filter (λ y. not (y == x)) ys) x ≡ false → is_among (cond (not b) (y ∷ filter (λ y. not (y == x)) ys) (filter (λ y. not (y == x)) ys)) x ≡ false
    step true e i = i
    step false e i = ap (λ b. b || is_among (filter (λ y. not (y == x)) ys) x) e ∙ i

fewer_among : (x k : ℕ) (ys : List ℕ) → is_among ys k ≡ false → is_among (filter (λ y. not (y == x)) ys) k ≡ false
fewer_among x k [] e = refl
fewer_among x k (y ∷ ys) e = step (y == x) (y == k) refl e (fewer_among x k ys)
  where
    step : (b c : Bool) → (y == k) ≡ c → (c || is_among ys k) ≡ false → (is_among ys k ≡ false → is_among (filter (λ y. not (y == x)) ys) k ≡ false) → is_among (cond (not b) (y ∷ filter (λ y. not (y == x)) ys) (filter (λ y. not (y == x)) ys)) k ≡ false
    step b true q e i = absurd (false≢true (sym e))
    step true false q e i = i e
    step false false q e i = ap (λ c. c || is_among (filter (λ y. not (y == x)) ys) k) q ∙ i e

distinct_filter : (x : ℕ) (ys : List ℕ) → Distinct ys → Distinct (filter (λ y. not (y == x)) ys)
distinct_filter x [] d = tt
distinct_filter x (y ∷ ys) d = step (y == x) (distinct_filter x ys d.1)
  where
    step : (b : Bool) → Distinct (filter (λ y. not (y == x)) ys) → Distinct (cond (not b) (y ∷ filter (λ y. not (y == x)) ys) (filter (λ y. not (y == x)) ys))
    step true i = i
    step false i = (fewer_among x y ys d.0, i)

distinct_first : (xs : List ℕ) → Distinct (first_seen xs)
distinct_first [] = tt
distinct_first (x ∷ xs) = (not_among x (first_seen xs), distinct_filter x (first_seen xs) (distinct_first xs))

-- a part's lines are of its session
abbrev IsOwnPart : RoundPart → Type 0
IsOwnPart p = AllByRecursion (λ (l : Line). l.by.session ≡ p.session) p.lines

own_part : (turns : List (ℕ × Command)) (p : RoundPart) → IsPartOf turns p → IsOwnPart p
own_part turns p is = all_from (λ (l : Line). l.by.session ≡ p.session) p.lines (λ l k.
    eqb-true l.by.session p.session (has_filter (λ (t : ℕ × Command). t.0 == p.session) turns (turn_of l) (subst (λ (ts : List (ℕ × Command)). Has ts (turn_of l)) is (map_has turn_of p.lines l k))).1)

pub own_parts : (turns : List (ℕ × Command)) (parts : List RoundPart) → AllByRecursion (IsPartOf turns) parts → AllByRecursion IsOwnPart parts
own_parts turns [] a = tt
own_parts turns (p ∷ parts) a = (own_part turns p a.0, own_parts turns parts a.1)

all_its : (k : ℕ) (lines : List Line) → AllByRecursion (λ (l : Line). l.by.session ≡ k) lines → lines_by k lines ≡ lines
all_its k lines a = filter_all (λ (l : Line). l.by.session ≡ k) (is_line_of k) lines (λ l e. ap (λ z. z == k) e ∙ eqb-refl k) a

none_its : (k j : ℕ) (lines : List Line) → (j == k) ≡ false → AllByRecursion (λ (l : Line). l.by.session ≡ j) lines → lines_by k lines ≡ []
none_its k j lines n a = filter_none (λ (l : Line). l.by.session ≡ j) (is_line_of k) lines (λ l e. ap (λ z. z == k) e ∙ n) a

lines_none : (k : ℕ) (parts : List RoundPart) → AllByRecursion IsOwnPart parts → is_among (sessions_of parts) k ≡ false → lines_by k (lines_of_parts parts) ≡ []
lines_none k [] a e = refl
lines_none k (p ∷ parts) a e = step (p.session == k) refl e (lines_none k parts a.1)
  where
    step : (b : Bool) → (p.session == k) ≡ b → (b || is_among (sessions_of parts) k) ≡ false → (is_among (sessions_of parts) k ≡ false → lines_by k (lines_of_parts parts) ≡ []) → lines_by k (p.lines ++ lines_of_parts parts) ≡ []
    step true q e i = absurd (false≢true (sym e))
    step false q e i = filter-append (is_line_of k) p.lines (lines_of_parts parts) ∙ ap (λ t. t ++ lines_by k (lines_of_parts parts)) (none_its k p.session p.lines q a.0) ∙ i e

-- among distinct numbers, one that stands later isn't the first
not_first : (x k : ℕ) (xs : List ℕ) → is_among xs x ≡ false → Has xs k → (x == k) ≡ false
not_first x k xs none k_in = step (x == k) refl
  where
    step : (b : Bool) → (x == k) ≡ b → b ≡ false
    step true q = absurd (false≢true (sym none ∙ any_has (λ n. n == x) xs k k_in (ap (λ z. z == x) (sym (eqb-true x k q)) ∙ eqb-refl x)))
    step false q = refl

its_part : (parts : List RoundPart) → AllByRecursion IsOwnPart parts → Distinct (sessions_of parts) → (p : RoundPart) → Has parts p → lines_by p.session (lines_of_parts parts) ≡ p.lines
its_part [] a d p k = absurd k
its_part (x ∷ parts) a d p k =
    ⊎_elim
    (λ (q : x ≡ p). subst (λ (z : RoundPart). lines_by z.session (x.lines ++ lines_of_parts parts) ≡ z.lines) q
    (filter-append (is_line_of x.session) x.lines (lines_of_parts parts) ∙ ((λ j. all_its x.session x.lines a.0 j ++ lines_none x.session parts a.1 d.0 j) ∙ append-nil x.lines)))
    (λ t.
    filter-append (is_line_of p.session) x.lines (lines_of_parts parts)
    ∙ (λ j. none_its p.session x.session x.lines (not_first x.session p.session (sessions_of parts) d.0 (map_has (λ (y : RoundPart). y.session) parts p t)) a.0 j ++ its_part parts a.1 d.1 p t j))
    k

turns_all : (turns : List (ℕ × Command)) (parts : List RoundPart) → AllByRecursion (IsPartOf turns) parts → map turn_of (lines_of_parts parts) ≡ flat_map (λ s. filter (λ t. t.0 == s) turns) (sessions_of parts)
turns_all turns [] a = refl
turns_all turns (p ∷ parts) a =
    map-append turn_of p.lines (lines_of_parts parts)
    ∙ (λ j. a.0 j ++ turns_all turns parts a.1 j)

pub parts_make_round : PartsMakeRound
parts_make_round turns parts a =
    let own = own_parts turns parts a.each in record {
      told = turns_all turns parts a.each ∙ ap (flat_map (λ s. filter (λ t. t.0 == s) turns)) a.order;
      part = λ p c. its_part parts own (subst Distinct (sym a.order) (distinct_first (map (λ t. t.0) turns))) p (contains_has parts p c);
      idle = λ n none. lines_none n parts own (list_any_none_on (λ k. k == n) (sessions_of parts) (λ k h. apart n k h none));
    }
  where
    apart : (n k : ℕ) → Has (sessions_of parts) k → (Contains (sessions_of parts) n → ⊥) → (k == n) ≡ false
    apart n k h none = step (k == n) refl
      where
        step : (b : Bool) → (k == n) ≡ b → b ≡ false
        step true q = absurd (none (has_contains (sessions_of parts) n (subst (λ z. Has (sessions_of parts) z) (eqb-true k n q) h)))
        step false q = refl
