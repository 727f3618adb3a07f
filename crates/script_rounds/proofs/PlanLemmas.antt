-- The plan of a round: the sessions so far, and the places of their commands.
use Rattle.std.proofs.Common.{◌≡◌, ◌≢◌, ◌⊎◌, inl, inr, eqb-true, ℕ, suc, ◌+◌, ◌<◌, ◌==◌, ◌||◌, List, [], ◌∷◌, ◌++◌, Some, None, refl, sym, ap, subst, ◌∙◌, arith, ⊎_elim, Bool, true, false, not, cond, length, take, set, get_or, append-nil, length-append, length-set}
use Rattle.std.proofs.lemmas.Bool.{false≢true}
use Rattle.std.proofs.lemmas.Bool.Decides.{nat_tests}
use Rattle.std.proofs.lemmas.List.{take_more}
use Rattle.std.proofs.lemmas.List.Elements.{All-from_recursion, All-get_or, All-nil, All-push, filter-append, filter_map-append, recursion_from_All}
use Rattle.std.proofs.lemmas.Option.{get_or_from_slice_get, slice_get-get_or, slice_get_within}
use Rattle.std.specs.List.{All, filter_map, list_any, slice_get}
use Rattle.tx_model.specs.declared.command.Command.{Command}
use Rattle.tx_events.specs.Places.{first_seen}
use Rattle.session_lang.specs.declared.script.Item.{Item}
use Rattle.session_lang.specs.declared.script.Item.TheVariants as items
use Rattle.session_lang.specs.Rounds.{session_of, sessions_in, turns_of}
use Rattle.std.proofs.lemmas.List.{nil_from_length}
use Rattle.session_lang.proofs.SeenLemmas.{is_in, is_in_seen, push_next, push_old}
use Rattle.script_rounds.specs.declared.plan.Plan.{Plan}
use Rattle.script_rounds.specs.Plans.{HasPlaces, IsBlank, IsListed, IsPlanOf, turns_at}
use Rattle.run_law.specs.Turns.{MayRun, turn_in, turns_in}
use Rattle.script_rounds.proofs.ListLemmas.{all_front, set_cases}
use Rattle.script_rounds.proofs.RoundLemmas.{others_turn, own_turn, turns_step}

turns_at_append : (n : ℕ) (round : List Item) (ps qs : List ℕ) → turns_at n round (ps ++ qs) ≡ turns_at n round ps ++ turns_at n round qs
turns_at_append n round ps qs =
    ap (λ t. turns_of n (turns_in t)) (filter_map-append (slice_get round) ps qs)
    ∙ ap (turns_of n) (filter_map-append turn_in (filter_map (slice_get round) ps) (filter_map (slice_get round) qs))
    ∙ filter-append (λ p. p.0 == n) (turns_in (filter_map (slice_get round) ps)) (turns_in (filter_map (slice_get round) qs))

-- the commands at the places so far, with one place more
pub turns_at_on : (n : ℕ) (round : List Item) (places : List ℕ) (i : ℕ) → i < length places → turns_at n round (take (i + 1) places) ≡ turns_at n round (take i places) ++ turns_at n round (get_or places i 0 ∷ [])
turns_at_on n round places i l = ap (turns_at n round) (take_more places i 0 l) ∙ turns_at_append n round (take i places) (get_or places i 0 ∷ [])

pub own_at : (n : ℕ) (round : List Item) (p : ℕ) (c : Command) → slice_get round p ≡ Some (items.Run n c) → turns_at n round (p ∷ []) ≡ (n, c) ∷ []
own_at n round p c e = rw e (own_turn n c)

item_at : (n : ℕ) (round : List Item) (p : ℕ) (x : Item) → slice_get round p ≡ Some x → turns_at n round (p ∷ []) ≡ turns_of n (turns_in (x ∷ []))
item_at n round p x e = rw e refl

pub all_at : {X : Type 0} (P : X → Type 0) (xs : List X) (k : ℕ) (x : X) → All P xs → slice_get xs k ≡ Some x → P x
all_at P xs k x a e = subst P (get_or_from_slice_get xs k x x e) (All-get_or P xs k x (slice_get_within xs k x e) a)

-- a session has been seen just where it has a command so far
eqb-swap : (a b : ℕ) → (a == b) ≡ (b == a)
eqb-swap a b = grind (arith, nat_tests)

some_length : (n : ℕ) → (suc n == 0) ≡ false
some_length n = grind (arith, nat_tests)

seen_by_commands : (s : ℕ) (xs : List Item) → is_in s (sessions_in xs) ≡ not (length (turns_of s (turns_in xs)) == 0)
seen_by_commands s [] = refl
seen_by_commands s (items.Run k c ∷ xs) = step (k == s) refl (seen_by_commands s xs)
  where
    step : (b : Bool) → (k == s) ≡ b → is_in s (sessions_in xs) ≡ not (length (turns_of s (turns_in xs)) == 0) → ((s == k) || is_in s (sessions_in xs)) ≡ not (length (cond (k == s) ((k, c) ∷ turns_of s (turns_in xs)) (turns_of s (turns_in xs))) == 0)
    step true e i = rw (eqb-swap s k, e) (sym (ap not (some_length (length (turns_of s (turns_in xs))))))
    step false e i = rw (eqb-swap s k, e) i
seen_by_commands s (items.Round ∷ xs) = seen_by_commands s xs
seen_by_commands s (items.Checkpoint ∷ xs) = seen_by_commands s xs
seen_by_commands s (items.Crash how ∷ xs) = seen_by_commands s xs
seen_by_commands s (items.Dump what at size ∷ xs) = seen_by_commands s xs

run_of : (x : Item) (s : ℕ) → session_of x ≡ Some s → (c : Command) × (x ≡ items.Run s c)
run_of (items.Run k c) s e = (c, cc)
run_of items.Round s e = absurd cc
run_of items.Checkpoint s e = absurd cc
run_of (items.Crash how) s e = absurd cc
run_of (items.Dump what at size) s e = absurd cc

-- an item that is no command adds none
no_turn : (n : ℕ) (x : Item) → session_of x ≡ None → turns_of n (turns_in (x ∷ [])) ≡ []
no_turn n (items.Run k c) e = absurd cc
no_turn n items.Round e = refl
no_turn n items.Checkpoint e = refl
no_turn n (items.Crash how) e = refl
no_turn n (items.Dump what at size) e = refl

no_session : (x : Item) → session_of x ≡ None → sessions_in (x ∷ []) ≡ []
no_session (items.Run k c) e = absurd cc
no_session items.Round e = refl
no_session items.Checkpoint e = refl
no_session (items.Crash how) e = refl
no_session (items.Dump what at size) e = refl

sessions_step : (round : List Item) (i : ℕ) (x : Item) → i < length round → x ≡ get_or round i x → sessions_in (take (i + 1) round) ≡ sessions_in (take i round) ++ sessions_in (x ∷ [])
sessions_step round i x l e = ap sessions_in (take_more round i x l ∙ ap (λ y. take i round ++ y ∷ []) (sym e)) ∙ filter_map-append session_of (take i round) (x ∷ [])

-- another item adds nothing to a session's places
places_stay : (round : List Item) (i : ℕ) (x : Item) (k : ℕ) (places : List ℕ) → i < length round → x ≡ get_or round i x → turns_of k (turns_in (x ∷ [])) ≡ [] → HasPlaces k round (take i round) places → HasPlaces k round (take (i + 1) round) places
places_stay round i x k places l e none h =
    let same : turns_of k (turns_in (take (i + 1) round)) ≡ turns_of k (turns_in (take i round)) =
    turns_step k round i x l e ∙ ap (λ t. turns_of k (turns_in (take i round)) ++ t) none ∙ append-nil (turns_of k (turns_in (take i round))) in
    record { commands = h.commands ∙ sym same; count = h.count ∙ ap length (sym same) }

-- its own command adds its place
places_grow : (round : List Item) (i : ℕ) (x : Item) (s : ℕ) (c : Command) (places : List ℕ) → i < length round → x ≡ get_or round i x → x ≡ items.Run s c → HasPlaces s round (take i round) places → HasPlaces s round (take (i + 1) round) (places ++ i ∷ [])
places_grow round i x s c places l e is h =
    let here : slice_get round i ≡ Some x = slice_get-get_or round i x l ∙ ap (λ y. Some y) (sym e) in
    let one : turns_of s (turns_in (x ∷ [])) ≡ (s, c) ∷ [] = ap (λ y. turns_of s (turns_in (y ∷ []))) is ∙ own_turn s c in
    let step = turns_step s round i x l e in
    record {
      commands =
          turns_at_append s round places (i ∷ [])
          ∙ ap (λ t. t ++ turns_at s round (i ∷ [])) h.commands
          ∙ ap (λ t. turns_of s (turns_in (take i round)) ++ t) (item_at s round i x here)
          ∙ sym step;
      count =
          let more = length-append places (i ∷ []) in
          let all = ap length step ∙ length-append (turns_of s (turns_in (take i round))) (turns_of s (turns_in (x ∷ []))) in
          let own = ap length one in
          omega (arith, more, all, own, h.count);
    }

-- the sessions so far, with one command more
sessions_grow : (round : List Item) (i : ℕ) (x : Item) (s : ℕ) (c : Command) (all places : List ℕ) (b : Bool) → i < length round → x ≡ get_or round i x → x ≡ items.Run s c → all ≡ first_seen (sessions_in (take i round)) → HasPlaces s round (take i round) places → (length places == 0) ≡ b → cond b (all ++ s ∷ []) all ≡ first_seen (sessions_in (take (i + 1) round))
sessions_grow round i x s c all places b l e is a h empty =
    let before = sessions_in (take i round) in
    let seen : is_in s before ≡ not b = seen_by_commands s (take i round) ∙ ap (λ n. not (n == 0)) (sym h.count) ∙ ap not empty in
    let step : sessions_in (take (i + 1) round) ≡ before ++ s ∷ [] = sessions_step round i x l e ∙ ap (λ y. before ++ sessions_in (y ∷ [])) is in
    by_test b seen step
  where
    by_test : (b : Bool) → is_in s (sessions_in (take i round)) ≡ not b → sessions_in (take (i + 1) round) ≡ sessions_in (take i round) ++ s ∷ [] → cond b (all ++ s ∷ []) all ≡ first_seen (sessions_in (take (i + 1) round))
    by_test true seen step = ap (λ t. t ++ s ∷ []) a ∙ sym (push_next s (sessions_in (take i round)) seen) ∙ ap first_seen (sym step)
    by_test false seen step = a ∙ sym (push_old s (sessions_in (take i round)) seen) ∙ ap first_seen (sym step)

all_grow : (P : ℕ → Type 0) (b : Bool) (xs : List ℕ) (x : ℕ) → All P xs → P x → All P (cond b (xs ++ x ∷ []) xs)
all_grow P true xs x a p = All-push P xs x a p
all_grow P false xs x a p = a

-- a blank plan is the one of no items
pub plan_none : (round : List Item) (p : Plan) → IsBlank p → IsPlanOf round (take 0 round) p
plan_none round p blank = record {
  sessions = blank.sessions;
  known = subst (All (λ s. s < length p.places.items)) (sym blank.sessions) (All-nil (λ s. s < length p.places.items));
  places = λ k v e. subst (HasPlaces k round (take 0 round)) (sym (blank.places k v e)) (record { commands = refl; count = refl });
}

pub blank_same : (p q : Plan) → q.sessions.items ≡ p.sessions.items → q.places.items ≡ p.places.items → IsBlank p → IsBlank q
blank_same p q sessions places blank = record {
  sessions = sessions ∙ blank.sessions;
  places = λ k v e. blank.places k v (ap (λ (vs : List (List ℕ)). slice_get vs k) (sym places) ∙ e);
}

pub blank_at_first : (p : Plan) → p.sessions.items ≡ [] → All (λ (places : List ℕ). places ≡ []) p.places.items → IsBlank p
blank_at_first p sessions places = record { sessions = sessions; places = λ k v e. all_at (λ (v : List ℕ). v ≡ []) p.places.items k v places e }

-- the plan so far, with one command more
pub plan_more : (round : List Item) (i : ℕ) (x : Item) (s : ℕ) (p q : Plan) → i < length round → x ≡ get_or round i x → session_of x ≡ Some s → s < length p.places.items → q.places.items ≡ set p.places.items s (get_or p.places.items s [] ++ i ∷ []) → q.sessions.items ≡ cond (length (get_or p.places.items s []) == 0) (p.sessions.items ++ s ∷ []) p.sessions.items → IsPlanOf round (take i round) p → IsPlanOf round (take (i + 1) round) q
plan_more round i x s p q l e of known places sessions d =
    let c = run_of x s of in
    let had = d.places s (get_or p.places.items s []) (slice_get-get_or p.places.items s [] known) in
    let count : length q.places.items ≡ length p.places.items = ap length places ∙ length-set p.places.items s (get_or p.places.items s [] ++ i ∷ []) in
    record {
      sessions = sessions ∙ sessions_grow round i x s c.0 p.sessions.items (get_or p.places.items s []) (length (get_or p.places.items s []) == 0) l e c.1 d.sessions had refl;
      known =
          subst (λ n. All (λ t. t < n) q.sessions.items) (sym count)
          (subst (All (λ t. t < length p.places.items)) (sym sessions)
          (all_grow (λ t. t < length p.places.items) (length (get_or p.places.items s []) == 0) p.sessions.items s d.known known));
      places = λ k v at. ⊎_elim
          (λ (a : (k ≡ s) × (get_or p.places.items s [] ++ i ∷ [] ≡ v)).
          subst (HasPlaces k round (take (i + 1) round)) a.1
          (subst (λ n. HasPlaces n round (take (i + 1) round) (get_or p.places.items s [] ++ i ∷ [])) (sym a.0)
          (places_grow round i x s c.0 (get_or p.places.items s []) l e c.1 had)))
          (λ (a : (k ≢ s) × (slice_get p.places.items k ≡ Some v)).
          places_stay round i x k v l e (ap (λ y. turns_of k (turns_in (y ∷ []))) c.1 ∙ others_turn k s c.0 (λ q. a.0 (sym q))) (d.places k v a.1))
          (set_cases p.places.items s k (get_or p.places.items s [] ++ i ∷ []) v (ap (λ vs. slice_get vs k) (sym places) ∙ at));
    }

-- and with an item that is no command
pub plan_same : (round : List Item) (i : ℕ) (x : Item) (p : Plan) → i < length round → x ≡ get_or round i x → session_of x ≡ None → IsPlanOf round (take i round) p → IsPlanOf round (take (i + 1) round) p
plan_same round i x p l e of d = record {
  sessions = d.sessions ∙ ap first_seen (sym (sessions_step round i x l e ∙ ap (λ t. sessions_in (take i round) ++ t) (no_session x of) ∙ append-nil (sessions_in (take i round))));
  known = d.known;
  places = λ k v at. places_stay round i x k v l e (no_turn k x of) (d.places k v at);
}

-- a command that may run is of a session that there is
pub may_run : (n : ℕ) (x : Item) (s : ℕ) → session_of x ≡ Some s → MayRun n x → s < n
may_run n x s e m = let c = run_of x s e in (subst (MayRun n) c.1 m).1

-- a plan lists the sessions that have places
is_in_any : (k : ℕ) (xs : List ℕ) → list_any (λ s. s == k) xs ≡ is_in k xs
is_in_any k [] = refl
is_in_any k (x ∷ xs) = ap (λ b. b || list_any (λ s. s == k) xs) (eqb-swap x k) ∙ ap (λ b. (k == x) || b) (is_in_any k xs)

pub plan_listed : (round : List Item) (p : Plan) → IsPlanOf round round p → IsListed p
plan_listed round p d = record {
  known = d.known;
  listed = λ k v e. by_length k v (d.places k v e) (length v == 0) refl;
}
  where
    by_length : (k : ℕ) (v : List ℕ) → HasPlaces k round round v → (b : Bool) → (length v == 0) ≡ b → (v ≡ []) ⊎ (list_any (λ s. s == k) p.sessions.items ≡ true)
    by_length k v h true e = inl (nil_from_length v (eqb-true (length v) 0 e))
    by_length k v h false e = inr (
        is_in_any k p.sessions.items
        ∙ ap (is_in k) d.sessions
        ∙ is_in_seen k (sessions_in round)
        ∙ seen_by_commands k round
        ∙ ap (λ n. not (n == 0)) (sym h.count)
        ∙ ap not e
        )

-- one session less
pub listed_less : (p q : Plan) (rest : List ℕ) (s : ℕ) → p.sessions.items ≡ rest ++ s ∷ [] → q.sessions.items ≡ rest → q.places.items ≡ set p.places.items s [] → IsListed p → IsListed q
listed_less p q rest s sessions left places d =
    let count : length q.places.items ≡ length p.places.items = ap length places ∙ length-set p.places.items s [] in
    record {
      known =
          subst (λ n. All (λ t. t < n) q.sessions.items) (sym count)
          (subst (All (λ t. t < length p.places.items)) (sym left)
          (all_before (λ t. t < length p.places.items) rest s (subst (All (λ t. t < length p.places.items)) sessions d.known)));
      listed = λ k v e. ⊎_elim
          (λ (a : (k ≡ s) × ([] ≡ v)). inl (sym a.1))
          (λ (a : (k ≢ s) × (slice_get p.places.items k ≡ Some v)). ⊎_elim
          (λ none. inl none)
          (λ some. inr (ap (list_any (λ t. t == k)) left ∙ sym (other_last k s rest a.0) ∙ ap (list_any (λ t. t == k)) (sym sessions) ∙ some))
          (d.listed k v a.1))
          (set_cases p.places.items s k [] v (ap (λ vs. slice_get vs k) (sym places) ∙ e));
    }
  where
    all_before : (P : ℕ → Type 0) (xs : List ℕ) (x : ℕ) → All P (xs ++ x ∷ []) → All P xs
    all_before P xs x a = All-from_recursion P xs (all_front P xs (x ∷ []) (recursion_from_All P (xs ++ x ∷ []) a)).0

    other_last : (k s : ℕ) (xs : List ℕ) → k ≢ s → list_any (λ t. t == k) (xs ++ s ∷ []) ≡ list_any (λ t. t == k) xs
    other_last k s [] n = let e : (s == k) ≡ false = grind (arith, nat_tests) in rw e refl
    other_last k s (x ∷ xs) n = ap (λ b. (x == k) || b) (other_last k s xs n)

pub last_known : (p : Plan) (rest : List ℕ) (s : ℕ) → p.sessions.items ≡ rest ++ s ∷ [] → IsListed p → s < length p.places.items
last_known p rest s sessions d =
    let P : ℕ → Type 0 = λ t. t < length p.places.items in
    (all_front P rest (s ∷ []) (recursion_from_All P (rest ++ s ∷ []) (subst (All P) sessions d.known))).1.0

-- without sessions there are no places
pub listed_none : (p : Plan) → p.sessions.items ≡ [] → IsListed p → IsBlank p
listed_none p none d = record {
  sessions = none;
  places = λ k v e. ⊎_elim
      (λ (a : v ≡ []). a)
      (λ (a : list_any (λ s. s == k) p.sessions.items ≡ true). absurd (false≢true (sym (ap (list_any (λ s. s == k)) none) ∙ a)))
      (d.listed k v e);
}
