-- What is running after an event that gives an id.
use Rattle.std.specs.List.{AllByRecursion, filter}
use Rattle.std.proofs.Common.{Bool, List, ap, append-nil, cond, false, not, refl, true, ℕ, [], ◌≡◌, ◌++◌, ◌∷◌, ◌∙◌, ◌<◌, ◌==◌, ◌&&◌}
use Rattle.std.proofs.Math.Bool.{and-false, and-true}
use Rattle.std.proofs.lemmas.List.Elements.{filter-append}
use Rattle.tx_events.specs.Savepoints.{family}
use Rattle.tx_events.proofs.NameBounds.{AreBelow, fresh_top, given_to_below, running_below, top_below, given_below}
use Rattle.tx_events.specs.declared.event.By.{By}
use Rattle.tx_events.proofs.OpenGrowth.{ClosesNothing, fresh_open, open_kept, open_sub}
use Rattle.tx_events.specs.declared.event.Event.{Event}
use Rattle.tx_events.proofs.Lineages.{KeepsFamily, family_kept, family_sub_kept, top_kept, top_sub}
use Rattle.tx_events.proofs.ListSteps.{above_not, below_not, eqb-refl, filter_agree_where}
use Rattle.tx_events.specs.Events.{by_of, given_to, given}
use Rattle.tx_events.specs.Running.{closed, is_open, open_ids, running, running_tops}
use Rattle.tx_events.proofs.GivenGrowth.{given_push, given_to_new}
use Rattle.tx_events.specs.Families.{is_top, top}
use Rattle.tx_events.specs.Snapshots.{running_subs}
use Rattle.tx_events.specs.declared.event.Event.TheVariants as events

-- an event that gives the fresh id n, and closes nothing
pub record IsGiving (h : List Event) (e : Event) (n : ℕ) : Type 0 where
  pub below : AreBelow n h
  pub families : (x : ℕ) → x < n → KeepsFamily h e x
  pub gives : given (e ∷ []) ≡ n ∷ []
  pub closes : ClosesNothing e
  pub opens : is_open (h ++ e ∷ []) n ≡ true

pub id_family : (h : List Event) (by : By) (n x : ℕ) → KeepsFamily h (events.Id by n) x
id_family h by n x = family_kept h (events.Id by n) x tt

pub sub_family : (h : List Event) (by : By) (parent n x : ℕ) → x < n → KeepsFamily h (events.Sub by parent n) x
sub_family h by parent n x f = family_sub_kept h by parent n x (above_not x n f)

pub giving_id : (h : List Event) (by : By) (n : ℕ) → AreBelow n h → IsGiving h (events.Id by n) n
giving_id h by n f =
    record {
      below = f;
      families = λ x _. id_family h by n x;
      gives = refl;
      closes = tt;
      opens = open_kept h (events.Id by n) n (id_family h by n n) tt ∙ fresh_open n h f;
    }

pub giving_sub : (h : List Event) (by : By) (parent n : ℕ) → AreBelow n h → is_open h parent ≡ true → IsGiving h (events.Sub by parent n) n
giving_sub h by parent n f o =
    record {
      below = f;
      families = λ x l. sub_family h by parent n x l;
      gives = refl;
      closes = tt;
      opens = open_sub h by parent n f ∙ o;
    }

old_open : (h : List Event) (e : Event) (n x : ℕ) → IsGiving h e n → x < n → is_open (h ++ e ∷ []) x ≡ is_open h x
old_open h e n x g l = open_kept h e x (g.families x l) g.closes

old_top : (h : List Event) (e : Event) (n x : ℕ) → IsGiving h e n → x < n → top (h ++ e ∷ []) x ≡ top h x
old_top h e n x g l = top_kept h e x (g.families x l)

-- what a test keeps of old ids and of n
kept_more : (n : ℕ) (p q : ℕ → Bool) (xs ys : List ℕ) → ys ≡ xs ++ n ∷ [] → AllByRecursion (λ x. x < n) xs → ((x : ℕ) → x < n → p x ≡ q x) → filter p ys ≡ filter q xs ++ cond (p n) (n ∷ []) []
kept_more n p q xs ys e below f =
    ap (filter p) e ∙ filter-append p xs (n ∷ []) ∙ ap (λ t. t ++ cond (p n) (n ∷ []) []) (filter_agree_where (λ x. x < n) p q f xs below)

pub giving_running : (h : List Event) (e : Event) (n : ℕ) → IsGiving h e n → running (h ++ e ∷ []) ≡ running h ++ n ∷ []
giving_running h e n g =
    kept_more n (is_open (h ++ e ∷ [])) (is_open h) (given h) (given (h ++ e ∷ [])) (given_push h e ∙ ap (λ t. given h ++ t) g.gives) (given_below n h g.below) (λ x l. old_open h e n x g l)
    ∙ ap (λ b. running h ++ cond b (n ∷ []) []) g.opens

pub giving_closed : (h : List Event) (e : Event) (n : ℕ) → IsGiving h e n → closed (h ++ e ∷ []) ≡ closed h
giving_closed h e n g =
    kept_more n (λ x. not (is_open (h ++ e ∷ []) x)) (λ x. not (is_open h x)) (given h) (given (h ++ e ∷ [])) (given_push h e ∙ ap (λ t. given h ++ t) g.gives) (given_below n h g.below) (λ x l. ap not (old_open h e n x g l))
    ∙ ap (λ b. closed h ++ cond (not b) (n ∷ []) []) g.opens
    ∙ append-nil (closed h)

pub giving_open_ids : (s : ℕ) (h : List Event) (e : Event) (n : ℕ) → IsGiving h e n → open_ids s (h ++ e ∷ []) ≡ open_ids s h ++ cond ((by_of e).session == s) (n ∷ []) []
giving_open_ids s h e n g =
    ap (filter (is_open (h ++ e ∷ []))) (given_to_new s h e n g.gives)
    ∙ filter-append (is_open (h ++ e ∷ [])) (given_to s h) (cond ((by_of e).session == s) (n ∷ []) [])
    ∙ ap (λ t. t ++ filter (is_open (h ++ e ∷ [])) (cond ((by_of e).session == s) (n ∷ []) [])) (filter_agree_where (λ x. x < n) (is_open (h ++ e ∷ [])) (is_open h) (λ x l. old_open h e n x g l) (given_to s h) (given_to_below n s h g.below))
    ∙ ap (λ t. open_ids s h ++ t) (elim ((by_of e).session == s) as (λ b. filter (is_open (h ++ e ∷ [])) (cond b (n ∷ []) []) ≡ cond b (n ∷ []) []) [ true ↦ ap (λ b. cond b (n ∷ []) []) g.opens | false ↦ refl ])

-- the same of the running ids
running_more : (h : List Event) (e : Event) (n : ℕ) (p q : ℕ → Bool) → IsGiving h e n → ((x : ℕ) → x < n → p x ≡ q x) → filter p (running (h ++ e ∷ [])) ≡ filter q (running h) ++ cond (p n) (n ∷ []) []
running_more h e n p q g f = kept_more n p q (running h) (running (h ++ e ∷ [])) (giving_running h e n g) (running_below n h g.below) f

giving_tops : (h : List Event) (e : Event) (n : ℕ) → IsGiving h e n → running_tops (h ++ e ∷ []) ≡ running_tops h ++ cond (is_top (h ++ e ∷ []) n) (n ∷ []) []
giving_tops h e n g = running_more h e n (is_top (h ++ e ∷ [])) (is_top h) g (λ x l. ap (λ t. t == x) (old_top h e n x g l))

giving_subs : (h : List Event) (e : Event) (n t : ℕ) → IsGiving h e n → running_subs (h ++ e ∷ []) t ≡ running_subs h t ++ cond ((top (h ++ e ∷ []) n == t) && not (is_top (h ++ e ∷ []) n)) (n ∷ []) []
giving_subs h e n t g =
    running_more h e n (λ x. (top (h ++ e ∷ []) x == t) && not (is_top (h ++ e ∷ []) x)) (λ x. (top h x == t) && not (is_top h x)) g (λ x l. ap (λ u. (u == t) && not (u == x)) (old_top h e n x g l))

giving_family : (h : List Event) (e : Event) (n t u : ℕ) → IsGiving h e n → top (h ++ e ∷ []) n ≡ u → family (h ++ e ∷ []) t ≡ family h t ++ cond (u == t) (n ∷ []) []
giving_family h e n t u g same =
    running_more h e n (λ x. top (h ++ e ∷ []) x == t) (λ x. top h x == t) g (λ x l. ap (λ u. u == t) (old_top h e n x g l))
    ∙ ap (λ u. family h t ++ cond (u == t) (n ∷ []) []) same

-- a new top is its own
id_own_top : (h : List Event) (by : By) (n : ℕ) → AreBelow n h → top (h ++ events.Id by n ∷ []) n ≡ n
id_own_top h by n f = top_kept h (events.Id by n) n (id_family h by n n) ∙ fresh_top n h f

id_is_top : (h : List Event) (by : By) (n : ℕ) → AreBelow n h → is_top (h ++ events.Id by n ∷ []) n ≡ true
id_is_top h by n f = ap (λ t. t == n) (id_own_top h by n f) ∙ eqb-refl n

pub id_tops : (h : List Event) (by : By) (n : ℕ) → AreBelow n h → running_tops (h ++ events.Id by n ∷ []) ≡ running_tops h ++ n ∷ []
id_tops h by n f = giving_tops h (events.Id by n) n (giving_id h by n f) ∙ ap (λ b. running_tops h ++ cond b (n ∷ []) []) (id_is_top h by n f)

pub id_subs : (h : List Event) (by : By) (n t : ℕ) → AreBelow n h → running_subs (h ++ events.Id by n ∷ []) t ≡ running_subs h t
id_subs h by n t f =
    giving_subs h (events.Id by n) n t (giving_id h by n f)
    ∙ ap (λ b. running_subs h t ++ cond ((top (h ++ events.Id by n ∷ []) n == t) && not b) (n ∷ []) []) (id_is_top h by n f)
    ∙ ap (λ b. running_subs h t ++ cond b (n ∷ []) []) (and-false (top (h ++ events.Id by n ∷ []) n == t))
    ∙ append-nil (running_subs h t)

pub id_family_ids : (h : List Event) (by : By) (n t : ℕ) → AreBelow n h → family (h ++ events.Id by n ∷ []) t ≡ family h t ++ cond (n == t) (n ∷ []) []
id_family_ids h by n t f = giving_family h (events.Id by n) n t n (giving_id h by n f) (id_own_top h by n f)

-- a subid's top is its parent's
sub_own_top : (h : List Event) (by : By) (parent n : ℕ) → top (h ++ events.Sub by parent n ∷ []) n ≡ top h parent
sub_own_top h by parent n = top_sub h by parent n n ∙ ap (λ b. cond b (top h parent) (top h n)) (eqb-refl n)

pub sub_is_no_top : (h : List Event) (by : By) (parent n : ℕ) → AreBelow n h → parent < n → is_top (h ++ events.Sub by parent n ∷ []) n ≡ false
sub_is_no_top h by parent n f p = ap (λ t. t == n) (sub_own_top h by parent n) ∙ below_not (top h parent) n (top_below n h parent f p)

pub sub_tops : (h : List Event) (by : By) (parent n : ℕ) → AreBelow n h → parent < n → is_open h parent ≡ true → running_tops (h ++ events.Sub by parent n ∷ []) ≡ running_tops h
sub_tops h by parent n f p o =
    giving_tops h (events.Sub by parent n) n (giving_sub h by parent n f o)
    ∙ ap (λ b. running_tops h ++ cond b (n ∷ []) []) (sub_is_no_top h by parent n f p)
    ∙ append-nil (running_tops h)

pub sub_subs : (h : List Event) (by : By) (parent n t : ℕ) → AreBelow n h → parent < n → is_open h parent ≡ true →
    running_subs (h ++ events.Sub by parent n ∷ []) t ≡ running_subs h t ++ cond (top h parent == t) (n ∷ []) []
sub_subs h by parent n t f p o =
    giving_subs h (events.Sub by parent n) n t (giving_sub h by parent n f o)
    ∙ ap (λ b. running_subs h t ++ cond ((top (h ++ events.Sub by parent n ∷ []) n == t) && not b) (n ∷ []) []) (sub_is_no_top h by parent n f p)
    ∙ ap (λ b. running_subs h t ++ cond b (n ∷ []) []) (and-true (top (h ++ events.Sub by parent n ∷ []) n == t) ∙ ap (λ u. u == t) (sub_own_top h by parent n))

pub sub_family_ids : (h : List Event) (by : By) (parent n t : ℕ) → AreBelow n h → is_open h parent ≡ true →
    family (h ++ events.Sub by parent n ∷ []) t ≡ family h t ++ cond (top h parent == t) (n ∷ []) []
sub_family_ids h by parent n t f o = giving_family h (events.Sub by parent n) n t (top h parent) (giving_sub h by parent n f o) (sub_own_top h by parent n)
